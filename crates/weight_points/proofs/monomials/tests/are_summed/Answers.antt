use Rattle.std.proofs.Common.{◌≡◌, ◌+◌, ◌++◌, ◌≤◌, [], ◌∷◌, refl, sym, subst, take, ap, ◌∙◌, List}
use Rattle.std.specs.List.{All}
use Rattle.std.proofs.lemmas.List.{take_all, map_more}
use Rattle.std.proofs.lemmas.List.Elements.{All-push}
use Rattle.lattice_core.specs.Weights.{Weighted, weighted, weighted_all, IsSummed}
use Rattle.lattice_core.specs.declared.weights.WeightSystem.{WeightSystem}
use Rattle.lattice_core.specs.declared.limits.TheConstants.{MOST_DEGREE}
use Rattle.weight_points.proofs.monomials.tests.are_summed.Goals as goal

pub loop-system-preserved : goal.loop-system-preserved
loop-system-preserved c =
    let systems = c.args.systems.now in
    let i = c.loop-system.system-index in
    let item = c.system-item.result in
    let known = c.if-not-is_summed.ensures in
    let more : weighted_all (take (i + 1) systems) ≡ weighted_all (take i systems) ++ weighted item ∷ [] =
    map_more weighted systems i item c.loop-system-test.true ∙ ap (λ (s : WeightSystem). weighted_all (take i systems) ++ weighted s ∷ [])
    (sym c.system-item.is) in
    record {
      summed = subst (All (IsSummed c.args.count)) (sym more) (All-push (IsSummed c.args.count) (weighted_all (take i systems))
          (weighted item) c.loop-system.invariant.summed (known.summed refl));
      small = subst (All (λ s. s.degree ≤ MOST_DEGREE)) (sym more)
          (All-push (λ (s : Weighted). s.degree ≤ MOST_DEGREE) (weighted_all (take i systems)) (weighted item) c.loop-system.invariant.small
          (known.small refl));
    }

pub returns-clause-summed : goal.returns-clause-summed
returns-clause-summed c = λ h.
    let P : List WeightSystem → Type 0 = λ ss. All (IsSummed c.args.count) (weighted_all ss) in
    subst P (take_all c.loop-system.system-index c.args.systems.now c.loop-system-test.false) c.loop-system.invariant.summed

pub returns-clause-small : goal.returns-clause-small
returns-clause-small c = λ h.
    let P : List WeightSystem → Type 0 = λ ss. All (λ s. s.degree ≤ MOST_DEGREE) (weighted_all ss) in
    subst P (take_all c.loop-system.system-index c.args.systems.now c.loop-system-test.false) c.loop-system.invariant.small
