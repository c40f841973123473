use Rattle.std.proofs.Common.{◌≡◌, ◌∙◌, ◌<◌, ◌≤◌, refl, sym, ap, get_or, List, ℕ, length, pos, map}
use Rattle.std.specs.Prelude.{true}
use Rattle.std.proofs.lemmas.List.{get_or_default}
use Rattle.lattice_core.specs.Weights.{Weighted}
use Rattle.lattice_core.specs.declared.limits.TheConstants.{MOST_DEGREE}
use Rattle.weight_points.specs.steps.Rows.{systems_of}
use Rattle.weight_points.specs.Listing.{solutions, given_of}
use Rattle.weight_points.proofs.Weighing.{exponent_small}
use Rattle.weight_points.proofs.Walks.{same_walk, finished_given, finished_has, has_all, all_given, more_given, next_given}
use Rattle.weight_points.proofs.monomials.Monomials.next_into.Goals as goal

pub returns-then-self : goal.returns-then-self
returns-then-self c = rw (← c.self.view_is) (
  refl,
  refl,
  finished_has c.self.inside.rows.items c.self.inside.entries.items c.self.inside.finished c.self.invariant c.if-self.true,
)

pub returns-then-not-step : goal.returns-then-not-step
returns-then-not-step c =
    let rows = c.self.inside.rows.items in
    let a = c.self.inside.entries.items in
    let systems = systems_of rows in
    let none = c.if-not-step.ensures.follows in
    let before : given_of systems (map pos a) c.self.inside.finished ≡ length (solutions systems) =
    ap (given_of systems (map pos a)) c.if-self.false ∙ all_given rows a c.self.invariant none in
    let after : given_of (systems_of c.step.new.rows.items) (map pos c.step.new.entries.items) true ≡ length (solutions systems) =
    ap (λ (s : List Weighted). given_of s (map pos c.step.new.entries.items) true) c.step.ensures.systems
    ∙ finished_given systems c.step.new.entries.items in
    rw (← c.self.view_is) (
      same_walk _ _ _ _ c.step.ensures.systems (after ∙ sym before),
      refl,
      has_all rows a c.self.invariant (given_of systems (map pos a) c.self.inside.finished) before,
    )

pub write-requires-clause-small : goal.write-requires-clause-small
write-requires-clause-small c =
    let small : (k d : ℕ) → k < length c.step.new.entries.items → get_or c.step.new.entries.items k d ≤ MOST_DEGREE =
    λ k d h. rw (get_or_default c.step.new.entries.items k d 0 h)
    (exponent_small c.step.new.rows.items c.step.new.entries.items k c.step.ensures.ready h) in
    rw c.as_slice.ensures.value small

pub returns : goal.returns
returns c =
    let rows = c.self.inside.rows.items in
    let a = c.self.inside.entries.items in
    let new = c.step.new.entries.items in
    let systems = systems_of rows in
    let next = c.if-not-step.ensures.follows in
    let written : c.write.new.out ≡ map pos new = c.write.ensures ∙ ap (λ (es : List ℕ). map pos es) c.as_slice.ensures.value in
    rw (← c.self.view_is, written, c.if-self.false, c.step.ensures.systems) (
      refl,
      more_given rows a c.self.invariant new next,
      next_given rows a c.self.invariant new next,
    )
