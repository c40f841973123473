use Rattle.std.proofs.Common.{◌∙◌, List, [], ◌∷◌, ◌++◌, ℕ, length, sym, ap, subst}
use Rattle.std.proofs.lemmas.Bool.{false≢true}
use Rattle.std.proofs.lemmas.List.{map-append}
use Rattle.lattice_core.specs.Weights.{weighted, weighted_all}
use Rattle.interior_point_theory.specs.Interior.{IsInteriorPointSystem, system_of}
use Rattle.weight_enum.specs.steps.Listing.{IsCompleted}
use Rattle.weight_enum.proofs.Listing.{adds_one, adds_nothing, whole_completed}
use Rattle.weight_enum.proofs.degrees.add_if_system.Goals as goal

pub returns-in_ok-push : goal.returns-in_ok-push
returns-in_ok-push c =
    let weights = c.args.weights.now in
    let old = c.args.found.now.systems.items in
    adds_one c.args.degree weights (weighted_all old) (weighted_all c.push.new.self.items) (c.in_ok-is_system.ensures.0 c.if-branch.true)
    (ap weighted_all c.in_ok-push.ensures.items ∙ (map-append weighted old _
    ∙ ap (λ (ws : List ℕ). weighted_all old ++ system_of c.args.degree ws ∷ []) c.in_ok-weights.ensures.items))

pub returns-else-branch : goal.returns-else-branch
returns-else-branch c =
    let weights = c.args.weights.now in
    adds_nothing (IsCompleted c.args.degree (length weights) weights) c.args.degree (weighted_all c.args.found.now.systems.items)
    (λ x k. false≢true (sym c.if-branch.false ∙ c.in_ok-is_system.ensures.1
    (subst (λ (y : List ℕ). IsInteriorPointSystem (system_of c.args.degree y)) (whole_completed c.args.degree weights x k) k.holds)))
