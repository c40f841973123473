use Rattle.std.proofs.Common.{◌≡◌, ◌∙◌, ℕ, List, [], length, sym, ap, subst, rules, Vec, Global}
use Rattle.lattice_core.specs.Weights.{Weighted, weighted_all}
use Rattle.lattice_core.specs.declared.weights.WeightSystem.{WeightSystem}
use Rattle.weight_enum.specs.Systems.{AreSystemsOfDegree}
use Rattle.weight_enum.specs.steps.Listing.{IsCompleted, AddsSystems}
use Rattle.weight_enum.proofs.Listing.{systems_of_all}
use Rattle.weight_enum.proofs.degrees.systems_kept.Goals as goal

pub returns : goal.returns
returns c =
    let new = weighted_all c.add_systems.new.found.systems.items in
    let long : length c.deref_mut.result.now ≡ c.args.count = ap length c.deref_mut.ensures.value ∙ search rules in
    let none : weighted_all c.new.result.items ≡ [] = ap weighted_all c.new.ensures.items in
    let added = subst (λ (m : ℕ). AddsSystems (IsCompleted c.args.degree m []) c.args.degree (weighted_all c.new.result.items) new) long
    c.in_ok-add_systems.ensures.systems in
    let all = systems_of_all c.args.degree c.args.count new
    (subst (λ (old : List Weighted). AddsSystems (IsCompleted c.args.degree c.args.count []) c.args.degree old new) none added) in
    subst (λ (found : Vec WeightSystem Global). AreSystemsOfDegree c.args.degree c.args.count (weighted_all found.items)) (sym c.replace.ensures.value) all
