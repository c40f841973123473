use Rattle.std.proofs.Common.{◌≡◌, ◌++◌, ◌∷◌, [], true, ap, ◌∙◌}
use Rattle.lattice_core.specs.Weights.{weighted}
use Rattle.weight_frame.specs.steps.Plain.{is_plain}
use Rattle.weight_frame.proofs.PlainSystems.{formed_one, limited_one}
use Rattle.weight_frame.proofs.tests.one_system.Goals as goal

pub returns : goal.returns
returns c =
    let s = c.in_ok-system.field-0 in
    let items : c.push.new.self.items ≡ s ∷ [] = c.in_ok-push.ensures.items ∙ ap (λ xs. xs ++ (s ∷ [])) c.new-systems.ensures.items in
    let plain : is_plain s.degree s.weights.items ≡ true = rw (c.in_ok-system.ensures.degree, c.in_ok-system.ensures.weights) c.requires in
    record { formed = rw items (formed_one (weighted s) plain); limited = rw items (limited_one (weighted s) plain) }
