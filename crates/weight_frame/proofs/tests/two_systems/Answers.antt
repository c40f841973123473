use Rattle.std.proofs.Common.{◌≡◌, ◌++◌, ◌∷◌, [], true, length, ap, ◌∙◌}
use Rattle.lattice_core.specs.Weights.{weighted}
use Rattle.weight_frame.specs.steps.Plain.{is_plain, is_summed}
use Rattle.weight_frame.proofs.PlainSystems.{formed_two, limited_two}
use Rattle.weight_frame.proofs.tests.two_systems.Goals as goal

pub returns : goal.returns
returns c =
    let s = c.in_ok-system.field-0 in
    let t = c.in_ok-system-2.field-0 in
    let first : c.push.new.self.items ≡ s ∷ [] = c.in_ok-push.ensures.items ∙ ap (λ xs. xs ++ (s ∷ [])) c.new-systems.ensures.items in
    let items : c.push-2.new.self.items ≡ s ∷ t ∷ [] = c.in_ok-push-2.ensures.items ∙ ap (λ xs. xs ++ (t ∷ [])) first in
    let plain : is_plain s.degree s.weights.items ≡ true =
    rw (c.in_ok-system.ensures.degree, c.in_ok-system.ensures.weights) c.requires.first in
    let summed : is_summed (length s.weights.items) t.degree t.weights.items ≡ true =
    rw (c.in_ok-system.ensures.weights, c.in_ok-system-2.ensures.degree, c.in_ok-system-2.ensures.weights) c.requires.second in
    record {
      formed = rw items (formed_two (weighted s) (weighted t) plain summed);
      limited = rw items (limited_two (weighted s) (weighted t) plain summed);
    }
