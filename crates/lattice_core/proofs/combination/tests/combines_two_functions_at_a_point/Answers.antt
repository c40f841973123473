use Rattle.std.proofs.Common.{rules, ◌≡◌, ◌∷◌, [], pos, negsuc}
use Rattle.lattice_core.proofs.CombinationExample.{example_fixed}
use Rattle.lattice_core.proofs.combination.tests.combines_two_functions_at_a_point.Goals as goal

pub combine-h-requires-clause-fixed : goal.combine-h-requires-clause-fixed
combine-h-requires-clause-fixed g c =
    let first : c.expect-f.result ≡ record { normal = pos 1 ∷ pos 0 ∷ []; constant = pos 1 } = search rules in
    let second : c.expect-g.result ≡ record { normal = negsuc 0 ∷ negsuc 0 ∷ []; constant = pos 1 } = search rules in
    let third : c.expect-p.result ≡ pos 2 ∷ pos 2 ∷ [] = search rules in
    rw (first, second, third) example_fixed
