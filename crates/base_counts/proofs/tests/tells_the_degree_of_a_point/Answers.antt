use Rattle.std.specs.Prelude.{nat_abs}
use Rattle.std.proofs.Common.{◌≡◌, zero, suc, [], ◌∷◌, ap, arith}
use Rattle.lattice_theory.specs.Affine.{Affine}
use Rattle.cayley_theory.specs.Bases.{part_in}
use Rattle.base_counts.specs.Laws.{HaveAllParts}
use Rattle.base_counts.proofs.tests.tells_the_degree_of_a_point.Goals as goal

both_parts : (a b c d : Affine) → part_in a ≡ 0 → part_in b ≡ 1 → HaveAllParts 2 (a ∷ b ∷ c ∷ d ∷ [])
both_parts a b c d e f zero h = (0, omega arith, e)
both_parts a b c d e f (suc zero) h = (1, omega arith, f)
both_parts a b c d e f (suc (suc j)) h = absurd (omega (arith, h))

pub tight_at-degree-requires-clause-parts : goal.tight_at-degree-requires-clause-parts
tight_at-degree-requires-clause-parts g c =
    both_parts _ _ _ _ (ap nat_abs c.vector.ensures.constant) (ap nat_abs c.vector-2.ensures.constant)
