-- The small points of the tests.
use Rattle.std.proofs.Common.{◌≡◌, ◌*◌, ◌≤◌, List, ℤ, pos, All, arith}
use Rattle.std.specs.Prelude.{nat_abs}
use Rattle.lattice_theory.specs.Affine.{Affine}
use Rattle.lattice_theory.specs.Size.{absolute_sum}
use Rattle.lattice_core.specs.ValueWidths.{IsNarrowAt}
use Rattle.weight_certificates.specs.declared.surroundings.TheConstants.{MOST_SIZE}

-- small functions have narrow values at small points
pub small_narrow : (f : Affine) (points : List (List ℤ)) → f.constant ≡ pos 0 → All (λ a. nat_abs a ≤ 128) f.normal
    → All (λ y. absolute_sum y ≤ 256) points → All (IsNarrowAt f) points
small_narrow f points linear small sizes i d within =
    let size = sizes i d within in record { bound = 128; entries = small; sums = rw linear (omega (arith, size)) }

-- small points are small enough
pub small_size : (points : List (List ℤ)) → All (λ y. absolute_sum y ≤ 256) points → All (λ y. absolute_sum y ≤ MOST_SIZE) points
small_size points sizes i d within = let size = sizes i d within in omega (arith, size)
