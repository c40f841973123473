use Rattle.std.proofs.Common.{◌^◌, ◌<◌, ◌+ℤ◌, ◌*ℤ◌, ℤ, refl, arith, SFits}
use Rattle.std.specs.Prelude.{nat_abs}
use Rattle.std.specs.Int.{w128}
use Rattle.std.proofs.lemmas.Int.{ints, to_z-of_z, fits_signed_from_abs}
use Rattle.lattice_core.proofs.combination.sum_of_products.Goals as goal
use Rattle.lattice_core.proofs.Widths.{small_fits}

two_small : (a b : ℤ) → nat_abs a < 2 ^ 126 → nat_abs b < 2 ^ 126 → nat_abs (a +ℤ b) < 2 ^ 127
two_small a b h k = omega (arith, ints)

two_fit : (a b : ℤ) → nat_abs a < 2 ^ 126 → nat_abs b < 2 ^ 126 → SFits w128 (a +ℤ b)
two_fit a b h k = fits_signed_from_abs w128 (a +ℤ b) (omega (arith, two_small a b h k))

pub overflow_add-result : goal.overflow_add-result
overflow_add-result c =
    let left : SFits w128 c.args.left = c.ranges.left in
    let right : SFits w128 c.args.right = c.ranges.right in
    let first : SFits w128 c.args.a = c.ranges.a in
    let second : SFits w128 c.args.b = c.ranges.b in
    let left_fits : SFits w128 (c.args.left *ℤ c.args.a) = small_fits (c.args.left *ℤ c.args.a) c.requires.first in
    let right_fits : SFits w128 (c.args.right *ℤ c.args.b) = small_fits (c.args.right *ℤ c.args.b) c.requires.second in
    simp to_z-of_z (two_fit (c.args.left *ℤ c.args.a) (c.args.right *ℤ c.args.b) c.requires.first c.requires.second)

pub returns : goal.returns
returns c =
    let left : SFits w128 c.args.left = c.ranges.left in
    let right : SFits w128 c.args.right = c.ranges.right in
    let first : SFits w128 c.args.a = c.ranges.a in
    let second : SFits w128 c.args.b = c.ranges.b in
    let left_fits : SFits w128 (c.args.left *ℤ c.args.a) = small_fits (c.args.left *ℤ c.args.a) c.requires.first in
    let right_fits : SFits w128 (c.args.right *ℤ c.args.b) = small_fits (c.args.right *ℤ c.args.b) c.requires.second in
    let fits : SFits w128 (c.args.left *ℤ c.args.a +ℤ c.args.right *ℤ c.args.b) =
    two_fit (c.args.left *ℤ c.args.a) (c.args.right *ℤ c.args.b) c.requires.first c.requires.second in
    record {
      value = simp to_z-of_z refl;
      bound = simp to_z-of_z (two_small (c.args.left *ℤ c.args.a) (c.args.right *ℤ c.args.b) c.requires.first c.requires.second);
    }
