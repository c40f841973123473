-- In how many bits the values of functions at points are worked out. This project's own.
use Rattle.std.specs.Prelude.{ℕ, ◌+◌, ◌*◌, ◌-◌, ◌^◌, ◌<◌, ◌≤◌, List, ℤ, nat_abs}
use Rattle.std.specs.List.{All}
use Rattle.lattice_theory.specs.Affine.{Affine}
use Rattle.lattice_theory.specs.Size.{absolute_sum}
use Rattle.lattice_core.specs.declared.value_widths.Width.{Width}
use Rattle.lattice_core.specs.declared.value_widths.Width.TheVariants.{Narrow, Wide}

-- how large a facet of points with n coordinates and this size can be
pub record IsWithin (n size : ℕ) (f : Affine) : Type 0 where
  pub normal : All (λ a. nat_abs a ≤ (2 * size) ^ (n - 1)) f.normal
  pub constant : nat_abs f.constant ≤ (2 * size) ^ (n - 1) * size

-- the values of such facets at points of this size are below 2^63
abbrev pub AreNarrow : ℕ → ℕ → Type 0
AreNarrow n size = (2 * size) ^ n < 2 ^ 63

-- no sum on the way to the value of f at p reaches 2^63: the largest
-- entry for each coordinate's unit, and the constant, stay below it together
pub record IsNarrowAt (f : Affine) (p : List ℤ) : Type 0 where
  pub bound : ℕ
  pub entries : All (λ a. nat_abs a ≤ bound) f.normal
  pub sums : bound * absolute_sum p + nat_abs f.constant < 2 ^ 63

-- nor 2^127, whatever the normal's entries of 64 bits are
pub record IsWideAt (f : Affine) (p : List ℤ) : Type 0 where
  pub point : absolute_sum p ≤ 2 ^ 33
  pub constant : nat_abs f.constant ≤ 2 ^ 100

-- f and p are so small that the value of f at p is worked out in this width
abbrev pub FitsWidth : Width → Affine → List ℤ → Type 0
FitsWidth Narrow f p = IsNarrowAt f p
FitsWidth Wide f p = IsWideAt f p

-- the width serves each function that can be a facet of points with n coordinates and this size, at each point no larger
abbrev pub Serves : ℕ → ℕ → Width → Type 0
Serves n size width = (f : Affine) (p : List ℤ) → IsWithin n size f → absolute_sum p ≤ size → FitsWidth width f p
