-- Bounds on the entries of vectors, functions that are fixed by the points on which they
-- vanish, and the sizes for which numbers below 2^127 are promised. This project's own.
use Rattle.std.specs.Prelude.{◌≡◌, ℕ, zero, suc, ◌≤◌, List, length, ℤ, nat_abs}
use Rattle.lattice_theory.specs.Vector.{entry, IsPrimitive}
use Rattle.lattice_theory.specs.Affine.{Affine, Vanishes, IsMultiple}
use Rattle.normal_bounds.specs.declared.limits.TheConstants.{MOST_SIZE_1, MOST_SIZE_2, MOST_SIZE_3, MOST_SIZE_4, MOST_SIZE_5, MOST_SIZE_6}

-- no entry has an absolute value above the bound
abbrev pub EntriesWithin : ℕ → List ℤ → Type 0
EntriesWithin bound x = (i : ℕ) → nat_abs (entry x i) ≤ bound

-- f is fixed by points of dimension n: it vanishes on them, its normal
-- has gcd 1, and each function that vanishes on them is a multiple of it
pub record IsFixedBy (n : ℕ) (points : List (List ℤ)) (f : Affine) : Type 0 where
  pub dimension : length f.normal ≡ n
  pub primitive : IsPrimitive f.normal
  pub vanishes : Vanishes points f
  pub determined : (g : Affine) → length g.normal ≡ n → Vanishes points g → IsMultiple g f

-- the largest size of points with n coordinates for which the laws promise numbers that fit; 0 where they promise none
abbrev pub safe_size : ℕ → ℕ
safe_size zero = 0
safe_size (suc zero) = MOST_SIZE_1
safe_size (suc (suc zero)) = MOST_SIZE_2
safe_size (suc (suc (suc zero))) = MOST_SIZE_3
safe_size (suc (suc (suc (suc zero)))) = MOST_SIZE_4
safe_size (suc (suc (suc (suc (suc zero))))) = MOST_SIZE_5
safe_size (suc (suc (suc (suc (suc (suc zero)))))) = MOST_SIZE_6
safe_size (suc (suc (suc (suc (suc (suc (suc n))))))) = 0
