-- Affine functions with integer coefficients, a·x + c (math/0204356, section 2: the equations of hyperplanes).
use Rattle.std.specs.Prelude.{◌≡◌, ◌≢◌, ℕ, List, ℤ, pos, ◌+ℤ◌, ◌*ℤ◌, ◌≤ℤ◌}
use Rattle.std.specs.List.{All, Contains}
use Rattle.lattice_theory.specs.Vector.{entry, dot, scaled}

pub record Affine : Type 0 where
  pub normal : List ℤ
  pub constant : ℤ

-- the function's value at a point
abbrev pub value : Affine → List ℤ → ℤ
value f x = dot f.normal x +ℤ f.constant

-- d times the function's value at x/d; for d = j also its value at x with its constant taken j times
abbrev pub value_over : Affine → List ℤ → ℤ → ℤ
value_over f x d = dot f.normal x +ℤ d *ℤ f.constant

-- the function isn't constant: some entry of its normal isn't 0
abbrev pub IsNonconstant : Affine → Type 0
IsNonconstant f = (k : ℕ) × (entry f.normal k ≢ pos 0)

abbrev pub IsNonnegative : List (List ℤ) → Affine → Type 0
IsNonnegative points f = All (λ p. pos 0 ≤ℤ value f p) points

abbrev pub Vanishes : List (List ℤ) → Affine → Type 0
Vanishes points f = All (λ p. value f p ≡ pos 0) points

-- g vanishes at each point of the list at which f vanishes
abbrev pub VanishesWith : List (List ℤ) → Affine → Affine → Type 0
VanishesWith points f g = (p : List ℤ) → Contains points p → value f p ≡ pos 0 → value g p ≡ pos 0

-- g is a rational multiple of f: q g = p f with integers p and q, and q isn't 0
pub record IsMultiple (g f : Affine) : Type 0 where
  pub left : ℤ
  pub right : ℤ
  pub nonzero : left ≢ pos 0
  pub normals : scaled left g.normal ≡ scaled right f.normal
  pub constants : left *ℤ g.constant ≡ right *ℤ f.constant
