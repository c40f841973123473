-- Combinations of two affine functions. This project's own.
use Rattle.std.specs.Prelude.{◌≡◌, ◌≢◌, ℕ, ◌<◌, List, length, ℤ, pos, ◌+ℤ◌, ◌*ℤ◌}
use Rattle.lattice_theory.specs.Vector.{entry, IsPrimitive}
use Rattle.lattice_theory.specs.Affine.{Affine, value}

-- h is a rational combination of f and g: a h = b f + c g with integers a, b and c, and a isn't 0
pub record IsRationalCombination (f g h : Affine) : Type 0 where
  pub whole : ℤ
  pub left : ℤ
  pub right : ℤ
  pub nonzero : whole ≢ pos 0
  pub normals : (i : ℕ) → whole *ℤ entry h.normal i ≡ left *ℤ entry f.normal i +ℤ right *ℤ entry g.normal i
  pub constants : whole *ℤ h.constant ≡ left *ℤ f.constant +ℤ right *ℤ g.constant

-- h is a positive rational combination of f and g: a h = b f + c g with positive integers a, b and c
pub record IsPositiveCombination (f g h : Affine) : Type 0 where
  pub whole : ℕ
  pub left : ℕ
  pub right : ℕ
  pub positive : (0 < whole) × (0 < left) × (0 < right)
  pub normals : (i : ℕ) → pos whole *ℤ entry h.normal i ≡ pos left *ℤ entry f.normal i +ℤ pos right *ℤ entry g.normal i
  pub constants : pos whole *ℤ h.constant ≡ pos left *ℤ f.constant +ℤ pos right *ℤ g.constant

-- h is the combination of f and g at p: it vanishes there, and the greatest common divisor of its normal is 1
pub record IsCombinationAt (f g : Affine) (p : List ℤ) (h : Affine) : Type 0 where
  pub dimension : length h.normal ≡ length p
  pub primitive : IsPrimitive h.normal
  pub vanishes : value h p ≡ pos 0
  pub combination : IsPositiveCombination f g h
