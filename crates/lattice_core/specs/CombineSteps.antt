-- A step of the combination of two functions. This project's own.
use Rattle.std.specs.Prelude.{◌≡◌, ℕ, List, ℤ, pos, ◌+ℤ◌, ◌*ℤ◌, nat_abs}
use Rattle.lattice_theory.specs.Vector.{entry}
use Rattle.lattice_theory.specs.Affine.{Affine, value}

-- s is the sum of the two normals, each times the absolute value of the other function at the point
abbrev pub IsCrossSum : Affine → Affine → List ℤ → List ℤ → Type 0
IsCrossSum f g p s = (i : ℕ) → entry s i ≡ pos (nat_abs (value g p)) *ℤ entry f.normal i +ℤ pos (nat_abs (value f p)) *ℤ entry g.normal i
