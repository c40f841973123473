-- The lattice points of the dilates of a polytope, counted up to a limit (math/0204356, section 2).
use Rattle.std.specs.Prelude.{◌≡◌, ℕ, ◌+◌, min, List, length, ℤ}
use Rattle.lattice_theory.specs.Order.{Lists, LexLess}
use Rattle.lattice_theory.specs.Points.{IsDilatePoint}

-- all lattice points of the j-th dilate, each once, in lexicographic order
abbrev pub AreDilatePoints : ℕ → List (List ℤ) → ℕ → List (List ℤ) → Type 0
AreDilatePoints n points j xs = Lists LexLess (IsDilatePoint n points j) xs

-- the number of lattice points of the j-th dilate, or limit + 1 where there are more than `limit`
pub record CountsDilatePoints (n : ℕ) (points : List (List ℤ)) (j limit counted : ℕ) : Type 0 where
  pub lattice : List (List ℤ)
  pub are_dilate_points : AreDilatePoints n points j lattice
  pub counted_is : counted ≡ min (length lattice) (limit + 1)
