-- The lattice points of a polytope and of its dilates (math/0204356, section 2).
use Rattle.std.specs.Prelude.{◌≡◌, ℕ, List, length, ℤ, pos, ◌≤ℤ◌}
use Rattle.lattice_theory.specs.Affine.{Affine, value_over}
use Rattle.lattice_theory.specs.Order.{Lists, LexLess}
use Rattle.lattice_theory.specs.Hull.{InHull}
use Rattle.lattice_theory.specs.Facet.{IsFacet}

-- an integer point of the hull
pub record IsLatticePoint (n : ℕ) (points : List (List ℤ)) (x : List ℤ) : Type 0 where
  pub dimension : length x ≡ n
  pub inside : InHull n points x

-- all lattice points, each once, in lexicographic order
abbrev pub AreLatticePoints : ℕ → List (List ℤ) → List (List ℤ) → Type 0
AreLatticePoints n points xs = Lists LexLess (IsLatticePoint n points) xs

-- an integer point of the j-th dilate: each facet, its constant taken j times, is nonnegative at x
pub record IsDilatePoint (n : ℕ) (points : List (List ℤ)) (j : ℕ) (x : List ℤ) : Type 0 where
  pub dimension : length x ≡ n
  pub inside : (f : Affine) → IsFacet n points f → pos 0 ≤ℤ value_over f x (pos j)
