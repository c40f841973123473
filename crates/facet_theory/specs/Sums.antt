-- Sums of facets. This project's own.
use Rattle.std.specs.Prelude.{◌≡◌, ℕ, ◌<◌, List, [], ◌∷◌, ℤ, pos, ◌+ℤ◌, ◌*ℤ◌}
use Rattle.std.specs.List.{All}
use Rattle.lattice_theory.specs.Affine.{Affine, value_over}
use Rattle.lattice_theory.specs.Facet.{IsFacet}

-- the sum of the values at x/d of the functions of a list, each times d
abbrev pub total_over : List Affine → List ℤ → ℤ → ℤ
total_over [] x d = pos 0
total_over (f ∷ fs) x d = value_over f x d +ℤ total_over fs x d

-- some positive multiple of f is a sum of facets (which may repeat)
pub record IsSumOfFacets (n : ℕ) (points : List (List ℤ)) (f : Affine) : Type 0 where
  pub multiplier : ℕ
  pub positive : 0 < multiplier
  pub summands : List Affine
  pub are_facets : All (IsFacet n points) summands
  pub sums : (x : List ℤ) (d : ℤ) → pos multiplier *ℤ value_over f x d ≡ total_over summands x d
