-- Ridges: pairs of facets that meet in a face of one dimension less. This project's own.
use Rattle.std.specs.Prelude.{◌≡◌, ◌↔◌, ◌⊎◌, ℕ, List, length, ℤ, pos, ◌<ℤ◌}
use Rattle.std.specs.List.{Contains}
use Rattle.lattice_theory.specs.Affine.{Affine, value}
use Rattle.lattice_theory.specs.Combinations.{IsRationalCombination, IsCombinationAt}
use Rattle.lattice_theory.specs.Facet.{IsFacet}

-- u vanishes at each point of the list at which both f and g vanish
abbrev pub VanishesWithBoth : List (List ℤ) → Affine → Affine → Affine → Type 0
VanishesWithBoth points f g u = (p : List ℤ) → Contains points p → value f p ≡ pos 0 → value g p ≡ pos 0 → value u p ≡ pos 0

-- f and g meet in a ridge: each affine function that vanishes at each of the points at which both vanish is a rational combination of both
abbrev pub IsRidge : ℕ → List (List ℤ) → Affine → Affine → Type 0
IsRidge n points f g = (u : Affine) → length u.normal ≡ n → VanishesWithBoth points f g u → IsRationalCombination f g u

-- a list with these points, p, and no others, in any order
abbrev pub HasOneMore : List (List ℤ) → List ℤ → List (List ℤ) → Type 0
HasOneMore points p more = (x : List ℤ) → Contains more x ↔ (Contains points x ⊎ (x ≡ p))

-- h is the combination at p of two facets that meet in a ridge, the first positive at p and the second negative
pub record IsNewFacet (n : ℕ) (points : List (List ℤ)) (p : List ℤ) (f g h : Affine) : Type 0 where
  pub left : IsFacet n points f
  pub right : IsFacet n points g
  pub before : pos 0 <ℤ value f p
  pub behind : value g p <ℤ pos 0
  pub ridge : IsRidge n points f g
  pub combination : IsCombinationAt f g p h
