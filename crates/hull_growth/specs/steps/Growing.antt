-- The steps by which the facets with one more point are listed. This project's own.
use Rattle.std.specs.Prelude.{◌≡◌, ◌≢◌, ◌↔◌, ℕ, List, [], ◌∷◌, ◌++◌, length, not, ℤ, pos, int_lt}
use Rattle.std.specs.List.{AllPairs, Contains, filter}
use Rattle.lattice_theory.specs.Affine.{Affine, value}
use Rattle.lattice_theory.specs.Combinations.{IsCombinationAt}
use Rattle.facet_theory.specs.Solid.{AreSolid}
use Rattle.ridge_theory.specs.Ridges.{IsNewFacet}
use Rattle.lattice_core.specs.Limits.{IsSized}
use Rattle.hull_growth.specs.Grown.{HasFacets}
use Rattle.hull_growth.specs.steps.Rows.{AreCornerRows}

-- corners within the size limit that aren't flat, and their facets with their rows
pub record IsHeld (n : ℕ) (corners : List (List ℤ)) (facets : List Affine) (bits : List ℕ) : Type 0 where
  pub solid : AreSolid n corners
  pub sized : IsSized n corners
  pub hull : HasFacets n corners facets
  pub rows : AreCornerRows corners facets bits

-- such corners and facets, and one more point, with which the corners are within the size limit
pub record IsGrowthStep (corners : List (List ℤ)) (facets : List Affine) (bits : List ℕ) (p : List ℤ) : Type 0 where
  pub held : IsHeld (length p) corners facets bits
  pub within : IsSized (length p) (corners ++ (p ∷ []))

-- the new list is the old one and behind it exactly the functions of which P holds, each once
pub record Appends (P : Affine → Type 0) (old new : List Affine) : Type 0 where
  pub more : List Affine
  pub whole : new ≡ old ++ more
  pub members : (f : Affine) → Contains more f ↔ P f
  pub once : AllPairs (λ f g. f ≢ g) more

-- the new list is the old one and behind it the combination of f and g at p
pub record IsAddedCombination (f g : Affine) (p : List ℤ) (old new : List Affine) : Type 0 where
  pub function : Affine
  pub combination : IsCombinationAt f g p function
  pub whole : new ≡ old ++ (function ∷ [])

-- the functions that aren't negative at p
abbrev pub kept_at : List ℤ → List Affine → List Affine
kept_at p functions = filter (λ f. not (int_lt (value f p) (pos 0))) functions

-- h is the combination at p of f and one of the functions, which meet in a ridge
pub record IsNewWith (corners : List (List ℤ)) (p : List ℤ) (f : Affine) (functions : List Affine) (h : Affine) : Type 0 where
  pub other : Affine
  pub member : Contains functions other
  pub new : IsNewFacet (length p) corners p f other h

-- h is the combination at p of one of the functions and one of all, which meet in a ridge
pub record IsNewOf (corners : List (List ℤ)) (p : List ℤ) (functions all : List Affine) (h : Affine) : Type 0 where
  pub function : Affine
  pub member : Contains functions function
  pub new : IsNewWith corners p function all h
