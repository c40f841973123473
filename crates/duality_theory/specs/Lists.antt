-- The lists of a reflexive polytope and of its dual, in order. This project's own.
use Rattle.std.specs.Prelude.{ℕ, List, map, ℤ}
use Rattle.lattice_theory.specs.Affine.{Affine}
use Rattle.lattice_theory.specs.Order.{Lists, LexLess}
use Rattle.lattice_theory.specs.Hull.{AreVertices}
use Rattle.lattice_theory.specs.Facet.{AreFacets}
use Rattle.facet_theory.specs.Solid.{AreSolid}
use Rattle.duality_theory.specs.Reflexive.{IsReflexive, IsDualPoint, with_one}

-- the vertices and the facets of reflexive points, in order
pub record ReflexiveLists (n : ℕ) (points vertices : List (List ℤ)) (facets : List Affine) : Type 0 where
  pub solid : AreSolid n points
  pub reflexive : IsReflexive n points
  pub vertices_are : AreVertices n points vertices
  pub facets_are : AreFacets n points facets

-- the functions (v, 1) of some points v
abbrev pub with_ones : List (List ℤ) → List Affine
with_ones points = map with_one points

-- all points of the dual polytope, in lexicographic order
abbrev pub AreDualPoints : ℕ → List (List ℤ) → List (List ℤ) → Type 0
AreDualPoints n points qs = Lists LexLess (IsDualPoint n points) qs
