-- Reflexive polytopes, the normals of their facets, and the points of the dual polytope (alg-geom/9310003: reflexive polytopes and their duals).
use Rattle.std.specs.Prelude.{◌≡◌, ℕ, List, length, map, ℤ, pos, negsuc, ◌≤ℤ◌}
use Rattle.lattice_theory.specs.Vector.{dot}
use Rattle.lattice_theory.specs.Affine.{Affine}
use Rattle.lattice_theory.specs.Hull.{IsVertex}
use Rattle.lattice_theory.specs.Facet.{IsFacet, AreFacetsInAnyOrder}

-- the constants of all facets are 1
abbrev pub IsReflexive : ℕ → List (List ℤ) → Type 0
IsReflexive n points = (f : Affine) → IsFacet n points f → f.constant ≡ pos 1

-- the normals of a list of functions
abbrev pub normals_of : List Affine → List (List ℤ)
normals_of fs = map (λ f. f.normal) fs

-- the normals of all facets, in any order; of reflexive points they are the vertices of the dual polytope
pub record AreFacetNormals (n : ℕ) (points normals : List (List ℤ)) : Type 0 where
  pub facets : List Affine
  pub are_facets : AreFacetsInAnyOrder n points facets
  pub same : normals ≡ normals_of facets

-- q is an integer point of the dual polytope: its pairing with each vertex is at least -1
pub record IsDualPoint (n : ℕ) (points : List (List ℤ)) (q : List ℤ) : Type 0 where
  pub dimension : length q ≡ n
  pub at_least : (v : List ℤ) → IsVertex n points v → negsuc 0 ≤ℤ dot v q

-- the function whose normal is the point, and whose constant is 1
abbrev pub with_one : List ℤ → Affine
with_one v = record { normal = v; constant = pos 1 }
