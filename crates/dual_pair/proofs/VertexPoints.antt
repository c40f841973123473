-- The vertices of points that aren't flat, as a scan asks for them.
use Rattle.std.proofs.Common.{◌≡◌, ℕ, List, ℤ, arith}
use Rattle.lattice_theory.specs.Affine.{Affine}
use Rattle.lattice_theory.specs.Hull.{AreVertices}
use Rattle.lattice_theory.specs.Facet.{AreFacetsInAnyOrder}
use Rattle.facet_theory.specs.Solid.{AreSolid}
use Rattle.facet_theory.proofs.LeastVertex.{facets_of_vertices_lem}
use Rattle.facet_theory.proofs.VertexHull.{some_vertex_lem, vertices_are_solid_lem, vertices_are_small_lem}
use Rattle.lattice_core.specs.Dimensions.{dimension_of}
use Rattle.lattice_core.specs.Limits.{IsSized}
use Rattle.lattice_core.specs.PointLists.{AreSolidPoints}
use Rattle.lattice_core.proofs.Dimension.{dimension_is}

module _ (n : ℕ) (points vertices : List (List ℤ)) (solid : AreSolid n points) (are : AreVertices n points vertices) where
  -- they have the points' dimension
  pub vertices_dimension : dimension_of vertices ≡ n
  vertices_dimension =
      dimension_is n vertices (some_vertex_lem n points vertices solid are.members)
      (vertices_are_solid_lem n points vertices solid are.members).dimension

  -- and are within the size limit, and not flat
  pub solid_vertices : IsSized n points → AreSolidPoints vertices
  solid_vertices small =
      let own = vertices_are_solid_lem n points vertices solid are.members in
      let bound = vertices_are_small_lem n points vertices are.members in
      let some = some_vertex_lem n points vertices solid are.members in
      record {
        sized = record {
          are_points = record { some = some; one_dimension = rw vertices_dimension own.dimension };
          within = rw vertices_dimension (omega (arith, bound, small));
        };
        solid = rw vertices_dimension own.solid;
      }

  -- with the points' facets
  pub vertices_facets : (facets : List Affine) → AreFacetsInAnyOrder n points facets
      → AreFacetsInAnyOrder (dimension_of vertices) vertices facets
  vertices_facets facets fs = rw vertices_dimension (λ f.
      let same = facets_of_vertices_lem n points vertices solid are.members f in
      let listed = fs f in
      (λ c. same.0 (listed.0 c), λ h. listed.1 (same.1 h)))
