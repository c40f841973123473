-- The lists of points are those of their vertices.
use Rattle.std.specs.List.{All, Contains}
use Rattle.std.proofs.Common.{◌≡◌, ◌↔◌, ℕ, ◌≤◌, List, ℤ, pos, ap, ◌∙◌, subst, arith}
use Rattle.std.proofs.lemmas.List.Elements.{All-contains, All-weaker, All-contains_itself}
use Rattle.lattice_theory.specs.Affine.{Affine}
use Rattle.lattice_theory.specs.Order.{Lists, LexLess, FunctionLess}
use Rattle.lattice_theory.specs.Hull.{IsVertex, AreVertices}
use Rattle.lattice_theory.specs.Facet.{IsFacet, AreFacets}
use Rattle.lattice_theory.specs.Points.{IsLatticePoint, AreLatticePoints}
use Rattle.lattice_theory.proofs.Orders.{lex_asymmetric, function_asymmetric}
use Rattle.lattice_theory.proofs.Unique.{lists_unique}
use Rattle.facet_theory.specs.Solid.{AreSolid}
use Rattle.facet_theory.proofs.LeastVertex.{facets_of_vertices_lem}
use Rattle.facet_theory.proofs.VertexHull.{vertices_are_solid_lem, lattice_points_of_vertices_lem}
use Rattle.facet_theory.proofs.Corners.{vertices_of_corners_lem}
use Rattle.duality_theory.specs.Reflexive.{IsReflexive}
use Rattle.lattice_core.specs.Dimensions.{dimension_of}
use Rattle.lattice_core.specs.PointLists.{AreSolidPoints}
use Rattle.dual_pair.proofs.VertexPoints.{vertices_dimension, solid_vertices}
use Rattle.dual_pair.specs.Polytopes.{PolytopeState, IsPolytopeOf, IsPolytope}
use Rattle.dual_pair.specs.Laws.{PolytopeOfVertices, PolytopesAreSingle}

-- the list of what one property tells is that of an equivalent one
pub same_list : {X : Type 0} (less : X → X → Type 0) (P Q : X → Type 0) (xs : List X) → ((x : X) → P x ↔ Q x) → Lists less P xs
    → Lists less Q xs
same_list less P Q xs same h = record {
  ascends = h.ascends;
  members = λ x. (λ c. (same x).0 ((h.members x).0 c), λ q. (h.members x).1 ((same x).1 q));
}

-- points that aren't flat
pub solid_of : (points : List (List ℤ)) → 1 ≤ dimension_of points → AreSolidPoints points → AreSolid (dimension_of points) points
solid_of points l h = record { coordinates = l; dimension = h.sized.are_points.one_dimension; solid = h.solid }

module _ (points : List (List ℤ)) (p : PolytopeState) (h : IsPolytopeOf points p) where
  abbrev n : ℕ
  n = dimension_of points

  solid : AreSolid n points
  solid = solid_of points h.least h.solid

  own : AreSolid n p.vertices
  own = vertices_are_solid_lem n points p.vertices solid h.vertices_are.members

  same_facets : (f : Affine) → IsFacet n points f ↔ IsFacet n p.vertices f
  same_facets = facets_of_vertices_lem n points p.vertices solid h.vertices_are.members

  same_vertices : (v : List ℤ) → IsVertex n points v ↔ IsVertex n p.vertices v
  same_vertices = vertices_of_corners_lem n points p.vertices solid own (λ c m. ((h.vertices_are.members c).0 m).member) same_facets

  same_dimension : dimension_of p.vertices ≡ n
  same_dimension = vertices_dimension n points p.vertices solid h.vertices_are

  pub of_vertices : IsPolytope p
  of_vertices = record {
    least = let l = h.least in let e = same_dimension in omega arith;
    most = let l = h.most in let e = same_dimension in omega arith;
    solid = solid_vertices n points p.vertices solid h.vertices_are h.solid.sized.within;
    vertices_are = rw same_dimension (same_list LexLess (IsVertex n points) (IsVertex n p.vertices) p.vertices same_vertices h.vertices_are);
    facets_are = rw same_dimension (same_list FunctionLess (IsFacet n points) (IsFacet n p.vertices) p.facets same_facets h.facets_are);
    points_are = rw same_dimension (same_list LexLess (IsLatticePoint n points) (IsLatticePoint n p.vertices) p.points
        (lattice_points_of_vertices_lem n points p.vertices solid h.vertices_are.members) h.points_are);
    few_vertices = h.few_vertices;
    few_facets = h.few_facets;
    few_points = h.few_points;
  }

pub polytope_of_vertices_lem : PolytopeOfVertices
polytope_of_vertices_lem points p h = (of_vertices points p h, same_dimension points p h)

pub polytopes_are_single_lem : PolytopesAreSingle
polytopes_are_single_lem points p q h k =
    let vertices = lists_unique LexLess lex_asymmetric (IsVertex (dimension_of points) points) p.vertices q.vertices h.vertices_are k.vertices_are in
    let facets = lists_unique FunctionLess function_asymmetric (IsFacet (dimension_of points) points) p.facets q.facets h.facets_are k.facets_are in
    let lattice = lists_unique LexLess lex_asymmetric (IsLatticePoint (dimension_of points) points) p.points q.points h.points_are k.points_are in
    ap (λ (vs : List (List ℤ)). record { vertices = vs; facets = p.facets; points = p.points }) vertices
    ∙ ap (λ (fs : List Affine). record { vertices = q.vertices; facets = fs; points = p.points }) facets
    ∙ ap (λ (xs : List (List ℤ)). record { vertices = q.vertices; facets = q.facets; points = xs }) lattice

-- the lattice points of the vertices are those of the points
pub points_from_vertices : (points vertices lattice : List (List ℤ)) → 1 ≤ dimension_of points → AreSolidPoints points → AreVertices (dimension_of points) points vertices
    → AreLatticePoints (dimension_of vertices) vertices lattice → AreLatticePoints (dimension_of points) points lattice
points_from_vertices points vertices lattice l s are h =
    let n = dimension_of points in
    let solid = solid_of points l s in
    let same = vertices_dimension n points vertices solid are in
    let same_points = lattice_points_of_vertices_lem n points vertices solid are.members in
    same_list LexLess (IsLatticePoint n vertices) (IsLatticePoint n points) lattice (λ x. ((same_points x).1, (same_points x).0))
    (subst (λ (m : ℕ). AreLatticePoints m vertices lattice) same h)

-- the constants of all facets are 1
pub reflexive : (n : ℕ) (points : List (List ℤ)) (facets : List Affine) → AreFacets n points facets
    → All (λ f. f.constant ≡ pos 1) facets ↔ IsReflexive n points
reflexive n points facets h = (
  λ ones f is. All-contains (λ g. g.constant ≡ pos 1) facets f ones ((h.members f).1 is),
  λ is. All-weaker (Contains facets) (λ f. f.constant ≡ pos 1) (λ f m. is f ((h.members f).0 m)) facets (All-contains_itself facets),
)
