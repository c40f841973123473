-- A hull that has grown whole: its corners have the vertices of the points.
use Rattle.std.proofs.Common.{◌≡◌, ◌↔◌, ℕ, zero, suc, ◌<◌, List, [], ◌∷◌, length, ℤ, refl, subst, Contains, arith}
use Rattle.std.proofs.lemmas.List.Elements.{All-contains}
use Rattle.lattice_theory.specs.Vector.{HaveDimension}
use Rattle.lattice_theory.specs.Affine.{Affine}
use Rattle.lattice_theory.specs.Hull.{IsVertex, AreVertices}
use Rattle.lattice_theory.specs.Facet.{IsFlat, AreFacetsInAnyOrder}
use Rattle.facet_theory.proofs.Corners.{vertices_of_corners_lem}
use Rattle.hull_growth.proofs.Small.{solid_at}
use Rattle.hull_growth.proofs.Inside.{no_coordinates}
use Rattle.lattice_core.specs.Dimensions.{dimension_of}
use Rattle.lattice_core.specs.PointLists.{AreSolidPoints}
use Rattle.hull.specs.steps.Growing.{IsWholeHull}
use Rattle.hull.proofs.VertexSearch.{vertex_without}

-- some of the points
contains_some : (points : List (List ℤ)) → 0 < length points → (p : List ℤ) × Contains points p
contains_some [] h = absurd (omega (arith, h))
contains_some (p ∷ points) h = (p, (0, omega arith, refl))

-- without coordinates all points are the same
vertices_without : (points corners : List (List ℤ)) → HaveDimension 0 points → HaveDimension 0 corners → 0 < length corners
    → ((c : List ℤ) → Contains corners c → Contains points c) → (v : List ℤ) → IsVertex 0 points v ↔ IsVertex 0 corners v
vertices_without points corners d e some among v = (
  λ x. vertex_without corners v e (here (contains_some corners some) x.member),
  λ x. vertex_without points v d (among v x.member),
)
  where
    here : (c : List ℤ) × Contains corners c → Contains points v → Contains corners v
    here (c, k) m = subst (Contains corners) (no_coordinates c v (All-contains (λ p. length p ≡ 0) corners c e k)
        (All-contains (λ p. length p ≡ 0) points v d m)) k

-- corners with the facets of the points have their vertices
vertices_same : (n : ℕ) (points corners : List (List ℤ)) (facets : List Affine) → HaveDimension n points → (IsFlat n points → ⊥)
    → HaveDimension n corners → (IsFlat n corners → ⊥) → 0 < length corners → ((c : List ℤ) → Contains corners c → Contains points c)
    → AreFacetsInAnyOrder n points facets → AreFacetsInAnyOrder n corners facets → (v : List ℤ) → IsVertex n points v ↔ IsVertex n corners v
vertices_same zero points corners facets d s e t some among all own = vertices_without points corners d e some among
vertices_same (suc k) points corners facets d s e t some among all own =
    vertices_of_corners_lem (suc k) points corners (solid_at k points d s) (solid_at k corners e t) among
    (λ f. (λ facet. (own f).0 ((all f).1 facet), λ facet. (all f).0 ((own f).1 facet)))

-- so a list of the corners' vertices is one of the points'
pub whole_vertices : (points corners : List (List ℤ)) (facets : List Affine) (vertices : List (List ℤ)) → AreSolidPoints points
    → IsWholeHull points corners facets → AreVertices (dimension_of corners) corners vertices
    → AreVertices (dimension_of points) points vertices
whole_vertices points corners facets vertices solid hull are = record {
  ascends = listed.ascends;
  members = λ v. (λ c. (same v).1 ((listed.members v).0 c), λ x. (listed.members v).1 ((same v).0 x));
}
  where
    listed : AreVertices (dimension_of points) corners vertices
    listed = subst (λ (n : ℕ). AreVertices n corners vertices) hull.dimension are

    same : (v : List ℤ) → IsVertex (dimension_of points) points v ↔ IsVertex (dimension_of points) corners v
    same = vertices_same (dimension_of points) points corners facets solid.sized.are_points.one_dimension solid.solid
        (subst (λ (n : ℕ). HaveDimension n corners) hull.dimension hull.solid.sized.are_points.one_dimension)
        (subst (λ (n : ℕ). IsFlat n corners → ⊥) hull.dimension hull.solid.solid) hull.solid.sized.are_points.some hull.among
        hull.whole.members (subst (λ (n : ℕ). AreFacetsInAnyOrder n corners facets) hull.dimension hull.own)
