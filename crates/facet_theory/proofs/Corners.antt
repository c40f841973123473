-- Points have the vertices of those of them, the corners, that have their facets.
use Rattle.std.proofs.Common.{◌≡◌, ◌≢◌, ◌↔◌, ℕ, List, [], ◌∷◌, length, ℤ, pos, ◌≤ℤ◌, ◌⊎◌, inl, inr, refl, sym, ◌∙◌, subst, arith}
use Rattle.std.specs.List.{Contains}
use Rattle.lattice_theory.specs.Vector.{others}
use Rattle.lattice_theory.specs.Affine.{Affine, value, IsNonnegative}
use Rattle.lattice_theory.specs.Hull.{InHull, IsVertex}
use Rattle.lattice_theory.specs.Facet.{IsFacet}
use Rattle.lattice_theory.proofs.Integers.{linear}
use Rattle.lattice_theory.proofs.Members.{In, here, there, each_from_all, each_in, in_from_contains, contains_from_in}
use Rattle.facet_theory.specs.Solid.{AreSolid}
use Rattle.facet_theory.specs.Laws.{VerticesOfCorners}
use Rattle.facet_theory.proofs.Hull.{hull_by_facets_lem}
use Rattle.facet_theory.proofs.LeastVertex.{least_at_vertex_lem}
use Rattle.facet_theory.proofs.Listed.{AllFacets, all_facets}
use Rattle.facet_theory.proofs.Others.{same_or_not, in_others, to_others}
use Rattle.facet_theory.proofs.Signs.{nonnegative_at, nonnegative_from}
use Rattle.facet_theory.proofs.Lifted.{value_at_one}
use Rattle.facet_theory.proofs.Vertices.{vertices_by_facets_lem}
use Rattle.facet_theory.proofs.ZeroSums.{ZeroSum, facet_sum_at}

-- a member or not
in_or_not : (x : List ℤ) (xs : List (List ℤ)) → In x xs ⊎ (In x xs → ⊥)
in_or_not x [] = inr (λ i. elim i [ ])
in_or_not x (y ∷ xs) = by (same_or_not x y) (in_or_not x xs)
  where
    by : (x ≡ y) ⊎ (x ≢ y) → In x xs ⊎ (In x xs → ⊥) → In x (y ∷ xs) ⊎ (In x (y ∷ xs) → ⊥)
    by (inl e) rest = inl (subst (λ (z : List ℤ). In x (z ∷ xs)) e here)
    by (inr n) (inl i) = inl (there i)
    by (inr n) (inr m) = inr (out x n m)
      where
        out : (z : List ℤ) → z ≢ y → (In z xs → ⊥) → In z (y ∷ xs) → ⊥
        out z n m here = n refl
        out z n m (there i) = m i

-- nothing below 0 that isn't above it
least_zero : (a b : ℤ) → a ≤ℤ b → b ≡ pos 0 → pos 0 ≤ℤ a → a ≡ pos 0
least_zero a b h e k = omega (arith, linear)

module _ (n : ℕ) (points corners : List (List ℤ)) (solid : AreSolid n points) (solid_corners : AreSolid n corners)
    (among : (c : List ℤ) → Contains corners c → Contains points c) (same : (f : Affine) → IsFacet n points f ↔ IsFacet n corners f) where
  -- a corner is one of the points
  in_points : {c : List ℤ} → In c corners → In c points
  in_points {c = c} i = in_from_contains points (among c (contains_from_in i))

  -- each point is in the corners' hull
  in_corner_hull : (v : List ℤ) → In v points → InHull n corners v
  in_corner_hull v i = (hull_by_facets_lem n corners solid_corners v dimension).1
      (λ f facet. nonnegative_at points f ((same f).1 facet).nonnegative i)
    where
      dimension : length v ≡ n
      dimension = each_in (each_from_all (λ q. length q ≡ n) points solid.dimension) i

  -- what is nonnegative on the points but v is so on the corners but v
  fewer_others : (v : List ℤ) (f : Affine) → IsNonnegative (others points v) f → IsNonnegative (others corners v) f
  fewer_others v f h = nonnegative_from (others corners v) f (λ q j. nonnegative_at (others points v) f h (at q (in_others corners v q j)))
    where
      at : (q : List ℤ) → In q corners × (q ≢ v) → In q (others points v)
      at q (i, n') = to_others points v q (in_points i) n'

  -- a vertex of the points is one of the corners, which lie around all points
  vertex_is_corner : (v : List ℤ) → IsVertex n points v → In v corners
  vertex_is_corner v vertex = by (in_or_not v corners)
    where
      kept : (In v corners → ⊥) → (f : Affine) → IsNonnegative (others points v) f → IsNonnegative corners f
      kept out f h = nonnegative_from corners f (λ q j. nonnegative_at (others points v) f h
          (to_others points v q (in_points j) (λ e. out (subst (λ (x : List ℤ). In x corners) e j))))

      by : In v corners ⊎ (In v corners → ⊥) → In v corners
      by (inl i) = i
      by (inr out) = absurd (vertex.outside
          (λ f l h. in_corner_hull v (in_from_contains points vertex.member) f l (kept out f h)))

  -- so it is a vertex of the corners
  to_corners : (v : List ℤ) → IsVertex n points v → IsVertex n corners v
  to_corners v vertex = record {
    member = contains_from_in (vertex_is_corner v vertex);
    outside = λ hull. vertex.outside (λ f l h. hull f l (fewer_others v f h));
  }

  -- a vertex of the corners is the only corner on its facets, and one of the points' vertices lies on them
  to_points : (v : List ℤ) → IsVertex n corners v → IsVertex n points v
  to_points v vertex = by (all_facets n points solid)
    where
      by : AllFacets n points → IsVertex n points v
      by a = at (facet_sum_at n points a.functions a.facets v (pos 1))
        where
          at : ZeroSum n points a.functions v (pos 1) → IsVertex n points v
          at t = least (least_at_vertex_lem n points solid t.function t.dimension)
            where
              least : (w : List ℤ) × IsVertex n points w × ((p : List ℤ) → Contains points p → value t.function w ≤ℤ value t.function p)
                  → IsVertex n points v
              least (w, vertex', below) = subst (λ (x : List ℤ). IsVertex n points x) alone vertex'
                where
                  inside : In w points
                  inside = in_from_contains points vertex'.member

                  zero : value t.function w ≡ pos 0
                  zero = least_zero (value t.function w) (value t.function v) (below v (among v vertex.member))
                      (sym (value_at_one t.function v) ∙ t.zero_there)
                      (t.nonnegative w inside)

                  alone : w ≡ v
                  alone = (vertices_by_facets_lem n corners solid_corners v vertex.member).0 vertex w (to_corners w vertex').member
                      (λ f facet e. t.all w inside zero f (a.all f ((same f).1 facet)) (value_at_one f v ∙ e))

-- the law on the vertices of corners
pub vertices_of_corners_lem : VerticesOfCorners
vertices_of_corners_lem n points corners solid solid_corners among same v = (
  to_corners n points corners solid solid_corners among same v,
  to_points n points corners solid solid_corners among same v,
)
