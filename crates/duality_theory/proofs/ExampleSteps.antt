-- A reflexive triangle: its vertices, its facets, and the points of its dual; and a square that isn't reflexive.
use Rattle.std.proofs.Common.{◌≡◌, ◌≢◌, ℕ, zero, suc, List, [], ◌∷◌, length, ℤ, pos, negsuc, ◌+ℤ◌, ◌≤ℤ◌, ◌<ℤ◌, ◌⊎◌, inl, inr, refl, sym, subst, arith}
use Rattle.std.proofs.lemmas.Int.{ints}
use Rattle.lattice_theory.specs.Vector.{entry, dot}
use Rattle.lattice_theory.specs.Affine.{Affine, value, VanishesWith}
use Rattle.lattice_theory.specs.Order.{Ascends, LexLess, FunctionLess}
use Rattle.lattice_theory.specs.Hull.{IsVertex}
use Rattle.lattice_theory.specs.Facet.{IsFacet, IsFlat}
use Rattle.lattice_theory.specs.Examples.{in_plane, function, minus1, minus2}
use Rattle.lattice_theory.proofs.Integers.{zero_or_not}
use Rattle.lattice_theory.proofs.Members.{In, here, there, Each, empty, more, all_from_each, each_from_all, each_in, in_from_contains, contains_from_in}
use Rattle.lattice_theory.proofs.Divisibility.{divides_one, divides_minus_one}
use Rattle.lattice_theory.proofs.ExampleSteps.{plane_facet, plane_multiple, one_nonzero}
use Rattle.facet_theory.specs.Solid.{AreSolid}
use Rattle.facet_theory.proofs.Different.{facets_differ_lem}
use Rattle.facet_theory.proofs.LeastVertex.{vertex_from_function}
use Rattle.duality_theory.specs.Reflexive.{IsReflexive, IsDualPoint, with_one}
use Rattle.duality_theory.specs.Lists.{ReflexiveLists, AreDualPoints}
use Rattle.duality_theory.specs.Examples.{large_triangle, triangle_facets, triangle_dual, diamond}

-- what holds at the three corners holds at each
at_corners : (P : List ℤ → Type 0) → P (in_plane minus1 minus1) → P (in_plane minus1 (pos 2)) → P (in_plane (pos 2) minus1)
    → (p : List ℤ) → In p large_triangle → P p
at_corners P a b c p here = a
at_corners P a b c p (there here) = b
at_corners P a b c p (there (there here)) = c
at_corners P a b c p (there (there (there i))) = elim i [ ]

corner_0 : In (in_plane minus1 minus1) large_triangle
corner_0 = here

corner_1 : In (in_plane minus1 (pos 2)) large_triangle
corner_1 = there here

corner_2 : In (in_plane (pos 2) minus1) large_triangle
corner_2 = there (there here)

-- the triangle isn't flat
large_solid : AreSolid 2 large_triangle
large_solid = record {
  coordinates = omega arith;
  dimension = all_from_each {P = λ p. length p ≡ 2} (more refl (more refl (more refl empty)));
  solid = λ flat. by flat.function.normal flat.dimension flat.function.constant flat.nonconstant
      (zero_at flat corner_0) (zero_at flat corner_1) (zero_at flat corner_2);
}
  where
    zero_at : (flat : IsFlat 2 large_triangle) → {p : List ℤ} → In p large_triangle → value flat.function p ≡ pos 0
    zero_at flat i = each_in (each_from_all (λ p. value flat.function p ≡ pos 0) large_triangle flat.vanishes) i

    by : (x : List ℤ) → length x ≡ 2 → (c : ℤ) → (k : ℕ) × (entry x k ≢ pos 0)
        → dot x (in_plane minus1 minus1) +ℤ c ≡ pos 0 → dot x (in_plane minus1 (pos 2)) +ℤ c ≡ pos 0
        → dot x (in_plane (pos 2) minus1) +ℤ c ≡ pos 0 → ⊥
    by [] l c k e f g = absurd (omega arith)
    by (a ∷ []) l c k e f g = absurd (omega arith)
    by (a ∷ b ∷ []) l c (zero, n) e f g = n (omega (arith, ints))
    by (a ∷ b ∷ []) l c (suc zero, n) e f g = n (omega (arith, ints))
    by (a ∷ b ∷ []) l c (suc (suc k), n) e f g = n refl
    by (a ∷ b ∷ d ∷ x) l c k e f g = absurd (omega arith)

-- its three facets: 1 - x - y, y + 1 and x + 1
abbrev slanted : Affine
slanted = with_one (in_plane minus1 minus1)

abbrev lower : Affine
lower = with_one (in_plane (pos 0) (pos 1))

abbrev left : Affine
left = with_one (in_plane (pos 1) (pos 0))

slanted_facet : IsFacet 2 large_triangle slanted
slanted_facet = plane_facet large_triangle minus1 minus1 (pos 1) (λ d h. divides_minus_one d (h 0 (pos 0) (omega arith))) refl (λ a b c v.
    let first = v (in_plane minus1 (pos 2)) (contains_from_in corner_1) refl in
    let second = v (in_plane (pos 2) minus1) (contains_from_in corner_2) refl in
    plane_multiple (pos 1) c a b c minus1 minus1 (pos 1) one_nonzero (omega (arith, ints)) (omega (arith, ints)) (omega (arith, ints)))

lower_facet : IsFacet 2 large_triangle lower
lower_facet = plane_facet large_triangle (pos 0) (pos 1) (pos 1) (λ d h. divides_one d (h 1 (pos 0) (omega arith))) refl (λ a b c v.
    let first = v (in_plane minus1 minus1) (contains_from_in corner_0) refl in
    let second = v (in_plane (pos 2) minus1) (contains_from_in corner_2) refl in
    plane_multiple (pos 1) c a b c (pos 0) (pos 1) (pos 1) one_nonzero (omega (arith, ints)) (omega (arith, ints)) (omega (arith, ints)))

left_facet : IsFacet 2 large_triangle left
left_facet = plane_facet large_triangle (pos 1) (pos 0) (pos 1) (λ d h. divides_one d (h 0 (pos 0) (omega arith))) refl (λ a b c v.
    let first = v (in_plane minus1 minus1) (contains_from_in corner_0) refl in
    let second = v (in_plane minus1 (pos 2)) (contains_from_in corner_1) refl in
    plane_multiple (pos 1) c a b c (pos 1) (pos 0) (pos 1) one_nonzero (omega (arith, ints)) (omega (arith, ints)) (omega (arith, ints)))

-- a facet is one of these: one of them vanishes with it
one_of : (f : Affine) → IsFacet 2 large_triangle f → In f triangle_facets
one_of f facet = by (zero_or_not (value f (in_plane minus1 minus1))) (zero_or_not (value f (in_plane minus1 (pos 2))))
    (zero_or_not (value f (in_plane (pos 2) minus1)))
  where
    three_isnt_zero : pos 3 ≡ pos 0 → ⊥
    three_isnt_zero e = absurd (omega (arith, ints))

    with : (g h : Affine) → VanishesWith large_triangle g h → IsFacet 2 large_triangle g → IsFacet 2 large_triangle h → g ≡ h
    with g h v old new = facets_differ_lem 2 large_triangle large_solid g h old new v

    at : (g h : Affine) → ((p : List ℤ) → In p large_triangle → value g p ≡ pos 0 → value h p ≡ pos 0) → VanishesWith large_triangle g h
    at g h v p c e = v p (in_from_contains large_triangle c) e

    -- zero at two corners, or not at one of them
    is_left : value f (in_plane minus1 minus1) ≡ pos 0 → value f (in_plane minus1 (pos 2)) ≡ pos 0 → left ≡ f
    is_left e g = with left f (at left f (at_corners (λ p. value left p ≡ pos 0 → value f p ≡ pos 0) (λ z. e) (λ z. g)
        (λ z. absurd (three_isnt_zero z)))) left_facet facet

    not_lower : value f (in_plane minus1 (pos 2)) ≢ pos 0 → f ≡ lower
    not_lower n = with f lower (at f lower (at_corners (λ p. value f p ≡ pos 0 → value lower p ≡ pos 0) (λ z. refl) (λ z. absurd (n z)) (λ z. refl)))
        facet lower_facet

    not_left : value f (in_plane (pos 2) minus1) ≢ pos 0 → f ≡ left
    not_left n = with f left (at f left (at_corners (λ p. value f p ≡ pos 0 → value left p ≡ pos 0) (λ z. refl) (λ z. refl) (λ z. absurd (n z))))
        facet left_facet

    not_slanted : value f (in_plane minus1 minus1) ≢ pos 0 → f ≡ slanted
    not_slanted n = with f slanted (at f slanted (at_corners (λ p. value f p ≡ pos 0 → value slanted p ≡ pos 0) (λ z. absurd (n z)) (λ z. refl)
        (λ z. refl))) facet slanted_facet

    by : (value f (in_plane minus1 minus1) ≡ pos 0) ⊎ (value f (in_plane minus1 minus1) ≢ pos 0)
        → (value f (in_plane minus1 (pos 2)) ≡ pos 0) ⊎ (value f (in_plane minus1 (pos 2)) ≢ pos 0)
        → (value f (in_plane (pos 2) minus1) ≡ pos 0) ⊎ (value f (in_plane (pos 2) minus1) ≢ pos 0) → In f triangle_facets
    by (inr n) q r = subst (λ (g : Affine). In g triangle_facets) (sym (not_slanted n)) here
    by (inl e) (inr n) r = subst (λ (g : Affine). In g triangle_facets) (sym (not_lower n)) (there here)
    by (inl e) (inl g) (inr n) = subst (λ (g : Affine). In g triangle_facets) (sym (not_left n)) (there (there here))
    by (inl e) (inl g) (inl h) = subst (λ (g : Affine). In g triangle_facets) (is_left e g) (there (there here))

-- each of them is a facet
from_one : (f : Affine) → In f triangle_facets → IsFacet 2 large_triangle f
from_one f here = slanted_facet
from_one f (there here) = lower_facet
from_one f (there (there here)) = left_facet
from_one f (there (there (there i))) = elim i [ ]

reflexive_triangle : IsReflexive 2 large_triangle
reflexive_triangle f facet = by f (one_of f facet)
  where
    by : (g : Affine) → In g triangle_facets → g.constant ≡ pos 1
    by g here = refl
    by g (there here) = refl
    by g (there (there here)) = refl
    by g (there (there (there i))) = elim i [ ]

-- a function that is 0 at one corner and 3 at the others
corner_vertex : (p : List ℤ) → In p large_triangle → (f : Affine) → length f.normal ≡ 2 → value f p ≡ pos 0
    → ((q : List ℤ) → In q large_triangle → (q ≡ p) ⊎ (value f q ≡ pos 3)) → IsVertex 2 large_triangle p
corner_vertex p i f l z h = vertex_from_function 2 large_triangle p i f l z (λ q j n. by q n (h q j))
  where
    positive : (a : ℤ) → a ≡ pos 3 → pos 0 <ℤ a
    positive a e = omega (arith, ints)

    by : (q : List ℤ) → q ≢ p → (q ≡ p) ⊎ (value f q ≡ pos 3) → pos 0 <ℤ value f q
    by q n (inl e) = absurd (n e)
    by q n (inr e) = positive (value f q) e

all_corners : (p : List ℤ) → In p large_triangle → IsVertex 2 large_triangle p
all_corners = at_corners (IsVertex 2 large_triangle)
    (corner_vertex (in_plane minus1 minus1) corner_0 (function (in_plane (pos 1) (pos 1)) (pos 2)) refl refl
    (at_corners (λ q. (q ≡ in_plane minus1 minus1) ⊎ (value (function (in_plane (pos 1) (pos 1)) (pos 2)) q ≡ pos 3)) (inl refl) (inr refl) (inr refl)))
    (corner_vertex (in_plane minus1 (pos 2)) corner_1 (function (in_plane (pos 0) minus1) (pos 2)) refl refl
    (at_corners (λ q. (q ≡ in_plane minus1 (pos 2)) ⊎ (value (function (in_plane (pos 0) minus1) (pos 2)) q ≡ pos 3)) (inr refl) (inl refl) (inr refl)))
    (corner_vertex (in_plane (pos 2) minus1) corner_2 (function (in_plane minus1 (pos 0)) (pos 2)) refl refl
    (at_corners (λ q. (q ≡ in_plane (pos 2) minus1) ⊎ (value (function (in_plane minus1 (pos 0)) (pos 2)) q ≡ pos 3)) (inr refl) (inr refl) (inl refl)))

-- one before all others, which are in order
in_order : {X : Type 0} (less : X → X → Type 0) (x : X) {xs : List X} → Each (less x) xs → Ascends less xs → Ascends less (x ∷ xs)
in_order less x e a = (all_from_each e, a)

pub triangle_lists : ReflexiveLists 2 large_triangle large_triangle triangle_facets
triangle_lists = record {
  solid = large_solid;
  reflexive = reflexive_triangle;
  vertices_are = record {
    ascends = in_order LexLess (in_plane minus1 minus1) (more (inr (refl, inl (omega (arith, ints)))) (more (inl (omega (arith, ints))) empty))
        (in_order LexLess (in_plane minus1 (pos 2)) (more (inl (omega (arith, ints))) empty) (in_order LexLess (in_plane (pos 2) minus1) empty tt));
    members = λ v. ((λ c. all_corners v (in_from_contains large_triangle c)), (λ vertex. vertex.member));
  };
  facets_are = record {
    ascends = in_order FunctionLess slanted (more (inl (inl (omega (arith, ints)))) (more (inl (inl (omega (arith, ints)))) empty))
        (in_order FunctionLess lower (more (inl (inl (omega (arith, ints)))) empty) (in_order FunctionLess left empty tt));
    members = λ f. ((λ c. from_one f (in_from_contains triangle_facets c)), (λ facet. contains_from_in (one_of f facet)));
  };
}

-- the points that pair to at least -1 with the corners
dual_point : (q : List ℤ) → length q ≡ 2 → negsuc 0 ≤ℤ dot (in_plane minus1 minus1) q → negsuc 0 ≤ℤ dot (in_plane minus1 (pos 2)) q
    → negsuc 0 ≤ℤ dot (in_plane (pos 2) minus1) q → IsDualPoint 2 large_triangle q
dual_point q l a b c = record {
  dimension = l;
  at_least = λ v vertex. at_corners (λ p. negsuc 0 ≤ℤ dot p q) a b c v (in_from_contains large_triangle vertex.member);
}

from_dual : (q : List ℤ) → In q triangle_dual → IsDualPoint 2 large_triangle q
from_dual q here = dual_point q refl (omega (arith, ints)) (omega (arith, ints)) (omega (arith, ints))
from_dual q (there here) = dual_point q refl (omega (arith, ints)) (omega (arith, ints)) (omega (arith, ints))
from_dual q (there (there here)) = dual_point q refl (omega (arith, ints)) (omega (arith, ints)) (omega (arith, ints))
from_dual q (there (there (there here))) = dual_point q refl (omega (arith, ints)) (omega (arith, ints)) (omega (arith, ints))
from_dual q (there (there (there (there i)))) = elim i [ ]

-- these are all of them
to_dual : (q : List ℤ) → IsDualPoint 2 large_triangle q → In q triangle_dual
to_dual q p = by q p.dimension (p.at_least (in_plane minus1 minus1) (all_corners (in_plane minus1 minus1) corner_0))
    (p.at_least (in_plane minus1 (pos 2)) (all_corners (in_plane minus1 (pos 2)) corner_1))
    (p.at_least (in_plane (pos 2) minus1) (all_corners (in_plane (pos 2) minus1) corner_2))
  where
    by : (x : List ℤ) → length x ≡ 2 → negsuc 0 ≤ℤ dot (in_plane minus1 minus1) x → negsuc 0 ≤ℤ dot (in_plane minus1 (pos 2)) x
        → negsuc 0 ≤ℤ dot (in_plane (pos 2) minus1) x → In x triangle_dual
    by [] l a b c = absurd (omega arith)
    by (x ∷ []) l a b c = absurd (omega arith)
    by (pos zero ∷ pos zero ∷ []) l a b c = there here
    by (pos zero ∷ pos (suc zero) ∷ []) l a b c = there (there here)
    by (pos zero ∷ pos (suc (suc y)) ∷ []) l a b c = absurd (omega (arith, ints))
    by (pos zero ∷ negsuc y ∷ []) l a b c = absurd (omega (arith, ints))
    by (pos (suc zero) ∷ pos zero ∷ []) l a b c = there (there (there here))
    by (pos (suc zero) ∷ pos (suc y) ∷ []) l a b c = absurd (omega (arith, ints))
    by (pos (suc zero) ∷ negsuc y ∷ []) l a b c = absurd (omega (arith, ints))
    by (pos (suc (suc x)) ∷ y ∷ []) l a b c = absurd (omega (arith, ints))
    by (negsuc zero ∷ pos y ∷ []) l a b c = absurd (omega (arith, ints))
    by (negsuc zero ∷ negsuc zero ∷ []) l a b c = here
    by (negsuc zero ∷ negsuc (suc y) ∷ []) l a b c = absurd (omega (arith, ints))
    by (negsuc (suc x) ∷ y ∷ []) l a b c = absurd (omega (arith, ints))
    by (x ∷ y ∷ z ∷ rest) l a b c = absurd (omega arith)

pub triangle_dual_points : AreDualPoints 2 large_triangle triangle_dual
triangle_dual_points = record {
  ascends = in_order LexLess (in_plane minus1 minus1) (more (inl (omega (arith, ints))) (more (inl (omega (arith, ints)))
      (more (inl (omega (arith, ints))) empty))) (in_order LexLess (in_plane (pos 0) (pos 0))
      (more (inr (refl, inl (omega (arith, ints)))) (more (inl (omega (arith, ints))) empty)) (in_order LexLess (in_plane (pos 0) (pos 1))
      (more (inl (omega (arith, ints))) empty) (in_order LexLess (in_plane (pos 1) (pos 0)) empty tt)));
  members = λ q. ((λ c. from_dual q (in_from_contains triangle_dual c)), (λ p. contains_from_in (to_dual q p)));
}

-- the facet x + y + 2 of the square
pub diamond_facet : IsFacet 2 diamond (function (in_plane (pos 1) (pos 1)) (pos 2))
diamond_facet = plane_facet diamond (pos 1) (pos 1) (pos 2) (λ d h. divides_one d (h 0 (pos 0) (omega arith))) refl (λ a b c v.
    let first = v (in_plane minus2 (pos 0)) (contains_from_in {xs = diamond} (there (there here))) refl in
    let second = v (in_plane (pos 0) minus2) (contains_from_in {xs = diamond} (there (there (there here)))) refl in
    plane_multiple (pos 1) a a b c (pos 1) (pos 1) (pos 2) one_nonzero (omega (arith, ints)) (omega (arith, ints)) (omega (arith, ints)))

pub diamond_isnt_reflexive : IsReflexive 2 diamond → ⊥
diamond_isnt_reflexive r = two_isnt_one (r (function (in_plane (pos 1) (pos 1)) (pos 2)) diamond_facet)
  where
    two_isnt_one : pos 2 ≡ pos 1 → ⊥
    two_isnt_one e = absurd (omega (arith, ints))
