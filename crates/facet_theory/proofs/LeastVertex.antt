-- Each function has its least value at a vertex, and the vertices have the facets of the points.
use Rattle.std.proofs.Common.{◌≡◌, ◌≢◌, ◌↔◌, ℕ, List, length, ℤ, pos, ◌+ℤ◌, ◌-ℤ◌, ◌*ℤ◌, neg_ℤ, ◌≤ℤ◌, ◌<ℤ◌, ◌⊎◌, inl, inr, refl, sym, arith}
use Rattle.std.specs.List.{Contains}
use Rattle.lattice_theory.specs.Vector.{others}
use Rattle.lattice_theory.specs.Affine.{Affine, value, IsNonnegative, VanishesWith}
use Rattle.lattice_theory.specs.Hull.{InHull, IsVertex}
use Rattle.lattice_theory.specs.Facet.{IsFacet}
use Rattle.lattice_theory.proofs.Integers.{products_out, linear, product_nonnegative, zero_or_not, one-*ℤ, *ℤ-zero}
use Rattle.lattice_theory.proofs.Members.{In, each_from_all, each_in, in_from_contains, contains_from_in}
use Rattle.facet_theory.specs.Laws.{LeastAtVertex, FacetsOfVertices}
use Rattle.facet_theory.specs.Solid.{AreSolid}
use Rattle.facet_theory.proofs.Lifted.{some_point}
use Rattle.facet_theory.proofs.Others.{in_others}
use Rattle.lattice_theory.proofs.Functions.{mixed, length-mixed, value-mixed, lowered, length-lowered, value-lowered}
use Rattle.facet_theory.proofs.Smallest.{Spread, find_spread}
use Rattle.facet_theory.proofs.Peak.{Peak, peak, peak_alone}
use Rattle.facet_theory.proofs.Signs.{nonnegative_same, positive_from, nonnegative_at, nonnegative_from}

-- a point at which some function is 0 that is positive at all other points is a vertex
pub vertex_from_function : (n : ℕ) (points : List (List ℤ)) (v : List ℤ) → In v points → (g : Affine) → length g.normal ≡ n
    → value g v ≡ pos 0
    → ((q : List ℤ) → In q points → q ≢ v → pos 0 <ℤ value g q) → IsVertex n points v
vertex_from_function n points v i g l z positive = record { member = contains_from_in i; outside = outside }
  where
    one_less : (a : ℤ) → pos 0 <ℤ a → pos 0 ≤ℤ (a -ℤ pos 1)
    one_less a h = omega (arith, linear)

    negative : (a b : ℤ) → b ≡ a -ℤ pos 1 → a ≡ pos 0 → pos 0 ≤ℤ b → ⊥
    negative a b e e' h = absurd (omega (arith, linear))

    at : (q : List ℤ) → In q points × (q ≢ v) → pos 0 ≤ℤ value (lowered g (pos 1)) q
    at q (j, n') = nonnegative_same (sym (value-lowered g (pos 1) q)) (one_less (value g q) (positive q j n'))

    outside : InHull n (others points v) v → ⊥
    outside h = negative (value g v) (value (lowered g (pos 1)) v) (value-lowered g (pos 1) v) z
        (h (lowered g (pos 1)) (length-lowered n g (pos 1) l)
        (nonnegative_from (others points v) (lowered g (pos 1)) (λ q j. at q (in_others points v q j))))

-- the law on least values: the point of the peak is a vertex
pub least_at_vertex_lem : LeastAtVertex
least_at_vertex_lem n points solid f l = by (some_point n points solid)
  where
    dims : (q : List ℤ) → In q points → length q ≡ n
    dims q i = each_in (each_from_all (λ p. length p ≡ n) points solid.dimension) i

    by : (p : List ℤ) × In p points → (v : List ℤ) × IsVertex n points v × ((p : List ℤ) → Contains points p → value f v ≤ℤ value f p)
    by (p, i) = at (peak n points f l p i n (omega arith))
      where
        at : Peak n points f n → (v : List ℤ) × IsVertex n points v × ((p : List ℤ) → Contains points p → value f v ≤ℤ value f p)
        at k = (
          k.place,
          vertex_from_function n points k.place k.inside k.function k.dimension k.zero_there
              (λ q j n'. positive_from (value k.function q) (k.nonnegative q j) (λ z. n' (peak_alone n points f dims k q j z))),
          λ q c. k.least q
              (in_from_contains points c),
        )

-- what is nonnegative on the vertices is nonnegative on the points
pub nonnegative_from_vertices : (n : ℕ) (points vertices : List (List ℤ)) → AreSolid n points
    → ((v : List ℤ) → Contains vertices v ↔ IsVertex n points v) → (f : Affine) → length f.normal ≡ n → IsNonnegative vertices f
    → (p : List ℤ)
    → In p points → pos 0 ≤ℤ value f p
nonnegative_from_vertices n points vertices solid same f l h p i = by (least_at_vertex_lem n points solid f l)
  where
    chain : (a b : ℤ) → pos 0 ≤ℤ a → a ≤ℤ b → pos 0 ≤ℤ b
    chain a b h k = omega (arith, linear)

    by : (v : List ℤ) × IsVertex n points v × ((p : List ℤ) → Contains points p → value f v ≤ℤ value f p) → pos 0 ≤ℤ value f p
    by (v, vertex, least) = chain (value f v) (value f p) (nonnegative_at vertices f h (in_from_contains vertices ((same v).1 vertex)))
        (least p (contains_from_in i))

-- the vertices are among the points
pub vertex_inside : (n : ℕ) (points vertices : List (List ℤ)) → ((v : List ℤ) → Contains vertices v ↔ IsVertex n points v) → (v : List ℤ)
    → In v vertices → In v points
vertex_inside n points vertices same v i = in_from_contains points ((same v).0 (contains_from_in i)).member

-- a number that is 0 where a nonnegative one is 0 is bounded by a large multiple of it, on both sides
pub above_along : (m c a b : ℤ) → (c ≡ pos 1) ⊎ (c ≡ neg_ℤ (pos 1)) → pos 0 ≤ℤ a → (a ≡ pos 0 → b ≡ pos 0) → neg_ℤ m <ℤ b → b <ℤ m
    → pos 0 ≤ℤ (m *ℤ a +ℤ c *ℤ b)
above_along m c a b sign h along low high = by (zero_or_not a) sign
  where
    at_zero : a ≡ pos 0 → pos 0 ≤ℤ (m *ℤ a +ℤ c *ℤ b)
    at_zero e = rw (e, along e, *ℤ-zero m, *ℤ-zero c) (omega (arith, linear))

    expanded : m *ℤ (a -ℤ pos 1) ≡ m *ℤ a -ℤ m
    expanded = simp products_out (omega (arith, linear))

    large : a ≢ pos 0 → m ≤ℤ (m *ℤ a)
    large n = let q : pos 0 ≤ℤ (a -ℤ pos 1) = omega (arith, linear) in let z : pos 0 ≤ℤ m = omega (arith, linear) in
        let s = product_nonnegative m
        (a -ℤ pos 1) z q in let e = expanded in omega (arith, linear)

    minus : (x : ℤ) → neg_ℤ (pos 1) *ℤ x ≡ neg_ℤ x
    minus x = simp products_out

    by : (a ≡ pos 0) ⊎ (a ≢ pos 0) → (c ≡ pos 1) ⊎ (c ≡ neg_ℤ (pos 1)) → pos 0 ≤ℤ (m *ℤ a +ℤ c *ℤ b)
    by (inl e) s = at_zero e
    by (inr n) (inl e) = let k = large n in rw (e, one-*ℤ b) (omega (arith, linear))
    by (inr n) (inr e) = let k = large n in rw (e, minus b) (omega (arith, linear))

-- so it is 0 along f at all of the points
along_points : (n : ℕ) (points vertices : List (List ℤ)) → AreSolid n points → ((v : List ℤ) → Contains vertices v ↔ IsVertex n points v)
    → (f g : Affine) → length f.normal ≡ n → length g.normal ≡ n → IsNonnegative points f → VanishesWith vertices f g
    → VanishesWith points f g
along_points n points vertices solid same f g l l' nonnegative along p c z = by (find_spread (value g) vertices)
  where
    by : Spread vertices (value g) → value g p ≡ pos 0
    by b = both (value f p) (value g p) (pos b.number) z (side (pos 1) (inl refl)) (side (neg_ℤ (pos 1)) (inr refl))
      where
        with_sign : ℤ → Affine
        with_sign s = mixed (pos b.number) f s g

        at_vertex : (s : ℤ) → (s ≡ pos 1) ⊎ (s ≡ neg_ℤ (pos 1)) → (v : List ℤ) → In v vertices → pos 0 ≤ℤ value (with_sign s) v
        at_vertex s sign v i = nonnegative_same (sym (value-mixed (pos b.number) f s g v))
            (above_along (pos b.number) s (value f v) (value g v) sign
            (nonnegative_at points f nonnegative (vertex_inside n points vertices same v i)) (along v (contains_from_in i)) (b.below v i)
            (b.above v i))

        side : (s : ℤ) → (s ≡ pos 1) ⊎ (s ≡ neg_ℤ (pos 1)) → pos 0 ≤ℤ (pos b.number *ℤ value f p +ℤ s *ℤ value g p)
        side s sign = nonnegative_same (value-mixed (pos b.number) f s g p)
            (nonnegative_from_vertices n points vertices solid same (with_sign s) (length-mixed n (pos b.number) f s g l l')
            (nonnegative_from vertices (with_sign s) (at_vertex s sign)) p (in_from_contains points c))

        both : (a b m : ℤ) → a ≡ pos 0 → pos 0 ≤ℤ (m *ℤ a +ℤ pos 1 *ℤ b) → pos 0 ≤ℤ (m *ℤ a +ℤ neg_ℤ (pos 1) *ℤ b) → b ≡ pos 0
        both a b m e h k = let h' = rw (e, *ℤ-zero m, one-*ℤ b) at h in let k' = simp products_out at (rw (e, *ℤ-zero m) at k) in
            omega (arith, linear)

-- the law on the facets of the vertices
pub facets_of_vertices_lem : FacetsOfVertices
facets_of_vertices_lem n points vertices solid same f = (to_vertices, to_points)
  where
    to_vertices : IsFacet n points f → IsFacet n vertices f
    to_vertices facet = record {
      dimension = facet.dimension;
      primitive = facet.primitive;
      nonnegative = nonnegative_from vertices f
          (λ v i. nonnegative_at points f facet.nonnegative (vertex_inside n points vertices same v i));
      determined = λ g l along. facet.determined g l
          (along_points n points vertices solid same f g facet.dimension l facet.nonnegative along);
    }

    to_points : IsFacet n vertices f → IsFacet n points f
    to_points facet = record {
      dimension = facet.dimension;
      primitive = facet.primitive;
      nonnegative = nonnegative_from points f (nonnegative_from_vertices n points vertices solid same f facet.dimension facet.nonnegative);
      determined = λ g l along. facet.determined g l
          (λ v c z. along v (contains_from_in (vertex_inside n points vertices same v (in_from_contains vertices c))) z);
    }
