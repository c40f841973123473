-- The points of the parts at a vertex add up to the vertex: on a normal on which it is -1 one of them is -1, and the others are 0.
use Rattle.std.proofs.Common.{◌≡◌, ◌⊎◌, ℕ, zero, suc, ◌<◌, ◌≤◌, List, [], ◌∷◌, length, ℤ, pos, negsuc, ◌+ℤ◌, ◌*ℤ◌, ◌≤ℤ◌, refl, sym, ap, ◌∙◌, subst, inl, inr, arith}
use Rattle.std.proofs.lemmas.Bool.{cases_eq, cases_lt}
use Rattle.lattice_theory.specs.Vector.{entry, dot}
use Rattle.lattice_theory.specs.Facet.{IsFacet}
use Rattle.lattice_theory.proofs.Integers.{linear, one-*ℤ}
use Rattle.lattice_theory.proofs.Vectors.{combined, dot-combined_left, length-combined}
use Rattle.duality_theory.specs.Reflexive.{with_one}
use Rattle.nef_theory.specs.Nef.{part_at, pairing_at, IsPartPoint}
use Rattle.cayley_theory.specs.Cones.{zero_vector}
use Rattle.cayley_theory.specs.Counts.{sum_of}
use Rattle.cayley_theory.proofs.ConeVectors.{length-zero_vector, dot-zero_vector}
use Rattle.cayley_theory.proofs.PartPoints.{same_where_tight}

-- the sum of the first k entries
abbrev sum_first : ℕ → List ℤ → ℤ
sum_first zero b = pos 0
sum_first (suc k) b = sum_first k b +ℤ entry b k

first_apart : (a : ℤ) (b : List ℤ) (k : ℕ) → sum_first (suc k) (a ∷ b) ≡ a +ℤ sum_first k b
first_apart a b zero = omega (arith, linear)
first_apart a b (suc k) = let e = first_apart a b k in later (sum_first (suc k) (a ∷ b)) a (sum_first k b) (entry b k) e
  where
    later : (s a t c : ℤ) → s ≡ a +ℤ t → s +ℤ c ≡ a +ℤ (t +ℤ c)
    later s a t c e = omega (arith, linear, e)

all_entries : (b : List ℤ) → sum_first (length b) b ≡ sum_of b
all_entries [] = refl
all_entries (a ∷ b) = first_apart a b (length b) ∙ ap (λ (z : ℤ). a +ℤ z) (all_entries b)

-- steps over plain numbers
sum_is : (c p q : ℤ) → c ≡ pos 1 *ℤ p +ℤ pos 1 *ℤ q → c ≡ p +ℤ q
sum_is c p q e = let f = one-*ℤ p in let g = one-*ℤ q in omega (arith, linear, e, f, g)

zero_and_minus : (c p q : ℤ) → c ≡ p +ℤ q → p ≡ pos 0 → q ≡ negsuc 0 → c ≡ negsuc 0
zero_and_minus c p q e f g = omega (arith, linear, e, f, g)

minus_and_zero : (c p q : ℤ) → c ≡ p +ℤ q → p ≡ negsuc 0 → q ≡ pos 0 → c ≡ negsuc 0
minus_and_zero c p q e f g = omega (arith, linear, e, f, g)

two_zeros : (c p q : ℤ) → c ≡ p +ℤ q → p ≡ pos 0 → q ≡ pos 0 → c ≡ pos 0
two_zeros c p q e f g = omega (arith, linear, e, f, g)

both_above : (c p q s b : ℤ) → c ≡ p +ℤ q → pos 0 ≤ℤ (p +ℤ s) → pos 0 ≤ℤ (q +ℤ b) → pos 0 ≤ℤ (c +ℤ (s +ℤ b))
both_above c p q s b e f g = omega (arith, linear, e, f, g)

nothing_above : (c : ℤ) → c ≡ pos 0 → pos 0 ≤ℤ (c +ℤ pos 0)
nothing_above c e = omega (arith, linear, e)

below_other : (a k : ℕ) → a < suc k → (a ≡ k → ⊥) → a < k
below_other a k h d = by (cases_lt a k)
  where
    by : (a < k) ⊎ (k ≤ a) → a < k
    by (inl l) = l
    by (inr l) = absurd (d (omega (arith, h, l)))

-- the sum of the points of the first k parts at m: on the normals on which m is -1 it is -1 where they are of one of these parts, and 0 elsewhere. With
-- heights above the points' it is above the sum of these heights
record IsSummed (n : ℕ) (normals : List (List ℤ)) (parts : List ℕ) (m : List ℤ) (k : ℕ) : Type 0 where
  total : List ℤ
  dimension : length total ≡ n
  taken : (e : ℕ) → e < length normals → pairing_at normals m e ≡ negsuc 0 → part_at parts e < k → pairing_at normals total e ≡ negsuc 0
  left : (e : ℕ) → e < length normals → pairing_at normals m e ≡ negsuc 0 → k ≤ part_at parts e → pairing_at normals total e ≡ pos 0
  above : (q b : List ℤ) → ((i : ℕ) (x : List ℤ) → i < k → IsPartPoint n normals parts m i x → pos 0 ≤ℤ (dot x q +ℤ entry b i))
      → pos 0 ≤ℤ (dot total q +ℤ sum_first k b)

module _ (n : ℕ) (normals : List (List ℤ)) (parts : List ℕ) (m : List ℤ) where
  none_summed : IsSummed n normals parts m 0
  none_summed = record {
    total = zero_vector n;
    dimension = length-zero_vector n;
    taken = λ e l t h. absurd (omega arith);
    left = λ e l t h. dot-zero_vector n _;
    above = λ q b h. nothing_above (dot (zero_vector n) q) (dot-zero_vector n q);
  }

  one_more : (k : ℕ) (x : List ℤ) → IsPartPoint n normals parts m k x → IsSummed n normals parts m k → IsSummed n normals parts m (suc k)
  one_more k x p s = record {
    total = combined (pos 1) s.total (pos 1) x;
    dimension = length-combined n (pos 1) s.total (pos 1) x s.dimension p.dimension;
    taken = λ e l t h. by e l t h (cases_eq (part_at parts e) k);
    left = λ e l t h. two_zeros (pairing_at normals (combined (pos 1) s.total (pos 1) x) e) (pairing_at normals s.total e) (pairing_at normals x e)
        (both _) (s.left e l t (omega arith)) (p.others e l t (λ i. absurd (omega arith)));
    above = λ q b h. both_above (dot (combined (pos 1) s.total (pos 1) x) q) (dot s.total q) (dot x q) (sum_first k b) (entry b k)
        (both q) (s.above q b (λ i y l. h i y (omega arith))) (h k x (omega arith) p);
  }
    where
      both : (q : List ℤ) → dot (combined (pos 1) s.total (pos 1) x) q ≡ dot s.total q +ℤ dot x q
      both q = sum_is (dot (combined (pos 1) s.total (pos 1) x) q) (dot s.total q) (dot x q) (dot-combined_left (pos 1) s.total (pos 1) x q)

      by : (e : ℕ) → e < length normals → pairing_at normals m e ≡ negsuc 0 → part_at parts e < suc k
          → (part_at parts e ≡ k) ⊎ (part_at parts e ≡ k → ⊥) → pairing_at normals (combined (pos 1) s.total (pos 1) x) e ≡ negsuc 0
      by e l t h (inl i) = zero_and_minus (pairing_at normals (combined (pos 1) s.total (pos 1) x) e) (pairing_at normals s.total e)
          (pairing_at normals x e) (both _) (s.left e l t (omega (arith, i))) (p.own e l t i)
      by e l t h (inr d) = minus_and_zero (pairing_at normals (combined (pos 1) s.total (pos 1) x) e) (pairing_at normals s.total e)
          (pairing_at normals x e) (both _) (s.taken e l t (below_other (part_at parts e) k h d)) (p.others e l t d)

  module _ (r : ℕ) (points : (i : ℕ) → i < r → (x : List ℤ) × IsPartPoint n normals parts m i x) where
    summed_to : (k : ℕ) → k ≤ r → IsSummed n normals parts m k
    summed_to zero l = none_summed
    summed_to (suc k) l = let p = points k (omega arith) in one_more k p.0 p.1 (summed_to k (omega arith))

    -- where each part has a point at m, m with heights above the points' is above the sum of the heights
    pub above_vertex : IsFacet n normals (with_one m) → length m ≡ n → ((e : ℕ) → e < length normals → part_at parts e < r) → (q b : List ℤ)
        → length b ≡ r → ((i : ℕ) (x : List ℤ) → i < r → IsPartPoint n normals parts m i x → pos 0 ≤ℤ (dot x q +ℤ entry b i))
        → pos 0 ≤ℤ (dot m q +ℤ sum_of b)
    above_vertex facet dimension below q b long h =
        let s = summed_to r (omega arith) in
        let same : s.total ≡ m = same_where_tight n normals m s.total m s.dimension dimension (λ e l t. s.taken e l t (below e l) ∙ sym t) facet in
        let sums : sum_first r b ≡ sum_of b = ap (λ (k : ℕ). sum_first k b) (sym long) ∙ all_entries b in
        subst (λ (z : ℤ). pos 0 ≤ℤ (dot m q +ℤ z)) sums (subst (λ (y : List ℤ). pos 0 ≤ℤ (dot y q +ℤ sum_first r b)) same (s.above q b h))
