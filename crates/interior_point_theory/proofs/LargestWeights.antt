-- The cut by the largest weights: k + 1 times the k-th largest isn't above the degree.
use Rattle.std.proofs.Common.{◌≡◌, ◌≢◌, ℕ, zero, suc, ◌+◌, ◌*◌, ◌<◌, ◌≤◌, List, [], ◌∷◌, length, map, ℤ, pos, negsuc, ◌+ℤ◌, ◌-ℤ◌, ◌*ℤ◌, neg_ℤ, ◌≤ℤ◌, ◌<ℤ◌, ◌⊎◌, inl, inr, refl, sym, ap, ◌∙◌, arith, ⊎_elim, get_or, subst}
use Rattle.std.proofs.lemmas.Bool.{cases_lt}
use Rattle.std.proofs.lemmas.Int.{ints}
use Rattle.lattice_theory.specs.Vector.{entry, dot, DividesInteger, IsPrimitive, IsVectorMultiple}
use Rattle.lattice_theory.specs.Order.{Ascends}
use Rattle.lattice_theory.proofs.Integers.{products_out, linear, product_nonnegative, negative_or_not, cancel_left, same_natural, minus_one-*ℤ, one-*ℤ}
use Rattle.lattice_theory.proofs.Members.{Each, empty, more, each_from_all, all_from_each, each_map, each_weaker}
use Rattle.lattice_core.specs.Weights.{monomial_point, total}
use Rattle.interior_point_theory.specs.Interior.{weight_vector, IsNonnegativeOnMonomials}
use Rattle.interior_point_theory.specs.Laws.{LargestWeights}
use Rattle.interior_point_theory.proofs.WeightVectors.{entry_weights, degree_is, multiple_at, left_zero, no_multiple}

-- 0 at the first places, -1 at the k others
abbrev step : ℕ → ℕ → List ℤ
step zero zero = []
step zero (suc k) = negsuc 0 ∷ step zero k
step (suc p) k = pos 0 ∷ step p k

length-step : (p k : ℕ) → length (step p k) ≡ p + k
length-step zero zero = refl
length-step zero (suc k) = let e = length-step zero k in omega arith
length-step (suc p) k = let e = length-step p k in omega arith

entry_step_low : (p k i : ℕ) → i < p → entry (step p k) i ≡ pos 0
entry_step_low zero k i h = absurd (omega arith)
entry_step_low (suc p) k zero h = refl
entry_step_low (suc p) k (suc i) h = entry_step_low p k i (omega arith)

entry_step_high : (p k i : ℕ) → p ≤ i → i < p + k → entry (step p k) i ≡ negsuc 0
entry_step_high zero zero i h l = absurd (omega arith)
entry_step_high zero (suc k) zero h l = refl
entry_step_high zero (suc k) (suc i) h l = entry_step_high zero k i (omega arith) (omega arith)
entry_step_high (suc p) k zero h l = absurd (omega arith)
entry_step_high (suc p) k (suc i) h l = entry_step_high p k i (omega arith) (omega arith)

-- the exponents of the last k weights, which are at least u, take no more than the degree
high_places : (u k : ℕ) (v : List ℕ) (a : List ℤ) → length v ≡ k → length a ≡ k → Each (λ w. u ≤ w) v → Each (λ e. pos 0 ≤ℤ e) a
    → (pos u *ℤ pos k) ≤ℤ (dot (map pos v) a +ℤ pos u *ℤ dot (step zero k) (monomial_point a))
high_places u zero [] a l m h n = simp products_out (omega (arith, linear))
high_places u (suc k) [] a l m h n = absurd (omega arith)
high_places u zero (w ∷ v) a l m h n = absurd (omega arith)
high_places u (suc k) (w ∷ v) [] l m h n = absurd (omega arith)
high_places u (suc k) (w ∷ v) (e ∷ a) l m (more p ps) (more q qs) =
    one (pos u) (pos w) (pos k) (pos (suc k)) e (dot (map pos v) a) (dot (step zero k) (monomial_point a)) (negsuc 0 *ℤ (e -ℤ pos 1))
    (omega (arith, linear)) (minus_one-*ℤ (e -ℤ pos 1) ∙ omega (arith, linear)) (product_nonnegative (pos w -ℤ pos u) e (omega (arith, linear)) q)
    (high_places u k v a (omega arith) (omega arith) ps qs)
  where
    one : (u w k k' e d c g : ℤ) → k' ≡ k +ℤ pos 1 → g ≡ pos 1 +ℤ neg_ℤ e → pos 0 ≤ℤ ((w -ℤ u) *ℤ e) → (u *ℤ k) ≤ℤ (d +ℤ u *ℤ c)
        → (u *ℤ k') ≤ℤ ((w *ℤ e +ℤ d) +ℤ u *ℤ (g +ℤ c))
    one u w k k' e d c g p q r h = rw (p, q) (let s = simp products_out at r in simp products_out (omega (arith, linear)))

-- those of the weights before only add to it
all_places : (p k : ℕ) (v : List ℕ) (a : List ℤ) → length v ≡ p + k → length a ≡ p + k → Ascends (λ x y. x ≤ y) v → Each (λ e. pos 0 ≤ℤ e) a
    → (pos (get_or v p 0) *ℤ pos k) ≤ℤ (dot (map pos v) a +ℤ pos (get_or v p 0) *ℤ dot (step p k) (monomial_point a))
all_places zero zero [] a l m h n = omega (arith, linear)
all_places zero zero (w ∷ v) a l m h n = absurd (omega arith)
all_places zero (suc k) [] a l m h n = absurd (omega arith)
all_places zero (suc k) (w ∷ v) a l m h n = high_places w (suc k) (w ∷ v) a (omega arith) (omega arith)
    (more (omega arith) (each_from_all (λ y. w ≤ y) v h.0)) n
all_places (suc p) k [] a l m h n = absurd (omega arith)
all_places (suc p) k (w ∷ v) [] l m h n = absurd (omega arith)
all_places (suc p) k (w ∷ v) (e ∷ a) l m h (more q qs) =
    one (pos (get_or v p 0) *ℤ pos k) (pos (get_or v p 0)) (pos w *ℤ e) (e -ℤ pos 1) (dot (map pos v) a) (dot (step p k) (monomial_point a))
    (product_nonnegative (pos w) e (omega (arith, linear)) q) (all_places p k v a (omega arith) (omega arith) h.1 qs)
  where
    one : (s u p t d c : ℤ) → pos 0 ≤ℤ p → s ≤ℤ (d +ℤ u *ℤ c) → s ≤ℤ ((p +ℤ d) +ℤ u *ℤ (pos 0 *ℤ t +ℤ c))
    one s u p t d c q h = simp products_out (omega (arith, linear))

-- so the step isn't negative on a point where the degree is below k + 1 times the weight
step_nonnegative : (u k d c : ℤ) → pos 0 ≤ℤ u → (u *ℤ k) ≤ℤ (d +ℤ u *ℤ c) → d <ℤ (u *ℤ k +ℤ u) → pos 0 ≤ℤ c
step_nonnegative u k d c p h l = ⊎_elim
    (λ (n : c <ℤ pos 0).
    let s = below u c (neg_ℤ c -ℤ pos 1) (omega (arith, linear)) (product_nonnegative u (neg_ℤ c -ℤ pos 1) p (omega (arith, linear))) in
    absurd (omega (arith, linear)))
    (λ n. n) (negative_or_not c)
  where
    below : (u c t : ℤ) → neg_ℤ c ≡ t +ℤ pos 1 → pos 0 ≤ℤ (u *ℤ t) → (u *ℤ c) ≤ℤ neg_ℤ u
    below u c t e h = let s = simp products_out at (ap (λ (z : ℤ). u *ℤ z) e) in omega (arith, linear)

-- weights that are all the same, with greatest common divisor 1, are 1
each_same : (v : List ℕ) (w : ℕ) → ((i : ℕ) → i < length v → get_or v i 0 ≡ w) → Each (λ a. a ≡ w) v
each_same [] w h = empty
each_same (a ∷ v) w h = more (h 0 (omega arith)) (each_same v w (λ i l. h (suc i) (omega arith)))

total_ones : (w : ℕ) (v : List ℕ) → w ≡ 1 → Each (λ a. a ≡ w) v → total v ≡ length v
total_ones w [] e h = refl
total_ones w (a ∷ v) e (more p ps) = let r = total_ones w v e ps in omega arith

same_are_ones : (w : ℕ) (v : List ℕ) → Each (λ a. a ≡ w) v → IsPrimitive (map pos v) → total v ≡ length v
same_are_ones w v h p = total_ones w v (p w (all_from_each (each_map (DividesInteger w) pos
    (each_weaker {Q = λ a. DividesInteger w (pos a)} (λ a e. (pos 1, one-*ℤ (pos w) ∙ ap pos (sym e))) h)))) h

pub largest_weights_lem : LargestWeights
largest_weights_lem system place k is e positive side = ⊎_elim
    (λ (l : system.degree < (k + 1) * get_or v place 0). absurd (contradiction (is.interior c (length-step place k ∙ e) (nonnegative l)) side))
    (λ l. l) (cases_lt system.degree ((k + 1) * get_or v place 0))
  where
    v : List ℕ
    v = system.weights

    c : List ℤ
    c = step place k

    large : (d u k : ℕ) → d < (k + 1) * u → pos d <ℤ (pos u *ℤ pos k +ℤ pos u)
    large d u k h = omega (arith, ints)

    nonnegative : system.degree < (k + 1) * get_or v place 0 → IsNonnegativeOnMonomials system c
    nonnegative l a m = step_nonnegative (pos (get_or v place 0)) (pos k) (pos system.degree) (dot c (monomial_point a)) (omega (arith, linear))
        (subst (λ (d : ℤ). (pos (get_or v place 0) *ℤ pos k) ≤ℤ (d +ℤ pos (get_or v place 0) *ℤ dot c (monomial_point a))) (degree_is system a m)
        (all_places place k v a (sym e) (m.columns ∙ sym e) is.ascends (each_from_all (λ x. pos 0 ≤ℤ x) a m.nonnegative)))
        (large system.degree (get_or v place 0) k l)

    positives : Each (λ w. 1 ≤ w) v
    positives = each_from_all (λ w. 1 ≤ w) v is.positive

    some_low : IsVectorMultiple c (weight_vector system) → 0 < place → ⊥
    some_low m l = no_multiple c v 0 place positives (omega arith) (entry_step_low place k 0 l)
        (entry_step_high place k place (omega arith) (omega arith)) m

    same_entries : (q p a b x y : ℤ) → q *ℤ a ≡ p *ℤ x → q *ℤ b ≡ p *ℤ y → a ≡ b → p ≢ pos 0 → x ≡ y
    same_entries q p a b x y e f g n = cancel_left p x y n (sym e ∙ ap (λ (z : ℤ). q *ℤ z) g ∙ f)

    -- a step that is -1 everywhere is a multiple of the same weights only
    same_weights : (m : IsVectorMultiple c (weight_vector system)) → place ≤ 0 → (i : ℕ) → i < length v → get_or v i 0 ≡ get_or v 0 0
    same_weights m z i l = same_natural (get_or v i 0) (get_or v 0 0) (sym (entry_weights v i)
        ∙ same_entries m.left m.right (entry c i) (entry c 0) (entry (weight_vector system) i) (entry (weight_vector system) 0)
        (multiple_at c (weight_vector system) m i) (multiple_at c (weight_vector system) m 0)
        (entry_step_high place k i (omega arith) (omega arith) ∙ sym (entry_step_high place k 0 z (omega arith)))
        (λ r. m.nonzero (left_zero m.left m.right (entry c 0) (entry (weight_vector system) 0) (multiple_at c (weight_vector system) m 0) r
        (entry_step_high place k 0 z (omega arith))))
        ∙ entry_weights v 0)

    contradiction : IsVectorMultiple c (weight_vector system) → (0 < place) ⊎ (system.degree ≢ length v) → ⊥
    contradiction m (inl l) = some_low m l
    contradiction m (inr u) = ⊎_elim (some_low m)
        (λ (z : place ≤ 0). u (sym is.sum ∙ same_are_ones (get_or v 0 0) v (each_same v (get_or v 0 0) (same_weights m z)) is.primitive))
        (cases_lt 0 place)
