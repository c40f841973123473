-- Sums of powers by their lists of coefficients.
use Rattle.std.proofs.Common.{◌≡◌, ℕ, zero, suc, ◌+◌, ◌*◌, ◌/◌, ◌%◌, ◌^◌, ◌<◌, ◌≤◌, nat_lt, cond, Bool, true, false, ◌⊎◌, inl, inr, List, ℤ, pos}
use Rattle.std.proofs.Common.{negsuc, ◌+ℤ◌, ◌*ℤ◌, ◌<ℤ◌, nat_abs, length, replicate, refl, sym, ap, ◌∙◌, arith}
use Rattle.std.proofs.lemmas.Bool.{cond-true, cond-false, lt-ltb, le-ltb}
use Rattle.lattice_theory.specs.Vector.{entry}
use Rattle.lattice_theory.proofs.Integers.{linear, *ℤ-zero}
use Rattle.lattice_theory.proofs.Vectors.{entry_past}
use Rattle.polynomial_theory.specs.Series.{LaurentSeries, HasNoPowerBelow, HasNoPowerAbove, times_at_product}
use Rattle.small_poly.specs.Sizes.{HasSmallTerms}
use Rattle.polynomial_theory.proofs.LowPowers.{large_or_not}
use Rattle.small_poly.specs.Tables.{laurent_of, term, times_both}

-- the coefficient at a place
pub laurent_at : (xs : List ℤ) (k : ℕ) → laurent_of xs (pos (k / 17)) (k % 17) ≡ entry xs k
laurent_at xs k = cond-true (nat_lt (k % 17) 17) (entry xs (17 * (k / 17) + k % 17)) (pos 0) (lt-ltb (k % 17) 17 (omega arith)) ∙ ap (entry xs) (omega arith)

-- and behind the list
pub laurent_above : (xs : List ℤ) → length xs ≡ 289 → HasNoPowerAbove 16 16 (laurent_of xs)
laurent_above xs e (pos i) j (inl h) = by (large_or_not 16 j)
  where
    large : 16 < i
    large = omega (arith, linear)

    by : (16 < j) ⊎ (j ≤ 16) → laurent_of xs (pos i) j ≡ pos 0
    by (inl l) = cond-false (nat_lt j 17) (entry xs (17 * i + j)) (pos 0) (le-ltb j 17 (omega arith))
    by (inr l) = cond-true (nat_lt j 17) (entry xs (17 * i + j)) (pos 0) (lt-ltb j 17 (omega arith)) ∙ entry_past xs (17 * i + j) (let g = large in omega arith)
laurent_above xs e (pos i) j (inr h) = cond-false (nat_lt j 17) (entry xs (17 * i + j)) (pos 0) (le-ltb j 17 (omega arith))
laurent_above xs e (negsuc i) j h = refl

pub laurent_below : (xs : List ℤ) → HasNoPowerBelow (pos 0) (laurent_of xs)
laurent_below xs (pos i) j h = absurd (omega (arith, linear))
laurent_below xs (negsuc i) j h = refl

-- a sum that is added place by place
pub added : (old new : List ℤ) (T : LaurentSeries) → length old ≡ 289 → length new ≡ 289
    → ((k : ℕ) → k < 289 → entry new k ≡ entry old k +ℤ T (pos (k / 17)) (k % 17)) → HasNoPowerBelow (pos 0) T → HasNoPowerAbove 16 16 T
    → (p : ℤ) (q : ℕ) → laurent_of new p q ≡ laurent_of old p q +ℤ T p q
added old new T a b h low high (negsuc i) j = let e = low (negsuc i) j (omega (arith, linear)) in omega (arith, linear)
added old new T a b h low high (pos i) j = by (large_or_not 16 i) (large_or_not 16 j)
  where
    out : (pos 16 <ℤ pos i) ⊎ (16 < j) → laurent_of new (pos i) j ≡ laurent_of old (pos i) j +ℤ T (pos i) j
    out l =
        let e1 = laurent_above new b (pos i) j l in
        let e2 = laurent_above old a (pos i) j l in
        let e3 = high (pos i) j l in
        omega (arith, linear)

    inside : i ≤ 16 → j ≤ 16 → laurent_of new (pos i) j ≡ laurent_of old (pos i) j +ℤ T (pos i) j
    inside l m =
        let e1 = cond-true (nat_lt j 17) (entry new (17 * i + j)) (pos 0) (lt-ltb j 17 (omega arith)) in
        let e2 = cond-true (nat_lt j 17) (entry old (17 * i + j)) (pos 0) (lt-ltb j 17 (omega arith)) in
        let e3 = h (17 * i + j) (omega arith) in
        let e4 : T (pos ((17 * i + j) / 17)) ((17 * i + j) % 17) ≡ T (pos i) j =
        ap (λ (n : ℕ). T (pos n) ((17 * i + j) % 17)) (omega arith) ∙ ap (λ (n : ℕ). T (pos i) n) (omega arith) in
        omega (arith, linear)

    by : (16 < i) ⊎ (i ≤ 16) → (16 < j) ⊎ (j ≤ 16) → laurent_of new (pos i) j ≡ laurent_of old (pos i) j +ℤ T (pos i) j
    by (inl l) d = out (inl (omega (arith, linear)))
    by (inr l) (inl m) = out (inr m)
    by (inr l) (inr m) = inside l m

-- bounds on coefficients, by places
smaller : (a b : ℤ) → a ≡ b → nat_abs a < 2 ^ 126 → nat_abs b < 2 ^ 126
smaller a b e h = let f = ap nat_abs e in omega arith

pub small_sums : (xs ys : List ℤ) → ((i j : ℕ) → nat_abs (laurent_of xs (pos i) j +ℤ laurent_of ys (pos i) j) < 2 ^ 126)
    → (k : ℕ) → nat_abs (entry xs k +ℤ entry ys k) < 2 ^ 126
small_sums xs ys h k = smaller (laurent_of xs (pos (k / 17)) (k % 17) +ℤ laurent_of ys (pos (k / 17)) (k % 17)) (entry xs k +ℤ entry ys k)
    (ap (λ (z : ℤ). z +ℤ laurent_of ys (pos (k / 17)) (k % 17)) (laurent_at xs k) ∙ ap (λ (z : ℤ). entry xs k +ℤ z) (laurent_at ys k)) (h (k / 17) (k % 17))

pub small_terms : (xs : List ℤ) (T : LaurentSeries) → ((i j : ℕ) → nat_abs (laurent_of xs (pos i) j +ℤ T (pos i) j) < 2 ^ 126)
    → (k : ℕ) → nat_abs (entry xs k +ℤ T (pos (k / 17)) (k % 17)) < 2 ^ 126
small_terms xs T h k = smaller (laurent_of xs (pos (k / 17)) (k % 17) +ℤ T (pos (k / 17)) (k % 17)) (entry xs k +ℤ T (pos (k / 17)) (k % 17))
    (ap (λ (z : ℤ). z +ℤ T (pos (k / 17)) (k % 17)) (laurent_at xs k)) (h (k / 17) (k % 17))

-- the sum of two lists
pub lists_added : (old other new : List ℤ) → length old ≡ 289 → length new ≡ 289 → length other ≡ 289
    → ((k : ℕ) → entry new k ≡ entry old k +ℤ entry other k) → (p : ℤ) (q : ℕ) → laurent_of new p q ≡ laurent_of old p q +ℤ laurent_of other p q
lists_added old other new a b c h = added old new (laurent_of other) a b (λ k l. h k ∙ ap (λ (z : ℤ). entry old k +ℤ z) (sym (laurent_at other k)))
    (laurent_below other) (laurent_above other c)

-- the same of lists that are those that are told
pub told_sums : (xs ys x y : List ℤ) → xs ≡ x → ys ≡ y → ((i j : ℕ) → nat_abs (laurent_of x (pos i) j +ℤ laurent_of y (pos i) j) < 2 ^ 126)
    → (k : ℕ) → nat_abs (entry xs k +ℤ entry ys k) < 2 ^ 126
told_sums xs ys x y e f h k = rw (e, f) (small_sums x y h k)

pub told_terms : (c : ℤ) (n : ℕ) (xs ls rs x l r : List ℤ) → xs ≡ x → ls ≡ l → rs ≡ r
    → ((i j : ℕ) → nat_abs (laurent_of x (pos i) j +ℤ term c n (entry l) (entry r) (pos i) j) < 2 ^ 126)
    → (k : ℕ) → nat_abs (entry xs k +ℤ term c n (entry ls) (entry rs) (pos (k / 17)) (k % 17)) < 2 ^ 126
told_terms c n xs ls rs x l r e f g h k = rw (e, f, g) (small_terms x (term c n (entry l) (entry r)) h k)

pub term_added : (c : ℤ) (n : ℕ) (old new ls rs x l r : List ℤ) → old ≡ x → ls ≡ l → rs ≡ r → length old ≡ 289 → length new ≡ 289
    → ((k : ℕ) → k < 289 → entry new k ≡ entry old k +ℤ term c n (entry ls) (entry rs) (pos (k / 17)) (k % 17))
    → HasNoPowerBelow (pos 0) (term c n (entry l) (entry r)) → HasNoPowerAbove 16 16 (term c n (entry l) (entry r))
    → (p : ℤ) (q : ℕ) → laurent_of new p q ≡ laurent_of x p q +ℤ term c n (entry l) (entry r) p q
term_added c n old new ls rs x l r e f g a b h low high = added x new (term c n (entry l) (entry r)) (ap length (sym e) ∙ a) b
    (λ k m. h k m ∙ ap (λ z. entry z k +ℤ term c n (entry ls) (entry rs) (pos (k / 17)) (k % 17)) e
    ∙ ap (λ z. entry x k +ℤ term c n (entry z) (entry rs) (pos (k / 17)) (k % 17)) f
    ∙ ap (λ z. entry x k +ℤ term c n (entry l) (entry z) (pos (k / 17)) (k % 17)) g) low high

-- no coefficients
pub laurent_zero : (xs : List ℤ) → ((k : ℕ) → entry xs k ≡ pos 0) → (p : ℤ) (q : ℕ) → laurent_of xs p q ≡ pos 0
laurent_zero xs h (pos i) j = by (nat_lt j 17) (h (17 * i + j))
  where
    by : (b : Bool) → entry xs (17 * i + j) ≡ pos 0 → cond b (entry xs (17 * i + j)) (pos 0) ≡ pos 0
    by true e = e
    by false e = refl
laurent_zero xs h (negsuc i) j = refl

pub zero_entries : (n k : ℕ) → entry (replicate n (pos 0)) k ≡ pos 0
zero_entries zero k = refl
zero_entries (suc n) zero = refl
zero_entries (suc n) (suc k) = zero_entries n k

-- products that are added
pub told_products : (c : ℤ) (xs ls rs ys x l r y : List ℤ) → xs ≡ x → ls ≡ l → rs ≡ r → ys ≡ y
    → ((i j : ℕ) → nat_abs (laurent_of x (pos i) j +ℤ c *ℤ times_both (entry l) (entry r) (laurent_of y) (pos i) j) < 2 ^ 126)
    → (k : ℕ) → nat_abs (entry xs k +ℤ c *ℤ times_both (entry ls) (entry rs) (laurent_of ys) (pos (k / 17)) (k % 17)) < 2 ^ 126
told_products c xs ls rs ys x l r y e f g i h k = rw (e, f, g, i) (small_terms x (λ p q. c *ℤ times_both (entry l) (entry r) (laurent_of y) p q) h k)

pub product_added : (c : ℤ) (old new ls rs ys x l r y : List ℤ) → old ≡ x → ls ≡ l → rs ≡ r → ys ≡ y → length old ≡ 289 → length new ≡ 289
    → ((k : ℕ) → k < 289 → entry new k ≡ entry old k +ℤ c *ℤ times_both (entry ls) (entry rs) (laurent_of ys) (pos (k / 17)) (k % 17))
    → HasNoPowerBelow (pos 0) (times_both (entry l) (entry r) (laurent_of y)) → HasNoPowerAbove 16 16 (times_both (entry l) (entry r) (laurent_of y))
    → (p : ℤ) (q : ℕ) → laurent_of new p q ≡ laurent_of x p q +ℤ c *ℤ times_both (entry l) (entry r) (laurent_of y) p q
product_added c old new ls rs ys x l r y e f g i a b h low high = added x new (λ p q. c *ℤ times_both (entry l) (entry r) (laurent_of y) p q)
    (ap length (sym e) ∙ a) b
    (λ k m. h k m ∙ ap (λ z. entry z k +ℤ c *ℤ times_both (entry ls) (entry rs) (laurent_of ys) (pos (k / 17)) (k % 17)) e
    ∙ ap (λ z. entry x k +ℤ c *ℤ times_both (entry z) (entry rs) (laurent_of ys) (pos (k / 17)) (k % 17)) f
    ∙ ap (λ z. entry x k +ℤ c *ℤ times_both (entry l) (entry z) (laurent_of ys) (pos (k / 17)) (k % 17)) g
    ∙ ap (λ z. entry x k +ℤ c *ℤ times_both (entry l) (entry r) (laurent_of z) (pos (k / 17)) (k % 17)) i)
    (λ p q m. ap (λ (z : ℤ). c *ℤ z) (low p q m) ∙ *ℤ-zero c) (λ p q m. ap (λ (z : ℤ). c *ℤ z) (high p q m) ∙ *ℤ-zero c)

pub told_first : (rs ys r y : List ℤ) → rs ≡ r → ys ≡ y → HasSmallTerms (pos 1) (entry r) (laurent_of y) → HasSmallTerms (pos 1) (entry rs) (laurent_of ys)
told_first rs ys r y e f h = rw (e, f) h

pub told_second : (ls rs ys l r y : List ℤ) → ls ≡ l → rs ≡ r → ys ≡ y
    → HasSmallTerms (negsuc 0) (entry l) (times_at_product (entry r) (laurent_of y))
    → HasSmallTerms (negsuc 0) (entry ls) (times_at_product (entry rs) (laurent_of ys))
told_second ls rs ys l r y e f g h = rw (e, f, g) h
