-- A sum over a list, split by a key of its members; and a product with a sum.
use Rattle.std.proofs.Common.{◌≡◌, ℕ, zero, suc, ◌+◌, ◌<◌, ◌≤◌, ◌==◌, ◌⊎◌, inl, inr, List, [], ◌∷◌, ℤ, pos, ◌+ℤ◌, ◌*ℤ◌, refl, eq-eqb, sym, ap, ◌∙◌, arith}
use Rattle.std.proofs.lemmas.Bool.{ne_eqb, cond-true, cond-false}
use Rattle.std.specs.List.{filter, range_with_len}
use Rattle.lattice_theory.proofs.Integers.{linear}
use Rattle.lattice_theory.proofs.Members.{In}
use Rattle.polynomial_theory.specs.Sums.{sum_over, sum_of_splits}
use Rattle.polynomial_theory.specs.Series.{Series, product}
use Rattle.polynomial_theory.proofs.Sums.{kept, sum_same, sum_same_in, sum_scaled, sum_exchange, sum_filter, splits_same, splits_add}
use Rattle.polynomial_theory.proofs.LowPowers.{splits_zero, large_or_not}

-- one term, at the key's place in a range
none_before : (i n k : ℕ) (z : ℤ) → k < i → sum_over (range_with_len i n) (λ r. kept (k == r) z) ≡ pos 0
none_before i zero k z h = refl
none_before i (suc n) k z h =
    let e = cond-false (k == i) z (pos 0) (ne_eqb k i (λ e. absurd (omega arith))) in
    let e' = none_before (i + 1) n k z (omega arith) in
    omega (arith, linear)

once : (i n k : ℕ) (z : ℤ) → i ≤ k → k < i + n → sum_over (range_with_len i n) (λ r. kept (k == r) z) ≡ z
once i zero k z h l = absurd (omega arith)
once i (suc n) k z h l = by (large_or_not i k) (λ a. once (i + 1) n k z a (omega arith))
  where
    by : (i < k) ⊎ (k ≤ i) → (i + 1 ≤ k → sum_over (range_with_len (i + 1) n) (λ r. kept (k == r) z) ≡ z)
        → sum_over (range_with_len i (suc n)) (λ r. kept (k == r) z) ≡ z
    by (inl m) f =
        let e = cond-false (k == i) z (pos 0) (ne_eqb k i (λ e. absurd (omega arith))) in
        let e' = f (omega arith) in
        omega (arith, linear)
    by (inr m) f =
        let e = cond-true (k == i) z (pos 0) (eq-eqb k i (omega arith)) in
        let e' = none_before (i + 1) n k z (omega arith) in
        omega (arith, linear)

-- so a sum is the sum, over the keys, of what has the key
pub sum_by_key_lem : {X : Type 0} (xs : List X) (key : X → ℕ) (n : ℕ) (f : X → ℤ) → ((x : X) → In x xs → key x < n)
    → sum_over xs f ≡ sum_over (range_with_len 0 n) (λ r. sum_over (filter (λ x. key x == r) xs) f)
sum_by_key_lem xs key n f h =
    sum_same_in xs f (λ x. sum_over (range_with_len 0 n) (λ r. kept (key x == r) (f x)))
    (λ x i. sym (once 0 n (key x) (f x) (omega arith) (let l = h x i in omega arith)))
    ∙ sum_exchange xs (range_with_len 0 n) (λ x r. kept (key x == r) (f x))
    ∙ sum_same (range_with_len 0 n) (λ r. sum_over xs (λ x. kept (key x == r) (f x))) (λ r. sum_over (filter (λ x. key x == r) xs) f)
    (λ r. sym (sum_filter (λ x. key x == r) xs f))

-- sums over splits of sums
splits_sum : {X : Type 0} (n : ℕ) (xs : List X) (f : X → ℕ → ℕ → ℤ)
    → sum_of_splits n (λ a b. sum_over xs (λ x. f x a b)) ≡ sum_over xs (λ x. sum_of_splits n (f x))
splits_sum n [] f = splits_zero n (λ a b. pos 0) (λ a b. refl)
splits_sum n (x ∷ xs) f = splits_add n (f x) (λ a b. sum_over xs (λ x. f x a b)) ∙ ap (λ (z : ℤ). sum_of_splits n (f x) +ℤ z) (splits_sum n xs f)

-- a product with a sum
pub product_sum : {X : Type 0} (A : Series) (xs : List X) (B : X → Series) (k : ℕ)
    → sum_over xs (λ x. product A (B x) k) ≡ product A (λ j. sum_over xs (λ x. B x j)) k
product_sum A xs B k = sym (splits_same k (λ a b. A a *ℤ sum_over xs (λ x. B x b)) (λ a b. sum_over xs (λ x. A a *ℤ B x b))
    (λ a b. sym (sum_scaled (A a) xs (λ x. B x b))) ∙ splits_sum k xs (λ x a b. A a *ℤ B x b))
