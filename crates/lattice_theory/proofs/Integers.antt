-- Integer algebra: the laws of the ring that the library lacks, the sets of rules for `simp` and `omega`, and signs of products.
use Rattle.std.proofs.Common.{◌≡◌, ◌≢◌, ℕ, zero, suc, ◌*◌, ◌<◌, ◌≤◌, ℤ, pos, negsuc, ◌+ℤ◌, ◌-ℤ◌, ◌*ℤ◌, neg_ℤ, nat_abs, ◌≤ℤ◌, ◌<ℤ◌, ◌⊎◌, inl, inr, refl, sym, ap, ◌∙◌, arith, ⊎_elim}
use Rattle.std.proofs.lemmas.Int.{ints}
use borrow.Author.Differences.{up, down, sum_is_lem, product_is, neg_is, abs_is, same_out, same_in, Apart-out, le_out, lt_out, below_in, at_most_in}

-- the integer laws: 0 and 1, the distributive laws, negation, and the order of factors
pub zero-*ℤ : (a : ℤ) → pos 0 *ℤ a ≡ pos 0
zero-*ℤ a = omega (arith, ints)

-- the same on the right
pub *ℤ-zero : (a : ℤ) → a *ℤ pos 0 ≡ pos 0
*ℤ-zero a = omega (arith, ints)

-- a factor 1
pub one-*ℤ : (a : ℤ) → pos 1 *ℤ a ≡ a
one-*ℤ a = omega (arith, ints)

-- the same on the right
pub *ℤ-one : (a : ℤ) → a *ℤ pos 1 ≡ a
*ℤ-one a = omega (arith, ints)

-- a factor -1
pub minus_one-*ℤ : (a : ℤ) → negsuc 0 *ℤ a ≡ neg_ℤ a
minus_one-*ℤ a = omega (arith, ints)

-- factors change places
pub *ℤ_comm : (a b : ℤ) → a *ℤ b ≡ b *ℤ a
*ℤ_comm a b = omega (arith, ints)

-- a negative factor
pub neg-*ℤ : (a b : ℤ) → neg_ℤ a *ℤ b ≡ neg_ℤ (a *ℤ b)
neg-*ℤ a b = omega (
  arith,
  ints,
  ap (λ (n : ℕ). n * up b) (neg_is a).0,
  ap (λ (n : ℕ). n * down b) (neg_is a).0,
  ap (λ (n : ℕ). n * up b) (neg_is a).1,
  ap (λ (n : ℕ). n * down b) (neg_is a).1,
)

-- the same on the right
pub *ℤ-neg : (a b : ℤ) → a *ℤ neg_ℤ b ≡ neg_ℤ (a *ℤ b)
*ℤ-neg a b = *ℤ_comm a (neg_ℤ b) ∙ neg-*ℤ b a ∙ ap neg_ℤ (*ℤ_comm b a)

-- a sum times a factor
pub +ℤ-*ℤ : (a b c : ℤ) → (a +ℤ b) *ℤ c ≡ a *ℤ c +ℤ b *ℤ c
+ℤ-*ℤ a b c = omega (arith, ints, ap (λ (n : ℕ). n * up c) (sum_is_lem a b), ap (λ (n : ℕ). n * down c) (sum_is_lem a b))

-- a factor times a sum
pub *ℤ-+ℤ : (a b c : ℤ) → a *ℤ (b +ℤ c) ≡ a *ℤ b +ℤ a *ℤ c
*ℤ-+ℤ a b c = *ℤ_comm a (b +ℤ c) ∙ +ℤ-*ℤ b c a ∙ omega (arith, ints)

-- three factors
pub *ℤ_assoc : (a b c : ℤ) → (a *ℤ b) *ℤ c ≡ a *ℤ (b *ℤ c)
*ℤ_assoc a b c = omega (
  arith,
  ints,
  ap (λ (n : ℕ). n * up c) (product_is a b).0,
  ap (λ (n : ℕ). n * down c) (product_is a b).0,
  ap (λ (n : ℕ). n * up c) (product_is a b).1,
  ap (λ (n : ℕ). n * down c) (product_is a b).1,
  ap (λ (n : ℕ). up a * n) (product_is b c).0,
  ap (λ (n : ℕ). down a * n) (product_is b c).0,
  ap (λ (n : ℕ). up a * n) (product_is b c).1,
  ap (λ (n : ℕ). down a * n) (product_is b c).1,
)

-- the first two of three factors change places
pub *ℤ_left_comm : (a b c : ℤ) → a *ℤ (b *ℤ c) ≡ b *ℤ (a *ℤ c)
*ℤ_left_comm a b c = sym (*ℤ_assoc a b c) ∙ ap (λ (z : ℤ). z *ℤ c) (*ℤ_comm a b) ∙ *ℤ_assoc b a c

-- with `simp`: every product multiplied out, its factors sorted
pub ruleset products_out = (zero-*ℤ, *ℤ-zero, one-*ℤ, *ℤ-one, +ℤ-*ℤ, *ℤ-+ℤ, neg-*ℤ, *ℤ-neg, *ℤ_assoc, *ℤ_left_comm, *ℤ_comm)

-- with `omega`: linear arithmetic of integers, where each product is a number of its own
pub ruleset linear = (same_out, Apart-out, le_out, lt_out, same_in, below_in, at_most_in, sum_is_lem, neg_is)

-- products of signs
pub product_positive : (a b : ℤ) → pos 0 <ℤ a → pos 0 <ℤ b → pos 0 <ℤ (a *ℤ b)
product_positive (pos zero) b h k = omega (arith, linear)
product_positive (pos (suc m)) (pos zero) h k = omega (arith, linear)
product_positive (pos (suc m)) (pos (suc n)) h k = omega (arith, ints)
product_positive (pos (suc m)) (negsuc n) h k = absurd (omega (arith, linear))
product_positive (negsuc m) b h k = absurd (omega (arith, linear))

-- of two numbers that are 0 or more
pub product_nonnegative : (a b : ℤ) → pos 0 ≤ℤ a → pos 0 ≤ℤ b → pos 0 ≤ℤ (a *ℤ b)
product_nonnegative (pos m) (pos n) h k = omega (arith, ints)
product_nonnegative (pos m) (negsuc n) h k = absurd (omega (arith, linear))
product_nonnegative (negsuc m) b h k = absurd (omega (arith, linear))

-- either 0 or not, and the three signs
pub zero_or_not : (a : ℤ) → (a ≡ pos 0) ⊎ (a ≢ pos 0)
zero_or_not (pos zero) = inl refl
zero_or_not (pos (suc n)) = inr (λ (e : pos (suc n) ≡ pos 0). absurd (omega (arith, linear)))
zero_or_not (negsuc n) = inr (λ (e : negsuc n ≡ pos 0). absurd (omega (arith, linear)))

-- below 0 or not
pub negative_or_not : (a : ℤ) → (a <ℤ pos 0) ⊎ (pos 0 ≤ℤ a)
negative_or_not (pos n) = inr (omega (arith, linear))
negative_or_not (negsuc n) = inl (omega (arith, linear))

-- above 0 or not
pub positive_or_not : (a : ℤ) → (pos 0 <ℤ a) ⊎ (a ≤ℤ pos 0)
positive_or_not (pos zero) = inr (omega (arith, linear))
positive_or_not (pos (suc n)) = inl (omega (arith, linear))
positive_or_not (negsuc n) = inr (omega (arith, linear))

-- a number that isn't 0 is positive or its negative is
pub positive_or_negative : (a : ℤ) → a ≢ pos 0 → (pos 0 <ℤ a) ⊎ (pos 0 <ℤ neg_ℤ a)
positive_or_negative (pos zero) n = absurd (n refl)
positive_or_negative (pos (suc n)) h = inl (omega (arith, linear))
positive_or_negative (negsuc n) h = inr (omega (arith, linear))

-- a positive number isn't 0
pub positive_nonzero : (a : ℤ) → pos 0 <ℤ a → a ≢ pos 0
positive_nonzero a h e = absurd (omega (arith, linear))

-- the negative of a number that isn't 0
pub neg_nonzero : (a : ℤ) → a ≢ pos 0 → neg_ℤ a ≢ pos 0
neg_nonzero a h e = h (omega (arith, linear))

-- a product of factors that aren't 0 isn't 0, and a factor that isn't 0 cancels
pub product_nonzero : (a b : ℤ) → a ≢ pos 0 → b ≢ pos 0 → (a *ℤ b) ≢ pos 0
product_nonzero a b h k = ⊎_elim (λ (p : pos 0 <ℤ a). ⊎_elim (λ (q : pos 0 <ℤ b). positive_nonzero (a *ℤ b) (product_positive a b p q))
    (λ (q : pos 0 <ℤ neg_ℤ b) (e : a *ℤ b ≡ pos 0). let s = simp *ℤ-neg at (product_positive a (neg_ℤ b) p q) in
    absurd (omega (arith, linear))) (positive_or_negative b k)) (λ (p : pos 0 <ℤ neg_ℤ a). ⊎_elim (λ (q : pos 0 <ℤ b) (e : a *ℤ b ≡ pos 0).
    let s = simp neg-*ℤ at (product_positive (neg_ℤ a) b p q) in absurd (omega (arith, linear)))
    (λ (q : pos 0 <ℤ neg_ℤ b) (e : a *ℤ b ≡ pos 0). let s = simp (neg-*ℤ, *ℤ-neg) at (product_positive (neg_ℤ a) (neg_ℤ b) p q) in
    absurd (omega (arith, linear))) (positive_or_negative b k)) (positive_or_negative a h)

-- a product is 0 only by a factor
pub factor_zero : (a b : ℤ) → a ≢ pos 0 → a *ℤ b ≡ pos 0 → b ≡ pos 0
factor_zero a b h e = ⊎_elim (λ z. z) (λ (k : b ≢ pos 0). absurd (product_nonzero a b h k e)) (zero_or_not b)

-- equal multiples of one number that is not 0
pub cancel_left : (c a b : ℤ) → c ≢ pos 0 → c *ℤ a ≡ c *ℤ b → a ≡ b
cancel_left c a b h e = let z : a -ℤ b ≡ pos 0 = factor_zero c (a -ℤ b) h (simp products_out (omega (arith, linear))) in
    omega (arith, linear)

-- a positive factor leaves the sign
pub positive_factor : (c a : ℤ) → pos 0 <ℤ c → pos 0 <ℤ (c *ℤ a) → pos 0 <ℤ a
positive_factor c a h k = ⊎_elim (λ p. p) (λ (n : a ≤ℤ pos 0). let m : pos 0 ≤ℤ neg_ℤ a = omega (arith, linear) in
    let l : pos 0 ≤ℤ c = omega (arith, linear) in let s = simp *ℤ-neg at (product_nonnegative c (neg_ℤ a) l m) in
    absurd (omega (arith, linear))) (positive_or_not a)

-- the same for 0 or more
pub nonnegative_factor : (c a : ℤ) → pos 0 <ℤ c → pos 0 ≤ℤ (c *ℤ a) → pos 0 ≤ℤ a
nonnegative_factor c a h k = ⊎_elim (λ (n : a <ℤ pos 0). let m : pos 0 <ℤ neg_ℤ a = omega (arith, linear) in
    let s = simp *ℤ-neg at (product_positive c (neg_ℤ a) h m) in absurd (omega (arith, linear))) (λ p. p) (negative_or_not a)

-- a positive integer is a natural number
pub positive_is : (a : ℤ) → pos 0 <ℤ a → (n : ℕ) × (0 < n) × (a ≡ pos n)
positive_is (pos n) h = (n, omega (arith, linear), refl)
positive_is (negsuc n) h = absurd (omega (arith, linear))

-- a natural above 0 as an integer
pub positive_pos : (n : ℕ) → 0 < n → pos 0 <ℤ pos n
positive_pos n h = omega (arith, linear)

-- multiples of 0
pub zero_terms : (a b x y : ℤ) → x ≡ pos 0 → y ≡ pos 0 → a *ℤ x +ℤ b *ℤ y ≡ pos 0
zero_terms a b x y p q = rw (p, q) (simp products_out)

-- the order by differences
pub difference_from : (a b : ℤ) → a ≤ℤ b → pos 0 ≤ℤ (b -ℤ a)
difference_from a b h = omega (arith, linear)

-- and back
pub order_from : (a b : ℤ) → pos 0 ≤ℤ (b -ℤ a) → a ≤ℤ b
order_from a b h = omega (arith, linear)

-- a sum whose first terms are added up
pub first_terms : (s p d e t : ℤ) → t ≡ s +ℤ p → s +ℤ (p +ℤ d) ≡ e → t +ℤ d ≡ e
first_terms s p d e t h k = omega (arith, linear)

-- a number between two small numbers is small
pub between_small : (low high x : ℤ) (m : ℕ) → low ≤ℤ x → x ≤ℤ high → nat_abs low ≤ m → nat_abs high ≤ m → nat_abs x ≤ m
between_small low high x m h k l r = omega (arith, ints)

-- naturals that are the same integer
pub same_natural : (m n : ℕ) → pos m ≡ pos n → m ≡ n
same_natural m n e = omega (arith, ints)
