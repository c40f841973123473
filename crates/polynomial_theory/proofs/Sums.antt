-- Finite sums: terms, factors, tests and exchange.
use Rattle.std.proofs.Common.{◌≡◌, ℕ, zero, suc, ◌+◌, Bool, true, false, List, [], ◌∷◌, ℤ, pos, ◌+ℤ◌, ◌*ℤ◌, neg_ℤ, refl, sym, ap, ◌∙◌, arith}
use Rattle.std.proofs.Math.Bool.{cond}
use Rattle.std.specs.List.{filter}
use Rattle.lattice_theory.proofs.Integers.{products_out, linear, neg-*ℤ, one-*ℤ}
use Rattle.lattice_theory.proofs.Members.{In, here, there}
use Rattle.polynomial_theory.specs.Sums.{sum_over, sum_of_splits, sign}

-- the same terms
pub sum_same : {X : Type 0} (xs : List X) (f g : X → ℤ) → ((x : X) → f x ≡ g x) → sum_over xs f ≡ sum_over xs g
sum_same [] f g h = refl
sum_same (x ∷ xs) f g h = let e = sum_same xs f g h in let e' = h x in omega (arith, linear)

-- the same terms at the members
pub sum_same_in : {X : Type 0} (xs : List X) (f g : X → ℤ) → ((x : X) → In x xs → f x ≡ g x) → sum_over xs f ≡ sum_over xs g
sum_same_in [] f g h = refl
sum_same_in (x ∷ xs) f g h = let e = sum_same_in xs f g (λ y i. h y (there i)) in let e' = h x here in omega (arith, linear)

-- sums of two terms
pub sum_add : {X : Type 0} (xs : List X) (f g : X → ℤ) → sum_over xs (λ x. f x +ℤ g x) ≡ sum_over xs f +ℤ sum_over xs g
sum_add [] f g = refl
sum_add (x ∷ xs) f g = let e = sum_add xs f g in omega (arith, linear)

-- a common factor
pub sum_scaled : {X : Type 0} (k : ℤ) (xs : List X) (f : X → ℤ) → sum_over xs (λ x. k *ℤ f x) ≡ k *ℤ sum_over xs f
sum_scaled k [] f = simp products_out
sum_scaled k (x ∷ xs) f = let e = sum_scaled k xs f in simp products_out (omega (arith, linear))

-- terms that are 0
pub sum_zero : {X : Type 0} (xs : List X) (f : X → ℤ) → ((x : X) → f x ≡ pos 0) → sum_over xs f ≡ pos 0
sum_zero [] f h = refl
sum_zero (x ∷ xs) f h = let e = sum_zero xs f h in let e' = h x in omega (arith, linear)

-- two sums change places
pub sum_exchange : {X Y : Type 0} (xs : List X) (ys : List Y) (f : X → Y → ℤ) → sum_over xs (λ x. sum_over ys (λ y. f x y)) ≡ sum_over ys (λ y. sum_over xs (λ x. f x y))
sum_exchange [] ys f = sym (sum_zero ys (λ y. pos 0) (λ y. refl))
sum_exchange (x ∷ xs) ys f = let e = sum_exchange xs ys f in let e' = sum_add ys (f x) (λ y. sum_over xs (λ x. f x y)) in omega (arith, linear)

-- a term that counts only where a test holds
abbrev pub kept : Bool → ℤ → ℤ
kept c z = cond c z (pos 0)

-- a sum over the members that pass a test
filter_step : {X : Type 0} (c : Bool) (x : X) (ys : List X) (f : X → ℤ) → sum_over (cond c (x ∷ ys) ys) f ≡ kept c (f x) +ℤ sum_over ys f
filter_step true x ys f = refl
filter_step false x ys f = omega (arith, linear)

pub sum_filter : {X : Type 0} (test : X → Bool) (xs : List X) (f : X → ℤ) → sum_over (filter test xs) f ≡ sum_over xs (λ x. kept (test x) (f x))
sum_filter test [] f = refl
sum_filter test (x ∷ xs) f = filter_step (test x) x (filter test xs) f ∙ (let e = sum_filter test xs f in omega (arith, linear))

-- the same terms where the test holds
kept_same : (c : Bool) (a b : ℤ) → (c ≡ true → a ≡ b) → kept c a ≡ kept c b
kept_same true a b h = h refl
kept_same false a b h = refl

pub sum_filter_same : {X : Type 0} (test : X → Bool) (xs : List X) (f g : X → ℤ) → ((x : X) → In x xs → test x ≡ true → f x ≡ g x)
    → sum_over (filter test xs) f ≡ sum_over (filter test xs) g
sum_filter_same test xs f g h = sum_filter test xs f
    ∙ sum_same_in xs (λ x. kept (test x) (f x)) (λ x. kept (test x) (g x)) (λ x i. kept_same (test x) (f x) (g x) (h x i))
    ∙ sym (sum_filter test xs g)

-- a test in front of a sum
pub sum_kept : {X : Type 0} (c : Bool) (xs : List X) (f : X → ℤ) → sum_over xs (λ x. kept c (f x)) ≡ kept c (sum_over xs f)
sum_kept true xs f = refl
sum_kept false xs f = sum_zero xs (λ x. pos 0) (λ x. refl)

-- the same terms of sums over splits
pub splits_same : (n : ℕ) (f g : ℕ → ℕ → ℤ) → ((a b : ℕ) → f a b ≡ g a b) → sum_of_splits n f ≡ sum_of_splits n g
splits_same zero f g h = h 0 0
splits_same (suc n) f g h = let e = splits_same n (λ a b. f (suc a) b) (λ a b. g (suc a) b) (λ a b. h (suc a) b) in let e' = h 0 (suc n) in omega (arith, linear)

-- sums of two terms
pub splits_add : (n : ℕ) (f g : ℕ → ℕ → ℤ) → sum_of_splits n (λ a b. f a b +ℤ g a b) ≡ sum_of_splits n f +ℤ sum_of_splits n g
splits_add zero f g = refl
splits_add (suc n) f g = let e = splits_add n (λ a b. f (suc a) b) (λ a b. g (suc a) b) in omega (arith, linear)

-- a common factor
pub splits_scaled : (k : ℤ) (n : ℕ) (f : ℕ → ℕ → ℤ) → sum_of_splits n (λ a b. k *ℤ f a b) ≡ k *ℤ sum_of_splits n f
splits_scaled k zero f = refl
splits_scaled k (suc n) f = let e = splits_scaled k n (λ a b. f (suc a) b) in simp products_out (omega (arith, linear))

-- (-1)^a (-1)^b
pub sign_product : (a b : ℕ) → sign a *ℤ sign b ≡ sign (a + b)
sign_product zero b = one-*ℤ (sign b) ∙ ap sign (none b)
  where
    none : (b : ℕ) → b ≡ 0 + b
    none b = omega arith
sign_product (suc a) b = neg-*ℤ (sign a) (sign b) ∙ ap neg_ℤ (sign_product a b) ∙ ap sign (moved a b)
  where
    moved : (a b : ℕ) → suc (a + b) ≡ suc a + b
    moved a b = omega arith
