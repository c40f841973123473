-- What multiplies sums of powers of u and v: equations in place of the sum, and what exchanges.
use Rattle.std.proofs.Common.{◌≡◌, ℕ, zero, suc, List, [], ◌∷◌, ℤ, pos, ◌+ℤ◌, ◌-ℤ◌, ◌*ℤ◌, refl, sym, ap, ◌∙◌, arith}
use Rattle.lattice_theory.proofs.Integers.{products_out, linear, zero-*ℤ, *ℤ_left_comm, *ℤ_assoc}
use Rattle.polynomial_theory.specs.Sums.{sum_over}
use Rattle.polynomial_theory.specs.Series.{Series, LaurentSeries, product, times}
use Rattle.polynomial_theory.proofs.Sums.{sum_same, splits_same, splits_add, splits_scaled}

-- A without its first coefficient, divided by t
abbrev pub rest : Series → Series
rest A a = A (suc a)

-- u^s v times f
abbrev pub shift : ℤ → LaurentSeries → LaurentSeries
shift s f p zero = pos 0
shift s f p (suc q) = f (p -ℤ s) q

-- t times C
abbrev pub delay : Series → Series
delay C zero = pos 0
delay C (suc k) = C k

-- the power of u
first_place : (p s : ℤ) → p -ℤ s *ℤ pos 0 ≡ p
first_place p s = simp products_out (omega (arith, linear))

next_place : (p s z y : ℤ) → y ≡ pos 1 +ℤ z → p -ℤ s *ℤ y ≡ (p -ℤ s) -ℤ s *ℤ z
next_place p s z y e = rw e (simp products_out (omega (arith, linear)))

places_exchange : (p s t : ℤ) → (p -ℤ s) -ℤ t ≡ (p -ℤ t) -ℤ s
places_exchange p s t = omega (arith, linear)

-- the first coefficient
pub times_zero : (s : ℤ) (A : Series) (f : LaurentSeries) (p : ℤ) → times s A f p 0 ≡ A 0 *ℤ f p 0
times_zero s A f p = ap (λ (x : ℤ). A 0 *ℤ f x 0) (first_place p s)

-- one step
pub times_suc : (s : ℤ) (A : Series) (f : LaurentSeries) (p : ℤ) (q : ℕ) → times s A f p (suc q) ≡ A 0 *ℤ f p (suc q) +ℤ times s (rest A) f (p -ℤ s) q
times_suc s A f p q = let e = ap (λ (x : ℤ). A 0 *ℤ f x (suc q)) (first_place p s)
    in let e' = splits_same q (λ a b. A (suc a) *ℤ f (p -ℤ s *ℤ pos (suc a)) b) (λ a b. A (suc a) *ℤ f ((p -ℤ s) -ℤ s *ℤ pos a) b)
    (λ a b. ap (λ (x : ℤ). A (suc a) *ℤ f x b) (next_place p s (pos a) (pos (suc a)) (omega (arith, linear)))) in omega (arith, linear)

-- both as one
pub times_split : (s : ℤ) (A : Series) (f : LaurentSeries) (p : ℤ) (q : ℕ) → times s A f p q ≡ A 0 *ℤ f p q +ℤ shift s (times s (rest A) f) p q
times_split s A f p zero = times_zero s A f p ∙ omega (arith, linear)
times_split s A f p (suc q) = times_suc s A f p q

-- the same f, or the same A
pub times_same : (s : ℤ) (A : Series) (f g : LaurentSeries) → ((p : ℤ) (q : ℕ) → f p q ≡ g p q) → (p : ℤ) (q : ℕ) → times s A f p q ≡ times s A g p q
times_same s A f g h p q = splits_same q (λ a b. A a *ℤ f (p -ℤ s *ℤ pos a) b) (λ a b. A a *ℤ g (p -ℤ s *ℤ pos a) b) (λ a b. ap (λ (x : ℤ). A a *ℤ x) (h (p -ℤ s *ℤ pos a) b))

pub times_same_left : (s : ℤ) (A B : Series) (f : LaurentSeries) → ((k : ℕ) → A k ≡ B k) → (p : ℤ) (q : ℕ) → times s A f p q ≡ times s B f p q
times_same_left s A B f h p q = splits_same q (λ a b. A a *ℤ f (p -ℤ s *ℤ pos a) b) (λ a b. B a *ℤ f (p -ℤ s *ℤ pos a) b) (λ a b. ap (λ (x : ℤ). x *ℤ f (p -ℤ s *ℤ pos a) b) (h a))

-- linear in f
pub times_add : (s : ℤ) (A : Series) (f g : LaurentSeries) (p : ℤ) (q : ℕ) → times s A (λ p q. f p q +ℤ g p q) p q ≡ times s A f p q +ℤ times s A g p q
times_add s A f g p q = splits_same q (λ a b. A a *ℤ (f (p -ℤ s *ℤ pos a) b +ℤ g (p -ℤ s *ℤ pos a) b)) (λ a b. A a *ℤ f (p -ℤ s *ℤ pos a) b +ℤ A a *ℤ g (p -ℤ s *ℤ pos a) b)
    (λ a b. distributed (A a) (f (p -ℤ s *ℤ pos a) b) (g (p -ℤ s *ℤ pos a) b)) ∙ splits_add q (λ a b. A a *ℤ f (p -ℤ s *ℤ pos a) b) (λ a b. A a *ℤ g (p -ℤ s *ℤ pos a) b)
  where
    distributed : (x y z : ℤ) → x *ℤ (y +ℤ z) ≡ x *ℤ y +ℤ x *ℤ z
    distributed x y z = simp products_out

pub times_scaled : (s : ℤ) (A : Series) (k : ℤ) (f : LaurentSeries) (p : ℤ) (q : ℕ) → times s A (λ p q. k *ℤ f p q) p q ≡ k *ℤ times s A f p q
times_scaled s A k f p q = splits_same q (λ a b. A a *ℤ (k *ℤ f (p -ℤ s *ℤ pos a) b)) (λ a b. k *ℤ (A a *ℤ f (p -ℤ s *ℤ pos a) b))
    (λ a b. moved (A a) k (f (p -ℤ s *ℤ pos a) b)) ∙ splits_scaled k q (λ a b. A a *ℤ f (p -ℤ s *ℤ pos a) b)
  where
    moved : (x y z : ℤ) → x *ℤ (y *ℤ z) ≡ y *ℤ (x *ℤ z)
    moved x y z = simp products_out

pub times_none : (s : ℤ) (A : Series) (p : ℤ) (q : ℕ) → times s A (λ p q. pos 0) p q ≡ pos 0
times_none s A p q = times_scaled s A (pos 0) (λ p q. pos 0) p q ∙ simp products_out

pub times_sum : {X : Type 0} (s : ℤ) (A : Series) (xs : List X) (f : X → LaurentSeries) (p : ℤ) (q : ℕ)
    → times s A (λ p q. sum_over xs (λ x. f x p q)) p q ≡ sum_over xs (λ x. times s A (f x) p q)
times_sum s A [] f p q = times_none s A p q
times_sum s A (x ∷ xs) f p q = times_add s A (f x) (λ p q. sum_over xs (λ x. f x p q)) p q ∙ ap (λ (z : ℤ). times s A (f x) p q +ℤ z) (times_sum s A xs f p q)

-- linear in A
pub times_add_left : (s : ℤ) (A B : Series) (f : LaurentSeries) (p : ℤ) (q : ℕ) → times s (λ k. A k +ℤ B k) f p q ≡ times s A f p q +ℤ times s B f p q
times_add_left s A B f p q = splits_same q (λ a b. (A a +ℤ B a) *ℤ f (p -ℤ s *ℤ pos a) b) (λ a b. A a *ℤ f (p -ℤ s *ℤ pos a) b +ℤ B a *ℤ f (p -ℤ s *ℤ pos a) b)
    (λ a b. distributed (A a) (B a) (f (p -ℤ s *ℤ pos a) b)) ∙ splits_add q (λ a b. A a *ℤ f (p -ℤ s *ℤ pos a) b) (λ a b. B a *ℤ f (p -ℤ s *ℤ pos a) b)
  where
    distributed : (x y z : ℤ) → (x +ℤ y) *ℤ z ≡ x *ℤ z +ℤ y *ℤ z
    distributed x y z = simp products_out (omega (arith, linear))

pub times_scaled_left : (s : ℤ) (k : ℤ) (A : Series) (f : LaurentSeries) (p : ℤ) (q : ℕ) → times s (λ a. k *ℤ A a) f p q ≡ k *ℤ times s A f p q
times_scaled_left s k A f p q = splits_same q (λ a b. (k *ℤ A a) *ℤ f (p -ℤ s *ℤ pos a) b) (λ a b. k *ℤ (A a *ℤ f (p -ℤ s *ℤ pos a) b))
    (λ a b. associated k (A a) (f (p -ℤ s *ℤ pos a) b)) ∙ splits_scaled k q (λ a b. A a *ℤ f (p -ℤ s *ℤ pos a) b)
  where
    associated : (x y z : ℤ) → (x *ℤ y) *ℤ z ≡ x *ℤ (y *ℤ z)
    associated x y z = simp products_out

pub times_none_left : (s : ℤ) (f : LaurentSeries) (p : ℤ) (q : ℕ) → times s (λ k. pos 0) f p q ≡ pos 0
times_none_left s f p q = times_scaled_left s (pos 0) (λ k. pos 0) f p q ∙ simp products_out

pub times_sum_left : {X : Type 0} (s : ℤ) (xs : List X) (A : X → Series) (f : LaurentSeries) (p : ℤ) (q : ℕ)
    → times s (λ k. sum_over xs (λ x. A x k)) f p q ≡ sum_over xs (λ x. times s (A x) f p q)
times_sum_left s [] A f p q = times_none_left s f p q
times_sum_left s (x ∷ xs) A f p q = times_add_left s (A x) (λ k. sum_over xs (λ x. A x k)) f p q ∙ ap (λ (z : ℤ). times s (A x) f p q +ℤ z) (times_sum_left s xs A f p q)

-- what multiplies exchanges with u^t v
pub times_shift : (s t : ℤ) (A : Series) (f : LaurentSeries) (p : ℤ) (q : ℕ) → times s A (shift t f) p q ≡ shift t (times s A f) p q
times_shift s t A f p zero = times_zero s A (shift t f) p ∙ simp products_out
times_shift s t A f p (suc zero) = let e = times_suc s A (shift t f) p 0 in let e' = times_shift s t (rest A) f (p -ℤ s) zero in
    let e'' = times_zero s A f (p -ℤ t) in omega (arith, linear)
times_shift s t A f p (suc (suc q)) = let e = times_suc s A (shift t f) p (suc q) in let e' = times_shift s t (rest A) f (p -ℤ s) (suc q)
    in let e'' = times_suc s A f (p -ℤ t) q in let e''' = ap (λ (x : ℤ). times s (rest A) f x q) (places_exchange p s t) in omega (arith, linear)

-- and with what multiplies
pub times_exchange : (s t : ℤ) (A B : Series) (f : LaurentSeries) (p : ℤ) (q : ℕ) → times s A (times t B f) p q ≡ times t B (times s A f) p q
times_exchange s t A B f p zero = times_zero s A (times t B f) p ∙ ap (λ (x : ℤ). A 0 *ℤ x) (times_zero t B f p) ∙ *ℤ_left_comm (A 0) (B 0) (f p 0)
    ∙ sym (times_zero t B (times s A f) p ∙ ap (λ (x : ℤ). B 0 *ℤ x) (times_zero s A f p))
times_exchange s t A B f p (suc q) = let e = times_suc s A (times t B f) p q in let e' = times_exchange s t (rest A) B f (p -ℤ s) q
    in let e1 = times_same t B (times s A f) (λ p q. A 0 *ℤ f p q +ℤ shift s (times s (rest A) f) p q) (λ p q. times_split s A f p q) p (suc q)
    in let e2 = times_add t B (λ p q. A 0 *ℤ f p q) (shift s (times s (rest A) f)) p (suc q)
    in let e3 = times_scaled t B (A 0) f p (suc q)
    in let e4 = times_shift t s B (times s (rest A) f) p (suc q) in omega (arith, linear)

-- t C multiplies as C and u^s v
times_delay : (s : ℤ) (C : Series) (f : LaurentSeries) (p : ℤ) (q : ℕ) → times s (delay C) f p q ≡ shift s (times s C f) p q
times_delay s C f p zero = times_zero s (delay C) f p ∙ zero-*ℤ (f p 0)
times_delay s C f p (suc q) = let e = times_suc s (delay C) f p q in let e' = zero-*ℤ (f p (suc q)) in omega (arith, linear)

-- a product by the first coefficient of its first factor
pub product_split : (A B : Series) (k : ℕ) → product A B k ≡ A 0 *ℤ B k +ℤ delay (product (rest A) B) k
product_split A B zero = omega (arith, linear)
product_split A B (suc k) = refl

-- a product multiplies as its factors do, one after the other
pub times_of_product : (s : ℤ) (A B : Series) (f : LaurentSeries) (p : ℤ) (q : ℕ) → times s (product A B) f p q ≡ times s A (times s B f) p q
times_of_product s A B f p zero = times_zero s (product A B) f p ∙ *ℤ_assoc (A 0) (B 0) (f p 0)
    ∙ sym (times_zero s A (times s B f) p ∙ ap (λ (x : ℤ). A 0 *ℤ x) (times_zero s B f p))
times_of_product s A B f p (suc q) = let e = times_same_left s (product A B) (λ k. A 0 *ℤ B k +ℤ delay (product (rest A) B) k) f (product_split A B) p (suc q)
    in let e1 = times_add_left s (λ k. A 0 *ℤ B k) (delay (product (rest A) B)) f p (suc q)
    in let e2 = times_scaled_left s (A 0) B f p (suc q)
    in let e3 = times_delay s (product (rest A) B) f p (suc q)
    in let e4 = times_of_product s (rest A) B f (p -ℤ s) q
    in let e5 = times_suc s A (times s B f) p q in omega (arith, linear)

-- a combination
pub times_combination : {X : Type 0} (s : ℤ) (A : Series) (xs : List X) (k : X → ℤ) (f : X → LaurentSeries) (p : ℤ) (q : ℕ)
    → times s A (λ p q. sum_over xs (λ x. k x *ℤ f x p q)) p q ≡ sum_over xs (λ x. k x *ℤ times s A (f x) p q)
times_combination s A xs k f p q = times_sum s A xs (λ x p q. k x *ℤ f x p q) p q
    ∙ sum_same xs (λ x. times s A (λ p q. k x *ℤ f x p q) p q) (λ x. k x *ℤ times s A (f x) p q) (λ x. times_scaled s A (k x) (f x) p q)

-- a combination of products
pub times_combination_left : {X : Type 0} (s : ℤ) (xs : List X) (k : X → ℤ) (A B : X → Series) (f : LaurentSeries) (p : ℤ) (q : ℕ)
    → times s (λ n. sum_over xs (λ x. k x *ℤ product (A x) (B x) n)) f p q ≡ sum_over xs (λ x. k x *ℤ times s (A x) (times s (B x) f) p q)
times_combination_left s xs k A B f p q = times_sum_left s xs (λ x n. k x *ℤ product (A x) (B x) n) f p q
    ∙ sum_same xs (λ x. times s (λ n. k x *ℤ product (A x) (B x) n) f p q) (λ x. k x *ℤ times s (A x) (times s (B x) f) p q)
    (λ x. times_scaled_left s (k x) (product (A x) (B x)) f p q ∙ ap (λ (z : ℤ). k x *ℤ z) (times_of_product s (A x) (B x) f p q))
