-- G is determined by its equations.
use Rattle.std.proofs.Common.{◌≡◌, ℕ, zero, suc, ◌*◌, ◌-◌, ◌<◌, ◌≤◌, nat_lt, Bool, true, false, not, ◌&&◌, ℤ, pos, ◌*ℤ◌, ◌⊎◌, inl, inr, refl, sym, ap, subst, ◌∙◌, arith}
use Rattle.std.proofs.Math.Bool.{cond}
use Rattle.std.proofs.lemmas.Bool.{and_parts, and_cases, both_ways, not-false, cases_Bool, le-ltb, cond-true, cond-false}
use Rattle.std.specs.List.{Contains}
use Rattle.lattice_theory.proofs.Members.{contains_from_in}
use Rattle.polynomial_theory.specs.Series.{Series, product, power, one, t_minus_1, one_minus_t, part_below_half}
use Rattle.stringy_theory.specs.Eulerian.{Order, strictly, sum_above, IsG, IsGDual, g_within, g, upside_down, g_dual, IsGraded}
use Rattle.polynomial_theory.proofs.Sums.{splits_same, sum_filter_same}

-- the same second factor
product_same : (A B C : Series) → ((k : ℕ) → B k ≡ C k) → (k : ℕ) → product A B k ≡ product A C k
product_same A B C h k = splits_same k (λ a b. A a *ℤ B b) (λ a b. A a *ℤ C b) (λ a b. ap (λ (z : ℤ). A a *ℤ z) (h b))

-- one step of two families that agree above x
step_same : {X : Type 0} (o : Order X) (G K : X → X → Series) (x y : X) → ((z : X) → Contains o.members z → strictly o x z ≡ true
    → o.below z y ≡ true → (k : ℕ) → G z y k ≡ K z y k)
    → (k : ℕ) → part_below_half (o.gap x y) (product one_minus_t (sum_above o G x y)) k ≡ part_below_half (o.gap x y) (product one_minus_t (sum_above o K x y)) k
step_same o G K x y h k = ap (λ (z : ℤ). cond (nat_lt (2 * k) (o.gap x y)) z (pos 0)) (product_same one_minus_t (sum_above o G x y) (sum_above o K x y) sums k)
  where
    sums : (k : ℕ) → sum_above o G x y k ≡ sum_above o K x y k
    sums k = sum_filter_same (λ z. strictly o x z && o.below z y) o.members (λ z. product (power t_minus_1 (o.gap x z - 1)) (G z y) k)
        (λ z. product (power t_minus_1 (o.gap x z - 1)) (K z y) k)
        (λ z i t. let e = and_parts (strictly o x z) (o.below z y) t in product_same (power t_minus_1 (o.gap x z - 1)) (G z y) (K z y) (h z (contains_from_in i) e.0 e.1) k)

-- by cases on a test
cond_same : (c : Bool) (a a' e : ℤ) → (c ≡ true → a ≡ a') → cond c a e ≡ cond c a' e
cond_same true a a' e h = h refl
cond_same false a a' e h = refl

cond_first : (c : Bool) (a e z : ℤ) → (c ≡ true → z ≡ a) → (c ≡ false → z ≡ e) → z ≡ cond c a e
cond_first true a e z h k = h refl
cond_first false a e z h k = k refl

-- no step strictly up where there is no gap
no_step : {X : Type 0} (o : Order X) → IsGraded o → (x y : X) → Contains o.members x → Contains o.members y → o.gap x y ≤ 0 → strictly o x y ≡ true → ⊥
no_step o r x y i j h t = let l = r.falls x y y i j j t (r.reflexive y j) in omega arith

-- enough steps give the same
pub within_same : {X : Type 0} (o : Order X) → IsGraded o → (n m : ℕ) (x y : X) → Contains o.members x → Contains o.members y → o.gap x y ≤ n
    → o.gap x y ≤ m → (k : ℕ) → g_within o n x y k ≡ g_within o m x y k
within_same o r zero zero x y i j h h' k = refl
within_same o r zero (suc m) x y i j h h' k = cond_first (strictly o x y) (part_below_half (o.gap x y) (product one_minus_t (sum_above o (g_within o m) x y)) k) (one k) (one k)
    (λ t. absurd (no_step o r x y i j h t)) (λ t. refl)
within_same o r (suc n) zero x y i j h h' k = sym (cond_first (strictly o x y) (part_below_half (o.gap x y) (product one_minus_t (sum_above o
    (g_within o n) x y)) k) (one k) (one k)
    (λ t. absurd (no_step o r x y i j h' t)) (λ t. refl))
within_same o r (suc n) (suc m) x y i j h h' k = cond_same (strictly o x y) (part_below_half (o.gap x y) (product one_minus_t (sum_above o (g_within o n) x y)) k)
    (part_below_half (o.gap x y) (product one_minus_t (sum_above o (g_within o m) x y)) k) (one k)
    (λ t. step_same o (g_within o n) (g_within o m) x y (λ z l t b k. let fall = r.falls x z y i l j t b in within_same o r n m z y l j (omega arith) (omega arith) k) k)

-- not strictly up: 1
within_one : {X : Type 0} (o : Order X) (n : ℕ) (x y : X) (k : ℕ) → strictly o x y ≡ false → g_within o n x y k ≡ one k
within_one o zero x y k h = refl
within_one o (suc n) x y k h = cond-false (strictly o x y) (part_below_half (o.gap x y) (product one_minus_t (sum_above o (g_within o n) x y)) k) (one k) h

-- no member is strictly above itself
not_itself : (c : Bool) → c && not c ≡ false
not_itself true = refl
not_itself false = refl

-- x below y, but not strictly
pub equal_or_strict : {X : Type 0} (o : Order X) → (x y : X) → (o.below x y ≡ true → o.below y x ≡ true → x ≡ y) → o.below x y ≡ true → strictly o x y ≡ false → x ≡ y
equal_or_strict o x y a b h = a b (back (and_cases (o.below x y) (not (o.below y x)) h))
  where
    back : (o.below x y ≡ false) ⊎ (not (o.below y x) ≡ false) → o.below y x ≡ true
    back (inl e) = absurd (both_ways (o.below x y) e b)
    back (inr e) = not-false (o.below y x) e

only_one : {X : Type 0} (o : Order X) → IsGraded o → (G : X → X → Series) → IsG o G → (x y : X) → Contains o.members x → Contains o.members y
    → o.below x y ≡ true → strictly o x y ≡ false → (k : ℕ) → G x y k ≡ one k
only_one o r G h x y i j b s k = subst (λ z. G x z k ≡ one k) (equal_or_strict o x y (r.antisymmetric x y i j) b s) (h.same x i k)

-- G meets its equations
pub g_meets : {X : Type 0} (o : Order X) → IsGraded o → IsG o (g o)
g_meets {X = X} o r = record {
  same = λ x i k. within_one o (o.gap x x) x x k (not_itself (o.below x x));
  step = λ x y i j t k. within_same o r (o.gap x y) (suc (o.gap x y)) x y i j (none (o.gap x y)) (more (o.gap x y)) k
      ∙ cond-true (strictly o x y) (part_below_half (o.gap x y) (product one_minus_t (sum_above o (g_within o (o.gap x y)) x y)) k) (one k) t
      ∙ step_same o (g_within o (o.gap x y)) (g o) x y
      (λ z l t b k. let fall = r.falls x z y i l j t b in within_same o r (o.gap x y) (o.gap z y) z y l j (omega arith) (omega arith) k) k;
}
  where
    none : (n : ℕ) → n ≤ n
    none n = omega arith

    more : (n : ℕ) → n ≤ suc n
    more n = omega arith

-- and nothing else does
pub g_within_only : {X : Type 0} (o : Order X) → IsGraded o → (G : X → X → Series) → IsG o G → (n : ℕ) (x y : X) → Contains o.members x
    → Contains o.members y → o.below x y ≡ true → o.gap x y ≤ n → (k : ℕ) → G x y k ≡ g_within o n x y k
g_within_only o r G h zero x y i j b l k = by (cases_Bool (strictly o x y))
  where
    by : (strictly o x y ≡ true) ⊎ (strictly o x y ≡ false) → G x y k ≡ one k
    by (inl t) = absurd (no_step o r x y i j l t)
    by (inr f) = only_one o r G h x y i j b f k
g_within_only o r G h (suc n) x y i j b l k = cond_first (strictly o x y) (part_below_half (o.gap x y) (product one_minus_t (sum_above o (g_within o n) x y)) k) (one k) (G x y k)
    (λ t. h.step x y i j t k ∙ step_same o G (g_within o n) x y (λ z m t c k. let fall = r.falls x z y i m j t c in g_within_only o r G h n z y m j c (omega arith) k) k)
    (λ f. only_one o r G h x y i j b f k)

pub g_only : {X : Type 0} (o : Order X) → IsGraded o → (G : X → X → Series) → IsG o G → (x y : X) → Contains o.members x → Contains o.members y
    → o.below x y ≡ true → (k : ℕ) → G x y k ≡ g o x y k
g_only o r G h x y i j b k = g_within_only o r G h (o.gap x y) x y i j b (none (o.gap x y)) k
  where
    none : (n : ℕ) → n ≤ n
    none n = omega arith

-- upside down
pub graded_down : {X : Type 0} (o : Order X) → IsGraded o → IsGraded (upside_down o)
graded_down o r = record {
  reflexive = r.reflexive;
  antisymmetric = λ x y i j b c. r.antisymmetric x y i j c b;
  falls = λ x z y i l j s b. r.falls_down y z x j l i b s;
  falls_down = λ x z y i l j b s. r.falls y z x j l i s b;
}

pub g_dual_meets : {X : Type 0} (o : Order X) → IsGraded o → IsGDual o (g_dual o)
g_dual_meets o r = let m = g_meets (upside_down o) (graded_down o r) in record { same = m.same; step = λ x y i j t k. m.step y x j i t k }

pub g_dual_only : {X : Type 0} (o : Order X) → IsGraded o → (G : X → X → Series) → IsGDual o G → (x y : X) → Contains o.members x
    → Contains o.members y → o.below x y ≡ true → (k : ℕ) → G x y k ≡ g_dual o x y k
g_dual_only o r G h x y i j b k = g_only (upside_down o) (graded_down o r) (λ y x. G x y) (record { same = h.same; step = λ y x j i t k. h.step x y i j t k }) y x j i b k

-- the degree
pub g_degree : {X : Type 0} (o : Order X) → IsGraded o → (x y : X) → Contains o.members x → Contains o.members y → o.below x y ≡ true → (k : ℕ)
    → 0 < k → o.gap x y ≤ 2 * k → g o x y k ≡ pos 0
g_degree o r x y i j b zero h l = absurd (omega arith)
g_degree o r x y i j b (suc k) h l = by (cases_Bool (strictly o x y))
  where
    by : (strictly o x y ≡ true) ⊎ (strictly o x y ≡ false) → g o x y (suc k) ≡ pos 0
    by (inl t) = m.step x y i j t (suc k)
        ∙ cond-false (nat_lt (2 * suc k) (o.gap x y)) (product one_minus_t (sum_above o (g o) x y) (suc k)) (pos 0) (le-ltb (2 * suc k) (o.gap x y) l)
      where
        m : IsG o (g o)
        m = g_meets o r
    by (inr f) = within_one o (o.gap x y) x y (suc k) f

pub g_dual_degree : {X : Type 0} (o : Order X) → IsGraded o → (x y : X) → Contains o.members x → Contains o.members y → o.below x y ≡ true
    → (k : ℕ) → 0 < k → o.gap x y ≤ 2 * k → g_dual o x y k ≡ pos 0
g_dual_degree o r x y i j b k h l = g_degree (upside_down o) (graded_down o r) y x j i b k h l
