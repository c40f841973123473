-- B of an interval, as it is added up over the faces.
use Rattle.std.proofs.Common.{◌≡◌, ℕ, zero, suc, ◌+◌, ◌*◌, ◌%◌, ◌^◌, ◌<◌, ◌≤◌, ◌==◌, Bool, true, false, cond, List, [], ◌∷◌}
use Rattle.std.proofs.Common.{◌++◌, length, ℤ, pos, negsuc, ◌+ℤ◌, ◌*ℤ◌, neg_ℤ, nat_abs, refl, sym, ap, ◌∙◌, arith}
use Rattle.std.proofs.Math.Nat.{mul-le-mul}
use Rattle.std.proofs.lemmas.Bool.{cond-true, cond-false}
use Rattle.std.proofs.lemmas.Int.{ints, unsigned_abs-mul}
use Rattle.std.specs.List.{filter, range_with_len}
use Rattle.lattice_theory.specs.Vector.{entry}
use Rattle.lattice_theory.proofs.Integers.{linear}
use Rattle.face_poset.specs.Faces.{TableState, face_at}
use Rattle.polynomial_theory.specs.Sums.{sum_over, sign}
use Rattle.polynomial_theory.specs.Series.{HasDegreeAtMost, HasNoPowerBelow, HasNoPowerAbove, times_at_product}
use Rattle.polynomial_theory.specs.Series.{power_of_minus_u, one}
use Rattle.polynomial_theory.proofs.Sums.{kept, sum_filter}
use Rattle.polynomial_theory.proofs.Times.{times_same, times_same_left}
use Rattle.polynomial_theory.proofs.Places.{coefficient_size}
use Rattle.small_poly.specs.Tables.{unit_of, term}
use Rattle.small_poly.proofs.FittingTerms.{terms_fit_lem}
use Rattle.stringy_theory.specs.Eulerian.{g, g_dual}
use Rattle.stringy_theory.specs.CountedFaces.{series_of}
use Rattle.stringy_theory.specs.Stringy.{b}
use Rattle.stringy_theory.proofs.UniqueIntervals.{g_degree, g_dual_degree}
use Rattle.poset_g.specs.Numbered.{counted, numbered, IsInterval, HasAllFaces, HasSmallRanks}
use Rattle.poset_g.specs.Stored.{GState, g_of, g_dual_of}
use Rattle.poset_g.specs.Values.{HoldsG}
use Rattle.poset_g.specs.TermSteps.{term_at, kept_term_at}
use Rattle.poset_g.proofs.IntervalSums.{graded, member}
use Rattle.poset_g.proofs.Ranges.{range_more}
use Rattle.poset_g.proofs.Terms.{rank_small}

-- signs
pub unit_is : (r : ℕ) → unit_of (r % 2 == 1) ≡ sign r
unit_is zero = refl
unit_is (suc zero) = refl
unit_is (suc (suc r)) = ap (λ (n : ℕ). unit_of (n == 1)) (parity r) ∙ unit_is r ∙ twice (sign r)
  where
    parity : (r : ℕ) → suc (suc r) % 2 ≡ r % 2
    parity r = omega arith

    twice : (z : ℤ) → z ≡ neg_ℤ (neg_ℤ z)
    twice z = omega (arith, linear)

-- the sum over one face more
sum_append : (xs ys : List ℕ) (f : ℕ → ℤ) → sum_over (xs ++ ys) f ≡ sum_over xs f +ℤ sum_over ys f
sum_append [] ys f = omega (arith, linear)
sum_append (x ∷ xs) ys f = let e = sum_append xs ys f in omega (arith, linear)

pub sum_more : (n : ℕ) (f : ℕ → ℤ) → sum_over (range_with_len 0 (n + 1)) f ≡ sum_over (range_with_len 0 n) f +ℤ f n
sum_more n f = ap (λ (m : ℕ). sum_over (range_with_len 0 m) f) (same n) ∙ ap (λ (xs : List ℕ). sum_over xs f) (range_more 0 n)
    ∙ sum_append (range_with_len 0 n) ((0 + n) ∷ []) f ∙ (let e = ap f (zero_plus n) in omega (arith, linear))
  where
    same : (n : ℕ) → n + 1 ≡ suc n
    same n = omega arith

    zero_plus : (n : ℕ) → 0 + n ≡ n
    zero_plus n = omega arith

-- B is the sum over all faces of the terms that are kept
pub b_is : (table : TableState) (x y : ℕ) (p : ℤ) (q : ℕ)
    → sum_over (range_with_len 0 (length table.faces)) (λ f. kept_term_at table x y f p q) ≡ b (series_of (counted table 0 (λ s. one) (λ s. one))) x y p q
b_is table x y p q = sym (sum_filter (λ f. (numbered table).below f y) (filter (λ f. (numbered table).below x f) (range_with_len 0 (length table.faces)))
    (λ f. term_at table x y f p q)
    ∙ sum_filter (λ f. (numbered table).below x f) (range_with_len 0 (length table.faces)) (λ f. kept ((numbered table).below f y) (term_at table x y f p q)))

-- sizes
pub small_product : (a c : ℤ) → nat_abs a ≤ 4096 → nat_abs c ≤ 4096 → nat_abs (a *ℤ c) ≤ 16777216
small_product a c h k = let m : nat_abs (a *ℤ c) ≤ 4096 * 4096 = rw unsigned_abs-mul (mul-le-mul h k) in omega arith

signed : (d : Bool) (z : ℤ) (m : ℕ) → nat_abs z ≤ m → nat_abs (unit_of d *ℤ z) ≤ m
signed true z m h = omega (arith, ints)
signed false z m h = omega (arith, ints)

pub term_size : (d : Bool) (r i j : ℕ) (left right : List ℤ) → ((k : ℕ) → nat_abs (entry left k) ≤ 4096) → ((k : ℕ) → nat_abs (entry right k) ≤ 4096)
    → nat_abs (term (unit_of d) r (entry left) (entry right) (pos i) j) ≤ 16777216
term_size d r i j left right h k = coefficient_size (unit_of d) r i j (entry left) (entry right) 16777216
    (λ a c. signed d (entry left a *ℤ entry right c) 16777216 (small_product (entry left a) (entry right c) (h a) (k c)))

pub sum_size : (n : ℕ) (s t : ℤ) → nat_abs s ≤ n * 16777216 → nat_abs t ≤ 16777216 → nat_abs (s +ℤ t) ≤ (n + 1) * 16777216
sum_size n s t h k = omega (arith, ints)

pub sum_fits : (n : ℕ) (s t : ℤ) → n ≤ 4096 → nat_abs s ≤ n * 16777216 → nat_abs t ≤ 16777216 → nat_abs (s +ℤ t) < 2 ^ 126
sum_fits n s t l h k = let m = sum_size n s t h k in omega arith

-- what is kept of a face's term
pub none_below : (table : TableState) (x y f : ℕ) (p : ℤ) (q : ℕ) (w : ℤ) → (numbered table).below x f ≡ false → w ≡ w +ℤ kept_term_at table x y f p q
none_below table x y f p q w e = nothing w (kept_term_at table x y f p q)
    (cond-false ((numbered table).below x f) (cond ((numbered table).below f y) (term_at table x y f p q) (pos 0)) (pos 0) e)
  where
    nothing : (w z : ℤ) → z ≡ pos 0 → w ≡ w +ℤ z
    nothing w z e = omega (arith, linear)

pub none_above : (table : TableState) (x y f : ℕ) (p : ℤ) (q : ℕ) (w : ℤ) → (numbered table).below f y ≡ false → w ≡ w +ℤ kept_term_at table x y f p q
none_above table x y f p q w e = nothing w (kept_term_at table x y f p q) (by ((numbered table).below x f))
  where
    nothing : (w z : ℤ) → z ≡ pos 0 → w ≡ w +ℤ z
    nothing w z e = omega (arith, linear)

    inner : cond ((numbered table).below f y) (term_at table x y f p q) (pos 0) ≡ pos 0
    inner = cond-false ((numbered table).below f y) (term_at table x y f p q) (pos 0) e

    by : (a : Bool) → cond a (cond ((numbered table).below f y) (term_at table x y f p q) (pos 0)) (pos 0) ≡ pos 0
    by true = inner
    by false = refl

pub kept_both : (table : TableState) (x y f : ℕ) (p : ℤ) (q : ℕ) → (numbered table).below x f ≡ true → (numbered table).below f y ≡ true
    → kept_term_at table x y f p q ≡ term_at table x y f p q
kept_both table x y f p q e g = cond-true ((numbered table).below x f) (cond ((numbered table).below f y) (term_at table x y f p q) (pos 0)) (pos 0) e
    ∙ cond-true ((numbered table).below f y) (term_at table x y f p q) (pos 0) g

-- degrees, and the term
module _ (table : TableState) (h : HasAllFaces table) (small : HasSmallRanks table) (s : GState) (holds : HoldsG table s) (x f y : ℕ)
    (i : IsInterval table x f) (j : IsInterval table f y) (left right : List ℤ)
    (l : (k : ℕ) → entry left k ≡ g_of s x f k) (r : (k : ℕ) → entry right k ≡ g_dual_of s f y k) where
  left_is : (k : ℕ) → entry left k ≡ g (numbered table) x f k
  left_is k = l k ∙ holds.g x f i k

  right_is : (k : ℕ) → entry right k ≡ g_dual (numbered table) f y k
  right_is k = r k ∙ holds.g_dual f y j k

  left_degree : HasDegreeAtMost (face_at table.faces f).rank (entry left)
  left_degree k m = left_is k ∙ g_degree (numbered table) (graded table h) x f (member table h x i.from) (member table h f i.to) i.below k (omega arith) (omega arith)

  right_degree : HasDegreeAtMost 8 (entry right)
  right_degree k m = right_is k ∙ g_dual_degree (numbered table) (graded table h) f y (member table h f j.from) (member table h y j.to) j.below k (omega arith)
      (let n = rank_small table h small y j.to in omega arith)

  pub fits : (c : ℤ) → HasNoPowerBelow (pos 0) (term c (face_at table.faces f).rank (entry left) (entry right))
      × HasNoPowerAbove 16 16 (term c (face_at table.faces f).rank (entry left) (entry right))
  fits c = terms_fit_lem c (face_at table.faces f).rank (face_at table.faces f).rank 8 (entry left) (entry right) left_degree right_degree (omega arith)
      (let n = rank_small table h small f i.to in omega arith) (let n = rank_small table h small f i.to in omega arith)

  pub term_is : (p : ℤ) (q : ℕ) → term (unit_of ((face_at table.faces f).rank % 2 == 1)) (face_at table.faces f).rank (entry left) (entry right) p q ≡ term_at table x y f p q
  term_is p q = ap (λ (c : ℤ). term c (face_at table.faces f).rank (entry left) (entry right) p q) (unit_is (face_at table.faces f).rank)
      ∙ times_same_left (negsuc 0) (entry left) (g (numbered table) x f) (times_at_product (entry right) (power_of_minus_u (face_at table.faces f).rank)) left_is p q
      ∙ times_same (negsuc 0) (g (numbered table) x f) (times_at_product (entry right) (power_of_minus_u (face_at table.faces f).rank))
      (times_at_product (g_dual (numbered table) f y) (power_of_minus_u (face_at table.faces f).rank))
      (λ p q. times_same_left (pos 1) (entry right) (g_dual (numbered table) f y) (power_of_minus_u (face_at table.faces f).rank) right_is p q) p q

  pub told_fits : (n : ℕ) → n ≡ (face_at table.faces f).rank → (c : ℤ) → HasNoPowerBelow (pos 0) (term c n (entry left) (entry right))
      × HasNoPowerAbove 16 16 (term c n (entry left) (entry right))
  told_fits n e c = rw e (fits c)

  pub told_term : (n : ℕ) → n ≡ (face_at table.faces f).rank → (p : ℤ) (q : ℕ) → term (unit_of (n % 2 == 1)) n (entry left) (entry right) p q ≡ kept_term_at table x y f p q
  told_term n e p q = ap (λ (m : ℕ). term (unit_of (m % 2 == 1)) m (entry left) (entry right) p q) e ∙ term_is p q ∙ sym (kept_both table x y f p q i.below j.below)

-- sums with one term more
pub told_added : (new old t k : ℤ) → new ≡ old +ℤ t → t ≡ k → new ≡ old +ℤ k
told_added new old t k e f = e ∙ ap (λ (z : ℤ). old +ℤ z) f

pub told_size : (new old t : ℤ) (n : ℕ) → new ≡ old +ℤ t → nat_abs old ≤ n * 16777216 → nat_abs t ≤ 16777216 → nat_abs new ≤ (n + 1) * 16777216
told_size new old t n e h k = let f = ap nat_abs e in let m = sum_size n old t h k in omega arith

pub small_power : (a c : ℤ) → nat_abs a ≤ 4096 → nat_abs c ≤ 4096 → nat_abs (a *ℤ c) ≤ 2 ^ 126
small_power a c h k = let m = small_product a c h k in omega arith

pub zero_small : (z : ℤ) → z ≡ pos 0 → nat_abs z ≤ 0 * 16777216
zero_small z e = let f = ap nat_abs e in omega arith
