-- The coefficients of G by one sum over an interval.
use Rattle.std.proofs.Common.{◌≡◌, ◌≢◌, ◌⊎◌, inl, inr, ℕ, zero, suc, ◌*◌, ◌-◌, ◌<◌, ◌≤◌, ◌==◌, nat_lt, ◌&&◌, not, Bool, true, false, cond, length, ℤ}
use Rattle.std.proofs.Common.{pos, negsuc, ◌*ℤ◌, neg_ℤ, refl, sym, ap, subst, ◌∙◌, eq-eqb, arith}
use Rattle.std.proofs.lemmas.Bool.{and_parts, cases_Bool, le-ltb, lt-ltb, cond-true, cond-false, eqb-true}
use Rattle.std.specs.List.{Contains, range_with_len}
use Rattle.lattice_theory.proofs.Integers.{linear, one-*ℤ, minus_one-*ℤ, zero-*ℤ, *ℤ-zero}
use Rattle.lattice_theory.proofs.Members.{contains_from_in}
use Rattle.face_theory.proofs.Sets.{true_false}
use Rattle.face_poset.specs.Faces.{TableState}
use Rattle.polynomial_theory.specs.Sums.{sum_over}
use Rattle.polynomial_theory.specs.Series.{Series, product, power, one, t_minus_1, one_minus_t}
use Rattle.polynomial_theory.proofs.Sums.{kept, sum_filter, sum_filter_same, sum_same_in, splits_same, splits_scaled}
use Rattle.polynomial_theory.proofs.KeySums.{product_sum}
use Rattle.polynomial_theory.proofs.Times.{times_of_product}
use Rattle.stringy_theory.specs.Eulerian.{Order, strictly, members_above, sum_above, g, g_dual, upside_down, IsGraded}
use Rattle.stringy_theory.proofs.UniqueIntervals.{g_meets, graded_down}
use Rattle.stringy_theory.proofs.RisingRanks.{ranks_suffice_lem}
use Rattle.stringy_theory.proofs.RankedTables.{number_within}
use Rattle.poset_g.specs.Numbered.{counted, numbered, IsInterval, HasAllFaces}
use Rattle.poset_g.specs.Stored.{PlacesState}
use Rattle.poset_g.specs.Values.{Place, coefficient, gap_of, polynomial}
use Rattle.poset_g.specs.PlaceSteps.{ArePlaces}
use Rattle.poset_g.specs.FillSteps.{between, is_between, kept_term, negative_sum}
use Rattle.poset_g.proofs.NumberedFaces.{ranks_rise_lem}
use Rattle.poset_g.proofs.IntervalNumbers.{between_is}
use Rattle.poset_g.proofs.Ranges.{contains_number}

-- 1 - t is t - 1 with the opposite sign
opposite : (a : ℕ) (z : ℤ) → one_minus_t a *ℤ z ≡ negsuc 0 *ℤ (t_minus_1 a *ℤ z)
opposite zero z = rw (one-*ℤ z, minus_one-*ℤ z, minus_one-*ℤ (neg_ℤ z)) (omega (arith, linear))
opposite (suc zero) z = ap (λ (x : ℤ). negsuc 0 *ℤ x) (sym (one-*ℤ z))
opposite (suc (suc a)) z = zero-*ℤ z ∙ sym (ap (λ (x : ℤ). negsuc 0 *ℤ x) (zero-*ℤ z) ∙ *ℤ-zero (negsuc 0))

times_opposite : (F : Series) (k : ℕ) → product one_minus_t F k ≡ neg_ℤ (product t_minus_1 F k)
times_opposite F k = splits_same k (λ a b. one_minus_t a *ℤ F b) (λ a b. negsuc 0 *ℤ (t_minus_1 a *ℤ F b)) (λ a b. opposite a (F b))
    ∙ splits_scaled (negsuc 0) k (λ a b. t_minus_1 a *ℤ F b) ∙ minus_one-*ℤ (product t_minus_1 F k)

-- one power of t - 1 more
power_more : (n m : ℕ) (G : Series) (k : ℕ) → suc n ≡ m → product t_minus_1 (product (power t_minus_1 n) G) k ≡ product (power t_minus_1 m) G k
power_more n m G k e = sym (times_of_product (pos 0) t_minus_1 (power t_minus_1 n) (λ p q. G q) (pos 0) k) ∙ ap (λ (i : ℕ). product (power t_minus_1 i) G k) e

module _ (o : Order ℕ) (r : IsGraded o) where
  -- a step up is a gap
  gap_is : (x z : ℕ) → Contains o.members x → Contains o.members z → strictly o x z ≡ true → suc (o.gap x z - 1) ≡ o.gap x z
  gap_is x z i j s = let f = r.falls x z z i j j s (r.reflexive z j) in omega arith

  -- below half of the gap
  pub low : (x y k : ℕ) → Contains o.members x → Contains o.members y → strictly o x y ≡ true → 2 * k < o.gap x y
      → g o x y k ≡ neg_ℤ (sum_over (members_above o x y) (λ z. product (power t_minus_1 (o.gap x z)) (g o z y) k))
  low x y k i j s h = (g_meets o r).step x y i j s k
      ∙ cond-true (nat_lt (2 * k) (o.gap x y)) (product one_minus_t (sum_above o (g o) x y) k) (pos 0) (lt-ltb (2 * k) (o.gap x y) h)
      ∙ times_opposite (sum_above o (g o) x y) k
      ∙ ap neg_ℤ (sym (product_sum t_minus_1 (members_above o x y) (λ z. product (power t_minus_1 (o.gap x z - 1)) (g o z y)) k)
      ∙ sum_filter_same (λ z. strictly o x z && o.below z y) o.members (λ z. product t_minus_1 (product (power t_minus_1 (o.gap x z - 1)) (g o z y)) k)
      (λ z. product (power t_minus_1 (o.gap x z)) (g o z y) k)
      (λ z l t. power_more (o.gap x z - 1) (o.gap x z) (g o z y) k (gap_is x z i (contains_from_in l) ((and_parts (strictly o x z) (o.below z y) t).0))))

  -- and from it on
  pub high : (x y k : ℕ) → Contains o.members x → Contains o.members y → strictly o x y ≡ true → o.gap x y ≤ 2 * k → g o x y k ≡ pos 0
  high x y k i j s h = (g_meets o r).step x y i j s k
      ∙ cond-false (nat_lt (2 * k) (o.gap x y)) (product one_minus_t (sum_above o (g o) x y) k) (pos 0) (le-ltb (2 * k) (o.gap x y) h)

  pub same : (x k : ℕ) → Contains o.members x → g o x x k ≡ one k
  same x k i = (g_meets o r).same x i k

-- the end itself is left out
dropped : (a b c d : Bool) (z : ℤ) → (c ≡ true → d ≡ true) → (a ≡ true → d ≡ true → c ≡ true) → kept (a && b) (cond c (pos 0) z) ≡ kept ((a && not d) && b) z
dropped false b c d z h k = refl
dropped true false true true z h k = refl
dropped true false true false z h k = refl
dropped true false false true z h k = refl
dropped true false false false z h k = refl
dropped true true true true z h k = refl
dropped true true true false z h k = absurd (true_false (h refl) refl)
dropped true true false true z h k = absurd (true_false (k refl refl) refl)
dropped true true false false z h k = refl

other_way : (a b : Bool) → (a && b) ≡ (b && a)
other_way true true = refl
other_way true false = refl
other_way false true = refl
other_way false false = refl

module _ (table : TableState) (h : HasAllFaces table) where
  pub graded : IsGraded (numbered table)
  graded = (ranks_suffice_lem (counted table 0 (λ x. one) (λ x. one)) (ranks_rise_lem table h 0 (λ x. one) (λ x. one))).1

  pub member : (x : ℕ) → x < length table.faces → Contains (numbered table).members x
  member x l = contains_number (length table.faces) x l

  pub strict : (x y : ℕ) → IsInterval table x y → (x ≢ y) → strictly (numbered table) x y ≡ true
  strict x y i n = by (cases_Bool ((numbered table).below y x))
    where
      by : ((numbered table).below y x ≡ true) ⊎ ((numbered table).below y x ≡ false) → strictly (numbered table) x y ≡ true
      by (inl t) = absurd (n (graded.antisymmetric x y (member x i.from) (member y i.to) i.below t))
      by (inr f) = ap (λ (b : Bool). b && not ((numbered table).below y x)) i.below ∙ ap not f

  module _ (s : PlacesState) (places : ArePlaces (numbered table) (length table.faces) s) where
    -- the sum over all between the ends is that over those above the first, or below the last
    pub between_above : (x y k : ℕ) → x < length table.faces → y < length table.faces
        → sum_over (between s x y) (kept_term table (record { from = x; to = y; dual = false; degree = k }))
        ≡ sum_over (members_above (numbered table) x y) (λ z. product (power t_minus_1 ((numbered table).gap x z)) (g (numbered table) z y) k)
    between_above x y k l m = sum_filter (is_between s x y) (range_with_len 0 s.count) (kept_term table (record { from = x; to = y; dual = false; degree = k }))
        ∙ ap (λ (n : ℕ). sum_over (range_with_len 0 n) (λ z. kept (is_between s x y z) (kept_term table
        (record { from = x; to = y; dual = false; degree = k }) z))) places.count_is
        ∙ sum_same_in (range_with_len 0 (length table.faces)) (λ z. kept (is_between s x y z) (kept_term table (record { from = x; to = y; dual = false; degree = k }) z))
        (λ z. kept (strictly (numbered table) x z && (numbered table).below z y) (product (power t_minus_1 ((numbered table).gap x z)) (g (numbered table) z y) k))
        (λ z i. at z (number_within (length table.faces) z (contains_from_in i)))
        ∙ sym (sum_filter (λ z. strictly (numbered table) x z && (numbered table).below z y) (range_with_len 0 (length table.faces))
        (λ z. product (power t_minus_1 ((numbered table).gap x z)) (g (numbered table) z y) k))
      where
        at : (z : ℕ) → z < length table.faces → kept (is_between s x y z) (kept_term table (record { from = x; to = y; dual = false; degree = k }) z)
            ≡ kept (strictly (numbered table) x z && (numbered table).below z y) (product (power t_minus_1 ((numbered table).gap x z)) (g (numbered table) z y) k)
        at z n = ap (λ (b : Bool). kept b (kept_term table (record { from = x; to = y; dual = false; degree = k }) z)) (between_is table s places x y z l m n)
            ∙ dropped ((numbered table).below x z) ((numbered table).below z y) (z == x) ((numbered table).below z x)
            (product (power t_minus_1 ((numbered table).gap x z)) (g (numbered table) z y) k)
            (λ e. subst (λ (i : ℕ). (numbered table).below z i ≡ true) (eqb-true z x e) (graded.reflexive z (member z n)))
            (λ a b. eq-eqb z x (graded.antisymmetric z x (member z n) (member x l) b a))

    pub between_below : (x y k : ℕ) → x < length table.faces → y < length table.faces
        → sum_over (between s x y) (kept_term table (record { from = x; to = y; dual = true; degree = k }))
        ≡ sum_over (members_above (upside_down (numbered table)) y x) (λ z. product (power t_minus_1 ((numbered table).gap z y)) (g_dual (numbered table) x z) k)
    between_below x y k l m = sum_filter (is_between s x y) (range_with_len 0 s.count) (kept_term table (record { from = x; to = y; dual = true; degree = k }))
        ∙ ap (λ (n : ℕ). sum_over (range_with_len 0 n) (λ z. kept (is_between s x y z) (kept_term table
        (record { from = x; to = y; dual = true; degree = k }) z))) places.count_is
        ∙ sum_same_in (range_with_len 0 (length table.faces)) (λ z. kept (is_between s x y z) (kept_term table (record { from = x; to = y; dual = true; degree = k }) z))
        (λ z. kept (strictly (upside_down (numbered table)) y z && (numbered table).below x z) (product (power t_minus_1 ((numbered table).gap z y))
        (g_dual (numbered table) x z) k))
        (λ z i. at z (number_within (length table.faces) z (contains_from_in i)))
        ∙ sym (sum_filter (λ z. strictly (upside_down (numbered table)) y z && (numbered table).below x z) (range_with_len 0 (length table.faces))
        (λ z. product (power t_minus_1 ((numbered table).gap z y)) (g_dual (numbered table) x z) k))
      where
        at : (z : ℕ) → z < length table.faces → kept (is_between s x y z) (kept_term table (record { from = x; to = y; dual = true; degree = k }) z)
            ≡ kept (strictly (upside_down (numbered table)) y z && (numbered table).below x z) (product (power t_minus_1 ((numbered table).gap z y))
            (g_dual (numbered table) x z) k)
        at z n = ap (λ (b : Bool). kept b (kept_term table (record { from = x; to = y; dual = true; degree = k }) z))
            (between_is table s places x y z l m n ∙ other_way ((numbered table).below x z) ((numbered table).below z y))
            ∙ dropped ((numbered table).below z y) ((numbered table).below x z) (z == y) ((numbered table).below y z)
            (product (power t_minus_1 ((numbered table).gap z y)) (g_dual (numbered table) x z) k)
            (λ e. subst (λ (i : ℕ). (numbered table).below i z ≡ true) (eqb-true z y e) (graded.reflexive z (member z n)))
            (λ a b. eq-eqb z y (graded.antisymmetric z y (member z n) (member y m) a b))

    -- a coefficient below half of the gap
    pub low_at : (p : Place) → IsInterval table p.from p.to → (p.from ≢ p.to) → 2 * p.degree < gap_of table p
        → negative_sum table p (between s p.from p.to) ≡ coefficient table p
    low_at p i n l = by p.dual refl
      where
        by : (d : Bool) → p.dual ≡ d → negative_sum table p (between s p.from p.to) ≡ coefficient table p
        by false e = subst (λ (d : Bool). negative_sum table (record { from = p.from; to = p.to; dual = d; degree = p.degree }) (between s p.from p.to)
            ≡ coefficient table (record { from = p.from; to = p.to; dual = d; degree = p.degree })) (sym e)
            (ap neg_ℤ (between_above p.from p.to p.degree i.from i.to)
            ∙ sym (low (numbered table) graded p.from p.to p.degree (member p.from i.from) (member p.to i.to) (strict p.from p.to i n) l))
        by true e = subst (λ (d : Bool). negative_sum table (record { from = p.from; to = p.to; dual = d; degree = p.degree }) (between s p.from p.to)
            ≡ coefficient table (record { from = p.from; to = p.to; dual = d; degree = p.degree })) (sym e)
            (ap neg_ℤ (between_below p.from p.to p.degree i.from i.to)
            ∙ sym (low (upside_down (numbered table)) (graded_down (numbered table) graded) p.to p.from p.degree (member p.to i.to) (member p.from i.from)
            (strict p.from p.to i n) l))

  -- the others
  pub high_at : (p : Place) → IsInterval table p.from p.to → (p.from ≢ p.to) → gap_of table p ≤ 2 * p.degree → coefficient table p ≡ pos 0
  high_at p i n l = by p.dual
    where
      by : (d : Bool) → polynomial table d p.from p.to p.degree ≡ pos 0
      by false = high (numbered table) graded p.from p.to p.degree (member p.from i.from) (member p.to i.to) (strict p.from p.to i n) l
      by true = high (upside_down (numbered table)) (graded_down (numbered table) graded) p.to p.from p.degree (member p.to i.to)
          (member p.from i.from) (strict p.from p.to i n) l

  pub same_at : (p : Place) → p.from < length table.faces → p.from ≡ p.to → coefficient table p ≡ one p.degree
  same_at p l e = by p.dual
    where
      by : (d : Bool) → polynomial table d p.from p.to p.degree ≡ one p.degree
      by false = subst (λ (y : ℕ). g (numbered table) p.from y p.degree ≡ one p.degree) e (same (numbered table) graded p.from p.degree (member p.from l))
      by true = subst (λ (y : ℕ). g_dual (numbered table) p.from y p.degree ≡ one p.degree) e
          (same (upside_down (numbered table)) (graded_down (numbered table) graded) p.from p.degree (member p.from l))
