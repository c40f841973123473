-- Greatest common divisors of values and least multipliers: they exist, and there is only one of each.
use Rattle.std.proofs.Common.{◌≡◌, ◌≢◌, ℕ, zero, suc, ◌+◌, ◌*◌, ◌-◌, ◌/◌, ◌%◌, ◌<◌, ◌≤◌, List, [], ◌∷◌, ℤ, pos, negsuc, ◌+ℤ◌, ◌-ℤ◌, ◌*ℤ◌, nat_abs, refl, sym, ap, subst, ◌∙◌, arith}
use Rattle.std.proofs.lemmas.Int.{ints}
use Rattle.lattice_theory.specs.Vector.{entry, dot, DividesInteger}
use Rattle.lattice_theory.proofs.Integers.{products_out, linear, *ℤ_comm, cancel_left, positive_nonzero, positive_pos, same_natural}
use Rattle.lattice_theory.proofs.Members.{empty, more, each_from_all, all_from_each, each_head, each_tail, each_weaker}
use Rattle.lattice_theory.proofs.Divisibility.{gcd_exists, divides_zero, divides_sum, divides_multiple, divides_itself, zero_divides, divides_through}
use Rattle.weight_frame.specs.Frame.{IsGreatestDivisor, AreLeastMultipliers}

-- divisors of each other are the same
divides_below : (a b : ℕ) (k : ℤ) → 0 < b → k *ℤ pos a ≡ pos b → a ≤ b
divides_below a b (pos zero) h e = absurd (omega (arith, ints))
divides_below a b (pos (suc k)) h e = omega (arith, ints)
divides_below a b (negsuc k) h e = absurd (omega (arith, ints))

divides_both : (a b : ℕ) → DividesInteger a (pos b) → DividesInteger b (pos a) → a ≡ b
divides_both zero zero h k = refl
divides_both zero (suc b) h k = let e = zero_divides (pos (suc b)) h in omega (arith, ints)
divides_both (suc a) zero h k = let e = zero_divides (pos (suc a)) k in omega (arith, ints)
divides_both (suc a) (suc b) (h, e) (k, f) =
    let m = divides_below (suc a) (suc b) h (omega arith) e in
    let n = divides_below (suc b) (suc a) k (omega arith) f in
    omega arith

-- there is one greatest common divisor
pub greatest_unique : (values : List ℤ) (g h : ℕ) → IsGreatestDivisor values g → IsGreatestDivisor values h → g ≡ h
greatest_unique values g h p q = divides_both g h (q.greatest g p.divides) (p.greatest h q.divides)

-- that of no values is 0
pub greatest_none : IsGreatestDivisor [] 0
greatest_none = record { divides = all_from_each empty; greatest = λ d h. divides_zero d }

-- the first two coefficients
no_second : (b v a : ℤ) → b *ℤ v +ℤ pos 0 ≡ b *ℤ v +ℤ pos 0 *ℤ a
no_second b v a = simp products_out

no_third : (b v d a e : ℤ) → e ≡ pos 0 → b *ℤ v +ℤ (d *ℤ a +ℤ e) ≡ b *ℤ v +ℤ d *ℤ a
no_third b v d a e z = omega (arith, linear)

first_two : (c : List ℤ) (v a : ℤ) → dot c (v ∷ a ∷ []) ≡ entry c 0 *ℤ v +ℤ entry c 1 *ℤ a
first_two [] v a = simp products_out
first_two (b ∷ []) v a = no_second b v a
first_two (b ∷ d ∷ []) v a = no_third b v d a (pos 0) refl
first_two (b ∷ d ∷ e ∷ c) v a = no_third b v d a (pos 0) refl

-- the quotient of an integer by a positive number, rounded down, and the rest
pub record HasRest (a : ℤ) (p : ℕ) : Type 0 where
  pub quotient : ℤ
  pub rest : ℕ
  pub whole : quotient *ℤ pos p +ℤ pos rest ≡ a
  pub below : rest < p

pub negative_rest : (a p q r s : ℕ) → a ≡ q * p + r → r + suc s ≡ p → negsuc q *ℤ pos p +ℤ pos s ≡ negsuc a
negative_rest a p q r s e f = omega (arith, ints)

pub rest_exists : (a : ℤ) (p : ℕ) → 0 < p → HasRest a p
rest_exists (pos a) p h = record { quotient = pos (a / p); rest = a % p; whole = omega (arith, ints); below = omega arith }
rest_exists (negsuc a) p h = record {
  quotient = negsuc (a / p);
  rest = p - suc (a % p);
  whole = negative_rest a p (a / p) (a % p) (p - suc (a % p)) (omega arith) (omega arith);
  below = omega arith;
}

-- the greatest common divisor of one value more: it is that of the value and the one behind, of which it is a combination
pub record HasCombination (v : ℤ) (after g : ℕ) : Type 0 where
  pub left : ℤ
  pub right : ℤ
  pub combination : left *ℤ v +ℤ right *ℤ pos after ≡ pos g
  pub divides_left : DividesInteger g v
  pub divides_right : DividesInteger g (pos after)

combination_exists : (v : ℤ) (after : ℕ) → (g : ℕ) × HasCombination v after g
combination_exists v after = let h = gcd_exists (v ∷ pos after ∷ []) in (
  h.0,
  record {
    left = entry h.1.coefficients 0;
    right = entry h.1.coefficients 1;
    combination = sym (first_two h.1.coefficients v (pos after)) ∙ h.1.combination;
    divides_left = each_head h.1.divides;
    divides_right = each_head (each_tail h.1.divides);
  },
)

pub greatest_more : (v : ℤ) (values : List ℤ) (after g : ℕ) → IsGreatestDivisor values after → HasCombination v after g
    → IsGreatestDivisor (v ∷ values) g
greatest_more v values after g h c = record {
  divides = all_from_each (more c.divides_left (each_weaker (λ a. divides_through g after a c.divides_right)
      (each_from_all (DividesInteger after) values h.divides)));
  greatest = λ d all. let each = each_from_all (DividesInteger d) (v ∷ values) all in
      subst (DividesInteger d) c.combination
      (divides_sum d (c.left *ℤ v) (c.right *ℤ pos after) (divides_multiple d c.left v (each_head each))
      (divides_multiple d c.right (pos after) (h.greatest d (all_from_each (each_tail each)))));
}

-- it divides the value and the one behind
pub greatest_head : (v : ℤ) (values : List ℤ) (g : ℕ) → IsGreatestDivisor (v ∷ values) g → DividesInteger g v
greatest_head v values g h = each_head (each_from_all (DividesInteger g) (v ∷ values) h.divides)

-- the quotient of positive numbers
positive_quotient : (k : ℤ) (g after : ℕ) → 0 < after → k *ℤ pos g ≡ pos after → (p : ℕ) × (p * g ≡ after) × (0 < p)
positive_quotient (pos zero) g after h e = absurd (omega (arith, ints))
positive_quotient (pos (suc p)) g after h e = (suc p, omega (arith, ints), omega arith)
positive_quotient (negsuc p) g after h e = absurd (omega (arith, ints))

-- the multipliers
pub record HasMultipliers (v : ℤ) (after g : ℕ) : Type 0 where
  pub p : ℕ
  pub q : ℤ
  pub s : ℕ
  pub t : ℤ
  pub are : AreLeastMultipliers v after g p q s t

pub pos_product : (p g a : ℕ) → p * g ≡ a → pos p *ℤ pos g ≡ pos a
pos_product p g a e = omega (arith, ints)

pub least_combination : (v a g p q s t m l : ℤ) → p *ℤ g ≡ a → q *ℤ g ≡ v → m *ℤ p +ℤ s ≡ l → l *ℤ v +ℤ t *ℤ a ≡ g
    → s *ℤ v +ℤ (t +ℤ m *ℤ q) *ℤ a ≡ g
least_combination v a g p q s t m l e f h k =
    let e' = simp products_out at (ap (λ (z : ℤ). (m *ℤ q) *ℤ z) e) in
    let f' = simp products_out at (ap (λ (z : ℤ). (m *ℤ p) *ℤ z) f) in
    let h' = simp products_out at (ap (λ (z : ℤ). z *ℤ v) h) in
    let k' = simp products_out at k in
    simp products_out (omega (arith, linear))

pub multipliers_exist : (v : ℤ) (after g : ℕ) → 0 < after → HasCombination v after g → HasMultipliers v after g
multipliers_exist v after g h c =
    let p = positive_quotient c.divides_right.0 g after h c.divides_right.1 in
    let r = rest_exists c.left p.0 p.2 in
    record {
      p = p.0;
      q = c.divides_left.0;
      s = r.rest;
      t = c.right +ℤ r.quotient *ℤ c.divides_left.0;
      are = record {
        behind = p.1;
        here = c.divides_left.1;
        combination = least_combination v (pos after) (pos g) (pos p.0) c.divides_left.0 (pos r.rest) c.right r.quotient c.left
            (pos_product p.0 g after p.1) c.divides_left.1 r.whole c.combination;
        least = r.below;
      };
    }

-- where they are divided by the greatest common divisor
pub unit_combination : (v a g p q s t : ℤ) → g ≢ pos 0 → p *ℤ g ≡ a → q *ℤ g ≡ v → s *ℤ v +ℤ t *ℤ a ≡ g → s *ℤ q +ℤ t *ℤ p ≡ pos 1
unit_combination v a g p q s t n e f k = cancel_left g (s *ℤ q +ℤ t *ℤ p) (pos 1) n (
    let e' = simp products_out at (ap (λ (z : ℤ). t *ℤ z) e) in
    let f' = simp products_out at (ap (λ (z : ℤ). s *ℤ z) f) in
    let k' = simp products_out at k in
    simp products_out (omega (arith, linear)))

-- a multiple of p between -p and p
close_numbers : (s s' p : ℕ) (k : ℤ) → s < p → s' < p → pos s -ℤ pos s' ≡ k *ℤ pos p → s ≡ s'
close_numbers s s' p (pos zero) h h' e = omega (arith, ints)
close_numbers s s' p (pos (suc k)) h h' e = absurd (omega (arith, ints))
close_numbers s s' p (negsuc k) h h' e = absurd (omega (arith, ints))

-- the difference of two first multipliers
multiple_apart : (p q s t s' t' : ℤ) → s *ℤ q +ℤ t *ℤ p ≡ pos 1 → s' *ℤ q +ℤ t' *ℤ p ≡ pos 1
    → s -ℤ s' ≡ ((t' -ℤ t) *ℤ s +ℤ (s -ℤ s') *ℤ t) *ℤ p
multiple_apart p q s t s' t' e f =
    let e' = simp products_out at (ap (λ (z : ℤ). s' *ℤ z) e) in
    let f' = simp products_out at (ap (λ (z : ℤ). s *ℤ z) f) in
    simp products_out (omega (arith, linear))

-- the second multiplier is what is left
second_left : (v a s t t' g : ℤ) → a ≢ pos 0 → s *ℤ v +ℤ t *ℤ a ≡ g → s *ℤ v +ℤ t' *ℤ a ≡ g → t ≡ t'
second_left v a s t t' g n e f = cancel_left a t t' n (let e' = simp products_out at e in let f' = simp products_out at f in
    omega (arith, linear))

same_quotient : (q q' g v : ℤ) → g ≢ pos 0 → q *ℤ g ≡ v → q' *ℤ g ≡ v → q ≡ q'
same_quotient q q' g v n e f = cancel_left g q q' n (*ℤ_comm g q ∙ e ∙ sym f ∙ *ℤ_comm q' g)

-- the greatest common divisor isn't 0
divisor_positive : (p g after : ℕ) → 0 < after → p * g ≡ after → 0 < g
divisor_positive p zero after h e = absurd (omega arith)
divisor_positive p (suc g) after h e = omega arith

pub divisor_nonzero : (p g after : ℕ) → 0 < after → p * g ≡ after → pos g ≢ pos 0
divisor_nonzero p g after h e = positive_nonzero (pos g) (positive_pos g (divisor_positive p g after h e))

pub after_nonzero : (after : ℕ) → 0 < after → pos after ≢ pos 0
after_nonzero after h = positive_nonzero (pos after) (positive_pos after h)

-- there are no others
pub record AreSame (p p' : ℕ) (q q' : ℤ) (s s' : ℕ) (t t' : ℤ) : Type 0 where
  pub behind : p ≡ p'
  pub here : q ≡ q'
  pub first : s ≡ s'
  pub second : t ≡ t'

first_unique : (v : ℤ) (after g p : ℕ) (q : ℤ) (s : ℕ) (t : ℤ) (s' : ℕ) (t' : ℤ) → 0 < after → AreLeastMultipliers v after g p q s t
    → AreLeastMultipliers v after g p q s' t' → s ≡ s'
first_unique v after g p q s t s' t' h m n =
    let nonzero = divisor_nonzero p g after h m.behind in
    let whole = pos_product p g after m.behind in
    let e = unit_combination v (pos after) (pos g) (pos p) q (pos s) t nonzero whole m.here m.combination in
    let f = unit_combination v (pos after) (pos g) (pos p) q (pos s') t' nonzero whole n.here n.combination in
    close_numbers s s' p ((t' -ℤ t) *ℤ pos s +ℤ (pos s -ℤ pos s') *ℤ t) m.least n.least (multiple_apart (pos p) q (pos s) t (pos s') t' e f)

multipliers_apart : (v : ℤ) (after g p : ℕ) (q : ℤ) (s : ℕ) (t : ℤ) (p' : ℕ) (q' : ℤ) (s' : ℕ) (t' : ℤ) → 0 < after → p ≡ p' → q ≡ q'
    → AreLeastMultipliers v after g p q s t → AreLeastMultipliers v after g p' q' s' t'
    → AreSame p p' q q' s s' t t'
multipliers_apart v after g p q s t p' q' s' t' h e f m n =
    let n' : AreLeastMultipliers v after g p q s' t' = rw (e, f) n in
    let first = first_unique v after g p q s t s' t' h m n' in
    record {
      behind = e;
      here = f;
      first = first;
      second = second_left v (pos after) (pos s) t t' (pos g) (after_nonzero after h) m.combination (rw first n.combination);
    }

pub multipliers_unique : (v : ℤ) (after g p : ℕ) (q : ℤ) (s : ℕ) (t : ℤ) (p' : ℕ) (q' : ℤ) (s' : ℕ) (t' : ℤ) → 0 < after
    → AreLeastMultipliers v after g p q s t → AreLeastMultipliers v after g p' q' s' t'
    → AreSame p p' q q' s s' t t'
multipliers_unique v after g p q s t p' q' s' t' h m n =
    let nonzero = divisor_nonzero p g after h m.behind in
    multipliers_apart v after g p q s t p' q' s' t' h
    (same_natural p p' (same_quotient (pos p) (pos p') (pos g) (pos after) nonzero (pos_product p g after m.behind)
    (pos_product p' g after n.behind)))
    (same_quotient q q' (pos g) v nonzero m.here n.here) m n

-- a value alone, where the ones behind are 0
pub alone : (v : ℤ) → HasCombination v 0 (nat_abs v)
alone (pos m) = record {
  left = pos 1;
  right = pos 0;
  combination = omega (arith, ints);
  divides_left = divides_itself m;
  divides_right = divides_zero m;
}
alone (negsuc m) = record {
  left = negsuc 0;
  right = pos 0;
  combination = omega (arith, ints);
  divides_left = (negsuc 0, omega (arith, ints));
  divides_right = divides_zero (suc m);
}

pub only_value : (v : ℤ) (values : List ℤ) (after g : ℕ) → after ≡ 0 → IsGreatestDivisor values after → IsGreatestDivisor (v ∷ values) g
    → g ≡ nat_abs v
only_value v values after g e h k =
    greatest_unique (v ∷ values) g (nat_abs v) k (greatest_more v values 0 (nat_abs v) (subst (IsGreatestDivisor values) e h) (alone v))

-- the next greatest common divisor, with the combination that gives it
pub record HasNextDivisor (v : ℤ) (values : List ℤ) (after : ℕ) : Type 0 where
  pub divisor : ℕ
  pub greatest : IsGreatestDivisor (v ∷ values) divisor
  pub combination : HasCombination v after divisor

pub next_divisor : (v : ℤ) (values : List ℤ) (after : ℕ) → IsGreatestDivisor values after → HasNextDivisor v values after
next_divisor v values after h = let c = combination_exists v after in
    record { divisor = c.0; greatest = greatest_more v values after c.0 h c.1; combination = c.1 }
