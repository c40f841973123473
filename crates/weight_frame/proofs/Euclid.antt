-- What Euclid's steps keep, and what their end gives: the least multipliers.
use Rattle.std.proofs.Common.{◌≡◌, ℕ, zero, suc, ◌+◌, ◌-◌, ◌*◌, ◌/◌, ◌%◌, ◌<◌, ◌≤◌, ℤ, pos, negsuc, ◌+ℤ◌, ◌-ℤ◌, ◌*ℤ◌, neg_ℤ, nat_abs, List, ◌∷◌, refl, sym, ap, subst, ◌∙◌, arith, mul_comm}
use Rattle.std.specs.Int.{◌∣◌, int_rem_euclid}
use Rattle.std.specs.Int.RustNames.{int_div}
use Rattle.std.proofs.lemmas.Int.{ints, unsigned_abs-mul}
use Rattle.std.proofs.lemmas.Nat.Gcd.{le_of_dvd}
use native.Mathlib.Nat.{dvd-mul_left, eq-zero_of_zero-dvd}
use Rattle.std.proofs.Math.Nat.{mul-div_cancel', div-mul_cancel, le_of_mul-le-mul_left}
use Rattle.lattice_theory.specs.Vector.{DividesInteger}
use Rattle.lattice_theory.proofs.Integers.{products_out, linear, *ℤ_comm, minus_one-*ℤ, zero-*ℤ}
use Rattle.lattice_core.proofs.CommonDivisors.{exact_quotient}
use Rattle.lattice_theory.proofs.Divisibility.{divides_sum, divides_multiple}
use Rattle.weight_frame.specs.Frame.{AreLeastMultipliers, IsGreatestDivisor}
use Rattle.weight_frame.specs.steps.Euclid.{IsCongruent, IsBezout}
use Rattle.weight_frame.proofs.Bounds.{product_bound}
use Rattle.weight_frame.proofs.Divisors.{greatest_more, least_combination, pos_product, negative_rest}

-- a division with its rest
pub split_natural : (a b q r : ℕ) → a ≡ q * b + r → pos a ≡ pos q *ℤ pos b +ℤ pos r
split_natural a b q r e = omega (arith, ints)

-- the two congruences go on
pub congruent_step : (a : ℕ) (r f l n g s q h : ℤ) → g ≡ q *ℤ s +ℤ h → n ≡ f -ℤ q *ℤ l → IsCongruent a (f *ℤ r) g → IsCongruent a (l *ℤ r) s
    → IsCongruent a (n *ℤ r) h
congruent_step a r f l n g s q h e en (x, ex) (y, ey) = (x -ℤ q *ℤ y, congruent_numbers (pos a) r f l n g s q h x y e en ex ey)
  where
    congruent_numbers : (a r f l n g s q h x y : ℤ) → g ≡ q *ℤ s +ℤ h → n ≡ f -ℤ q *ℤ l → x *ℤ a ≡ f *ℤ r -ℤ g → y *ℤ a ≡ l *ℤ r -ℤ s
        → (x -ℤ q *ℤ y) *ℤ a ≡ n *ℤ r -ℤ h
    congruent_numbers a r f l n g s q h x y e en ex ey =
        let e' = simp products_out at e in
        let en' = simp products_out at (ap (λ (w : ℤ). w *ℤ r) en) in
        let ex' = simp products_out at ex in
        let ey' = simp products_out at (ap (λ (w : ℤ). q *ℤ w) ey) in
        simp products_out (omega (arith, linear))

-- at the start
pub congruent_start : (a : ℕ) (r : ℤ) → IsCongruent a (pos 0 *ℤ r) (pos a)
congruent_start a r = (negsuc 0, start_number (pos a) r)
  where
    start_number : (a r : ℤ) → negsuc 0 *ℤ a ≡ pos 0 *ℤ r -ℤ a
    start_number a r = rw (minus_one-*ℤ a, zero-*ℤ r) (omega (arith, linear))

pub congruent_first : (a : ℕ) (r : ℤ) → IsCongruent a (pos 1 *ℤ r) r
congruent_first a r = (pos 0, simp products_out (omega (arith, linear)))

-- the rest of a value
pub rest_is : (v : ℤ) (n : ℕ) → 0 < n → (k : ℤ) × (v ≡ k *ℤ pos n +ℤ int_rem_euclid v (pos n))
rest_is (pos a) n h = (pos (a / n), omega (arith, ints))
rest_is (negsuc a) n h = (negsuc (a / n), sym (negative_rest a n (a / n) (a % n) (n - 1 - a % n) (omega arith) (omega arith)))

-- the two forms of a divisor
pub divides_natural : (d n : ℕ) → d ∣ n → DividesInteger d (pos n)
divides_natural d n h = let e : d * (n / d) ≡ n = mul-div_cancel' d h in (pos (n / d), omega (arith, ints))

pub natural_divides : (d : ℕ) (v : ℤ) → DividesInteger d v → d ∣ nat_abs v
natural_divides d v (k, e) = subst (λ (n : ℕ). d ∣ n) (sym (unsigned_abs-mul k (pos d)) ∙ ap nat_abs e) (dvd-mul_left d (nat_abs k))

-- the end of Euclid's steps gives the least multipliers
positive_divisor : (d after : ℕ) → 0 < after → d ∣ after → 0 < d
positive_divisor zero after h k = let z = eq-zero_of_zero-dvd k in absurd (omega arith)
positive_divisor (suc d) after h k = omega arith

pub positive_part : (p d after : ℕ) → 0 < after → p * d ≡ after → 0 < p
positive_part zero d after h e = absurd (omega arith)
positive_part (suc p) d after h e = omega arith

value_combination : (v a k r m d y : ℤ) → v ≡ k *ℤ a +ℤ r → y *ℤ a ≡ m *ℤ r -ℤ d → m *ℤ v +ℤ neg_ℤ (m *ℤ k +ℤ y) *ℤ a ≡ d
value_combination v a k r m d y e f =
    let e' = simp products_out at (ap (λ (z : ℤ). m *ℤ z) e) in
    let f' = simp products_out at f in
    simp products_out (omega (arith, linear))

what_is_left : (s v t a g : ℤ) → s *ℤ v +ℤ t *ℤ a ≡ g → t *ℤ a ≡ g -ℤ s *ℤ v
what_is_left s v t a g e = omega (arith, linear)

second_from : (s v t a g l : ℤ) → l ≡ g -ℤ s *ℤ v → a *ℤ t ≡ l → s *ℤ v +ℤ t *ℤ a ≡ g
second_from s v t a g l e f = let f' = *ℤ_comm t a ∙ f ∙ e in omega (arith, linear)

divides_value : (d after r : ℕ) (v k : ℤ) → v ≡ k *ℤ pos after +ℤ pos r → d ∣ after → d ∣ r → DividesInteger d v
divides_value d after r v k e h i =
    subst (DividesInteger d) (sym e) (divides_sum d (k *ℤ pos after) (pos r) (divides_multiple d k (pos after) (divides_natural d after h))
    (divides_natural d r i))

pub multipliers_found : (v : ℤ) (r after d : ℕ) (m : ℤ) (s : ℕ) → 0 < after → pos r ≡ int_rem_euclid v (pos after) → IsBezout r after d m
    → pos s ≡ int_rem_euclid m (pos (after / d)) → s < after / d
    → AreLeastMultipliers v after d (after / d) (int_div v (pos d)) s (int_div (pos d -ℤ pos s *ℤ v) (pos after))
multipliers_found v r after d m s h er found es below =
    let k = rest_is v after h in
    let ev : v ≡ k.0 *ℤ pos after +ℤ pos r = rw er k.1 in
    let p = after / d in
    let behind : p * d ≡ after = div-mul_cancel d found.greatest.0 in
    let divides = divides_value d after r v k.0 ev found.greatest.0 found.greatest.1 in
    let here : int_div v (pos d) *ℤ pos d ≡ v = *ℤ_comm (int_div v (pos d)) (pos d) ∙ exact_quotient v d (natural_divides d v divides) in
    let y = found.congruent in
    let t = neg_ℤ (m *ℤ k.0 +ℤ y.0) in
    let some = value_combination v (pos after) k.0 (pos r) m (pos d) y.0 ev y.1 in
    let l = rest_is m p (positive_part p d after h behind) in
    let em : m ≡ l.0 *ℤ pos p +ℤ pos s = rw es l.1 in
    let least = least_combination v (pos after) (pos d) (pos p) (int_div v (pos d)) (pos s) t l.0 m (pos_product p d after behind) here
    (sym em) some in
    let left = pos d -ℤ pos s *ℤ v in
    let exact = exact_quotient left after
    (natural_divides after left (_, what_is_left (pos s) v (t +ℤ l.0 *ℤ int_div v (pos d)) (pos after) (pos d) least)) in
    record {
      behind = behind;
      here = here;
      combination = second_from (pos s) v (int_div left (pos after)) (pos after) (pos d) left refl exact;
      least = below;
    }

-- the divisor and its quotient aren't 0, and the divisor is small
divisor_below : (d after : ℕ) → 0 < after → d ∣ after → d ≤ after
divisor_below d after h k = le_of_dvd h k

pub found_positive : (r after d : ℕ) (m : ℤ) → 0 < after → IsBezout r after d m → (0 < d) × (d ≤ after)
found_positive r after d m h found = (positive_divisor d after h found.greatest.0, divisor_below d after h found.greatest.0)

pub found_part : (r after d : ℕ) (m : ℤ) → 0 < after → IsBezout r after d m → 0 < after / d
found_part r after d m h found = positive_part (after / d) d after h (div-mul_cancel d found.greatest.0)

pub small_part : (p d n : ℕ) → 0 < d → p * d ≤ n → p ≤ n
small_part p (suc d) n h e = omega arith
small_part p zero n h e = absurd (omega arith)

pub small_factor : (p d after : ℕ) → 0 < d → p * d ≡ after → p ≤ after
small_factor p d after h e = small_part p d after h (omega arith)

pub found_first : (r after d : ℕ) (m : ℤ) (s : ℕ) → 0 < after → IsBezout r after d m → s < after / d → s < after
found_first r after d m s h found below =
    let p = after / d in
    let small : p ≤ after = small_factor p d after (found_positive r after d m h found).0 (div-mul_cancel d found.greatest.0) in
    omega arith

-- how large they are
pub record AreSmallMultipliers (v : ℤ) (after g p : ℕ) (q : ℤ) (s : ℕ) (t : ℤ) : Type 0 where
  pub divisor : g ≤ after
  pub behind : p ≤ after
  pub here : nat_abs q ≤ nat_abs v
  pub first : s < after
  pub second : nat_abs t ≤ nat_abs v + 1

small_quotient : (q v : ℤ) (g : ℕ) → 0 < g → q *ℤ pos g ≡ v → nat_abs q ≤ nat_abs v
small_quotient q v g h e = small_factor (nat_abs q) g (nat_abs v) h (sym (unsigned_abs-mul q (pos g)) ∙ ap nat_abs e)

second_size : (s v t a g : ℤ) → s *ℤ v +ℤ t *ℤ a ≡ g → nat_abs (t *ℤ a) ≤ nat_abs g + nat_abs (s *ℤ v)
second_size s v t a g e = omega (arith, ints)

small_second : (t v after : ℕ) → 0 < after → t * after ≤ after + after * v → t ≤ v + 1
small_second t v after h e = le_of_mul-le-mul_left {m = t} {n = v + 1} {k = after} (omega arith) h

pub multipliers_small : (v : ℤ) (after g p : ℕ) (q : ℤ) (s : ℕ) (t : ℤ) → 0 < after → AreLeastMultipliers v after g p q s t
    → AreSmallMultipliers v after g p q s t
multipliers_small v after g p q s t h m =
    let positive = positive_part p g after h m.behind in
    let divisor_positive : 0 < g = positive_part g p after h (mul_comm g p ∙ m.behind) in
    let behind = small_factor p g after divisor_positive m.behind in
    let divisor = small_factor g p after positive (mul_comm g p ∙ m.behind) in
    let size : nat_abs (t *ℤ pos after) ≤ g + nat_abs (pos s *ℤ v) = second_size (pos s) v t (pos after) (pos g) m.combination in
    let left : nat_abs (t *ℤ pos after) ≡ nat_abs t * after = unsigned_abs-mul t (pos after) in
    let right : nat_abs (pos s *ℤ v) ≤ after * nat_abs v = product_bound (pos s) v after (nat_abs v) (let l = m.least in
    omega arith) (omega arith) in
    record {
      divisor = divisor;
      behind = behind;
      here = small_quotient q v g divisor_positive m.here;
      first = let l = m.least in
          omega arith;
      second = small_second (nat_abs t) (nat_abs v) after h (omega arith);
    }

-- the greatest common divisor with one value more
pub multipliers_divisor : (v : ℤ) (after g p : ℕ) (q : ℤ) (s : ℕ) (t : ℤ) → AreLeastMultipliers v after g p q s t → (values : List ℤ)
    → IsGreatestDivisor values after → IsGreatestDivisor (v ∷ values) g
multipliers_divisor v after g p q s t m values d = greatest_more v values after g d (record {
  left = pos s;
  right = t;
  combination = m.combination;
  divides_left = (q, m.here);
  divides_right = (pos p, pos_product p g after m.behind);
})
