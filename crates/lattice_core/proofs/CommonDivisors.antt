-- The greatest common divisor of the entries of a vector, and what division by it leaves.
use Rattle.std.proofs.Common.{◌≡◌, ℕ, zero, suc, ◌+◌, ◌*◌, ◌^◌, ◌<◌, List, length, ℤ, pos, negsuc, ◌+ℤ◌, ◌*ℤ◌, neg_ℤ, nat_abs, ap, refl, sym, ◌∙◌, arith, zero-mul}
use Rattle.std.specs.Int.{◌∣◌, IsGcd}
use Rattle.std.specs.Int.RustNames.{int_div, int_rem}
use Rattle.std.specs.List.{All, AllWithin}
use Rattle.std.proofs.lemmas.Int.{ints, quot-rem, unsigned_abs-mul}
use Rattle.std.proofs.lemmas.List.{get_or_default}
use Rattle.std.proofs.lemmas.List.Elements.{AllWithin-more, AllWithin-upto, All-map, All-weaker}
use Rattle.std.proofs.lemmas.Nat.Gcd.{dvd_refl, dvd-zero, dvd_trans, le_of_dvd, mod-eq-zero_of_dvd}
use native.Mathlib.Nat.{dvd-mul_left, eq-zero_of_zero-dvd}
use lib.IntN.{*ℤ_comm}
use Rattle.lattice_theory.specs.Vector.{entry, scaled, DividesInteger, IsPrimitive}

-- a greatest common divisor is no larger than the numbers
gcd_bound : (a b g m : ℕ) → IsGcd a b g → a < m → b < m → g < m
gcd_bound (suc a) b g m h p q = let k = le_of_dvd (omega arith) h.0 in omega arith
gcd_bound zero (suc b) g m h p q = let k = le_of_dvd (omega arith) h.1 in omega arith
gcd_bound zero zero g m h p q = let k = eq-zero_of_zero-dvd (h.2 0 (dvd_refl 0) (dvd_refl 0)) in omega arith

-- g is the greatest common divisor of the first n entries, and isn't large
pub record IsDivisorOfFirst (v : List ℤ) (n g : ℕ) : Type 0 where
  pub divides : AllWithin (λ a. g ∣ nat_abs a) v 0 n
  pub greatest : (d : ℕ) → AllWithin (λ a. d ∣ nat_abs a) v 0 n → d ∣ g
  pub bound : g < 2 ^ 127

-- that of no entry is 0
pub divisor_none : (v : List ℤ) → IsDivisorOfFirst v 0 0
divisor_none v = record { divides = λ k d low high. absurd (omega arith); greatest = λ d h. dvd-zero d; bound = omega arith }

-- one more entry
pub divisor_more : (v : List ℤ) (i old new : ℕ) → i < length v → nat_abs (entry v i) < 2 ^ 127 → IsDivisorOfFirst v i old
    → IsGcd (nat_abs (entry v i)) old new → IsDivisorOfFirst v (i + 1) new
divisor_more v i old new within small h g =
    record {
      divides = AllWithin-more (λ a. new ∣ nat_abs a) v 0 i (λ k d low high. dvd_trans new g.1 (h.divides k d low high))
          (λ d. rw (get_or_default v i d (pos 0) within) g.0);
      greatest = λ d all. g.2 d (all i (pos 0) (omega arith) (omega arith))
          (h.greatest d (AllWithin-upto (λ a. d ∣ nat_abs a) v 0 (i + 1) i (omega arith) all));
      bound = gcd_bound _ _ new _ g small h.bound;
    }

-- division without a rest
rest_none : (a : ℤ) (g : ℕ) → g ∣ nat_abs a → int_rem a (pos g) ≡ pos 0
rest_none (pos n) g h = ap pos (mod-eq-zero_of_dvd g h)
rest_none (negsuc n) g h = ap (λ (m : ℕ). neg_ℤ (pos m)) (mod-eq-zero_of_dvd g h)

add_none : (q r a : ℤ) → q +ℤ r ≡ a → r ≡ pos 0 → q ≡ a
add_none q r a h k = omega (arith, ints)

pub exact_quotient : (a : ℤ) (g : ℕ) → g ∣ nat_abs a → pos g *ℤ int_div a (pos g) ≡ a
exact_quotient a g h = *ℤ_comm (pos g) (int_div a (pos g)) ∙ add_none (int_div a (pos g) *ℤ pos g) _ a (quot-rem a (pos g))
    (rest_none a g h)

-- a number that divides an entry divides its product
divides_scaled : (d g : ℕ) (a : ℤ) → DividesInteger d a → d * g ∣ nat_abs (pos g *ℤ a)
divides_scaled d g a (k, e) =
    let size : nat_abs a ≡ nat_abs k * d = ap nat_abs (sym e) ∙ unsigned_abs-mul k (pos d) in
    let whole : nat_abs (pos g *ℤ a) ≡ nat_abs k * (d * g) = unsigned_abs-mul (pos g) a ∙ rw size (omega arith) in
    rw whole (dvd-mul_left (d * g) (nat_abs k))

-- a divisor that is at most 1
one_from : (d g : ℕ) → 0 < g → d * g ∣ g → d ≡ 1
one_from zero g h k = let z = eq-zero_of_zero-dvd (rw (zero-mul g) at k) in absurd (omega arith)
one_from (suc zero) g h k = refl
one_from (suc (suc d)) g h k = let m = le_of_dvd h k in absurd (omega arith)

-- division by the greatest common divisor leaves a primitive vector
pub primitive_quotients : (v w : List ℤ) (g : ℕ) → 0 < g → scaled (pos g) w ≡ v → ((d : ℕ) → All (λ a. d ∣ nat_abs a) v → d ∣ g)
    → IsPrimitive w
primitive_quotients v w g h e greatest d all =
    one_from d g h (greatest (d * g)
    (rw (← e) (All-map (λ a. d * g ∣ nat_abs a) (λ a. pos g *ℤ a) w (All-weaker (DividesInteger d) (λ a. d * g ∣ nat_abs (pos g *ℤ a))
    (divides_scaled d g) w all))))

-- 0 divides only 0
size_zero : (a : ℤ) → nat_abs a ≡ 0 → a ≡ pos 0
size_zero a h = omega (arith, ints)

-- where the greatest common divisor is 0, all entries are, and the other way round
pub zeros_from_divisor : (v : List ℤ) (g : ℕ) → g ≡ 0 → All (λ a. g ∣ nat_abs a) v → All (λ a. a ≡ pos 0) v
zeros_from_divisor v g e h = λ k d within. size_zero _ (eq-zero_of_zero-dvd (rw e at (h k d within)))

pub divisor_from_zeros : (v : List ℤ) (g : ℕ) → ((d : ℕ) → All (λ a. d ∣ nat_abs a) v → d ∣ g) → All (λ a. a ≡ pos 0) v → g ≡ 0
divisor_from_zeros v g greatest zeros = eq-zero_of_zero-dvd (greatest 0 (λ k d within. rw (zeros k d within) (dvd_refl 0)))
