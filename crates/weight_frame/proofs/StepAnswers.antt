-- What one step answers: the vectors that it makes, or the largest absolute value of the first one above the limit.
use Rattle.std.proofs.Common.{◌≡◌, ℕ, ◌^◌, ◌<◌, ◌≤◌, List, [], ◌∷◌, length, ℤ, pos, negsuc, neg_ℤ, nat_abs, ◌<ℤ◌, zero, suc, true, false, refl, sym, ap, ◌∙◌, to_z, of_z, SFits, w64, subst, arith}
use Rattle.std.specs.Int.Signed.{lt_z}
use borrow.Author.Tests.{ltb-true, ltb-false}
use Rattle.std.proofs.lemmas.Bool.{false≢true}
use Rattle.std.proofs.lemmas.Int.{ints, to_z-of_z}
use Rattle.lattice_theory.proofs.Integers.{linear}
use Rattle.lattice_theory.specs.Vector.{scaled}
use Rattle.lattice_theory.proofs.Members.{empty, more, all_from_each}
use Rattle.lattice_theory.proofs.Vectors.{combined}
use Rattle.lattice_core.specs.declared.limits.TheConstants.{MOST_FRAME_ENTRY}
use Rattle.weight_frame.specs.Frame.{IsZeroVector, IsGreatestDivisor, AreLeastMultipliers, Exchange, keeps, takes, turns, exchanges, largest, AreWithinEntryLimit}
use Rattle.weight_frame.specs.steps.Sums.{IsSmallSum, IsLargeSum}
use Rattle.weight_frame.specs.steps.Reached.{IsStep, IsStepAbove}
use Rattle.weight_frame.proofs.Sums.{sum_exists}
use Rattle.weight_frame.proofs.Divisors.{greatest_more, alone}
use Rattle.weight_frame.proofs.Euclid.{multipliers_divisor, multipliers_small}

-- no vector, or one
pub within_none : AreWithinEntryLimit []
within_none = all_from_each {P = λ x. largest x ≤ MOST_FRAME_ENTRY} empty

pub within_one : (k : List ℤ) → largest k ≤ MOST_FRAME_ENTRY → AreWithinEntryLimit (k ∷ [])
within_one k h = all_from_each {P = λ x. largest x ≤ MOST_FRAME_ENTRY} (more h empty)

-- the first vector kept is above the limit
pub kept_above : (n : ℕ) (u : List ℤ) (v : ℤ) (h : List ℤ) (after g p : ℕ) (q : ℤ) (s : ℕ) (t : ℤ) (told : ℕ) → length u ≡ n → length h ≡ n
    → 0 < after → AreLeastMultipliers v after g p q s t
    → IsLargeSum n (pos p) u (neg_ℤ q) h told → IsStepAbove n u v h after told
kept_above n u v h after g p q s t told l m positive are large = record {
  k = large.vector ∷ [];
  next = combined (pos s) u t h;
  g = g;
  step = exchanges p q s t positive are large.sum (sum_exists n (pos s) u t h l m);
  divisor = multipliers_divisor v after g p q s t are;
  first = record {
    before = [];
    vector = large.vector;
    behind = combined (pos s) u t h ∷ [];
    split = refl;
    within = within_none;
    value = large.value;
    above = large.above;
  };
}

-- the next h is above the limit
pub last_above : (n : ℕ) (u : List ℤ) (v : ℤ) (h : List ℤ) (after g p : ℕ) (q : ℤ) (s : ℕ) (t : ℤ) (k : List ℤ) (told : ℕ) → 0 < after
    → AreLeastMultipliers v after g p q s t
    → IsSmallSum n (pos p) u (neg_ℤ q) h k → IsLargeSum n (pos s) u t h told → IsStepAbove n u v h after told
last_above n u v h after g p q s t k told positive are small large = record {
  k = k ∷ [];
  next = large.vector;
  g = g;
  step = exchanges p q s t positive are small.sum large.sum;
  divisor = multipliers_divisor v after g p q s t are;
  first = record {
    before = k ∷ [];
    vector = large.vector;
    behind = [];
    split = refl;
    within = within_one k small.within;
    value = large.value;
    above = large.above;
  };
}

-- none is
pub later_made : (n : ℕ) (u : List ℤ) (v : ℤ) (h : List ℤ) (after g p : ℕ) (q : ℤ) (s : ℕ) (t : ℤ) (k next : List ℤ) → 0 < after
    → after < 2 ^ 55 → AreLeastMultipliers v after g p q s t
    → IsSmallSum n (pos p) u (neg_ℤ q) h k → IsSmallSum n (pos s) u t h next → IsStep n u v h after (k ∷ []) next g
later_made n u v h after g p q s t k next positive small are x y = record {
  step = exchanges p q s t positive are x.sum y.sum;
  divisor = multipliers_divisor v after g p q s t are;
  kept = within_one k x.within;
  last = y.within;
  small = let m = (multipliers_small v after g p q s t positive are).divisor in omega arith;
}

-- the step where all values behind are 0
first_divisor : (v : ℤ) (g : ℕ) → nat_abs v ≡ g → (values : List ℤ) → IsGreatestDivisor values 0 → IsGreatestDivisor (v ∷ values) g
first_divisor v g e values d = subst (IsGreatestDivisor (v ∷ values)) e (greatest_more v values 0 (nat_abs v) d (alone v))

pub first_keeps : (n : ℕ) (u : List ℤ) (v : ℤ) (h z k : List ℤ) → v ≡ pos 0 → k ≡ u → largest u ≤ MOST_FRAME_ENTRY → IsZeroVector n z
    → largest z ≤ MOST_FRAME_ENTRY → IsStep n u v h 0 (k ∷ []) z 0
first_keeps n u v h z k e f within is_zero small = rw f (record {
  step = keeps refl e is_zero;
  divisor = first_divisor v 0 (rw e refl);
  kept = within_one u within;
  last = small;
  small = omega arith;
})

pub first_takes : (n : ℕ) (u : List ℤ) (v : ℤ) (h next : List ℤ) (g : ℕ) → pos 0 <ℤ v → next ≡ u → nat_abs v < 2 ^ 55 → g ≡ nat_abs v
    → largest u ≤ MOST_FRAME_ENTRY → IsStep n u v h 0 [] next g
first_takes n u v h next g p e small f within = rw (e, f) (record {
  step = takes refl p;
  divisor = first_divisor v (nat_abs v) refl;
  kept = within_none;
  last = within;
  small = small;
})

pub first_turns : (n : ℕ) (u : List ℤ) (v : ℤ) (h next : List ℤ) (g : ℕ) → v <ℤ pos 0 → next ≡ scaled (negsuc 0) u → nat_abs v < 2 ^ 55
    → g ≡ nat_abs v → largest next ≤ MOST_FRAME_ENTRY → IsStep n u v h 0 [] next g
first_turns n u v h next g p e small f within = record {
  step = subst (λ (x : List ℤ). Exchange n u v h 0 g [] x) (sym e) (turns refl p);
  divisor = first_divisor v g (sym f);
  kept = within_none;
  last = within;
  small = rw f small;
}

-- signs of a number of 64 bits
pub zero_from : (a : ℤ) → SFits w64 a → of_z w64 a ≡ 0 → a ≡ pos 0
zero_from a f e = sym (to_z-of_z w64 a f) ∙ ap (to_z w64) e

pub positive_from : (a : ℤ) → lt_z (pos 0) a ≡ true → pos 0 <ℤ a
positive_from (pos n) e = omega (arith, ints, ltb-true, e)
positive_from (negsuc n) e = absurd (false≢true e)

not_below : (m : ℕ) → lt_z (pos 0) (pos (suc m)) ≡ false → ⊥
not_below m e = omega (arith, ltb-false, e)

pub negative_from : (a : ℤ) → lt_z (pos 0) a ≡ false → (of_z w64 a ≡ 0 → ⊥) → a <ℤ pos 0
negative_from (pos zero) e n = absurd (n refl)
negative_from (pos (suc m)) e n = absurd (not_below m e)
negative_from (negsuc m) e n = omega (arith, linear)
