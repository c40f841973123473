-- The worked example of bases: the points of the segment, by the degrees of their bases.
use Rattle.std.specs.Prelude.{ℤ, pos, ◌≤ℤ◌}
use Rattle.std.proofs.Common.{◌≡◌, ℕ, zero, suc, ◌<◌, length, IsTrue, refl, ap, ◌∙◌, arith}
use Rattle.std.proofs.lemmas.Int.{ints}
use Rattle.lattice_theory.specs.Examples.{on_line, minus1}
use Rattle.lattice_theory.proofs.Integers.{same_natural}
use Rattle.face_theory.specs.Sets.{in_set}
use Rattle.face_theory.specs.Pairings.{function_at}
use Rattle.face_theory.proofs.Sets.{true_false}
use Rattle.cayley_theory.specs.Counts.{sum_of}
use Rattle.cayley_theory.specs.Bases.{part_in, HaveParts, pairing_with, IsBase, HasBaseOf, Number, none, counted, passed, summed}
use Rattle.cayley_theory.specs.Examples.{segment_kept, segment_points, no_function, segment_numbers}
use Rattle.cayley_theory.proofs.BasePoints.{same_base}

-- what holds at three places
three_places : (P : ℕ → Type 0) → P 0 → P 1 → P 2 → (i : ℕ) → i < 3 → P i
three_places P p q r zero h = p
three_places P p q r (suc zero) h = q
three_places P p q r (suc (suc zero)) h = r
three_places P p q r (suc (suc (suc i))) h = absurd (omega arith)

have_parts : HaveParts 1 1 segment_kept
have_parts = record {
  dimension = three_places (λ i. length (function_at segment_kept i).normal ≡ 1) refl refl refl;
  part = three_places (λ i. part_in (function_at segment_kept i) < 1) (omega arith) (omega arith) (omega arith);
}

none_in : (i : ℕ) → IsTrue (in_set no_function i) → ⊥
none_in zero h = true_false h refl
none_in (suc zero) h = true_false h refl
none_in (suc (suc zero)) h = true_false h refl
none_in (suc (suc (suc i))) h = true_false h refl

-- the base of a point of the segment is its absolute value
base_at : (x : ℤ) (k i : ℕ) → i < 3 → pos 0 ≤ℤ pairing_with segment_kept (on_line x) (on_line (pos k)) 0
    → pos 0 ≤ℤ pairing_with segment_kept (on_line x) (on_line (pos k)) 1 → pos 0 ≤ℤ pairing_with segment_kept (on_line x) (on_line (pos k)) 2
    → part_in (function_at segment_kept i) ≡ 0 → pairing_with segment_kept (on_line x) (on_line (pos k)) i ≡ pos 0
    → IsBase 1 segment_kept (on_line x) (on_line (pos k))
base_at x k i l a b c p z = record {
  parts = refl;
  above = three_places (λ i. pos 0 ≤ℤ pairing_with segment_kept (on_line x) (on_line (pos k)) i) a b c;
  reached = down;
}
  where
    down : (j : ℕ) → j < 1
        → (i : ℕ) × (i < length segment_kept) × (part_in (function_at segment_kept i) ≡ j) × (pairing_with segment_kept (on_line x) (on_line (pos k)) i ≡ pos 0)
    down zero h = (i, l, p, z)
    down (suc j) h = absurd (omega arith)

low_base : IsBase 1 segment_kept (on_line minus1) (on_line (pos 1))
low_base = base_at minus1 1 2 (omega arith) (omega (arith, ints)) (omega (arith, ints)) (omega (arith, ints)) refl refl

zero_base : IsBase 1 segment_kept (on_line (pos 0)) (on_line (pos 0))
zero_base = base_at (pos 0) 0 1 (omega arith) (omega (arith, ints)) (omega (arith, ints)) (omega (arith, ints)) refl refl

high_base : IsBase 1 segment_kept (on_line (pos 1)) (on_line (pos 1))
high_base = base_at (pos 1) 1 0 (omega arith) (omega (arith, ints)) (omega (arith, ints)) (omega (arith, ints)) refl refl

-- so it has this degree, and no other
its_degree : (x : ℤ) (k : ℕ) → IsBase 1 segment_kept (on_line x) (on_line (pos k)) → HasBaseOf 1 segment_kept no_function k (on_line x)
its_degree x k b = record { base = on_line (pos k); is_base = b; zero_on = λ i t. absurd (none_in i t); degree = omega (arith, ints) }

no_other : (x : ℤ) (k l : ℕ) → IsBase 1 segment_kept (on_line x) (on_line (pos k)) → HasBaseOf 1 segment_kept no_function l (on_line x) → k ≡ l
no_other x k l b h =
    let e : on_line (pos k) ≡ h.base = same_base 1 1 segment_kept have_parts (on_line x) refl (on_line (pos k)) h.base b h.is_base in
    let f : sum_of (on_line (pos k)) ≡ pos l = ap sum_of e ∙ h.degree in
    same_natural k l (alone k l f)
  where
    alone : (k l : ℕ) → sum_of (on_line (pos k)) ≡ pos l → pos k ≡ pos l
    alone k l e = omega (arith, ints, e)

pub segment_numbers_lem : (l : ℕ) → Number (HasBaseOf 1 segment_kept no_function l) segment_points (segment_numbers l)
segment_numbers_lem zero =
    passed (λ h. absurd (let e = no_other minus1 1 0 low_base h in omega (arith, e))) (counted (its_degree (pos 0) 0 zero_base)
    (passed (λ h. absurd (let e = no_other (pos 1) 1 0 high_base h in omega (arith, e))) none))
segment_numbers_lem (suc zero) =
    counted (its_degree minus1 1 low_base) (passed (λ h. absurd (let e = no_other (pos 0) 0 1 zero_base h in omega (arith, e)))
    (counted (its_degree (pos 1) 1 high_base) none))
segment_numbers_lem (suc (suc l)) =
    passed (λ h. absurd (let e = no_other minus1 1 (suc (suc l)) low_base h in omega (arith, e)))
    (passed (λ h. absurd (let e = no_other (pos 0) 0 (suc (suc l)) zero_base h in omega (arith, e)))
    (passed (λ h. absurd (let e = no_other (pos 1) 1 (suc (suc l)) high_base h in omega (arith, e))) none))

pub segment_summed_lem : summed 1 segment_numbers 1 ≡ 3
unfolding summed
segment_summed_lem = refl
