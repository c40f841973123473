-- Systems that pass the computing tests are well formed and within the limits.
use Rattle.std.proofs.Common.{◌≡◌, ℕ, zero, suc, ◌+◌, ◌<◌, ◌≤◌, true, ◌==◌, nat_lt, List, [], ◌∷◌, length, refl, slice_index_or, zero-lt-suc, arith}
use Rattle.std.proofs.lemmas.Bool.{eqb-true, and_parts}
use borrow.Author.Tests.{ltb-true}
use Rattle.std.proofs.Math.Nat.{mul-le-mul}
use Rattle.lattice_theory.proofs.Members.{Each, empty, more, all_from_each}
use Rattle.lattice_core.specs.Weights.{Weighted, total, IsSummed, AreWellFormed, AreWithinLimits}
use Rattle.lattice_core.specs.declared.limits.TheConstants.{MOST_WEIGHTS, MOST_DEGREE}
use Rattle.weight_frame.specs.steps.Plain.{are_positive, is_summed, is_plain}

-- a summed system
pub record IsSmallSystem (n degree : ℕ) (weights : List ℕ) : Type 0 where
  pub count : length weights ≡ n
  pub sum : total weights ≡ degree
  pub least : 1 ≤ degree
  pub most : degree ≤ MOST_DEGREE

summed_small : (n degree : ℕ) (weights : List ℕ) → is_summed n degree weights ≡ true → IsSmallSystem n degree weights
summed_small n degree weights e =
    let rest = (and_parts (length weights == n) _ e).1 in
    let bounds = (and_parts (total weights == degree) _ rest).1 in
    record {
      count = eqb-true (length weights) n (and_parts (length weights == n) _ e).0;
      sum = eqb-true (total weights) degree (and_parts (total weights == degree) _ rest).0;
      least = ltb-true 0 degree (and_parts (nat_lt 0 degree) _ bounds).0;
      most = let h = ltb-true degree (MOST_DEGREE + 1) (and_parts (nat_lt 0 degree) _ bounds).1 in omega arith;
    }

-- positive weights
positive_at : (weights : List ℕ) (place : ℕ) → are_positive weights ≡ true → place < length weights → 1 ≤ slice_index_or weights place 0
positive_at [] place e h = absurd (omega arith)
positive_at (w ∷ weights) zero e h = ltb-true 0 w (and_parts (nat_lt 0 w) _ e).0
positive_at (w ∷ weights) (suc place) e h = positive_at weights place (and_parts (nat_lt 0 w) _ e).1 (omega arith)

-- what a plain system is
pub record IsPlainSystem (degree : ℕ) (weights : List ℕ) : Type 0 where
  pub small : IsSmallSystem (length weights) degree weights
  pub positive : are_positive weights ≡ true
  pub most : length weights ≤ MOST_WEIGHTS

plain_system : (degree : ℕ) (weights : List ℕ) → is_plain degree weights ≡ true → IsPlainSystem degree weights
plain_system degree weights e =
    let rest = (and_parts (are_positive weights) _ e).1 in
    let counts = (and_parts (is_summed (length weights) degree weights) _ rest).1 in
    record {
      small = summed_small (length weights) degree weights (and_parts (is_summed (length weights) degree weights) _ rest).0;
      positive = (and_parts (are_positive weights) _ e).0;
      most = let h = ltb-true (length weights) (MOST_WEIGHTS + 1) (and_parts (nat_lt 0 (length weights)) _ counts).1 in omega arith;
    }

-- systems of which the first has positive weights
is_summed_system : (n : ℕ) (system : Weighted) → IsSmallSystem n system.degree system.weights → IsSummed n system
is_summed_system n system h = record { columns = h.count; sum = h.sum; positive = h.least }

formed_from : (first : Weighted) (others : List Weighted) → IsPlainSystem first.degree first.weights
    → Each (IsSummed (length first.weights)) others → AreWellFormed (first ∷ others)
formed_from first others p h = record {
  some = omega arith;
  summed = all_from_each {P = IsSummed (length first.weights)} (more (is_summed_system (length first.weights) first p.small) h);
  used = λ place l. record { system = first; member = (0, zero-lt-suc _, refl); positive = positive_at first.weights place p.positive l };
}

pub formed_one : (first : Weighted) → is_plain first.degree first.weights ≡ true → AreWellFormed (first ∷ [])
formed_one first e = formed_from first [] (plain_system first.degree first.weights e) empty

pub limited_one : (first : Weighted) → is_plain first.degree first.weights ≡ true → AreWithinLimits (first ∷ [])
limited_one first e =
    let p = plain_system first.degree first.weights e in
    let most = p.small.most in
    record {
      few = omega arith;
      weights = p.most;
      degrees = all_from_each {P = λ s. s.degree ≤ MOST_DEGREE} (more most empty);
      product = omega arith;
    }

pub formed_two : (first second : Weighted) → is_plain first.degree first.weights ≡ true
    → is_summed (length first.weights) second.degree second.weights ≡ true → AreWellFormed (first ∷ second ∷ [])
formed_two first second e f = formed_from first (second ∷ []) (plain_system first.degree first.weights e)
    (more (is_summed_system (length first.weights) second (summed_small (length first.weights) second.degree second.weights f)) empty)

pub limited_two : (first second : Weighted) → is_plain first.degree first.weights ≡ true
    → is_summed (length first.weights) second.degree second.weights ≡ true → AreWithinLimits (first ∷ second ∷ [])
limited_two first second e f =
    let p = plain_system first.degree first.weights e in
    let q = summed_small (length first.weights) second.degree second.weights f in
    record {
      few = omega arith;
      weights = p.most;
      degrees = all_from_each {P = λ s. s.degree ≤ MOST_DEGREE} (more p.small.most (more q.most empty));
      product = let h = mul-le-mul p.small.most q.most in omega arith;
    }
