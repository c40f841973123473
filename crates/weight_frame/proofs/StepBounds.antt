-- The size of the numbers of a step.
use Rattle.std.proofs.Common.{◌≡◌, subst, ◌≢◌, ℕ, zero, suc, negsuc, ◌*◌, ◌^◌, ◌<◌, ◌≤◌, ◌⊎◌, inl, inr, List, [], ◌∷◌, ℤ, pos, ◌*ℤ◌, neg_ℤ, nat_abs, refl, sym, arith, ⊎_elim}
use Rattle.std.specs.List.{Contains}
use Rattle.std.proofs.lemmas.Int.{ints}
use Rattle.std.proofs.lemmas.Nat.Gcd.{le_of_dvd}
use Rattle.lattice_theory.specs.Vector.{entry, DividesInteger}
use Rattle.lattice_theory.proofs.Integers.{zero_or_not}
use Rattle.lattice_theory.proofs.Divisibility.{divides_zero}
use Rattle.lattice_theory.proofs.Members.{Each, empty, more, each_from_all, all_from_each}
use Rattle.lattice_core.specs.Weights.{Weighted, weighted_degree, columns_of, total, IsSummed, AreWellFormed, AreWithinLimits}
use Rattle.lattice_core.specs.declared.limits.TheConstants.{MOST_FRAME_ENTRY}
use Rattle.weight_frame.specs.Frame.{IsGreatestDivisor, degrees_of, AreLeastMultipliers, largest}
use Rattle.weight_frame.specs.Laws.{StepsAreBounded}
use Rattle.weight_frame.specs.StepSizes.{IsSumBelow, IsStepBelow}
use Rattle.weight_frame.proofs.Bounds.{product_bound, sum_bound}
use Rattle.weight_frame.proofs.Largest.{entry_at_most}
use Rattle.weight_frame.proofs.Euclid.{natural_divides, multipliers_small}
use Rattle.weight_frame.proofs.ValueSteps.{value_size}

-- the greatest common divisor of values is at most as large as they are
nonzero_size : (v : ℤ) → v ≢ pos 0 → 0 < nat_abs v
nonzero_size (pos zero) h = absurd (h refl)
nonzero_size (pos (suc n)) h = omega arith
nonzero_size (negsuc n) h = omega arith

divisor_or_zeros : (values : List ℤ) (m g : ℕ) → Each (λ v. nat_abs v ≤ m) values → Each (DividesInteger g) values
    → (g ≤ m) ⊎ Each (λ v. v ≡ pos 0) values
divisor_or_zeros [] m g empty empty = inr empty
divisor_or_zeros (v ∷ values) m g (more h b) (more d e) = ⊎_elim
    (λ (z : v ≡ pos 0). ⊎_elim (λ (l : g ≤ m). inl l) (λ (a : Each (λ v. v ≡ pos 0) values). inr (more z a))
    (divisor_or_zeros values m g b e))
    (λ (z : v ≢ pos 0). inl (let l : g ≤ nat_abs v = le_of_dvd (nonzero_size v z) (natural_divides g v d) in omega arith))
    (zero_or_not v)

zeros_divided : (d : ℕ) (values : List ℤ) → Each (λ v. v ≡ pos 0) values → Each (DividesInteger d) values
zeros_divided d [] empty = empty
zeros_divided d (v ∷ values) (more e h) = more (subst (DividesInteger d) (sym e) (divides_zero d)) (zeros_divided d values h)

no_divisor : (m g : ℕ) → DividesInteger (suc g) (pos g) → 0 < g → g ≤ m
no_divisor m g d h = let l : suc g ≤ g = le_of_dvd h (natural_divides (suc g) (pos g) d) in absurd (omega arith)

divisor_size : (values : List ℤ) (m g : ℕ) → 0 < g → Each (λ v. nat_abs v ≤ m) values → IsGreatestDivisor values g → g ≤ m
divisor_size values m g h b d = ⊎_elim
    (λ (l : g ≤ m). l)
    (λ (z : Each (λ v. v ≡ pos 0) values). no_divisor m g (d.greatest (suc g) (all_from_each (zeros_divided (suc g) values z))) h)
    (divisor_or_zeros values m g b (each_from_all (DividesInteger g) values d.divides))

-- the values of vectors within the limit
values_size : (system : Weighted) (us : List (List ℤ)) → total system.weights ≤ 32_767 → Each (λ x. largest x ≤ MOST_FRAME_ENTRY) us
    → Each (λ v. nat_abs v ≤ MOST_FRAME_ENTRY * 32_767) (degrees_of system us)
values_size system [] t empty = empty
values_size system (u ∷ us) t (more h b) = more (let s = value_size system.weights u MOST_FRAME_ENTRY h in
    omega arith) (values_size system us t b)

-- two products and their sum
sum_below : (a x b y : ℤ) (m n : ℕ) → nat_abs a ≤ m → nat_abs x ≤ n → nat_abs b ≤ m → nat_abs y ≤ n → m * n ≤ 2 ^ 110
    → IsSumBelow (2 ^ 112) a x b y
sum_below a x b y m n h i k l f =
    let left = product_bound a x m n h i in
    let right = product_bound b y m n k l in
    let sum = sum_bound (a *ℤ x) (b *ℤ y) (m * n) (m * n) left right in
    record { left = omega arith; right = omega arith; sum = omega arith }

module _ (u : List ℤ) (v : ℤ) (h : List ℤ) (after g p : ℕ) (q : ℤ) (s : ℕ) (t : ℤ) where
  step_below : 0 < after → nat_abs v < 2 ^ 55 → after < 2 ^ 55 → largest u ≤ MOST_FRAME_ENTRY → largest h ≤ MOST_FRAME_ENTRY
      → AreLeastMultipliers v after g p q s t → IsStepBelow (2 ^ 112) u v h after p q s t
  step_below positive value behind first second are =
      let small = multipliers_small v after g p q s t positive are in
      let small_behind = small.behind in
      let small_here = small.here in
      let small_first = small.first in
      let small_second = small.second in
      record {
        value = omega arith;
        behind = omega arith;
        divisor = sum_below (pos s) v t (pos after) (2 ^ 55) (2 ^ 55) (omega arith) (omega arith) (omega arith) (omega arith) (omega arith);
        kept = λ j. let here = entry_at_most u j in let there = entry_at_most h j in
            sum_below (pos p) (entry u j) (neg_ℤ q) (entry h j) (2 ^ 55) MOST_FRAME_ENTRY (omega arith) (omega arith) (omega (arith, ints))
            (omega arith) (omega arith);
        last = λ j. let here = entry_at_most u j in let there = entry_at_most h j in
            sum_below (pos s) (entry u j) t (entry h j) (2 ^ 55) MOST_FRAME_ENTRY (omega arith) (omega arith) (omega arith) (omega arith)
            (omega arith);
      }

-- the sum of the weights is the degree, which is within the limit
small_total : (systems : List Weighted) (system : Weighted) → AreWellFormed systems → AreWithinLimits systems → Contains systems system
    → total system.weights ≤ 32_767
small_total systems system formed limited (i, l, e) =
    let summed : IsSummed (columns_of systems) system = rw (sym e) (formed.summed i system l) in
    let degree : system.degree ≤ 32_767 = rw (sym e) (limited.degrees i system l) in
    let sum = summed.sum in
    omega arith

pub steps_are_bounded : StepsAreBounded
steps_are_bounded systems system u h us after g p q s t formed limited member within positive divisor are =
    within_limit (each_from_all (λ x. largest x ≤ MOST_FRAME_ENTRY) (u ∷ h ∷ us) within)
  where
    within_limit : Each (λ x. largest x ≤ MOST_FRAME_ENTRY) (u ∷ h ∷ us)
        → IsStepBelow (2 ^ 112) u (weighted_degree system u) h after p q s t
    within_limit (more first (more second others)) =
        let small = small_total systems system formed limited member in
        let value = value_size system.weights u MOST_FRAME_ENTRY first in
        let behind = divisor_size (degrees_of system us) (MOST_FRAME_ENTRY * 32_767) after positive (values_size system us small others)
        divisor in
        step_below u (weighted_degree system u) h after g p q s t positive (omega arith) (omega arith) first second are
