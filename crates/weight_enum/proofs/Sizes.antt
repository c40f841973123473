-- The tails are within the size limit.
use Rattle.std.proofs.Common.{◌≡◌, ℕ, zero, suc, ◌+◌, ◌*◌, ◌<◌, ◌≤◌, List, length, ℤ, All, refl, arith}
use Rattle.lattice_theory.specs.Size.{reach, size, absolute_sum}
use Rattle.lattice_theory.proofs.Members.{Each, empty, more, each_from_in, all_from_each, contains_from_in}
use Rattle.lattice_core.specs.Limits.{IsSized}
use Rattle.normal_bounds.specs.Bounds.{safe_size}
use Rattle.interior_point_theory.specs.Interior.{system_of}
use Rattle.interior_point_theory.specs.Around.{HasTails}
use Rattle.weight_certificates.proofs.Sums.{entry_small}
use Rattle.weight_tails.proofs.Sizes.{tails_are_small_lem}
use Rattle.weight_enum.specs.Taken.{AreSearched}
use Rattle.weight_enum.specs.declared.weights.TheConstants.{MOST_DEGREE_OF_FIVE, MOST_DEGREE_OF_SIX}

reach_small : (bound i : ℕ) {points : List (List ℤ)} → Each (λ y. absolute_sum y ≤ bound) points → reach points i ≤ bound
reach_small bound i empty = omega arith
reach_small bound i (more {x = y} h rest) = omega (arith, entry_small y i, h, reach_small bound i rest)

size_small : (n bound : ℕ) {points : List (List ℤ)} → Each (λ y. absolute_sum y ≤ bound) points → size n points ≤ n * bound
size_small zero bound each = omega arith
size_small (suc n) bound each = omega (arith, reach_small bound n each, size_small n bound each)

safe_fits : (n degree : ℕ) → 0 < n → n ≤ 5 → degree ≤ MOST_DEGREE_OF_FIVE → (n ≡ 5 → degree ≤ MOST_DEGREE_OF_SIX) → n * (degree + n) ≤ safe_size n
safe_fits zero degree some few limit six = absurd (omega (arith, some))
safe_fits (suc zero) degree some few limit six = omega (arith, limit)
safe_fits (suc (suc zero)) degree some few limit six = omega (arith, limit)
safe_fits (suc (suc (suc zero))) degree some few limit six = omega (arith, limit)
safe_fits (suc (suc (suc (suc zero)))) degree some few limit six = omega (arith, limit)
safe_fits (suc (suc (suc (suc (suc zero))))) degree some few limit six = let least = six refl in omega (arith, least)
safe_fits (suc (suc (suc (suc (suc (suc n)))))) degree some few limit six = absurd (omega (arith, few))

-- the tails of searched weights
pub tails_sized : (degree n : ℕ) (weights : List ℕ) (tails : List (List ℤ)) → HasTails n (system_of degree weights) tails → 0 < n
    → AreSearched degree (n + 1) → IsSized n tails
tails_sized degree n weights tails has some s =
    let each : Each (λ y. absolute_sum y ≤ degree + n) tails =
    each_from_in tails (λ y i. (tails_are_small_lem n (system_of degree weights) tails has y (contains_from_in i)).1) in
    let few = s.few in
    let six = s.limit_of_six in
    omega (arith, size_small n (degree + n) each, safe_fits n degree some (omega (arith, few)) s.limit (λ e. six (omega (arith, e))))

pub tails_dimension : (degree n : ℕ) (weights : List ℕ) (tails : List (List ℤ)) → HasTails n (system_of degree weights) tails
    → All (λ y. length y ≡ n) tails
tails_dimension degree n weights tails has =
    all_from_each (each_from_in tails (λ y i. (tails_are_small_lem n (system_of degree weights) tails has y (contains_from_in i)).0))
