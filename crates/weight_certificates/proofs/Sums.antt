-- Sums of entries, and absolute sums of short vectors.
use Rattle.std.proofs.Common.{◌≡◌, ℕ, zero, suc, ◌+◌, ◌*◌, ◌^◌, ◌<◌, ◌≤◌, List, [], ◌∷◌, length, map, drop, ℤ, pos, ◌+ℤ◌, ◌*ℤ◌, nat_abs, get_or, All, arith, refl, rules}
use Rattle.std.specs.Int.RustNames.{FitsSigned}
use mir.Syntax.{w64, w128}
use Rattle.std.proofs.Math.Nat.{mul-le-mul_left}
use Rattle.std.proofs.lemmas.List.{drop_more, drop_all}
use Rattle.std.proofs.lemmas.Int.{ints, unsigned_abs-mul, fits_signed_from_abs}
use Rattle.lattice_theory.specs.Vector.{entry}
use Rattle.lattice_theory.specs.Size.{absolute_sum}
use Rattle.lattice_theory.proofs.Members.{Each, empty, more, each_from_all}
use Rattle.lattice_theory.proofs.Integers.{first_terms}
use Rattle.interior_point_theory.specs.Certificates.{entries_at, integer_sum}
use Rattle.lattice_core.specs.declared.limits.TheConstants.{MOST_COORDINATES}
use Rattle.weight_certificates.specs.Surroundings.{AreWithin, chosen}
use Rattle.weight_certificates.specs.declared.surroundings.Corner.{Corner}
use Rattle.weight_certificates.specs.declared.surroundings.TheConstants.{MOST_SIZE, MOST_COUNT}

-- the sum so far and the sum of what is left make the whole
pub sum_more : (points : List (List ℤ)) (j k : ℕ) (s t : ℤ) (p : List ℤ) → k < length points → p ≡ get_or points k p → t ≡ s +ℤ entry p j
    → s +ℤ integer_sum (entries_at j (drop k points)) ≡ integer_sum (entries_at j points)
    → t +ℤ integer_sum (entries_at j (drop (k + 1) points)) ≡ integer_sum (entries_at j points)
sum_more points j k s t p within is e d =
    first_terms s (entry p j) (integer_sum (entries_at j (drop (k + 1) points))) _ t e (rw is (rw (drop_more points k p within) at d))

-- at the end nothing is left
pub sum_all : (points : List (List ℤ)) (j k : ℕ) (s : ℤ) → length points ≤ k
    → s +ℤ integer_sum (entries_at j (drop k points)) ≡ integer_sum (entries_at j points) → s ≡ integer_sum (entries_at j points)
sum_all points j k s past d =
    let d' : s +ℤ pos 0 ≡ integer_sum (entries_at j points) = rw (drop_all k points past) at d in omega (arith, ints)

-- an entry isn't larger than the absolute sum
pub entry_small : (x : List ℤ) (j : ℕ) → nat_abs (entry x j) ≤ absolute_sum x
entry_small [] j = omega arith
entry_small (a ∷ x) zero = omega arith
entry_small (a ∷ x) (suc j) = omega (arith, entry_small x j)

-- so the entries of chosen points at one place have a small absolute sum
chosen_column_bound : (points : List (List ℤ)) (j : ℕ) {corners : List Corner} → All (λ y. absolute_sum y ≤ MOST_SIZE) points
    → Each (λ c. c.place < length points) corners → absolute_sum (entries_at j (chosen points corners)) ≤ length corners * MOST_SIZE
chosen_column_bound points j small empty = omega arith
chosen_column_bound points j small (more {x = c} h rest) =
    omega (arith, entry_small (get_or points c.place []) j, small c.place [] h, chosen_column_bound points j small rest)

pub chosen_column_small : (points : List (List ℤ)) (j : ℕ) (corners : List Corner) → All (λ y. absolute_sum y ≤ MOST_SIZE) points
    → AreWithin points corners → length corners ≤ MOST_COORDINATES → absolute_sum (entries_at j (chosen points corners)) ≤ 2 ^ 30
chosen_column_small points j corners small within few =
    omega (arith, chosen_column_bound points j small (each_from_all _ corners within))

-- the next entry is small
next_entry : (points : List (List ℤ)) (j k : ℕ) (p : List ℤ) → k < length points → p ≡ get_or points k p
    → All (λ y. absolute_sum y ≤ MOST_SIZE) points → nat_abs (entry p j) ≤ MOST_SIZE
next_entry points j k p within is small =
    let here : absolute_sum p ≤ MOST_SIZE = rw is (small k p within) in omega (arith, entry_small p j)

-- so the next sum is small, and fits
pub next_small : (points : List (List ℤ)) (j k : ℕ) (s a : ℤ) (p : List ℤ) → k < length points → p ≡ get_or points k p → a ≡ entry p j
    → All (λ y. absolute_sum y ≤ MOST_SIZE) points → nat_abs s ≤ k * MOST_SIZE → nat_abs (s +ℤ a) ≤ (k + 1) * MOST_SIZE
next_small points j k s a p within is e small h = rw e (omega (arith, ints, next_entry points j k p within is small))

pub next_fits : (points : List (List ℤ)) (j k : ℕ) (s a : ℤ) (p : List ℤ) → k < length points → p ≡ get_or points k p → a ≡ entry p j
    → All (λ y. absolute_sum y ≤ MOST_SIZE) points → length points ≤ MOST_COUNT → nat_abs s ≤ k * MOST_SIZE → FitsSigned w64 (s +ℤ a)
next_fits points j k s a p within is e small count h =
    fits_signed_from_abs w64 (s +ℤ a) (omega (arith, next_small points j k s a p within is e small h))

-- a number of 64 bits times a small one, and another small number beside it
product_small : (times : ℕ) (a : ℤ) → times < 2 ^ 64 → nat_abs a ≤ 2 ^ 60 → nat_abs (pos times *ℤ a) ≤ 2 ^ 124
product_small times a h k =
    let step : times * nat_abs a ≤ times * 2 ^ 60 = mul-le-mul_left times k in
    rw unsigned_abs-mul (omega (arith, ints, step))

pub product_fits : (times : ℕ) (a : ℤ) → times < 2 ^ 64 → nat_abs a ≤ 2 ^ 60 → FitsSigned w128 (pos times *ℤ a)
product_fits times a h k = fits_signed_from_abs w128 (pos times *ℤ a) (omega (arith, product_small times a h k))

pub multiple_fits : (times : ℕ) (a b : ℤ) → times < 2 ^ 64 → nat_abs a ≤ 2 ^ 60 → nat_abs b ≤ 2 ^ 100
    → FitsSigned w128 (pos times *ℤ a +ℤ b)
multiple_fits times a b h k m = fits_signed_from_abs w128 (pos times *ℤ a +ℤ b) (omega (arith, ints, product_small times a h k))
