-- Tails at which functions that were kept are tried.
use Rattle.std.proofs.Common.{◌≡◌, ◌↔◌, ℕ, ◌+◌, ◌^◌, ◌≤◌, Bool, true, false, Some, List, ℤ, nat_abs, All, refl, ap, arith}
use Rattle.std.specs.Prelude.{IsTrue}
use Rattle.std.proofs.lemmas.Bool.{false≢true}
use Rattle.lattice_theory.specs.Affine.{Affine}
use Rattle.lattice_theory.specs.Size.{absolute_sum}
use Rattle.lattice_theory.proofs.Members.{In, each_weaker, each_from_in, each_from_all, all_from_each, contains_from_in}
use Rattle.lattice_core.specs.ValueWidths.{IsNarrowAt}
use Rattle.interior_point_theory.specs.Interior.{HasInteriorPoint, system_of}
use Rattle.interior_point_theory.specs.Around.{HasTails}
use Rattle.interior_point_theory.proofs.Tails.{refuters_refute_lem, surrounded_tails_confirm_lem}
use Rattle.weight_tails.proofs.Sizes.{tails_are_small_lem}
use Rattle.weight_enum.specs.steps.Refuters.{IsSmallLinear, HasRefuter, IsVerdict}

-- values of small functions are narrow
pub small_narrow : (n : ℕ) (f : Affine) (points : List (List ℤ)) → IsSmallLinear n f → All (λ y. absolute_sum y ≤ 8192) points
    → All (IsNarrowAt f) points
small_narrow n f points s small =
    all_from_each {P = IsNarrowAt f} (each_weaker (λ y h. at y h) (each_from_all (λ (y : List ℤ). absolute_sum y ≤ 8192) points small))
  where
    at : (y : List ℤ) → absolute_sum y ≤ 8192 → IsNarrowAt f y
    at y h =
        let none : nat_abs f.constant ≡ 0 = ap nat_abs s.linear in
        record { bound = 2 ^ 40; entries = s.small; sums = omega (arith, h, none) }

-- tails are small
pub tails_summed : (degree n : ℕ) (weights : List ℕ) (tails : List (List ℤ)) → HasTails n (system_of degree weights) tails → degree + n ≤ 8192
    → All (λ y. absolute_sum y ≤ 8192) tails
tails_summed degree n weights tails has limit = all_from_each {P = λ y. absolute_sum y ≤ 8192} (each_from_in tails (λ y i. small y i))
  where
    small : (y : List ℤ) → In y tails → absolute_sum y ≤ 8192
    small y i = let h = (tails_are_small_lem n (system_of degree weights) tails has y (contains_from_in i)).1 in omega (arith, h, limit)

pub refuted : (degree n : ℕ) (weights : List ℕ) (tails : List (List ℤ)) → HasTails n (system_of degree weights) tails → HasRefuter n tails
    → HasInteriorPoint (system_of degree weights) → ⊥
refuted degree n weights tails has (f, is) interior = refuters_refute_lem n (system_of degree weights) tails f has is interior

-- what is told of tails is so
pub told : (degree n : ℕ) (weights : List ℕ) (tails : List (List ℤ)) → HasTails n (system_of degree weights) tails → (answer : Bool)
    → IsVerdict n tails (Some answer) → IsTrue answer ↔ HasInteriorPoint (system_of degree weights)
told degree n weights tails has true v = (λ e. surrounded_tails_confirm_lem n (system_of degree weights) tails has v, λ h. refl)
told degree n weights tails has false v = (λ e. absurd (false≢true e), λ h. absurd (refuted degree n weights tails has v h))
