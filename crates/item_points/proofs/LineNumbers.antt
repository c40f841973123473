-- The numbers of a weight line: its degrees, and their product.
use Rattle.std.specs.Prelude.{Option, None, Some, if◌then◌else◌}
use Rattle.std.proofs.Common.{◌≡◌, ◌∙◌, sym, ap, refl, ℕ, zero, suc, ◌+◌, ◌*◌, ◌^◌, ◌<◌, ◌≤◌, Bool, true, false, nat_lt, List, [], ◌∷◌, length, drop, get_or, arith}
use Rattle.std.proofs.Math.Nat.{mul_assoc, mul-le-mul, pow-suc, pow-le-pow_right}
use Rattle.std.proofs.lemmas.Bool.{ltb-false}
use Rattle.std.proofs.lemmas.Option.{none-some}
use Rattle.std.proofs.lemmas.List.{at_drop_more}
use Rattle.lattice_theory.proofs.Members.{Each, empty, more, each_head, all_from_each}
use Rattle.lattice_core.specs.declared.weights.WeightSystem.{WeightSystem}
use Rattle.lattice_core.specs.Weights.{Weighted, weighted_all, columns_of, degree_product, AreWithinLimits}
use Rattle.lattice_core.specs.declared.faults.Refusal.TheVariants.{Limit}
use Rattle.lattice_core.specs.declared.faults.LimitName.TheVariants.{Systems, Weights, Degree, DegreeProduct}
use Rattle.item_points.specs.WeightLines.{first_large_degree, degrees_refusal, numbers_refusal}

-- a choice that is none
passed : {X : Type 0} (b : Bool) (told : X) (later : Option X) → (if b then Some told else later) ≡ None → (b ≡ false) × (later ≡ None)
passed true told later e = absurd (none-some told (sym e))
passed false told later e = (refl, e)

-- where there is no first degree above the limit, no degree is
pub degrees_within : (systems : List Weighted) → first_large_degree systems ≡ None → Each (λ s. s.degree ≤ 32_767) systems
degrees_within [] e = empty
degrees_within (s ∷ systems) e =
    let p = passed (nat_lt 32_767 s.degree) s.degree (first_large_degree systems) e in
    more (ltb-false 32_767 s.degree p.0) (degrees_within systems p.1)

-- what no refusal says of the degrees
degrees_passed : (systems : List Weighted) (large : Option ℕ) → degrees_refusal systems large ≡ None
    → (large ≡ None) × (degree_product systems ≤ 1_099_511_627_776)
degrees_passed systems (Some degree) e = absurd (none-some (Limit Degree degree) (sym e))
degrees_passed systems None e =
    let p = passed (nat_lt 1_099_511_627_776 (degree_product systems)) (Limit DegreeProduct (degree_product systems)) None e in
    (refl, ltb-false 1_099_511_627_776 (degree_product systems) p.0)

-- and of all numbers
pub numbers_within : (systems : List Weighted) → numbers_refusal systems ≡ None → AreWithinLimits systems
numbers_within systems e =
    let later = degrees_refusal systems (first_large_degree systems) in
    let many = Limit Weights (columns_of systems) in
    let p = passed (nat_lt 6 (length systems)) (Limit Systems (length systems)) (if nat_lt 12 (columns_of systems) then Some many
    else later) e in
    let q = passed (nat_lt 12 (columns_of systems)) many later p.1 in
    let d = degrees_passed systems (first_large_degree systems) q.1 in
    let product = d.1 in
    record {
      few = ltb-false 6 (length systems) p.0;
      weights = ltb-false 12 (columns_of systems) q.0;
      degrees = all_from_each {P = λ s. s.degree ≤ 32_767} (degrees_within systems d.0);
      product = omega arith;
    }

-- so no system's degree is
pub degree_within_at : (systems : List WeightSystem) (i : ℕ) (system : WeightSystem) → first_large_degree (weighted_all systems) ≡ None
    → i < length systems → (get_or systems i system).degree ≤ 32_767
degree_within_at [] i system e within = absurd (omega arith)
degree_within_at (s ∷ systems) zero system e within = each_head (degrees_within (weighted_all (s ∷ systems)) e)
degree_within_at (s ∷ systems) (suc i) system e within =
    let p = passed (nat_lt 32_767 s.degree) s.degree (first_large_degree (weighted_all systems)) e in
    degree_within_at systems i system p.1 (omega arith)

-- the product of the degrees from a place on
pub product_behind : (systems : List WeightSystem) (i product : ℕ) (system : WeightSystem) → i < length systems
    → product * degree_product (weighted_all (drop i systems)) ≡ product * (get_or systems i system).degree * degree_product
    (weighted_all (drop (i + 1) systems))
product_behind systems i product system within =
    ap (λ (n : ℕ). product * n) (at_drop_more (λ (ss : List WeightSystem). degree_product (weighted_all ss)) systems i system within)
    ∙ sym (mul_assoc product (get_or systems i system).degree (degree_product (weighted_all (drop (i + 1) systems))))

-- a product of so many degrees, and one more
pub product_step : (i product degree : ℕ) → product ≤ 32_767 ^ i → degree ≤ 32_767 → product * degree ≤ 32_767 ^ (i + 1)
product_step i product degree h k = let more : i + 1 ≡ suc i = omega arith in rw (more, pow-suc 32_767 i) (mul-le-mul h k)

pub product_small : (i product degree : ℕ) → i < 6 → product ≤ 32_767 ^ i → degree ≤ 32_767 → product * degree < 2 ^ 128
product_small i product degree few h k =
    let p = product_step i product degree h k in
    let s : 32_767 ^ (i + 1) ≤ 32_767 ^ 6 = pow-le-pow_right {n = 32_767} (omega arith) {i = i + 1} {j = 6} (omega arith) in
    omega arith
