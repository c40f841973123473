use Rattle.std.proofs.Common.{◌*◌, ◌^◌, ◌≤◌, List, [], ◌∷◌, length, refl, arith}
use Rattle.std.specs.List.{All}
use Rattle.std.proofs.Math.Nat.{mul-le-mul}
use Rattle.std.proofs.lemmas.List.{length-map}
use Rattle.lattice_core.specs.Weights.{Weighted, weighted, weighted_all, degree_product}
use Rattle.lattice_core.specs.declared.limits.TheConstants.{MOST_DEGREE}
use Rattle.weight_points.proofs.monomials.tests.are_valid.Goals as goal

-- two degrees have no large product
product_small : (systems : List Weighted) → length systems ≤ 2 → All (λ s. s.degree ≤ MOST_DEGREE) systems → degree_product systems ≤ 2 ^ 40
product_small [] few small = omega arith
product_small (s ∷ []) few small = let first : s.degree ≤ MOST_DEGREE = small 0 s (omega arith) in omega arith
product_small (s ∷ (t ∷ [])) few small =
    let first : s.degree ≤ MOST_DEGREE = small 0 s (omega arith) in
    let second : t.degree ≤ MOST_DEGREE = small 1 s (omega arith) in
    let both : s.degree * t.degree ≤ MOST_DEGREE * MOST_DEGREE = mul-le-mul first second in
    omega arith
product_small (s ∷ (t ∷ (u ∷ systems))) few small = absurd (omega arith)

pub returns-clause-limits : goal.returns-clause-limits
returns-clause-limits c = λ h.
    let systems = c.args.systems.now in
    let same = length-map systems weighted in
    let few : length (weighted_all systems) ≤ 2 = omega arith in
    record {
      few = omega arith;
      weights = omega (arith, c.columns-count.ensures);
      degrees = c.if-not-are_summed.ensures.small refl;
      product = product_small (weighted_all systems) few (c.if-not-are_summed.ensures.small refl);
    }
