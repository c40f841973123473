use Rattle.std.proofs.Common.{◌≡◌, ◌<◌, pos, SFits, refl, ◌∙◌, arith, rules}
use Rattle.std.specs.Int.{w128}
use Rattle.std.proofs.lemmas.Bool.{true≢false}
use Rattle.std.proofs.lemmas.Int.{to_z-of_z}
use Rattle.std.proofs.lemmas.List.{take_all}
use Rattle.lattice_theory.specs.Vector.{entry, scaled}
use Rattle.lattice_core.proofs.CommonDivisors.{primitive_quotients, zeros_from_divisor, divisor_from_zeros}
use Rattle.lattice_core.proofs.divisors.primitive.Goals as goal

pub returns-then-divisor-eq0-clause-variant : goal.returns-then-divisor-eq0-clause-variant
returns-then-divisor-eq0-clause-variant c =
    (λ _. zeros_from_divisor c.args.v.now _ c.if-divisor-eq0.true c.common_divisor-divisor.ensures.divides, λ _. refl)

pub quotient-requires-clause-divides : goal.quotient-requires-clause-divides
quotient-requires-clause-divides c =
    let fits : SFits w128 (entry c.args.v.now c.loop-entry.entry-index) = search rules in
    simp to_z-of_z (c.common_divisor-divisor.ensures.divides c.loop-entry.entry-index (pos 0) (omega arith))

pub returns : goal.returns
returns c =
    let found = c.common_divisor-divisor.ensures in
    let positive : 0 < c.common_divisor-divisor.result = omega arith in
    let multiple : scaled (pos c.common_divisor-divisor.result) c.loop-entry.quotients.items ≡ c.args.v.now =
    c.loop-entry.invariant.multiple ∙ take_all _ _ (omega arith) in
    record {
      variant = (
        λ e. absurd (true≢false e),
        λ zeros. absurd (c.if-divisor-eq0.false (divisor_from_zeros c.args.v.now _ found.greatest zeros)),
      );
      part = record {
        factor = c.common_divisor-divisor.result;
        positive = positive;
        primitive = primitive_quotients _ _ _ positive multiple found.greatest;
        multiple = multiple;
      };
    }
