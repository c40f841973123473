use Rattle.std.proofs.Common.{SFits, w64, arith, rules}
use Rattle.std.specs.Int.{w128}
use Rattle.std.proofs.lemmas.Int.{to_z-of_z}
use Rattle.weight_frame.proofs.Euclid.{multipliers_found, found_positive, found_part, found_first}
use Rattle.weight_frame.proofs.multipliers.least_multipliers.Goals as goal

pub nonzero_div-behind : goal.nonzero_div-behind
nonzero_div-behind c = (found_positive c.rest_of.result c.args.after c.euclid-found.result.divisor c.euclid-found.result.multiplier
    c.requires.positive c.euclid-found.ensures).0

pub rest_of-first-requires-clause-positive : goal.rest_of-first-requires-clause-positive
rest_of-first-requires-clause-positive c =
    found_part c.rest_of.result c.args.after c.euclid-found.result.divisor c.euclid-found.result.multiplier c.requires.positive
    c.euclid-found.ensures

pub quotient-requires : goal.quotient-requires
quotient-requires c = let d = found_positive c.rest_of.result c.args.after c.euclid-found.result.divisor c.euclid-found.result.multiplier
    c.requires.positive c.euclid-found.ensures in record { positive = d.0; small = omega arith }

pub second_multiplier-requires-clause-divisor : goal.second_multiplier-requires-clause-divisor
second_multiplier-requires-clause-divisor c = let d =
    found_positive c.rest_of.result c.args.after c.euclid-found.result.divisor c.euclid-found.result.multiplier c.requires.positive
    c.euclid-found.ensures in omega arith

pub second_multiplier-requires-clause-first : goal.second_multiplier-requires-clause-first
second_multiplier-requires-clause-first c =
    let h = found_first c.rest_of.result c.args.after c.euclid-found.result.divisor c.euclid-found.result.multiplier c.rest_of-first.result
    c.requires.positive c.euclid-found.ensures c.rest_of-first.ensures.below in
    omega arith

pub returns : goal.returns
returns c =
    let v : SFits w64 c.args.value = c.ranges.value in
    let q : SFits w64 c.quotient.result = search rules in
    let t : SFits w128 c.second_multiplier.result = search rules in
    let m : SFits w64 c.euclid-found.result.multiplier = search rules in
    let rest = simp to_z-of_z at c.rest_of.ensures.value in
    let first = simp to_z-of_z at c.rest_of-first.ensures.value in
    let here = simp to_z-of_z at c.quotient.ensures in
    let second = simp to_z-of_z at c.second_multiplier.ensures in
    simp to_z-of_z (rw (here, second) (multipliers_found c.args.value c.rest_of.result c.args.after c.euclid-found.result.divisor
    c.euclid-found.result.multiplier c.rest_of-first.result c.requires.positive rest c.euclid-found.ensures first
    c.rest_of-first.ensures.below))
