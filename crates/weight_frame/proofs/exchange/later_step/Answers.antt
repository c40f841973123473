use Rattle.std.proofs.Common.{◌≡◌, neg_ℤ, length, refl, sym, SFits, w64, rules, arith}
use Rattle.std.specs.Int.{w128}
use Rattle.std.proofs.lemmas.Int.{ints, to_z-of_z}
use Rattle.weight_frame.specs.Frame.{AreLeastMultipliers}
use Rattle.weight_frame.specs.steps.Sums.{IsSmallSum, IsLargeSum}
use Rattle.weight_frame.proofs.Euclid.{multipliers_small}
use Rattle.weight_frame.proofs.StepAnswers.{kept_above, last_above, later_made}
use Rattle.weight_frame.proofs.exchange.later_step.Goals as goal

pub sum_of_multiples-requires-clause-second : goal.sum_of_multiples-requires-clause-second
sum_of_multiples-requires-clause-second c =
    let m = c.least_multipliers-multipliers.result in
    let v : SFits w64 c.args.value = c.ranges.value in
    let here : SFits w64 m.here = search rules in
    let second : SFits w128 m.second = search rules in
    let are : AreLeastMultipliers c.args.value c.args.after m.divisor m.behind m.here m.first m.second =
    simp to_z-of_z at c.least_multipliers-multipliers.ensures in
    let small = multipliers_small c.args.value c.args.after m.divisor m.behind m.here m.first m.second c.requires.positive are in
    let size = c.requires.value in
    let turned : c.opposite_number.result ≡ neg_ℤ m.here = simp to_z-of_z at c.opposite_number.ensures in
    let opposite : SFits w128 c.opposite_number.result = search rules in
    let first : SFits w128 c.from.result = search rules in
    let here_small = small.here in
    simp to_z-of_z (rw turned (omega (arith, ints)))

pub sum_of_multiples-requires-2-clause-first : goal.sum_of_multiples-requires-2-clause-first
sum_of_multiples-requires-2-clause-first c =
    let m = c.least_multipliers-multipliers.result in
    let v : SFits w64 c.args.value = c.ranges.value in
    let here : SFits w64 m.here = search rules in
    let second : SFits w128 m.second = search rules in
    let are : AreLeastMultipliers c.args.value c.args.after m.divisor m.behind m.here m.first m.second =
    simp to_z-of_z at c.least_multipliers-multipliers.ensures in
    let small = multipliers_small c.args.value c.args.after m.divisor m.behind m.here m.first m.second c.requires.positive are in
    let size = c.requires.value in
    let first : SFits w128 c.from-2.result = search rules in
    let first_small = small.first in
    simp to_z-of_z (rw c.from-2.ensures (omega arith))

pub sum_of_multiples-requires-2-clause-second : goal.sum_of_multiples-requires-2-clause-second
sum_of_multiples-requires-2-clause-second c =
    let m = c.least_multipliers-multipliers.result in
    let v : SFits w64 c.args.value = c.ranges.value in
    let here : SFits w64 m.here = search rules in
    let second : SFits w128 m.second = search rules in
    let are : AreLeastMultipliers c.args.value c.args.after m.divisor m.behind m.here m.first m.second =
    simp to_z-of_z at c.least_multipliers-multipliers.ensures in
    let small = multipliers_small c.args.value c.args.after m.divisor m.behind m.here m.first m.second c.requires.positive are in
    let size = c.requires.value in
    let second_small = small.second in
    simp to_z-of_z (omega arith)

pub returns-in-Err : goal.returns-in-Err
returns-in-Err c =
    let m = c.least_multipliers-multipliers.result in
    let v : SFits w64 c.args.value = c.ranges.value in
    let here : SFits w64 m.here = search rules in
    let second : SFits w128 m.second = search rules in
    let are : AreLeastMultipliers c.args.value c.args.after m.divisor m.behind m.here m.first m.second =
    simp to_z-of_z at c.least_multipliers-multipliers.ensures in
    let turned : c.opposite_number.result ≡ neg_ℤ m.here = simp to_z-of_z at c.opposite_number.ensures in
    let opposite : SFits w128 c.opposite_number.result = search rules in
    let first : SFits w128 c.from.result = search rules in
    let large : IsLargeSum (length c.args.u.now) c.from.result c.args.u.now c.opposite_number.result c.args.h.now c.in-Err.told =
    simp to_z-of_z at c.in-Err.ensures in
    kept_above (length c.args.u.now) c.args.u.now c.args.value c.args.h.now c.args.after m.divisor m.behind m.here m.first m.second
    c.in-Err.told refl (sym c.requires.same) c.requires.positive are (rw (c.from.ensures, turned) at large)

pub returns-in-Err-sum_of_multiples : goal.returns-in-Err-sum_of_multiples
returns-in-Err-sum_of_multiples c =
    let m = c.least_multipliers-multipliers.result in
    let v : SFits w64 c.args.value = c.ranges.value in
    let here : SFits w64 m.here = search rules in
    let second : SFits w128 m.second = search rules in
    let are : AreLeastMultipliers c.args.value c.args.after m.divisor m.behind m.here m.first m.second =
    simp to_z-of_z at c.least_multipliers-multipliers.ensures in
    let turned : c.opposite_number.result ≡ neg_ℤ m.here = simp to_z-of_z at c.opposite_number.ensures in
    let opposite : SFits w128 c.opposite_number.result = search rules in
    let first : SFits w128 c.from.result = search rules in
    let later : SFits w128 c.from-2.result = search rules in
    let kept : IsSmallSum (length c.args.u.now) c.from.result c.args.u.now c.opposite_number.result c.args.h.now c.in-Ok.kept =
    simp to_z-of_z at c.in-Ok.ensures in
    let large : IsLargeSum (length c.args.u.now) c.from-2.result c.args.u.now m.second c.args.h.now c.in-Err-sum_of_multiples.told =
    simp to_z-of_z at c.in-Err-sum_of_multiples.ensures in
    last_above (length c.args.u.now) c.args.u.now c.args.value c.args.h.now c.args.after m.divisor m.behind m.here m.first m.second
    c.in-Ok.kept c.in-Err-sum_of_multiples.told c.requires.positive are (rw (c.from.ensures, turned) at kept)
    (rw c.from-2.ensures at large)

pub returns : goal.returns
returns c =
    let m = c.least_multipliers-multipliers.result in
    let v : SFits w64 c.args.value = c.ranges.value in
    let here : SFits w64 m.here = search rules in
    let second : SFits w128 m.second = search rules in
    let are : AreLeastMultipliers c.args.value c.args.after m.divisor m.behind m.here m.first m.second =
    simp to_z-of_z at c.least_multipliers-multipliers.ensures in
    let turned : c.opposite_number.result ≡ neg_ℤ m.here = simp to_z-of_z at c.opposite_number.ensures in
    let opposite : SFits w128 c.opposite_number.result = search rules in
    let first : SFits w128 c.from.result = search rules in
    let later : SFits w128 c.from-2.result = search rules in
    let kept : IsSmallSum (length c.args.u.now) c.from.result c.args.u.now c.opposite_number.result c.args.h.now c.in-Ok.kept =
    simp to_z-of_z at c.in-Ok.ensures in
    let last : IsSmallSum (length c.args.u.now) c.from-2.result c.args.u.now m.second c.args.h.now c.in-Ok-sum_of_multiples.last =
    simp to_z-of_z at c.in-Ok-sum_of_multiples.ensures in
    later_made (length c.args.u.now) c.args.u.now c.args.value c.args.h.now c.args.after m.divisor m.behind m.here m.first m.second
    c.in-Ok.kept c.in-Ok-sum_of_multiples.last c.requires.positive c.requires.small are (rw (c.from.ensures, turned) at kept)
    (rw c.from-2.ensures at last)
