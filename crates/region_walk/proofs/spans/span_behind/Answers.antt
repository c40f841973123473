use mir.Val.{to_z, of_z}
use mir.Syntax.{w128}
use Rattle.std.specs.Prelude.{ℤ}
use Rattle.std.proofs.Common.{◌≡◌, arith, w64, ap, subst, ◌++◌, ◌∷◌, [], List, length, rules, SFits}
use Rattle.std.proofs.lemmas.Int.{ints}
use Rattle.std.proofs.lemmas.List.{take_all}
use Rattle.lattice_theory.specs.Affine.{Affine, value}
use Rattle.lattice_theory.specs.Vector.{entry}
use Rattle.region_walk.specs.steps.Spans.{IsBetween, AreNonnegativeAt}
use Rattle.region_walk.proofs.Cuts.{cut_more, cut_none}
use Rattle.region_walk.proofs.spans.span_behind.Goals as goal
use Rattle.region_walk.proofs.spans.span_behind.Goals.{After-value_of_beginning-rest}

-- the function's slope and its value behind the beginning
slope_is : (c : After-value_of_beginning-rest) → to_z w64 (of_z w64 (entry c.normal.result.now (length c.args.beginning.now)))
    ≡ entry c.function-item.result.normal (length c.args.beginning.now)
slope_is c =
    let fits : SFits w64 (entry c.normal.result.now (length c.args.beginning.now)) = search rules in
    let same = ap (λ (a : List ℤ). entry a (length c.args.beginning.now)) c.normal.ensures.value in
    omega (arith, ints)

rest_is : (c : After-value_of_beginning-rest) → to_z w128 (of_z w128 c.value_of_beginning-rest.result)
    ≡ value c.function-item.result c.args.beginning.now
rest_is c = let same = c.value_of_beginning-rest.ensures.value in omega (arith, ints)

pub returns-in-None-clause-none : goal.returns-in-None-clause-none
returns-in-None-clause-none c =
    cut_none c.args.functions.now c.loop-function.function-index c.function-item.result c.args.beginning.now c.args.span.low c.args.span.high
    c.loop-function.left.low c.loop-function.left.high _ _ c.loop-function-test.true c.function-item.is
    (slope_is (goal.at.returns-in-None-clause-none c).After-value_of_beginning-rest)
    (rest_is (goal.at.returns-in-None-clause-none c).After-value_of_beginning-rest) c.loop-function.invariant.kept c.in-None.ensures.none

pub loop-function-preserved : goal.loop-function-preserved
loop-function-preserved c = record {
  ordered = c.in-Some.ensures.ordered;
  kept = cut_more c.args.functions.now c.loop-function.function-index c.function-item.result c.args.beginning.now c.args.span.low
      c.args.span.high c.loop-function.left.low c.loop-function.left.high _ _ c.loop-function-test.true c.function-item.is
      (slope_is (goal.at.loop-function-preserved c).After-value_of_beginning-rest)
      (rest_is (goal.at.loop-function-preserved c).After-value_of_beginning-rest)
      c.loop-function.invariant.kept c.in-Some.kept.low c.in-Some.kept.high c.in-Some.ensures.some;
}

pub returns-clause-some : goal.returns-clause-some
returns-clause-some c =
    let left = c.loop-function.left in
    let span = c.args.span in
    let means : List Affine → Type 0 = λ fs. (v : ℤ)
    → (IsBetween left.low left.high v → IsBetween span.low span.high v × AreNonnegativeAt fs (c.args.beginning.now ++ v ∷ []))
    × (IsBetween span.low span.high v × AreNonnegativeAt fs (c.args.beginning.now ++ v ∷ []) → IsBetween left.low left.high v) in
    subst means (take_all c.loop-function.function-index c.args.functions.now c.loop-function-test.false) c.loop-function.invariant.kept
