use Rattle.std.proofs.Common.{◌≡◌, subst, arith}
use Rattle.std.specs.List.{All}
use Rattle.std.proofs.lemmas.List.{take_all}
use Rattle.std.proofs.lemmas.List.Elements.{All-more}
use Rattle.weight_points.specs.steps.Rows.{IsPlausible}
use Rattle.weight_points.proofs.rows.raised_value.Goals as goal

pub loop-row-preserved : goal.loop-row-preserved
loop-row-preserved c =
    let place = c.args.place in
    let value = c.args.value in
    let rows = c.args.rows.now in
    let i = c.loop-row.invariant in
    let next = c.in-Some.ensures.some in
    let above = i.above in
    let higher = next.above in
    record {
      above = omega arith;
      small = next.small;
      holds = λ e.
          let same : c.loop-row.next ≡ value = omega arith in
          let there : IsPlausible place value c.row-item.result = rw e at next.holds in
          All-more (IsPlausible place value) rows c.loop-row.row-index c.row-item.result c.loop-row-test.true (i.holds same)
          (subst (IsPlausible place value) c.row-item.is there);
      least = λ u h all. next.least u (i.least u h all)
          (rw c.row-item.is (all c.loop-row.row-index c.row-item.result c.loop-row-test.true));
    }

pub returns-clause-some : goal.returns-clause-some
returns-clause-some c =
    let i = c.loop-row.invariant in
    record {
      above = i.above;
      small = i.small;
      holds = λ e. subst (All (IsPlausible c.args.place c.args.value)) (take_all c.loop-row.row-index c.args.rows.now c.loop-row-test.false)
          (i.holds e);
      least = i.least;
    }
