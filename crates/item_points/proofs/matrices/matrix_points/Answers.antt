use Rattle.std.proofs.Common.{arith, ◌∙◌, inl, inr}
use Rattle.item_points.specs.Matrices.{other_dimension, many_numbers}
use Rattle.item_points.proofs.matrices.matrix_points.Goals as goal
use Rattle.item_points.proofs.matrices.matrix_points.Goals.{then-coordinates-eq0-via-then-coordinates-eq0, then-coordinates-eq0-via-else-coordinates-eq0+then-coordinates}

pub returns-then-coordinates-eq0 : goal.returns-then-coordinates-eq0
returns-then-coordinates-eq0 c =
    let told = c.from.ensures ∙ c.dimension-coordinates.ensures in
    other_dimension (record {
      told_is = told;
      outside = elim c.then-coordinates-eq0.branch [
        | then-coordinates-eq0-via-then-coordinates-eq0 w ↦ inl (omega (arith, c.from.ensures, w.if-coordinates-eq0.true))
        | then-coordinates-eq0-via-else-coordinates-eq0+then-coordinates w ↦ inr (omega (arith, c.from.ensures, w.if-coordinates.true))
      ];
    })

pub returns-then-count-gt-MOST_NUMBERS : goal.returns-then-count-gt-MOST_NUMBERS
returns-then-count-gt-MOST_NUMBERS c =
    let same = c.dimension-coordinates.ensures in
    many_numbers (record {
      least = omega (arith, same, c.if-coordinates-eq0.false);
      most = omega (arith, same, c.if-coordinates.false);
      told_is = c.from-then-count-gt-MOST_NUMBERS.ensures ∙ c.count-count.ensures;
      many = omega (arith, c.from-then-count-gt-MOST_NUMBERS.ensures, c.if-count-gt-MOST_NUMBERS.true);
    })

pub returns : goal.returns
returns c =
    let same = c.dimension-coordinates.ensures in
    record {
      least = omega (arith, same, c.if-coordinates-eq0.false);
      most = omega (arith, same, c.if-coordinates.false);
      few = omega (arith, c.count-count.ensures, c.if-count-gt-MOST_NUMBERS.false);
      are_points = c.in_ok-points.ensures;
    }
