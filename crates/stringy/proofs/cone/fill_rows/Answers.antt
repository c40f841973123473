use Rattle.std.proofs.Common.{◌∙◌}
use Rattle.polynomial_theory.specs.Series.{HasDegreeAtMost}
use Rattle.stringy.specs.ConeNumbers.{IsHStar}
use Rattle.stringy.specs.RowSteps.{degree_of}
use Rattle.stringy.proofs.ConeRows.{put_small, rows_so_far}
use Rattle.stringy.proofs.cone.fill_rows.Goals as goal

pub loop-face-preserved : goal.loop-face-preserved
loop-face-preserved g c = record {
  long = c.put_row.ensures.long ∙ c.loop-face.invariant.long;
  small = put_small c.loop-face.rows c.put_row.new.rows c.star_row.result c.loop-face.face c.put_row.ensures.at c.put_row.ensures.others c.star_row.ensures.small
      c.loop-face.invariant.small;
  degree = rows_so_far (λ f A. HasDegreeAtMost (degree_of c.args.table.now c.args.side f) A) (λ f A B e d k l. e k ∙ d k l)
      c.loop-face.rows c.put_row.new.rows c.star_row.result c.loop-face.face c.put_row.ensures.at c.put_row.ensures.others c.star_row.ensures.short
      c.loop-face.invariant.degree c.star_row.ensures.degree;
  done = rows_so_far (λ f A. IsHStar c.args.table.now (g.C.FaceNumbers.numbers c.args.counts.now) c.args.side f A) (λ f A B e d top t k. e k ∙ d top t k)
      c.loop-face.rows c.put_row.new.rows c.star_row.result c.loop-face.face c.put_row.ensures.at c.put_row.ensures.others c.star_row.ensures.short
      c.loop-face.invariant.done c.star_row.ensures.value;
}
