use Rattle.std.proofs.Common.{◌∙◌}
use Rattle.face_theory.specs.Pairings.{function_at}
use Rattle.incidence.proofs.SmallValues.{function_is}
use Rattle.base_counts.proofs.TopSteps.{raised_at, one_more}
use Rattle.base_counts.proofs.base.base_into.Goals as goal

pub loop-i-preserved : goal.loop-i-preserved
loop-i-preserved c = record {
  whole = c.raise.ensures.long ∙ c.loop-i.invariant.whole;
  top = one_more c.args.vectors.now c.args.x.now c.loop-i.i c.loop-i.base c.raise.new.base c.loop-i.invariant.top
      (raised_at c.args.x.now (function_at c.args.vectors.now c.loop-i.i) c.index-vectors-i.result c.loop-i.base c.raise.new.base
      (function_is c.args.vectors.now c.loop-i.i c.index-vectors-i.result c.index-vectors-i.is c.loop-i-test.true) c.raise.ensures);
}
