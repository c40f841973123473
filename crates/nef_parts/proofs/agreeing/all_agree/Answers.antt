use Rattle.std.proofs.Common.{◌≡◌, false, true, refl, sym, ◌∙◌, subst}
use Rattle.std.proofs.Math.ListN.{length-set}
use Rattle.nef_parts.specs.declared.masks.VertexMask.{VertexMask}
use Rattle.nef_parts.specs.steps.Agreeing.{SomeAgrees}
use Rattle.nef_parts.proofs.RowAgreements.{next_vertex}
use Rattle.nef_parts.proofs.agreeing.all_agree.Goals as goal

pub returns-then-not-parts_agree-clause-agree : goal.returns-then-not-parts_agree-clause-agree
returns-then-not-parts_agree-clause-agree c = (
  (λ h. absurd (let f : false ≡ true = h in cc)),
  (λ all. c.if-not-parts_agree.ensures.1 (λ i h. subst (λ (m : VertexMask). SomeAgrees m c.args.begin.now i) (sym c.index-masks-v.is)
      (all c.loop-v.v c.index-masks-v.result c.loop-v-test.true i h))),
)

pub loop-v-preserved : goal.loop-v-preserved
loop-v-preserved c = record {
  hints = length-set c.loop-v.hints c.loop-v.v c.parts_agree.new.hints ∙ c.loop-v.invariant.hints;
  agree = next_vertex c.args.masks.now c.args.begin.now c.args.r c.loop-v.v c.index-masks-v.result c.loop-v-test.true c.index-masks-v.is
      c.loop-v.invariant.agree (c.if-not-parts_agree.ensures.0 refl);
}
