use Rattle.std.proofs.Common.{◌≡◌, max, nat_abs, SFits, w64, rules, arith, ap, ◌∙◌}
use Rattle.std.proofs.lemmas.Int.{to_z-of_z}
use Rattle.lattice_core.proofs.SizeSteps.{larger, reach_more, reach_all}
use Rattle.lattice_core.proofs.sizes.reach_of.Goals as goal

pub loop-p-preserved : goal.loop-p-preserved
loop-p-preserved c =
    let fits : SFits w64 c.entry.result = search rules in
    let abs : c.unsigned_abs.result ≡ nat_abs c.entry.result = simp to_z-of_z at c.unsigned_abs.ensures.value in
    let next : c.max-largest.result ≡ max c.loop-p.largest c.unsigned_abs.result =
    c.max-largest.ensures ∙ larger c.loop-p.largest c.unsigned_abs.result in
    record {
      value = reach_more c.args.points.now c.args.i c.loop-p.p-index _ _ c.p-item.result c.loop-p-test.true c.p-item.is
          (next ∙ ap (λ n. max c.loop-p.largest n) (abs ∙ ap nat_abs c.entry.ensures)) c.loop-p.invariant.value;
      bound = omega arith;
    }

pub returns : goal.returns
returns c =
    record {
      value = reach_all c.args.points.now c.args.i c.loop-p.p-index _ c.loop-p-test.false c.loop-p.invariant.value;
      bound = c.loop-p.invariant.bound;
    }
