use Rattle.std.proofs.Common.{SFits, w64, rules, arith}
use Rattle.std.specs.Int.{w128}
use Rattle.std.proofs.lemmas.Int.{to_z-of_z}
use Rattle.lattice_theory.specs.Vector.{entry}
use Rattle.weight_frame.proofs.Largest.{entry_at_most}
use Rattle.weight_frame.proofs.MultipleSteps.{sums_more, sums_all}
use Rattle.weight_frame.proofs.multiples.sum_entries.Goals as goal

pub entry_sum-requires-clause-left : goal.entry_sum-requires-clause-left
entry_sum-requires-clause-left c =
    let x : SFits w64 (entry c.args.x.now c.loop-i.i) = search rules in
    let h = entry_at_most c.args.x.now c.loop-i.i in
    simp to_z-of_z (omega arith)

pub entry_sum-requires-clause-right : goal.entry_sum-requires-clause-right
entry_sum-requires-clause-right c =
    let y : SFits w64 (entry c.args.y.now c.loop-i.i) = search rules in
    let h = entry_at_most c.args.y.now c.loop-i.i in
    simp to_z-of_z (omega arith)

pub loop-i-preserved : goal.loop-i-preserved
loop-i-preserved c =
    let p : SFits w128 c.args.p = search rules in
    let q : SFits w128 c.args.q = search rules in
    let x : SFits w64 (entry c.args.x.now c.loop-i.i) = search rules in
    let y : SFits w64 (entry c.args.y.now c.loop-i.i) = search rules in
    let z : SFits w128 c.entry_sum.result = search rules in
    let value = simp to_z-of_z at c.entry_sum.ensures.value in
    let items = simp to_z-of_z at c.push.ensures.items in
    let before = simp to_z-of_z at c.loop-i.invariant in
    simp to_z-of_z (sums_more c.args.p c.args.x.now c.args.q c.args.y.now c.loop-i.entries.items c.push.new.self.items c.loop-i.i
    c.entry_sum.result before items value c.entry_sum.ensures.bound)

pub returns : goal.returns
returns c =
    let p : SFits w128 c.args.p = search rules in
    let q : SFits w128 c.args.q = search rules in
    let made = simp to_z-of_z at c.loop-i.invariant in
    record {
      sum = sums_all c.args.p c.args.x.now c.args.q c.args.y.now c.loop-i.entries.items c.loop-i.i made
          (omega arith) c.requires.same;
      bound = made.small;
    }
