use Rattle.std.proofs.Common.{SFits, rules, arith}
use Rattle.std.specs.Int.{w128}
use Rattle.std.proofs.lemmas.Int.{to_z-of_z}
use Rattle.lattice_theory.specs.Vector.{entry}
use Rattle.hull.proofs.Steps.{apart_more, apart_all}
use Rattle.hull.proofs.reduction.multiples_apart.Goals as goal

pub loop-i-preserved : goal.loop-i-preserved
loop-i-preserved c =
    let a : SFits w128 c.args.a = search rules in
    let b : SFits w128 c.args.b = search rules in
    let x : SFits w128 (entry c.args.x.now c.loop-i.i) = search rules in
    let y : SFits w128 (entry c.args.y.now c.loop-i.i) = search rules in
    let r : SFits w128 c.scaled_difference.result = search rules in
    let value = simp to_z-of_z at c.scaled_difference.ensures.value in
    let items = simp to_z-of_z at c.push.ensures.items in
    let before = simp to_z-of_z at c.loop-i.invariant in
    simp to_z-of_z (apart_more c.args.a c.args.x.now c.args.b c.args.y.now c.loop-i.entries.items c.push.new.self.items c.loop-i.i
    c.scaled_difference.result before items value c.scaled_difference.ensures.small)

pub returns : goal.returns
returns c =
    let a : SFits w128 c.args.a = search rules in
    let b : SFits w128 c.args.b = search rules in
    let done = simp to_z-of_z at c.loop-i.invariant in
    apart_all c.args.a c.args.x.now c.args.b c.args.y.now c.loop-i.entries.items c.loop-i.i done (omega arith) c.requires.same_length
