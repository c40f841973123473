use Rattle.std.proofs.Common.{rules, SFits, arith}
use Rattle.std.specs.Int.{w128}
use Rattle.std.proofs.lemmas.Int.{to_z-of_z}
use Rattle.stringy.specs.Numbers.{hodge_at}
use Rattle.stringy.proofs.Ranges.{value_pushed}
use Rattle.stringy.proofs.numbers.EPoly.add_line.Goals as goal

pub loop-q-preserved : goal.loop-q-preserved
loop-q-preserved c = let fits : SFits w128 c.hodge_of.result = search rules in record {
  items = value_pushed c.args.numbers.now.items c.loop-q.numbers.items c.push.new.self.items (hodge_at c.args.self.now c.args.p) 0 c.loop-q.q c.loop-q.q c.hodge_of.result
      (simp to_z-of_z at c.push.ensures.items) c.loop-q.invariant.items c.hodge_of.ensures (omega arith);
  count = let e = c.push.ensures.len in let i = c.loop-q.invariant.count in omega arith;
}
