use Rattle.std.proofs.Common.{arith}
use Rattle.stringy.specs.Numbers.{hodge_line}
use Rattle.stringy.proofs.Ranges.{line_pushed}
use Rattle.stringy.proofs.numbers.EPoly.diamond.Goals as goal

pub loop-p-preserved : goal.loop-p-preserved
loop-p-preserved c = record {
  items = line_pushed (hodge_line c.args.self.now) c.loop-p.numbers.items c.add_line.new.numbers.items c.loop-p.p c.add_line.ensures.items c.loop-p.invariant.items;
  count = let e = c.add_line.ensures.count in let i = c.loop-p.invariant.count in let v = c.dim-p-end.ensures.value in let f = c.dim-p-end.ensures.few in omega arith;
}
