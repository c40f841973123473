use Rattle.palp_print.proofs.Lines.{line_written}
use Rattle.palp_print.specs.Partitions.{diamond_line}
use Rattle.palp_print.proofs.partitions.put_diamond.Goals as goal

pub loop-p-preserved : goal.loop-p-preserved
loop-p-preserved c = record {
  written = line_written (diamond_line c.args.width c.args.numbers.now) c.loop-p.p c.args.text.now.items c.loop-p.text.items
      c.put_diamond_line.new.text.items c.loop-p.invariant.written c.in_ok-put_diamond_line.ensures;
}
