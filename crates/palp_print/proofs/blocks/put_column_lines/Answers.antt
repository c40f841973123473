use Rattle.palp_print.proofs.Lines.{line_written}
use Rattle.palp_print.specs.Blocks.{column_line}
use Rattle.palp_print.proofs.blocks.put_column_lines.Goals as goal

pub loop-i-preserved : goal.loop-i-preserved
loop-i-preserved c = record {
  written = line_written (column_line c.args.points.now) c.loop-i.i c.args.text.now.items c.loop-i.text.items
      c.put_column_line.new.text.items c.loop-i.invariant.written
      c.in_ok-put_column_line.ensures;
}
