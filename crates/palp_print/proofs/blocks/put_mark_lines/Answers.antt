use Rattle.palp_print.proofs.Lines.{reach_at}
use Rattle.palp_print.proofs.blocks.put_mark_lines.Goals as goal

pub put_mark_line-requires : goal.put_mark_line-requires
put_mark_line-requires c = reach_at c.args.facets.now c.args.vertices.now c.loop-facet.facet-index c.facet-item.result c.requires
    c.loop-facet-test.true c.facet-item.is
