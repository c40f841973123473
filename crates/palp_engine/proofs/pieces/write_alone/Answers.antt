use Rattle.std.proofs.Common.{◌∙◌, ap}
use Rattle.lattice_core.specs.Dimensions.{dimension_of}
use Rattle.palp_input.specs.Grammar.{listed}
use Rattle.palp_engine.proofs.ItemPieces.{alone_written}
use Rattle.palp_engine.proofs.pieces.write_alone.Goals as goal

pub returns : goal.returns
returns c = alone_written c.args.flags.now (listed c.args.item.now) c.args.polytope.now c.args.page.now c.put_alone.new.page c.find_where.new.self
    c.counts-counts.result c.deref-2.result.now c.deref.result.now c.dimension-dim.result c.deref-2.ensures.value c.deref.ensures.value
    (c.dimension-dim.ensures.value ∙ ap dimension_of c.deref-3.ensures.value) c.dimension-dim.ensures.most c.in_ok-find_where.ensures
    c.counts-counts.ensures c.in_ok-put_alone.ensures
