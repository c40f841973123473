use Rattle.std.proofs.Common.{◌∙◌}
use Rattle.lattice_core.proofs.Dimension.{dimension_first}
use Rattle.palp_engine.proofs.pieces.dimension.Goals as goal

pub returns-clause-value : goal.returns-clause-value
returns-clause-value c = c.dim.ensures.value ∙ dimension_first c.args.points.now c.index-points-0.result c.requires.some c.index-points-0.is
