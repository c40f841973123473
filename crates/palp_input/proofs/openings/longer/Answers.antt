use Rattle.std.proofs.Common.{take, subst}
use Rattle.palp_input.specs.OpeningSteps.{OpeningMeans}
use Rattle.palp_input.proofs.HeldOpenings.{matrix_longer}
use Rattle.palp_input.proofs.openings.longer.Goals as goal

pub returns-in-Matrix : goal.returns-in-Matrix
returns-in-Matrix c =
    matrix_longer c.args.text.now c.args.looked c.in-Matrix.pending (subst (OpeningMeans (take c.args.looked c.args.text.now)) c.in-Matrix.is c.requires.seen)
