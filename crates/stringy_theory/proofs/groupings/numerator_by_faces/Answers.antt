use Rattle.stringy_theory.proofs.Numerator.{numerator_by_faces_lem}
use Rattle.stringy_theory.proofs.groupings.numerator_by_faces.Goals as goal

pub returns : goal.returns
returns c = numerator_by_faces_lem
