use Rattle.lattice_theory.proofs.PrimitiveLaws.{primitive_multiple_lem}
use Rattle.lattice_theory.proofs.primitive.primitive_multiple.Goals as goal

pub returns : goal.returns
returns c = primitive_multiple_lem
