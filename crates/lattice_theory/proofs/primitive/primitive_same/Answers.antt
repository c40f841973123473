use Rattle.lattice_theory.proofs.PrimitiveLaws.{primitive_same_lem}
use Rattle.lattice_theory.proofs.primitive.primitive_same.Goals as goal

pub returns : goal.returns
returns c = primitive_same_lem
