use Rattle.lattice_theory.proofs.PrimitiveLaws.{primitive_part_lem}
use Rattle.lattice_theory.proofs.primitive.primitive_part.Goals as goal

pub returns : goal.returns
returns c = primitive_part_lem
