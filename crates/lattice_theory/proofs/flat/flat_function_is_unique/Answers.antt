use Rattle.lattice_theory.proofs.FlatUnique.{flat_function_unique}
use Rattle.lattice_theory.proofs.flat.flat_function_is_unique.Goals as goal

pub returns : goal.returns
returns c = flat_function_unique
