use Rattle.lattice_core.specs.Weights.{weighted}
use Rattle.weight_lists.proofs.SystemPolytopes.{formed_line}
use Rattle.weight_lists.proofs.systems.kind_of.Goals as goal

pub kind_of_systems-requires : goal.kind_of_systems-requires
kind_of_systems-requires c = rw c.from_ref.ensures.value (formed_line (weighted c.args.system.now) c.requires)

pub returns : goal.returns
returns c = rw c.from_ref.ensures.value at c.kind_of_systems.ensures
