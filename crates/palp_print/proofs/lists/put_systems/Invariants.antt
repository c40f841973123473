use Rattle.std.proofs.Common.{◌≡◌, ◌++◌, take}
use Rattle.lattice_core.specs.Weights.{weighted_all}
use Rattle.palp_print.specs.Lists.{echo}
use Rattle.palp_print.proofs.lists.put_systems.Given as goal

abbrev pub invariant-loop-system : goal.invariant-loop-system
invariant-loop-system l = record {
  written : l.text.items ≡ l.initial.text.items ++ echo (weighted_all (take l.system-index l.systems));
}
