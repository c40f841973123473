use Rattle.std.proofs.Common.{◌≡◌, length}
use Rattle.std.specs.List.{All}
use Rattle.lattice_core.proofs.ascending.tests.sorts_functions_and_keeps_each_once.Given as goal

abbrev pub invariant-loop-entry : goal.invariant-loop-entry
invariant-loop-entry g l = All (λ f. length f.normal ≡ 1) l.functions.items
