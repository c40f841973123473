use Rattle.lattice_core.proofs.CommonDivisors.{IsDivisorOfFirst}
use Rattle.lattice_core.proofs.divisors.common_divisor.Given as goal

abbrev pub invariant-loop-entry : goal.invariant-loop-entry
invariant-loop-entry l = IsDivisorOfFirst l.v l.entry-index l.divisor
