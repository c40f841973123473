use Rattle.weight_certificates.proofs.Checks.{AreCheckedUpTo}
use Rattle.weight_certificates.proofs.surroundings.is_surrounding.Given as goal

abbrev pub invariant-loop-k : goal.invariant-loop-k
invariant-loop-k l = AreCheckedUpTo l.points l.corners l.divisor l.times l.k
