use Rattle.weight_certificates.proofs.Checks.{IsInverseUpTo}
use Rattle.weight_certificates.proofs.surroundings.is_inverse_at.Given as goal

abbrev pub invariant-loop-j : goal.invariant-loop-j
invariant-loop-j l = IsInverseUpTo l.points l.corners l.divisor l.k l.j
