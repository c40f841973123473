use Rattle.weight_certificates.proofs.TestSizes.{small_narrow}
use Rattle.weight_certificates.proofs.tests.refutes.Goals as goal

pub is_refuter-requires-clause-narrow : goal.is_refuter-requires-clause-narrow
is_refuter-requires-clause-narrow g c =
    rw c.deref.ensures.value (small_narrow _ _ c.function.ensures.linear c.function.ensures.small c.in_ok-points.ensures.small)
