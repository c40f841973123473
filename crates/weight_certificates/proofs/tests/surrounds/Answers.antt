use Rattle.weight_certificates.proofs.TestSizes.{small_size}
use Rattle.weight_certificates.proofs.tests.surrounds.Goals as goal

pub is_surrounding-requires-clause-small : goal.is_surrounding-requires-clause-small
is_surrounding-requires-clause-small g c = rw c.deref.ensures.value (small_size _ c.in_ok-points.ensures.small)
