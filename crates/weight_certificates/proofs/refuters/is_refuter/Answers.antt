use Rattle.weight_certificates.proofs.Refuting.{refuter_is, not_both}
use Rattle.weight_certificates.proofs.refuters.is_refuter.Goals as goal

pub returns-then-not-is_zero : goal.returns-then-not-is_zero
returns-then-not-is_zero c =
    let refuter = refuter_is c.args.points.now c.args.f.now.normal
    (λ zeros. not_both c.is_zero.result c.if-not-is_zero.true (c.is_zero.ensures.1 (rw c.normal.ensures.value zeros))) in
    (λ h. refuter (c.is_nonnegative.ensures.0 h), λ r. c.is_nonnegative.ensures.1 r.nonnegative)
