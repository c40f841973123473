use Rattle.std.proofs.Common.{◌<◌, length}
use Rattle.std.proofs.Common.{◌≡◌, false, true, rules}
use Rattle.std.proofs.lemmas.List.{get_or_default}
use Rattle.nef_parts.proofs.RowAgreements.{some_at, none_at, next_part}
use Rattle.nef_parts.proofs.agreeing.parts_agree.Goals as goal

pub returns-in-None : goal.returns-in-None
returns-in-None c =
    let within : c.loop-i.i < length c.args.begin.now.parts = search rules in (
      (λ h. absurd (let f : false ≡ true = h in cc)),
      (λ all. absurd (none_at c.args.mask.now c.args.begin.now c.loop-i.i _ c.deref.result.now c.deref.ensures.value
          (get_or_default c.args.begin.now.parts c.loop-i.i _ 0 within) c.in-None.ensures.none (all c.loop-i.i c.loop-i-test.true))),
    )

pub loop-i-preserved : goal.loop-i-preserved
loop-i-preserved c =
    let within : c.loop-i.i < length c.args.begin.now.parts = search rules in
    next_part c.args.mask.now c.args.begin.now c.loop-i.i c.loop-i.invariant
    (some_at c.args.mask.now c.args.begin.now c.loop-i.i c.in-Some.j _ c.deref.result.now c.deref.ensures.value
    (get_or_default c.args.begin.now.parts c.loop-i.i _ 0 within) c.in-Some.ensures.some)
