use Rattle.std.proofs.Common.{◌-◌, Option, length, subst, arith, Bool}
use Rattle.std.proofs.lemmas.Bool.{false≢true}
use Rattle.weight_enum.specs.steps.Refuters.{IsVerdict}
use Rattle.weight_enum.proofs.Sizes.{tails_dimension}
use Rattle.weight_enum.proofs.Refuting.{tails_summed, refuted, told}
use Rattle.weight_enum.proofs.interior.has_interior.Goals as goal

pub refute-requires-clause-dimension : goal.refute-requires-clause-dimension
refute-requires-clause-dimension c = rw c.deref.ensures.value (tails_dimension c.args.degree (length c.args.weights.now - 1) c.args.weights.now
    c.tails_of.new.tails.items c.in_ok-tails_of.ensures.tails)

pub refute-requires-clause-small : goal.refute-requires-clause-small
refute-requires-clause-small c =
    let searched = c.requires.taken.searched in
    let few = searched.few in
    let limit = searched.limit in
    rw c.deref.ensures.value (tails_summed c.args.degree (length c.args.weights.now - 1) c.args.weights.now c.tails_of.new.tails.items
    c.in_ok-tails_of.ensures.tails (omega (arith, few, limit)))

pub returns-then-refute : goal.returns-then-refute
returns-then-refute c = (
  λ e. absurd (false≢true e),
  λ h. absurd (refuted c.args.degree (length c.args.weights.now - 1) c.args.weights.now c.tails_of.new.tails.items c.in_ok-tails_of.ensures.tails
      (rw c.deref.ensures.value at (c.refute.ensures c.if-refute.true)) h),
)

pub verdict_of-requires-clause-dimension : goal.verdict_of-requires-clause-dimension
verdict_of-requires-clause-dimension c = rw c.deref-2.ensures.value (tails_dimension c.args.degree (length c.args.weights.now - 1) c.args.weights.now
    c.tails_of.new.tails.items c.in_ok-tails_of.ensures.tails)

pub verdict_of-requires-clause-small : goal.verdict_of-requires-clause-small
verdict_of-requires-clause-small c =
    let searched = c.requires.taken.searched in
    let few = searched.few in
    let limit = searched.limit in
    rw c.deref-2.ensures.value (tails_summed c.args.degree (length c.args.weights.now - 1) c.args.weights.now c.tails_of.new.tails.items
    c.in_ok-tails_of.ensures.tails (omega (arith, few, limit)))

pub returns-in-Some : goal.returns-in-Some
returns-in-Some c =
    let n = length c.args.weights.now - 1 in
    let verdict = rw c.deref-2.ensures.value at c.in_ok-answer.ensures in
    told c.args.degree n c.args.weights.now c.tails_of.new.tails.items c.in_ok-tails_of.ensures.tails c.in-Some.answer
    (subst (λ (v : Option Bool). IsVerdict n c.tails_of.new.tails.items v) c.in-Some.is verdict)
