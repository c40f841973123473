use Rattle.std.proofs.Common.{refl, arith}
use Rattle.std.proofs.lemmas.Bool.{false≢true}
use Rattle.bit_pool.proofs.Sets.{subset_more, subset_all, subset_word}
use Rattle.bit_pool.proofs.bits.is_within.Goals as goal

pub loop-i-init : goal.loop-i-init
loop-i-init c = λ number h. absurd (omega (arith, h))

pub loop-i-preserved : goal.loop-i-preserved
loop-i-preserved c = subset_more c.loop-i.i c.args.words.now c.args.others.now c.loop-i.invariant (c.if-words-i.false)

pub returns-then-words-i : goal.returns-then-words-i
returns-then-words-i c = (
  λ h. absurd (false≢true h),
  λ subset. absurd (c.if-words-i.true
      (subset_word c.loop-i.i c.args.words.now c.args.others.now (omega (arith, c.type_inv.words c.loop-i.i)) subset)),
)

pub returns : goal.returns
returns c = (λ h. subset_all c.loop-i.i c.args.words.now c.args.others.now (omega arith) c.loop-i.invariant, λ subset. refl)
