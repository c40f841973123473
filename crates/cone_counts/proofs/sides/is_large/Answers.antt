use Rattle.std.proofs.Common.{refl, arith}
use Rattle.face_theory.proofs.Sets.{true_false}
use Rattle.cone_counts.proofs.LargeNumbers.{few_more, none_large}
use Rattle.cone_counts.proofs.sides.is_large.Goals as goal

pub loop-degree-init : goal.loop-degree-init
loop-degree-init c s l = absurd (omega (arith, l))

pub loop-degree-preserved : goal.loop-degree-preserved
loop-degree-preserved c = few_more c.args.counts.now c.args.set c.loop-degree.degree c.loop-degree.invariant
    (let f = c.if-counts-first-gt-MOST_PAIRS.false in omega (arith, f))

pub returns-then-counts-first-gt-MOST_PAIRS : goal.returns-then-counts-first-gt-MOST_PAIRS
returns-then-counts-first-gt-MOST_PAIRS c = (
  λ t. record { degree = c.loop-degree.degree; within = c.loop-degree-test.true; large = c.if-counts-first-gt-MOST_PAIRS.true },
  λ h. refl,
)

pub returns : goal.returns
returns c = (
  λ t. absurd (true_false t refl),
  λ h. absurd (none_large c.args.counts.now c.args.set c.args.degrees (λ s l. c.loop-degree.invariant s
      (let e = c.loop-degree.auto.degree-end in let t = c.loop-degree-test.false in omega (arith, e, t, l))) h),
)
