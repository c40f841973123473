use Rattle.std.proofs.Common.{◌+◌, sym, subst, arith}
use Rattle.face_theory.proofs.Sets.{true_false}
use Rattle.bit_pool.specs.Bits.{IsSubset}
use Rattle.cone_counts.proofs.WithinRows.{CountsWithin, counts_none, counts_more, counts_same, all_within, few_within}
use Rattle.cone_counts.proofs.free.count_within.Goals.{then-is_within, else-is_within}
use Rattle.cone_counts.proofs.free.count_within.Goals as goal

pub loop-k-init : goal.loop-k-init
loop-k-init c = counts_none c.args.set.now c.args.rows.now.rows

pub loop-k-preserved : goal.loop-k-preserved
loop-k-preserved c = elim c.if-is_within.branch [
  | then-is_within w ↦ subst (CountsWithin c.args.set.now c.args.rows.now.rows (c.loop-k.k + 1)) (sym w.count-is)
      (counts_more c.args.set.now c.args.rows.now.rows c.loop-k.k c.loop-k.count c.loop-k.invariant
      (subst (IsSubset c.args.set.now) c.row.ensures (c.is_within.ensures.0 w.if-is_within.true)))
  | else-is_within w ↦ subst (CountsWithin c.args.set.now c.args.rows.now.rows (c.loop-k.k + 1)) (sym w.count-is)
      (counts_same c.args.set.now c.args.rows.now.rows c.loop-k.k c.loop-k.count c.loop-k.invariant
      (λ s. true_false (c.is_within.ensures.1 (subst (IsSubset c.args.set.now) (sym c.row.ensures) s)) w.if-is_within.false))
]

pub returns-clause-number : goal.returns-clause-number
returns-clause-number c = all_within c.args.set.now c.args.rows.now.rows c.loop-k.k c.loop-k.count
    (let a = c.loop-k.auto.k-end in let e = c.len-k-end.ensures in let t = c.loop-k-test.false in omega (arith, a, e, t)) c.loop-k.invariant

pub returns-clause-most : goal.returns-clause-most
returns-clause-most c = let f = few_within c.args.set.now c.args.rows.now.rows c.loop-k.k c.loop-k.count c.loop-k.invariant in
    let a = c.loop-k.auto.k-end in let e = c.len-k-end.ensures in let t = c.loop-k-test.false in omega (arith, f, a, e, t)

pub overflow_add-count : goal.overflow_add-count
overflow_add-count c =
    let f = few_within c.args.set.now c.args.rows.now.rows c.loop-k.k c.loop-k.count c.loop-k.invariant in
    let a = c.loop-k.auto.k-end in
    let t = c.loop-k-test.true in
    omega (arith, f, a, t)
