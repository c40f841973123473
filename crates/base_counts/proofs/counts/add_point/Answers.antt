use Rattle.std.proofs.Common.{◌+◌, List, ℕ, length, sym, ap, ◌∙◌, subst, arith}
use Rattle.std.proofs.lemmas.List.{length-set}
use Rattle.face_theory.proofs.Sets.{true_false}
use Rattle.bit_pool.specs.Bits.{IsSubset}
use Rattle.base_counts.proofs.Added.{IsAddedTo, pass_one, count_one}
use Rattle.base_counts.proofs.counts.add_point.Goals.{then-is_within, else-is_within}
use Rattle.base_counts.proofs.counts.add_point.Goals as goal

pub loop-k-preserved : goal.loop-k-preserved
loop-k-preserved c = elim c.if-is_within.branch [
  | then-is_within w ↦ record {
    whole = ap length w.counts-is ∙ length-set c.loop-k.counts _ _ ∙ c.loop-k.invariant.whole;
    added = subst (IsAddedTo c.args.sets.now.rows c.args.tight.now c.args.degree (c.loop-k.k + 1) c.args.counts.now) (sym w.counts-is)
        (count_one c.args.sets.now.rows c.args.tight.now c.args.degree c.loop-k.k c.args.counts.now c.loop-k.counts c.loop-k.invariant.added
        (let room = c.requires.room in let t = c.loop-k-test.true in let e = c.len-k-end.ensures in let d = c.requires.degree in
        let m = c.loop-k.invariant.whole in omega arith)
        c.requires.degree
        (subst (λ (row : List ℕ). IsSubset row c.args.tight.now) c.row.ensures (c.is_within.ensures.0 w.if-is_within.true)));
  }
  | else-is_within w ↦ record {
    whole = ap length w.counts-is ∙ c.loop-k.invariant.whole;
    added = subst (IsAddedTo c.args.sets.now.rows c.args.tight.now c.args.degree (c.loop-k.k + 1) c.args.counts.now) (sym w.counts-is)
        (pass_one c.args.sets.now.rows c.args.tight.now c.args.degree c.loop-k.k c.args.counts.now c.loop-k.counts c.loop-k.invariant.added
        (λ s. true_false (c.is_within.ensures.1 (subst (λ (row : List ℕ). IsSubset row c.args.tight.now) (sym c.row.ensures) s)) w.if-is_within.false));
  }
]
