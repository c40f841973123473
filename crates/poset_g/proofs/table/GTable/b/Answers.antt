use Rattle.std.proofs.Common.{◌≡◌, length, ℕ, ℤ, pos, ◌+ℤ◌, sym, ap, ◌∙◌, arith}
use Rattle.std.specs.List.{range_with_len}
use Rattle.polynomial_theory.specs.Sums.{sum_over}
use Rattle.small_poly.specs.Tables.{laurent_of}
use Rattle.poset_g.specs.TermSteps.{kept_term_at}
use Rattle.poset_g.proofs.IntervalTerms.{sum_more, b_is, zero_small}
use Rattle.poset_g.proofs.table.GTable.b.Goals as goal

pub loop-face-init : goal.loop-face-init
loop-face-init c = record {
  value = λ p q. c.zero-sum.ensures p q;
  small = λ i j. zero_small (laurent_of c.zero-sum.result (pos i) j) (c.zero-sum.ensures (pos i) j);
}

pub loop-face-preserved : goal.loop-face-preserved
loop-face-preserved c = record {
  value = λ p q. c.add_face.ensures.value p q
      ∙ ap (λ (z : ℤ). z +ℤ kept_term_at c.args.table.now c.args.x c.args.y c.loop-face.face p q) (c.loop-face.invariant.value p q)
      ∙ sym (sum_more c.loop-face.face (λ f. kept_term_at c.args.table.now c.args.x c.args.y f p q));
  small = c.add_face.ensures.small;
}

pub returns : goal.returns
returns c p q = c.loop-face.invariant.value p q
    ∙ ap (λ (n : ℕ). sum_over (range_with_len 0 n) (λ f. kept_term_at c.args.table.now c.args.x c.args.y f p q)) (ended c)
    ∙ b_is c.args.table.now c.args.x c.args.y p q
  where
    ended : (c : goal.After-loop-face) → c.loop-face.face ≡ length c.args.table.now.faces
    ended c = let e = c.loop-face-test.false in let f = c.loop-face.auto.face-end in let g = c.len-face-end.ensures.value in omega arith
