use Rattle.std.proofs.Common.{◌≡◌, ◌⊎◌, inl, inr, ℕ, ◌+◌, ◌-◌, ◌*◌, ◌^◌, ◌<◌, ◌≤◌, ℤ, pos, ◌+ℤ◌, nat_abs, length, refl, sym, ap, ◌∙◌, arith}
use Rattle.std.specs.List.{range_with_len}
use Rattle.lattice_theory.specs.Vector.{entry}
use Rattle.lattice_theory.proofs.Vectors.{entry_past, zeros, entry-zeros}
use Rattle.polynomial_theory.specs.Sums.{sum_over}
use Rattle.polynomial_theory.proofs.LowPowers.{large_or_not}
use Rattle.stringy.specs.RowSteps.{row_at, end_of, term_of, tilde_of}
use Rattle.stringy.proofs.RangeSums.{next_sum, sum_opens, sum_closes}
use Rattle.stringy.proofs.KeptRows.{same_size, sum_size}
use Rattle.stringy.proofs.FaceTerms.{row_small, term_bound, tilde_sum, tilde_degree, degree_few, none_before, none_behind, first_within, end_within}
use Rattle.stringy.proofs.tilde.tilde_row.Goals as goal
use Rattle.stringy.proofs.tilde.tilde_row.Goals.{After-end_on-other-end}

pub loop-other-init : goal.loop-other-init
loop-other-init c = record {
  whole = refl;
  sum = λ k l. sum_opens c.first_on-other.result (length c.args.table.now.faces) (term_of c.args.table.now c.args.side (row_at c.args.rows.now) c.args.face k)
      (entry (zeros 9) k) (entry-zeros 9 k)
      (let e = c.first_on-other.ensures in let w = first_within c.args.table.now c.requires.faces c.requires.ranks c.args.side c.args.face c.requires.face in omega arith)
      (λ x m. none_before c.args.table.now c.requires.faces c.requires.ranks c.args.side (row_at c.args.rows.now) c.args.face k c.requires.face x
      (let e = c.first_on-other.ensures in omega arith));
  bound = λ k. same_size (entry (zeros 9) k) (pos 0) (2 ^ 42 * c.first_on-other.result) (entry-zeros 9 k) (omega arith);
}

-- where the loop ends
end_is : (c : After-end_on-other-end) → c.end_on-other-end.result ≡ end_of c.args.side c.args.face (length c.args.table.now.faces)
end_is c = c.end_on-other-end.ensures ∙ ap (λ (n : ℕ). end_of c.args.side c.args.face n) c.len.ensures.value

pub loop-other-preserved : goal.loop-other-preserved
loop-other-preserved c = record { whole = c.add_face.array_long; sum = sum; bound = bound }
  where
    within : c.loop-other.other < length c.args.table.now.faces
    within = let t = c.loop-other-test.true in let e = end_is (goal.at.loop-other-preserved c).After-end_on-other-end in
        let w = end_within c.args.table.now c.requires.faces c.requires.ranks c.args.side c.args.face c.requires.face in omega arith

    sum : (k : ℕ) → k < 9 → entry c.add_face.new.sums k +ℤ sum_over (range_with_len (c.loop-other.other + 1) (length c.args.table.now.faces - (c.loop-other.other + 1)))
        (term_of c.args.table.now c.args.side (row_at c.args.rows.now) c.args.face k)
        ≡ sum_over (range_with_len 0 (length c.args.table.now.faces)) (term_of c.args.table.now c.args.side (row_at c.args.rows.now) c.args.face k)
    sum k l = ap (λ (z : ℤ). z +ℤ sum_over (range_with_len (c.loop-other.other + 1) (length c.args.table.now.faces - (c.loop-other.other + 1)))
        (term_of c.args.table.now c.args.side (row_at c.args.rows.now) c.args.face k)) (c.add_face.ensures k l)
        ∙ next_sum c.loop-other.other (length c.args.table.now.faces) (term_of c.args.table.now c.args.side (row_at c.args.rows.now) c.args.face k)
        (entry c.loop-other.sums k) (term_of c.args.table.now c.args.side (row_at c.args.rows.now) c.args.face k c.loop-other.other)
        (sum_over (range_with_len 0 (length c.args.table.now.faces)) (term_of c.args.table.now c.args.side (row_at c.args.rows.now) c.args.face k))
        within refl (c.loop-other.invariant.sum k l)

    bound : (k : ℕ) → nat_abs (entry c.add_face.new.sums k) ≤ 2 ^ 42 * (c.loop-other.other + 1)
    bound k = by (large_or_not k 9)
      where
        by : (k < 9) ⊎ (9 ≤ k) → nat_abs (entry c.add_face.new.sums k) ≤ 2 ^ 42 * (c.loop-other.other + 1)
        by (inl l) = same_size (entry c.add_face.new.sums k)
            (entry c.loop-other.sums k +ℤ term_of c.args.table.now c.args.side (row_at c.args.rows.now) c.args.face k c.loop-other.other)
            (2 ^ 42 * (c.loop-other.other + 1)) (c.add_face.ensures k l)
            (sum_size (entry c.loop-other.sums k) (term_of c.args.table.now c.args.side (row_at c.args.rows.now) c.args.face k c.loop-other.other) c.loop-other.other
            (term_bound c.args.table.now c.requires.faces c.requires.ranks c.requires.small c.args.side (row_at c.args.rows.now) c.args.face c.loop-other.other
            c.requires.face within (row_small c.args.rows.now c.loop-other.other c.requires.rows.small) k) (c.loop-other.invariant.bound k))
        by (inr l) = same_size (entry c.add_face.new.sums k) _ (2 ^ 42 * (c.loop-other.other + 1)) (entry_past c.add_face.new.sums k (let a =
            c.add_face.array_long in omega arith)) (omega arith)

pub returns-clause-value : goal.returns-clause-value
returns-clause-value c = λ k. by k (large_or_not k 9)
  where
    by : (k : ℕ) → (k < 9) ⊎ (9 ≤ k) → entry c.loop-other.sums k ≡ tilde_of c.args.table.now c.args.side (row_at c.args.rows.now) c.args.face k
    by k (inl l) = sum_closes c.loop-other.other (length c.args.table.now.faces) (term_of c.args.table.now c.args.side (row_at c.args.rows.now) c.args.face k)
        (entry c.loop-other.sums k) (sum_over (range_with_len 0 (length c.args.table.now.faces)) (term_of c.args.table.now c.args.side (row_at
        c.args.rows.now) c.args.face k))
        (λ x m n. none_behind c.args.table.now c.requires.faces c.requires.ranks c.args.side (row_at c.args.rows.now) c.args.face k c.requires.face x
        (let t = c.loop-other-test.false in let e = end_is (goal.at.returns-clause-value c).After-end_on-other-end in omega arith) n) (c.loop-other.invariant.sum k l)
        ∙ tilde_sum c.args.table.now c.requires.faces c.requires.ranks c.args.side (row_at c.args.rows.now) c.args.face k
    by k (inr l) = entry_past c.loop-other.sums k (let w = c.loop-other.invariant.whole in omega arith)
        ∙ sym (tilde_degree c.args.table.now c.requires.faces c.requires.ranks c.args.side (row_at c.args.rows.now) c.requires.rows.degree c.args.face c.requires.face k
        (let d = degree_few c.args.table.now c.requires.faces c.requires.ranks c.args.side c.args.face c.requires.face in omega arith))
