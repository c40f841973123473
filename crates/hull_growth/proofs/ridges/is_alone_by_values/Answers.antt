use Rattle.std.proofs.Common.{◌≡◌, ◌^◌, ◌≤◌, ℕ, length, pos, inl, inr, ⊎_elim, ◌∙◌, sym, subst, All, arith}
use Rattle.std.proofs.lemmas.List.Elements.{All-contains}
use Rattle.std.proofs.lemmas.Bool.{true≢false}
use Rattle.bit_rows.specs.declared.row.TheConstants.{MOST_INDICES}
use Rattle.lattice_theory.specs.Affine.{Affine, value}
use Rattle.lattice_theory.specs.Vector.{HaveDimension}
use Rattle.lattice_theory.specs.Size.{absolute_sum}
use Rattle.hull_growth.proofs.LastMembers.{last_of, last_is, last_among, last_all}
use Rattle.hull_growth.proofs.RowBits.{part_is_common, vanishing_rows, whole_rows}
use Rattle.hull_growth.proofs.RidgeTests.{no_third_more, not_third}
use Rattle.hull_growth.proofs.ridges.is_alone_by_values.Goals as goal
use Rattle.hull_growth.proofs.ridges.is_alone_by_values.Goals.{else-is_part_of-via-then-is_part_of+then-k-i+then-k-j+else-vanishes_with_both}
use Rattle.hull_growth.proofs.ridges.is_alone_by_values.Goals.{else-is_part_of-via-then-is_part_of+then-k-i+else-k-j, else-is_part_of-via-then-is_part_of+else-k-i}
use Rattle.hull_growth.proofs.ridges.is_alone_by_values.Goals.{else-is_part_of-via-else-is_part_of}

pub vanishes_with_both-requires-clause-dimension : goal.vanishes_with_both-requires-clause-dimension
vanishes_with_both-requires-clause-dimension c =
    let n = c.requires.dimension.0 in
    let f = c.index-functions-i.result in
    let own : length f.normal ≡ n = All-contains (λ (g : Affine). length g.normal ≡ n) c.args.functions.now f c.requires.dimension.2
    (c.args.i, c.requires.first, sym c.index-functions-i.is) in
    subst (λ (m : ℕ). HaveDimension m (last_of MOST_INDICES c.args.corners.now)) (sym own)
    (last_all (λ p. length p ≡ n) MOST_INDICES c.args.corners.now c.requires.dimension.1)

pub vanishes_with_both-requires-clause-small : goal.vanishes_with_both-requires-clause-small
vanishes_with_both-requires-clause-small c = last_all (λ p. absolute_sum p ≤ 2 ^ 30) MOST_INDICES c.args.corners.now c.requires.small

pub returns-then-vanishes_with_both : goal.returns-then-vanishes_with_both
returns-then-vanishes_with_both c =
    let same = c.requires.rows.same in
    let part = part_is_common c.args.rows.now c.args.i c.args.j c.loop-k.k c.index-rows-i.result c.index-rows-j.result c.index-rows-k.result
    c.meet-both.result (omega arith) (omega arith) (omega arith) c.index-rows-i.is c.index-rows-j.is c.index-rows-k.is
    c.meet-both.ensures in
    let f = c.index-functions-i.result in
    let g = c.index-functions-j.result in
    let h = c.index-functions-k.result in (
      λ e. absurd (true≢false (sym e)),
      λ none. absurd (⊎_elim c.if-k-i.true c.if-k-j.true (none c.loop-k.k f g h c.loop-k-test.true c.index-functions-i.is
          c.index-functions-j.is c.index-functions-k.is
          (whole_rows c.args.corners.now c.args.functions.now c.args.rows.now c.args.i c.args.j c.loop-k.k f g h c.requires.rows
          c.requires.first c.requires.second c.loop-k-test.true c.index-functions-i.is c.index-functions-j.is c.index-functions-k.is
          (part.0 (c.is_part_of.ensures.0 c.if-is_part_of.true))
          (subst (All (λ q. value f q ≡ pos 0 → value g q ≡ pos 0 → value h q ≡ pos 0)) (last_is MOST_INDICES c.args.corners.now)
          (c.vanishes_with_both.ensures.0 c.if-vanishes_with_both.true))))),
    )

pub loop-k-preserved : goal.loop-k-preserved
loop-k-preserved c =
    let same = c.requires.rows.same in
    let part = part_is_common c.args.rows.now c.args.i c.args.j c.loop-k.k c.index-rows-i.result c.index-rows-j.result c.index-rows-k.result
    c.meet-both.result (omega arith) (omega arith) (omega arith) c.index-rows-i.is c.index-rows-j.is c.index-rows-k.is
    c.meet-both.ensures in
    no_third_more c.args.corners.now c.args.functions.now c.args.i c.args.j c.loop-k.k c.loop-k.invariant
    (elim c.else-is_part_of.branch [
      | else-is_part_of-via-then-is_part_of+then-k-i+then-k-j+else-vanishes_with_both w ↦
          λ f g h a b e v. absurd (not_third c.args.corners.now (last_of MOST_INDICES c.args.corners.now) c.args.functions.now c.args.i c.args.j
          c.loop-k.k w.index-functions-i.result w.index-functions-j.result w.index-functions-k.result f g h c.requires.first c.requires.second
          c.loop-k-test.true w.index-functions-i.is w.index-functions-j.is w.index-functions-k.is a b e
          (last_among MOST_INDICES c.args.corners.now)
          (λ all. true≢false (sym (w.vanishes_with_both.ensures.1 all) ∙ w.if-vanishes_with_both.false)) v)
      | else-is_part_of-via-then-is_part_of+then-k-i+else-k-j w ↦ λ f g h a b e v. inr w.if-k-j.false
      | else-is_part_of-via-then-is_part_of+else-k-i w ↦ λ f g h a b e v. inl w.if-k-i.false
      | else-is_part_of-via-else-is_part_of w ↦ λ f g h a b e v. absurd (true≢false (sym (c.is_part_of.ensures.1 (part.1
          (vanishing_rows c.args.corners.now c.args.functions.now c.args.rows.now c.args.i c.args.j c.loop-k.k f g h c.requires.rows
          c.requires.first c.requires.second c.loop-k-test.true a b e v))) ∙ w.if-is_part_of.false))
    ])
