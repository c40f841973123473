use Rattle.std.proofs.Common.{inl, inr, ⊎_elim, ◌∙◌, sym}
use Rattle.std.proofs.lemmas.Bool.{true≢false}
use Rattle.hull_growth.proofs.RowBits.{part_is_common, no_row_more}
use Rattle.hull_growth.proofs.ridges.is_alone_by_rows.Goals as goal
use Rattle.hull_growth.proofs.ridges.is_alone_by_rows.Goals.{else-is_part_of-via-then-is_part_of+then-k-i+else-k-j, else-is_part_of-via-then-is_part_of+else-k-i}
use Rattle.hull_growth.proofs.ridges.is_alone_by_rows.Goals.{else-is_part_of-via-else-is_part_of}

pub returns-then-k-j : goal.returns-then-k-j
returns-then-k-j c = (
  λ f. absurd (true≢false (sym f)),
  λ none. absurd (⊎_elim c.if-k-i.true c.if-k-j.true (none c.loop-k.k c.loop-k-test.true
      ((part_is_common c.args.rows.now c.args.i c.args.j c.loop-k.k c.index-rows-i.result c.index-rows-j.result c.index-rows-k.result
      c.meet-both.result c.requires.first c.requires.second c.loop-k-test.true c.index-rows-i.is c.index-rows-j.is c.index-rows-k.is
      c.meet-both.ensures).0 (c.is_part_of.ensures.0 c.if-is_part_of.true)))),
)

pub loop-k-preserved : goal.loop-k-preserved
loop-k-preserved c =
    let part = part_is_common c.args.rows.now c.args.i c.args.j c.loop-k.k c.index-rows-i.result c.index-rows-j.result c.index-rows-k.result
    c.meet-both.result c.requires.first c.requires.second c.loop-k-test.true c.index-rows-i.is c.index-rows-j.is c.index-rows-k.is
    c.meet-both.ensures in
    no_row_more c.args.rows.now c.args.i c.args.j c.loop-k.k c.loop-k.invariant
    (elim c.else-is_part_of.branch [
      | else-is_part_of-via-then-is_part_of+then-k-i+else-k-j w ↦ λ common. inr w.if-k-j.false
      | else-is_part_of-via-then-is_part_of+else-k-i w ↦ λ common. inl w.if-k-i.false
      | else-is_part_of-via-else-is_part_of w ↦
          λ common. absurd (true≢false (sym (c.is_part_of.ensures.1 (part.1 common)) ∙ w.if-is_part_of.false))
    ])
