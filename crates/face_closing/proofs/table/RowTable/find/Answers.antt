use Rattle.std.proofs.Common.{rules, ◌≡◌, ◌-◌, ◌<◌, ℕ, suc, List, [], length, get_or, refl, ap, sym, ◌∙◌, subst, arith}
use Rattle.std.specs.Prelude.{vec_len}
use Rattle.std.specs.Cmp.{unsigned_Decides}
use Rattle.std.specs.Cmp.Lexicographic.{pointwise_decides}
use Rattle.face_closing.specs.Tables.{RowsState}
use Rattle.face_closing.specs.steps.Chains.{AreLinked}
use Rattle.face_closing.proofs.Links.{IsBefore, before_head, before_next, before_none, link_read}
use Rattle.face_theory.proofs.Sets.{true_false}
use Rattle.face_closing.proofs.table.RowTable.find.Goals as goal

pub loop-link-init : goal.loop-link-init
loop-link-init c =
    let linked = subst (λ (rows : List (List ℕ)). AreLinked rows c.self.inside.heads.items c.self.inside.nexts.items)
    (ap (λ (s : RowsState). s.rows) c.self.view_is) c.self.invariant.linked in
    let inside = c.bucket.ensures.below in
    let buckets = c.self.invariant.linked.buckets in
    subst (IsBefore c.args.self.now.rows c.args.words.now)
    (sym (link_read c.self.inside.heads.items c.bucket.result _ c.index.result.now (omega arith) c.index.ensures c.bucket.ensures.value))
    (before_head c.args.self.now.rows c.self.inside.heads.items c.self.inside.nexts.items c.args.words.now linked
    (let e = c.bucket.ensures.value in omega arith))

pub row-requires : goal.row-requires
row-requires c =
    let e : length c.self.inside.rows.rows ≡ length c.args.self.now.rows = ap (λ (s : RowsState). length s.rows) c.self.view_is in
    let w = c.loop-link.invariant.within in
    let n = c.loop-link-test.true in
    omega arith

pub returns-then-eq : goal.returns-then-eq
returns-then-eq c =
    let w = c.loop-link.invariant.within in
    let n = c.loop-link-test.true in
    let l : c.loop-link.link - 1 < length c.args.self.now.rows = omega arith in (
      l,
      ap (λ (s : RowsState). get_or s.rows (c.loop-link.link - 1) []) (sym c.self.view_is) ∙ sym c.row.ensures
          ∙ (pointwise_decides unsigned_Decides c.row.result.now c.args.words.now).0 (sym c.eq.ensures ∙ c.if-eq.true),
    )

pub index-requires-in-loop-link : goal.index-requires-in-loop-link
index-requires-in-loop-link c =
    let e : length c.self.inside.rows.rows ≡ length c.args.self.now.rows = ap (λ (s : RowsState). length s.rows) c.self.view_is in
    let m = c.self.invariant.linked.many in
    let v : vec_len c.self.inside.nexts ≡ length c.self.inside.nexts.items = search rules in
    let w = c.loop-link.invariant.within in
    let n = c.loop-link-test.true in
    omega arith

pub loop-link-smaller : goal.loop-link-smaller
loop-link-smaller c =
    let e : length c.self.inside.rows.rows ≡ length c.args.self.now.rows = ap (λ (s : RowsState). length s.rows) c.self.view_is in
    let m = c.self.invariant.linked.many in
    let w = c.loop-link.invariant.within in
    let n = c.loop-link-test.true in
    let l : c.loop-link.link - 1 < length c.self.inside.nexts.items = omega arith in
    let r = link_read c.self.inside.nexts.items (c.loop-link.link - 1) _ c.index-in-loop-link.result.now l c.index-in-loop-link.ensures refl in
    let b = c.self.invariant.linked.nexts_within (c.loop-link.link - 1) (omega arith) in
    omega arith

pub loop-link-preserved : goal.loop-link-preserved
loop-link-preserved c =
    let linked = subst (λ (rows : List (List ℕ)). AreLinked rows c.self.inside.heads.items c.self.inside.nexts.items)
    (ap (λ (s : RowsState). s.rows) c.self.view_is) c.self.invariant.linked in
    let m = linked.many in
    let w = c.loop-link.invariant.within in
    let n = c.loop-link-test.true in
    let l : c.loop-link.link - 1 < length c.self.inside.nexts.items = omega arith in
    let p : suc (c.loop-link.link - 1) ≡ c.loop-link.link = omega arith in
    subst (IsBefore c.args.self.now.rows c.args.words.now)
    (sym (link_read c.self.inside.nexts.items (c.loop-link.link - 1) _ c.index-in-loop-link.result.now l c.index-in-loop-link.ensures refl))
    (before_next c.args.self.now.rows c.self.inside.heads.items c.self.inside.nexts.items c.args.words.now (c.loop-link.link - 1) c.loop-link.link
    linked c.loop-link.invariant p
    (λ e. true_false ((pointwise_decides unsigned_Decides c.row.result.now c.args.words.now).1
    (c.row.ensures ∙ ap (λ (s : RowsState). get_or s.rows (c.loop-link.link - 1) []) c.self.view_is ∙ e)) (sym c.eq.ensures ∙ c.if-eq.false)))

pub returns : goal.returns
returns c = before_none c.args.self.now.rows c.args.words.now c.loop-link.link c.loop-link.invariant c.loop-link-test.false
