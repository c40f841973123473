use Rattle.std.proofs.Common.{◌≡◌, ℕ, Bool, not, if◌then◌else◌, List, [], ◌∷◌, ◌++◌, length, refl, ap, sym, ◌∙◌, subst, arith, length-append}
use Rattle.std.specs.Prelude.{vec_capacity}
use Rattle.std.proofs.Math.ListN.{set}
use Rattle.face_closing.specs.Tables.{RowsState}
use Rattle.face_closing.specs.steps.Chains.{IsKeptTable}
use Rattle.face_closing.proofs.Links.{kept_more, link_read}
use Rattle.face_closing.proofs.table.RowTable.push.Goals as goal

pub invariant_of-self : goal.invariant_of-self
invariant_of-self c =
    let words : c.args.self.now.row_words ≡ c.self.inside.rows.row_words = ap (λ (s : RowsState). s.row_words) (sym c.self.view_is) in
    let rows : length c.args.self.now.rows ≡ length c.self.inside.rows.rows = ap (λ (s : RowsState). length s.rows) (sym c.self.view_is) in
    let few = c.requires.room in
    let inside = c.bucket-bucket.ensures.below in
    let value = c.bucket-bucket.ensures.value in
    let buckets = c.self.invariant.linked.buckets in
    let more = length-append c.self.inside.rows.rows (c.args.words.now ∷ []) in
    let len = c.len.ensures ∙ ap length c.push-2.ensures.rows in
    subst (λ (w : ℕ). IsKeptTable w c.push-2.new.self.rows c.push-2.new.self.room
    (set c.self.inside.heads.items c.bucket-bucket.result c.len.result) c.push.new.self.items (vec_capacity c.push.new.self)) (sym c.push-2.ensures.row_words)
    (subst (λ (rs : List (List ℕ)). IsKeptTable c.self.inside.rows.row_words rs c.push-2.new.self.room
    (set c.self.inside.heads.items c.bucket-bucket.result c.len.result) c.push.new.self.items (vec_capacity c.push.new.self)) (sym c.push-2.ensures.rows)
    (kept_more c.self.inside.rows.row_words c.self.inside.rows.rows c.self.inside.rows.room c.self.inside.heads.items c.self.inside.nexts.items
    (vec_capacity c.self.inside.nexts) c.args.words.now c.self.invariant (c.requires.row ∙ words) (omega arith) (omega arith)
    _ _ _ _ c.len.result c.bucket-bucket.result c.index.result.now (omega arith) value
    (link_read c.self.inside.heads.items c.bucket-bucket.result c.bucket-bucket.result c.index.result.now (omega arith) c.index.ensures refl)
    refl
    (c.push.ensures.items
    ∙ ap (λ (b : Bool). if◌then◌else◌ b (c.self.inside.nexts.items ++ c.index.result.now ∷ []) c.self.inside.nexts.items)
    (c.is_err.ensures.negation ∙ ap not c.if-is_err.false))
    c.push-2.ensures.room c.push.ensures.capacity))
