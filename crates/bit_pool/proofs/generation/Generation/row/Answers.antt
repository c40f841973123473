use Rattle.std.proofs.Common.{◌≡◌, ◌*◌, ◌<◌, List, [], ℕ, length, take, drop, get_or, refl, ap, sym, ◌∙◌, arith}
use Rattle.bit_pool.specs.steps.Stored.{Kept, rows_in}
use Rattle.bit_pool.proofs.Rows.{used_is, row_at, row_ends}
use Rattle.bit_pool.proofs.generation.Generation.row.Goals as goal
use Rattle.bit_pool.proofs.generation.Generation.row.Goals.{After-self}

rows_are : (c : After-self) → rows_in c.self.inside.row_words c.self.inside.used c.self.inside.words.items ≡ c.args.self.now.rows
rows_are c = ap (λ (k : Kept). k.rows) c.self.view_is

-- the place is one of the rows
is_used : (c : After-self) → c.args.place < c.self.inside.used
is_used c =
    let g = c.self.inside in
    let e = used_is g.row_words g.used g.words.items c.args.self.now.rows (rows_are c) in
    let h = c.requires in
    omega arith

pub row_within-requires : goal.row_within-requires
row_within-requires c =
    let g = c.self.inside in
    row_ends g.row_words g.used c.args.place (length c.deref.result.now) (ap length c.deref.ensures.value ∙ c.self.invariant.0)
    (is_used c.before)

pub returns : goal.returns
returns c =
    let g = c.self.inside in
    c.row_within.ensures
    ∙ ap (λ (ws : List ℕ). take g.row_words (drop (c.args.place * g.row_words) ws)) c.deref.ensures.value
    ∙ sym (row_at g.row_words g.used c.args.place (c.args.place * g.row_words) g.words.items (is_used c.before.before) refl)
    ∙ ap (λ (rows : List (List ℕ)). get_or rows c.args.place []) (rows_are c.before.before)
