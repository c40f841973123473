use Rattle.std.proofs.Common.{◌≡◌, ◌≤◌, ℕ, ◌+◌, ◌*◌, ◌∷◌, ◌++◌, List, [], length, refl, ap, sym, ◌∙◌, arith}
use Rattle.std.specs.Prelude.{vec_capacity}
use Rattle.bit_pool.specs.steps.Stored.{Kept, rows_in}
use Rattle.bit_pool.proofs.Rows.{used_is, rows_more, room_for}
use Rattle.bit_pool.proofs.generation.Generation.push.Goals as goal

pub unreachable-requires : goal.unreachable-requires
unreachable-requires c =
    let g = c.self.inside in
    let used = used_is g.row_words g.used g.words.items c.args.self.now.rows (ap (λ (k : Kept). k.rows) c.self.view_is) in
    let words : c.args.self.now.row_words ≡ g.row_words = ap (λ (k : Kept). k.row_words) (sym c.self.view_is) in
    let room : c.args.self.now.room ≡ vec_capacity g.words = ap (λ (k : Kept). k.room) (sym c.self.view_is) in
    let all : (g.used + 1) * g.row_words ≤ vec_capacity g.words = rw (used, words, room) at c.requires.room in
    let row = c.requires.row in
    let full = c.in-Err.ensures.full in
    let fits = room_for g.row_words g.used (length g.words.items) (vec_capacity g.words) c.self.invariant.0 all in
    omega arith

pub returns-clause-rows : goal.returns-clause-rows
returns-clause-rows c =
    let g = c.self.inside in
    let row : length c.args.words.now ≡ g.row_words = c.requires.row ∙ ap (λ (k : Kept). k.row_words) (sym c.self.view_is) in
    ap (λ (ws : List ℕ). rows_in g.row_words (g.used + 1) ws) c.in-Ok.ensures.items
    ∙ rows_more g.row_words g.used (g.used + 1) g.words.items c.args.words.now refl c.self.invariant.0 row
    ∙ ap (λ (rows : List (List ℕ)). rows ++ c.args.words.now ∷ []) (ap (λ (k : Kept). k.rows) c.self.view_is)
