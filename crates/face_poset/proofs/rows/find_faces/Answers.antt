use Rattle.std.specs.Bool.{MatchBool}
use Rattle.std.proofs.Common.{◌≡◌, ℕ, List, [], ◌∷◌, ◌++◌, length, ap, sym, ◌∙◌, subst, arith}
use Rattle.face_closing.specs.Tables.{AreFunctionRows, AreMeetRows, AreFaceRows, HasMoreFaces}
use Rattle.face_poset.specs.RowSteps.{HasFirst}
use Rattle.face_poset.proofs.RowCopies.{starts}
use Rattle.face_poset.proofs.rows.find_faces.Goals as goal

pub returns-clause-faces : goal.returns-clause-faces
returns-clause-faces c = λ R e told.
    let words : c.push.new.self.row_words ≡ c.args.found.now.row_words = c.push.ensures.row_words ∙ c.clear.ensures.row_words in
    subst (λ (n : ℕ). MatchBool c.close.result (AreFaceRows n R c.close.new.table.rows) (HasMoreFaces R)) words
    (c.close.ensures.faces R (subst (λ (n : ℕ). AreFunctionRows n R c.args.rows.now.rows) (sym words) told)
    (subst (λ (n : ℕ). AreMeetRows n R 0 c.push.new.self.rows) (sym words)
    (starts c.args.found.now.row_words R c.fill_first.new.space c.push.new.self.rows (c.fill_first.ensures.long ∙ c.requires.space)
    c.fill_first.ensures.small (subst (λ (n : ℕ). HasFirst n c.fill_first.new.space) (sym e) c.fill_first.ensures.bits)
    (c.push.ensures.rows ∙ ap (λ (r : List (List ℕ)). r ++ c.fill_first.new.space ∷ []) c.clear.ensures.empty))))
