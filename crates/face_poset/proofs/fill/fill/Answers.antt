use Rattle.std.proofs.Common.{◌≡◌, ◌*◌, ◌≤◌, ℕ, List, length, refl, sym, ap, ◌∙◌, subst, arith}
use Rattle.face_closing.specs.Tables.{AreFunctionRows}
use Rattle.face_poset.specs.ListSteps.{ListsAll}
use Rattle.face_poset.proofs.Built.{built_table}
use Rattle.face_poset.proofs.fill.fill.Goals as goal

pub returns-then-not-find_faces-clause-built : goal.returns-then-not-find_faces-clause-built
returns-then-not-find_faces-clause-built c = λ members functions e f. (
  (
    c.in_default.ensures,
    refl,
    λ R tells.
        c.if-not-find_faces.ensures.faces R (sym tells.members ∙ sym c.members.ensures)
        (subst (λ (n : ℕ). AreFunctionRows n R c.copy_rows.new.rows.rows) (sym c.requires.found) (c.copy_rows.ensures.rows R tells)),
  ),
  c.clear.ensures.empty,
)

pub list_faces-requires-clause-room : goal.list_faces-requires-clause-room
list_faces-requires-clause-room c =
    let m = c.copy_rows.ensures.many in
    let f = c.requires.functions in
    omega arith

pub returns-clause-built : goal.returns-clause-built
returns-clause-built c = λ members functions e f. (
  c.in_default.ensures,
  λ R tells.
      built_table members functions R c.copy_rows.new.rows.rows c.find_faces.new.found.rows c.sort_into.new.sorted.rows c.rank_into.new.ranks.items
      c.list_faces.new.list.faces c.args.rows.now.row_words c.args.found.now.row_words c.sort_into.new.sorted.row_words (length c.args.dual.now)
      e (c.requires.found ∙ e) (c.sort_into.ensures.words ∙ c.requires.sorted ∙ e) f (c.copy_rows.ensures.rows R tells)
      (λ t. c.if-not-find_faces.ensures.faces R (sym tells.members ∙ sym c.members.ensures) t)
      c.sort_into.ensures.members c.sort_into.ensures.ascending c.rank_into.ensures.many (λ t a. c.rank_into.ensures.ranks R t a)
      (subst (λ (r : List ℕ). ListsAll c.sort_into.new.sorted.rows c.copy_rows.new.rows.rows r (length c.args.dual.now) c.list_faces.new.list.faces)
      c.deref.ensures.value c.list_faces.ensures.listed),
)
