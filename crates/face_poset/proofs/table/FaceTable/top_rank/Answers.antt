use Rattle.std.proofs.Common.{◌≡◌, ◌+◌, ◌-◌, ◌≤◌, ℕ, List, length, sym, ap, ◌∙◌, subst, arith}
use Rattle.face_poset.specs.Faces.{FaceState, TableState, IsTopRank}
use Rattle.face_poset.proofs.ListedFaces.{top_last}
use Rattle.face_poset.proofs.table.FaceTable.top_rank.Goals as goal

pub returns : goal.returns
returns c =
    let n = c.len.ensures.value in
    let some = c.requires in
    let e : length c.self.inside.list.faces ≡ length c.args.self.now.faces = ap (λ (s : TableState). length s.faces) c.self.view_is in
    subst (λ (fs : List FaceState). IsTopRank fs c.rank.result) (ap (λ (s : TableState). s.faces) c.self.view_is)
    (subst (IsTopRank c.self.inside.list.faces) (sym c.rank.ensures)
    (top_last c.self.inside.list.faces (c.len.result - 1) (omega arith) c.self.invariant.ascending))
