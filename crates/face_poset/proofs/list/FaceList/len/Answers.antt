use Rattle.std.proofs.Common.{◌≡◌, ◌<◌, ◌≤◌, length, refl, sym, ap, ◌∙◌, arith}
use Rattle.face_poset.specs.ListSteps.{ListState}
use Rattle.face_poset.proofs.FaceLists.{kept_length}
use Rattle.face_poset.proofs.list.FaceList.len.Goals as goal

pub returns-clause-value : goal.returns-clause-value
returns-clause-value c = c.len.ensures.value ∙ kept_length c.self.inside.sets.rows c.self.inside.duals.rows c.self.inside.ranks.items c.self.inside.sets.row_words c.self.inside.duals.row_words
    c.args.self.now c.self.view_is c.self.invariant.duals_many c.self.invariant.ranks_many

pub returns-clause-few : goal.returns-clause-few
returns-clause-few c =
    let v = c.len.ensures.value in
    let f = c.self.invariant.few in
    omega arith
