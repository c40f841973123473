use Rattle.std.proofs.Common.{◌≡◌, ◌<◌, ◌≤◌, length, refl, sym, ap, ◌∙◌, arith}
use Rattle.face_poset.specs.ListSteps.{ListState}
use Rattle.face_poset.proofs.FaceLists.{kept_length, found_functions}
use Rattle.face_poset.proofs.list.FaceList.find_functions.Goals as goal

pub returns-clause-found : goal.returns-clause-found
returns-clause-found c = found_functions c.self.inside.sets.rows c.self.inside.duals.rows c.self.inside.ranks.items c.self.inside.sets.row_words c.self.inside.duals.row_words
    c.args.self.now c.self.view_is c.self.invariant.duals_many c.self.invariant.ranks_many c.args.functions.now c.find.result c.find.ensures

pub returns-clause-few : goal.returns-clause-few
returns-clause-few c =
    let e = kept_length c.self.inside.sets.rows c.self.inside.duals.rows c.self.inside.ranks.items c.self.inside.sets.row_words c.self.inside.duals.row_words
    c.args.self.now c.self.view_is c.self.invariant.duals_many c.self.invariant.ranks_many in
    let f = c.self.invariant.few in
    omega arith
