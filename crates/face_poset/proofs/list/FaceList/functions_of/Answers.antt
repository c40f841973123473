use Rattle.std.proofs.Common.{◌≡◌, ◌<◌, ◌≤◌, length, refl, sym, ap, ◌∙◌, arith}
use Rattle.face_poset.specs.ListSteps.{ListState}
use Rattle.face_poset.proofs.FaceLists.{kept_length, kept_functions}
use Rattle.face_poset.proofs.list.FaceList.functions_of.Goals as goal

pub row-requires : goal.row-requires
row-requires c =
    let e = kept_length c.self.inside.sets.rows c.self.inside.duals.rows c.self.inside.ranks.items c.self.inside.sets.row_words c.self.inside.duals.row_words
    c.args.self.now c.self.view_is c.self.invariant.duals_many c.self.invariant.ranks_many in
    let m = c.self.invariant.duals_many in
    let l = c.requires in
    omega arith

pub returns : goal.returns
returns c = c.row.ensures.value ∙ kept_functions c.self.inside.sets.rows c.self.inside.duals.rows c.self.inside.ranks.items c.self.inside.sets.row_words c.self.inside.duals.row_words
    c.args.self.now c.self.view_is c.self.invariant.duals_many c.self.invariant.ranks_many c.args.face c.requires
