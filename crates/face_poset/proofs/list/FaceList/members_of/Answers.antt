use Rattle.std.proofs.Common.{◌≡◌, ◌<◌, ◌≤◌, length, refl, sym, ap, ◌∙◌, arith}
use Rattle.face_poset.specs.ListSteps.{ListState}
use Rattle.face_poset.proofs.FaceLists.{kept_length, kept_members}
use Rattle.face_poset.proofs.list.FaceList.members_of.Goals as goal

pub row-requires : goal.row-requires
row-requires c =
    let e = kept_length c.self.inside.sets.rows c.self.inside.duals.rows c.self.inside.ranks.items c.self.inside.sets.row_words c.self.inside.duals.row_words
    c.args.self.now c.self.view_is c.self.invariant.duals_many c.self.invariant.ranks_many in
    let l = c.requires in
    omega arith

pub returns-clause-value : goal.returns-clause-value
returns-clause-value c = c.row.ensures.value ∙ kept_members c.self.inside.sets.rows c.self.inside.duals.rows c.self.inside.ranks.items c.self.inside.sets.row_words c.self.inside.duals.row_words
    c.args.self.now c.self.view_is c.self.invariant.duals_many c.self.invariant.ranks_many c.args.face c.requires

pub returns-clause-words : goal.returns-clause-words
returns-clause-words c = c.row.ensures.words ∙ ap (λ (s : ListState). s.member_words) c.self.view_is
