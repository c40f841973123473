use Rattle.std.specs.Prelude.{vec_len}
use Rattle.std.proofs.Common.{rules, ◌≡◌, ◌<◌, ◌≤◌, length, refl, sym, ap, ◌∙◌, arith}
use Rattle.std.proofs.lemmas.List.{get_or_default}
use Rattle.face_poset.proofs.FaceLists.{kept_length, kept_rank}
use Rattle.face_poset.proofs.list.FaceList.rank.Goals as goal

pub index-requires : goal.index-requires
index-requires c =
    let e = kept_length c.self.inside.sets.rows c.self.inside.duals.rows c.self.inside.ranks.items c.self.inside.sets.row_words c.self.inside.duals.row_words
    c.args.self.now c.self.view_is c.self.invariant.duals_many c.self.invariant.ranks_many in
    let m = c.self.invariant.ranks_many in
    let v : vec_len c.self.inside.ranks ≡ length c.self.inside.ranks.items = search rules in
    let l = c.requires in
    omega arith

pub returns : goal.returns
returns c =
    let e = kept_length c.self.inside.sets.rows c.self.inside.duals.rows c.self.inside.ranks.items c.self.inside.sets.row_words c.self.inside.duals.row_words
    c.args.self.now c.self.view_is c.self.invariant.duals_many c.self.invariant.ranks_many in
    let m = c.self.invariant.ranks_many in
    let l = c.requires in
    c.index.ensures ∙ get_or_default c.self.inside.ranks.items c.args.face c.index.result.now 0 (omega arith)
    ∙ kept_rank c.self.inside.sets.rows c.self.inside.duals.rows c.self.inside.ranks.items c.self.inside.sets.row_words c.self.inside.duals.row_words
    c.args.self.now c.self.view_is c.self.invariant.duals_many c.self.invariant.ranks_many c.args.face c.requires
