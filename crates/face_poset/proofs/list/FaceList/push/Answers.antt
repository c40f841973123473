use Rattle.std.specs.Prelude.{vec_len, vec_capacity}
use Rattle.std.proofs.Common.{rules, ◌≡◌, ◌+◌, ◌^◌, ◌<◌, ◌≤◌, ℕ, Bool, not, if◌then◌else◌, List, [], ◌∷◌, ◌++◌, length, refl, sym, ap, ◌∙◌, arith, length-append}
use Rattle.std.proofs.lemmas.List.Elements.{All-from_get_or}
use Rattle.face_closing.specs.declared.limits.TheConstants.{MOST_FACES}
use Rattle.face_poset.specs.ListSteps.{ListState, faces_of}
use Rattle.face_poset.proofs.FaceLists.{kept_length, faces_more}
use Rattle.face_poset.proofs.list.FaceList.push.Goals as goal

pub unreachable-requires : goal.unreachable-requires
unreachable-requires c =
    let e = kept_length c.self.inside.sets.rows c.self.inside.duals.rows c.self.inside.ranks.items c.self.inside.sets.row_words c.self.inside.duals.row_words
    c.args.self.now c.self.view_is c.self.invariant.duals_many c.self.invariant.ranks_many in
    let room = c.requires.room in
    let m = c.self.invariant.ranks_many in
    let f = c.self.invariant.fits in
    let v : vec_len c.self.inside.ranks ≡ length c.self.inside.ranks.items = search rules in
    let l : vec_len c.self.inside.ranks < vec_capacity c.self.inside.ranks = omega arith in
    search rules

pub push-requires-2-clause-room : goal.push-requires-2-clause-room
push-requires-2-clause-room c =
    let e = kept_length c.self.inside.sets.rows c.self.inside.duals.rows c.self.inside.ranks.items c.self.inside.sets.row_words c.self.inside.duals.row_words
    c.args.self.now c.self.view_is c.self.invariant.duals_many c.self.invariant.ranks_many in
    let room = c.requires.room in
    omega arith

pub push-requires-3-clause-room : goal.push-requires-3-clause-room
push-requires-3-clause-room c =
    let e = kept_length c.self.inside.sets.rows c.self.inside.duals.rows c.self.inside.ranks.items c.self.inside.sets.row_words c.self.inside.duals.row_words
    c.args.self.now c.self.view_is c.self.invariant.duals_many c.self.invariant.ranks_many in
    let room = c.requires.room in
    let m = c.self.invariant.duals_many in
    omega arith

pub invariant_of-self : goal.invariant_of-self
invariant_of-self c =
    let e = kept_length c.self.inside.sets.rows c.self.inside.duals.rows c.self.inside.ranks.items c.self.inside.sets.row_words c.self.inside.duals.row_words
    c.args.self.now c.self.view_is c.self.invariant.duals_many c.self.invariant.ranks_many in
    let room = c.requires.room in
    let items : c.push.new.self.items ≡ c.self.inside.ranks.items ++ c.args.rank ∷ [] = c.push.ensures.items
    ∙ ap (λ (b : Bool). if◌then◌else◌ b (c.self.inside.ranks.items ++ c.args.rank ∷ []) c.self.inside.ranks.items)
    (c.is_err.ensures.negation ∙ ap not c.if-is_err.false) in
    let sets = ap length c.push-2.ensures.rows ∙ length-append c.self.inside.sets.rows (c.args.members.now ∷ []) in
    let duals = ap length c.push-3.ensures.rows ∙ length-append c.self.inside.duals.rows (c.args.functions.now ∷ []) in
    let ranks = ap length items ∙ length-append c.self.inside.ranks.items (c.args.rank ∷ []) in
    let a = c.self.invariant.duals_many in
    let b = c.self.invariant.ranks_many in
    let f = c.self.invariant.fits in
    let k = c.push.ensures.capacity in
    record { duals_many = omega arith; ranks_many = omega arith; few = omega arith; fits = omega arith }

pub returns-clause-faces : goal.returns-clause-faces
returns-clause-faces c =
    let items : c.push.new.self.items ≡ c.self.inside.ranks.items ++ c.args.rank ∷ [] = c.push.ensures.items
    ∙ ap (λ (b : Bool). if◌then◌else◌ b (c.self.inside.ranks.items ++ c.args.rank ∷ []) c.self.inside.ranks.items)
    (c.is_err.ensures.negation ∙ ap not c.if-is_err.false) in
    ap (λ (x : List (List ℕ)). faces_of x c.push-3.new.self.rows c.push.new.self.items) c.push-2.ensures.rows
    ∙ ap (λ (x : List (List ℕ)). faces_of (c.self.inside.sets.rows ++ c.args.members.now ∷ []) x c.push.new.self.items) c.push-3.ensures.rows
    ∙ ap (λ (x : List ℕ). faces_of (c.self.inside.sets.rows ++ c.args.members.now ∷ []) (c.self.inside.duals.rows ++ c.args.functions.now ∷ []) x) items
    ∙ faces_more c.self.inside.sets.rows c.self.inside.duals.rows c.self.inside.ranks.items c.args.members.now c.args.functions.now c.args.rank
    c.self.invariant.duals_many c.self.invariant.ranks_many
    ∙ ap (λ (s : ListState). s.faces ++ record { members = c.args.members.now; functions = c.args.functions.now; rank = c.args.rank } ∷ []) c.self.view_is

pub returns-clause-small : goal.returns-clause-small
returns-clause-small c = All-from_get_or (λ w. w < 2 ^ 64) c.args.functions.now 0 (λ i l. let f = c.type_inv.functions i in omega arith)
