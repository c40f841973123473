use Rattle.std.proofs.Common.{◌≡◌, length, rules, sym, ap, ◌∙◌, subst}
use Rattle.std.proofs.lemmas.List.{length-map}
use Rattle.cayley.specs.PairCones.{ConeState}
use Rattle.cayley.specs.ConeSteps.{lifted_one, IsTableOf}
use Rattle.cayley.proofs.Tables.{told_cone}
use Rattle.cayley.proofs.cone.Cone.incidence.Goals as goal

pub returns : goal.returns
returns c =
    let inner : c.len.result ≡ length c.self.inside.members.items = search rules in
    let behind : c.len-2.result ≡ length c.self.inside.functions.items = search rules in
    let rays : c.narrowed-members.result ≡ length c.args.self.now.members = c.narrowed-members.ensures ∙ inner
    ∙ sym (length-map c.self.inside.members.items (lifted_one c.self.inside.parts)) ∙ ap (λ (s : ConeState). length s.members) c.self.view_is in
    let functions : c.narrowed-functions.result ≡ length c.args.self.now.functions = c.narrowed-functions.ensures ∙ behind
    ∙ sym (length-map c.self.inside.functions.items (lifted_one c.self.inside.parts)) ∙ ap (λ (s : ConeState). length s.functions) c.self.view_is in
    told_cone c.args.pool.now c.from_table.new.pool c.args.self.now c.narrowed-members.result c.narrowed-functions.result c.deref.result.now
    c.self.inside.tight.items c.from_table.result rays functions c.deref.ensures.value
    (subst (λ (s : ConeState). IsTableOf s.members s.functions c.self.inside.tight.items) c.self.view_is c.self.invariant.table) c.from_table.ensures
