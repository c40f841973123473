use Rattle.std.proofs.Common.{◌≡◌, ℕ, suc, ◌+◌, ◌++◌, Bool, List, [], ◌∷◌, length, take, sym, ap, ◌∙◌, arith}
use Rattle.std.proofs.Math.Seq.{take-suc}
use Rattle.std.proofs.lemmas.List.Elements.{All-contains}
use Rattle.lattice_theory.specs.Affine.{Affine}
use Rattle.cayley.specs.ConeSteps.{table_of, row_of, AreSmall}
use Rattle.cayley.proofs.Tables.{table_push}
use Rattle.cayley.proofs.tight.tight_table.Goals as goal

pub push_row-requires : goal.push_row-requires
push_row-requires c = All-contains (λ m. AreSmall (length m.normal) c.args.functions.now) c.args.members.now c.member-item.result c.requires
    (c.loop-member.member-index, c.loop-member-test.true, sym c.member-item.is)

pub loop-member-preserved : goal.loop-member-preserved
loop-member-preserved c =
    c.in_ok-push_row.ensures
    ∙ ap (λ (t : List Bool). t ++ row_of c.args.functions.now c.member-item.result) c.loop-member.invariant
    ∙ sym (table_push c.args.functions.now (take c.loop-member.member-index c.args.members.now) c.member-item.result)
    ∙ ap (table_of c.args.functions.now)
    (sym (take-suc c.args.members.now c.loop-member.member-index c.member-item.result c.loop-member-test.true
    ∙ ap (λ (x : Affine). take c.loop-member.member-index c.args.members.now ++ (x ∷ [])) (sym c.member-item.is)))
    ∙ ap (λ (k : ℕ). table_of c.args.functions.now (take k c.args.members.now))
    (let e : suc c.loop-member.member-index ≡ c.loop-member.member-index + 1 = omega arith in e)
