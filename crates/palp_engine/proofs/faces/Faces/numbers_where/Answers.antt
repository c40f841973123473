use Rattle.std.specs.Prelude.{IsTrue}
use Rattle.std.proofs.Common.{rules, sym, subst}
use Rattle.face_poset.specs.Faces.{TableState}
use Rattle.dual_pair.specs.Faces.{AreFacesOf}
use Rattle.palp_engine.proofs.faces.Faces.numbers_where.Goals as goal

pub hodge-requires : goal.hodge-requires
hodge-requires c =
    let on : IsTrue c.args.asked = search rules in
    subst (λ (t : TableState). AreFacesOf c.args.pair.now.m t) (sym c.self.view_is) (c.requires on)
