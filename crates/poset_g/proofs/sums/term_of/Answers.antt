use Rattle.std.proofs.Common.{rules, SFits, Bool, ap, sym, ◌∙◌}
use Rattle.std.specs.Int.{w64}
use Rattle.std.proofs.lemmas.Int.{to_z-of_z}
use Rattle.poset_g.specs.FillSteps.{kept_term}
use Rattle.poset_g.proofs.sums.term_of.Goals as goal

pub returns-else-wanted-clause-value : goal.returns-else-wanted-clause-value
returns-else-wanted-clause-value c =
    let fits : SFits w64 c.term_below.result = search rules in
    simp to_z-of_z (c.term_below.ensures.value
    ∙ ap (λ (d : Bool). kept_term c.args.table.now
    (record { from = c.args.wanted.from; to = c.args.wanted.to; dual = d; degree = c.args.wanted.degree }) c.args.face) (sym c.if-wanted.false))
