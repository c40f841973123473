use Rattle.std.proofs.Common.{List, ℤ, ap, ◌∙◌, arith}
use Rattle.dual_pair.specs.declared.side.Side.TheVariants as sides
use Rattle.small_poly.specs.Tables.{laurent_of}
use Rattle.poset_g.specs.Numbered.{HasSmallRanks}
use Rattle.stringy.specs.ConeNumbers.{star_of}
use Rattle.stringy.specs.RowSteps.{row_at}
use Rattle.stringy.proofs.ConeRows.{small_ranks, numerator_same, numerator_of_stars}
use Rattle.stringy.proofs.cone.e_poly.Goals as goal

pub returns-clause-numerator : goal.returns-clause-numerator
returns-clause-numerator g c = λ top t p q.
    let few = c.sum_dim-dim.ensures.few in
    let ranks : HasSmallRanks c.args.table.now = small_ranks c.args.table.now (g.C.FaceNumbers.numbers c.args.counts.now).dim c.sum_dim-dim.result
    c.sum_dim-dim.ensures.value (omega arith) c.requires.counts.ranks in
    ap (λ (xs : List ℤ). laurent_of xs p q) c.of.ensures.numerator ∙ c.numerator_of.ensures.value p q
    ∙ numerator_same c.args.table.now c.requires.faces ranks (row_at c.fill_rows.new.rows) (star_of c.args.table.now top (g.C.FaceNumbers.numbers
    c.args.counts.now) sides.M)
    (row_at c.fill_rows-2.new.rows) (star_of c.args.table.now top (g.C.FaceNumbers.numbers c.args.counts.now) sides.N)
    (λ x l j. c.fill_rows.ensures.value x l top t j) (λ x l j. c.fill_rows-2.ensures.value x l top t j) p q
    ∙ numerator_of_stars c.args.table.now top (g.C.FaceNumbers.numbers c.args.counts.now) p q
