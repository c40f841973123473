use Rattle.std.proofs.Common.{◌∙◌, arith}
use Rattle.poset_g.specs.Numbered.{HasSmallRanks}
use Rattle.stringy.specs.ConeNumbers.{star_of}
use Rattle.stringy.specs.RowSteps.{row_at}
use Rattle.stringy.proofs.ConeRows.{small_ranks, tilde_same, tilde_of_stars}
use Rattle.stringy.proofs.cone.s_tilde.Goals as goal

pub returns : goal.returns
returns g c = λ top t k.
    let few = c.sum_dim-dim.ensures.few in
    let ranks : HasSmallRanks c.args.table.now = small_ranks c.args.table.now (g.C.FaceNumbers.numbers c.args.counts.now).dim c.sum_dim-dim.result
    c.sum_dim-dim.ensures.value (omega arith) c.requires.counts.ranks in
    c.tilde.ensures.value k
    ∙ tilde_same c.args.table.now c.requires.faces ranks c.args.side (row_at c.fill_rows.new.rows) (star_of c.args.table.now top
    (g.C.FaceNumbers.numbers c.args.counts.now) c.args.side) c.args.face
    (λ x l j. c.fill_rows.ensures.value x l top t j) k
    ∙ tilde_of_stars c.args.table.now top (g.C.FaceNumbers.numbers c.args.counts.now) c.args.side c.args.face k
