use Rattle.std.proofs.Common.{ℕ, ◌≡◌, ◌≤◌, max, min, ap, ◌∙◌, arith}
use Rattle.lattice_theory.specs.Vector.{entry}
use Rattle.stringy_theory.specs.HStar.{h_star}
use Rattle.stringy.specs.ConeNumbers.{points_of}
use Rattle.stringy.proofs.MadeStars.{star_same}
use Rattle.stringy.proofs.ConeRows.{star_rank_is, used_all}
use Rattle.stringy.proofs.cone.star_row.Goals as goal

pub returns-clause-value : goal.returns-clause-value
returns-clause-value g c = λ top t k.
    let most = c.rank_on-rank.ensures.most (g.C.FaceNumbers.numbers c.args.counts.now).dim c.requires.counts.ranks in
    let dim = c.requires.dim in
    let few = c.requires.few in
    let low : c.rank_on-rank.result ≤ c.args.dim = omega arith in
    let used : c.min.result ≡ min (max c.rank_on-rank.result 1) c.args.dim = c.min.ensures ∙ ap (λ (n : ℕ). min n c.args.dim) c.max.ensures in
    c.make_star.ensures.value k
    ∙ star_same c.rank_on-rank.result (entry c.count_row-row.result) (points_of (g.C.FaceNumbers.numbers c.args.counts.now) c.args.side c.args.face) (omega arith)
    (λ s l. c.count_row-row.ensures.value s (let u = used_all c.rank_on-rank.result c.args.dim s low c.requires.some l in omega arith)) k
    ∙ ap (λ (n : ℕ). h_star n (points_of (g.C.FaceNumbers.numbers c.args.counts.now) c.args.side c.args.face) k)
    (star_rank_is c.args.table.now c.args.side c.args.face c.rank_on-rank.result top c.rank_on-rank.ensures.value t)
