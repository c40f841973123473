use Rattle.std.proofs.Common.{◌≡◌, ap, ◌∙◌, rules, arith}
use Rattle.dual_pair.specs.declared.side.Side.TheVariants as sides
use Rattle.cone_counts.specs.FaceCounts.{CountsState}
use Rattle.cone_counts.proofs.KeptCounts.{told_few}
use Rattle.cone_counts.proofs.counts.FaceCounts.count.Goals.{in-M, in-N}
use Rattle.cone_counts.proofs.counts.FaceCounts.count.Goals as goal

pub returns-clause-few : goal.returns-clause-few
returns-clause-few c =
    let same : c.from.result ≡ c.match-side.from = search rules in
    let dim = ap (λ (s : CountsState). s.sum_dim) c.self.view_is in
    let faces = ap (λ (s : CountsState). s.faces) c.self.view_is in
    let d = c.requires.degree in
    let f = c.requires.face in
    elim c.match-side.branch [
      | in-M w ↦ told_few _ c.self.invariant sides.M c.args.degree c.args.face w.index.result.now c.from.result (omega (arith, d, dim))
          (omega (arith, f, faces)) w.index.ensures (same ∙ w.from-is)
      | in-N w ↦ told_few _ c.self.invariant sides.N c.args.degree c.args.face w.index-in-N.result.now c.from.result (omega (arith, d, dim))
          (omega (arith, f, faces)) w.index-in-N.ensures (same ∙ w.from-is)
    ]
