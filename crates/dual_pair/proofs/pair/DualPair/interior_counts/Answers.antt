use Rattle.std.proofs.Common.{get_or, ap, ◌∙◌}
use Rattle.dual_pair.specs.Polytopes.{PolytopeState}
use Rattle.dual_pair.proofs.Insides.{handed, handed_values_on, handed_sought}
use Rattle.dual_pair.proofs.pair.DualPair.interior_counts.Goals as goal

pub counts_with-requires-clause-values : goal.counts_with-requires-clause-values
counts_with-requires-clause-values c =
    handed_values_on c.args.self.now c.polytope-polytope.ensures.pair c.args.table.now c.requires c.args.side c.points.result.now
    c.facets.result.now
    (c.points.ensures.value ∙ ap (λ (p : PolytopeState). p.points) c.polytope-polytope.ensures.value)
    (c.facets.ensures.value ∙ ap (λ (p : PolytopeState). p.facets) c.polytope-polytope.ensures.value)

pub counts_with-requires-clause-sets : goal.counts_with-requires-clause-sets
counts_with-requires-clause-sets c =
    handed_sought c.args.self.now c.polytope-polytope.ensures.pair c.args.table.now c.requires c.args.side c.facets.result.now _
    c.word_count.result (c.facets.ensures.value ∙ ap (λ (p : PolytopeState). p.facets) c.polytope-polytope.ensures.value)
    c.word_count.ensures.most c.word_count.ensures.value

pub returns-clause-counts : goal.returns-clause-counts
returns-clause-counts c = λ k l.
    handed c.args.self.now c.polytope-polytope.ensures.pair c.args.table.now c.requires c.args.side c.facets.result.now c.points.result.now
    (c.facets.ensures.value ∙ ap (λ (p : PolytopeState). p.facets) c.polytope-polytope.ensures.value)
    (c.points.ensures.value ∙ ap (λ (p : PolytopeState). p.points) c.polytope-polytope.ensures.value) k l (get_or c.counts_with.result k 0)
    (c.counts_with.ensures.counts k l)
