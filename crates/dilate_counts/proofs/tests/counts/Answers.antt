use Rattle.std.specs.Prelude.{ℤ, nat_abs}
use Rattle.std.proofs.Common.{List, length, sym, ap, ◌∙◌, subst, arith}
use Rattle.lattice_core.specs.Dimensions.{dimension_of}
use Rattle.point_scan.proofs.SegmentSteps.{solid_ends, facets_of_ends}
use Rattle.dilate_counts.specs.DilateCounts.{HasFewPoints}
use Rattle.dilate_counts.proofs.Starts.{few_counted}
use Rattle.dilate_counts.proofs.Samples.{three_vectors}
use Rattle.dilate_counts.proofs.tests.counts.Goals as goal

pub count_to-requires-clause-vertices : goal.count_to-requires-clause-vertices
count_to-requires-clause-vertices c = solid_ends _ (c.deref.ensures.value ∙ c.in_ok-ends.ensures)

pub count_to-requires-clause-facets : goal.count_to-requires-clause-facets
count_to-requires-clause-facets c = facets_of_ends _ _ (c.deref.ensures.value ∙ c.in_ok-ends.ensures)
    (c.deref-2.ensures.value ∙ c.in_ok-facets.ensures)

pub count_dilate-requires-clause-vertices : goal.count_dilate-requires-clause-vertices
count_dilate-requires-clause-vertices c = solid_ends _ (c.deref-3.ensures.value ∙ c.in_ok-ends.ensures)

pub count_dilate-requires-clause-facets : goal.count_dilate-requires-clause-facets
count_dilate-requires-clause-facets c = facets_of_ends _ _ (c.deref-3.ensures.value ∙ c.in_ok-ends.ensures)
    (c.deref-4.ensures.value ∙ c.in_ok-facets.ensures)

pub count_dilate-requires-clause-few : goal.count_dilate-requires-clause-few
count_dilate-requires-clause-few c =
    let limit = c.from.ensures in
    let same = c.from-2.ensures in
    let most = c.if-branch-from.false in
    subst (λ (vertices : List (List ℤ)). HasFewPoints vertices 2) (c.deref.ensures.value ∙ sym c.deref-3.ensures.value)
    (few_counted c.deref.result.now 2 c.from.result c.in_ok-count_to.field-0 c.in_ok-count_to.ensures (omega (arith, limit, same, most)) (omega (arith, limit)))

pub count_dilate-requires-clause-sets : goal.count_dilate-requires-clause-sets
count_dilate-requires-clause-sets c =
    let line = sym (ap dimension_of (c.deref-3.ensures.value ∙ c.in_ok-ends.ensures)) in
    three_vectors (dimension_of c.deref-3.result.now) c.function.result c.function-2.result c.function-3.result 1 0 c.args.sets.now.rows
    (ap length c.function.ensures.normal ∙ line) (ap length c.function-2.ensures.normal ∙ line) (ap length c.function-3.ensures.normal ∙ line)
    (ap nat_abs c.function.ensures.constant) (ap nat_abs c.function-2.ensures.constant) (ap nat_abs c.function-3.ensures.constant)
    c.requires (omega arith) (omega arith)
