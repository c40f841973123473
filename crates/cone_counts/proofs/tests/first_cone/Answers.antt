use Rattle.std.proofs.Common.{◌∙◌, subst}
use Rattle.nef_parts.specs.Given.{GivesNext}
use Rattle.nef_parts.specs.Lists.{PairLists}
use Rattle.nef_parts.specs.Partitions.{IsNefAt, ArePointsOf}
use Rattle.cone_counts.proofs.tests.first_cone.Goals as goal

pub of-requires-2 : goal.of-requires-2
of-requires-2 c =
    let g = subst (GivesNext c.in_ok-search.search c.next.new.self) c.in-Some.is c.in_ok-partition.ensures.given in
    let lists = c.in_ok-search.ensures.lists ∙ c.in_ok-masks.ensures in
    c.found_are_partitions.ensures c.args.pair.now c.in_ok-search.search.codim c.in_ok-search.search.given
    c.in-Some.partition.part_of.items c.in-Some.partition.points.items
    (subst (λ (l : PairLists). IsNefAt l c.in_ok-search.search.codim c.in_ok-search.search.given c.in-Some.partition.part_of.items) lists g.3)
    (subst (λ (l : PairLists). ArePointsOf l c.in_ok-search.search.codim c.in-Some.partition.part_of.items c.in-Some.partition.points.items) lists g.4)
