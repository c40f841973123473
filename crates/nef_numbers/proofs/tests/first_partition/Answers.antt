use Rattle.std.proofs.Common.{◌∙◌, subst}
use Rattle.nef_parts.specs.Given.{GivesNext}
use Rattle.nef_numbers.proofs.FoundParts.{next_has_parts}
use Rattle.nef_numbers.proofs.tests.first_partition.Goals as goal

pub returns-in-Some : goal.returns-in-Some
returns-in-Some c = next_has_parts c.args.pair.now c.in_ok-search.search c.next.new.self 1 c.in-Some.partition
    (c.in_ok-search.ensures.lists ∙ c.in_ok-of.ensures) c.in_ok-search.ensures.codim
    (subst (GivesNext c.in_ok-search.search c.next.new.self) c.in-Some.is c.in_ok-partition.ensures.given)
