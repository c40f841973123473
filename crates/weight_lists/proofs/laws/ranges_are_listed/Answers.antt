use Rattle.weight_lists.proofs.Ranges.{ranges_are_listed_lem}
use Rattle.weight_lists.proofs.Counts.{ranges_are_few_lem}
use Rattle.weight_lists.proofs.laws.ranges_are_listed.Goals as goal

pub returns-clause-listed : goal.returns-clause-listed
returns-clause-listed c = ranges_are_listed_lem

pub returns-clause-few : goal.returns-clause-few
returns-clause-few c = ranges_are_few_lem
