use Rattle.weight_points.proofs.Collecting.{none_are_first, first_and_next, first_are_all}
use Rattle.weight_points.proofs.laws.given_vectors_are_all.Goals as goal

pub returns-clause-none : goal.returns-clause-none
returns-clause-none c = none_are_first

pub returns-clause-next : goal.returns-clause-next
returns-clause-next c = first_and_next

pub returns-clause-all : goal.returns-clause-all
returns-clause-all c = first_are_all
