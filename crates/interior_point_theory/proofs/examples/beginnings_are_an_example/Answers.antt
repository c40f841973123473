use Rattle.interior_point_theory.proofs.ExampleSteps.{two_follows_one, one_begins, three_is_cut}
use Rattle.interior_point_theory.proofs.examples.beginnings_are_an_example.Goals as goal

pub returns : goal.returns
returns c = record { follows = two_follows_one; begins = one_begins; is_cut = three_is_cut }
