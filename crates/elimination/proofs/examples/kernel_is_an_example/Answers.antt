use Rattle.elimination.proofs.ExampleSteps.{after_both, the_last, combination, told_apart, same_together}
use Rattle.elimination.proofs.examples.kernel_is_an_example.Goals as goal

pub returns : goal.returns
returns c = record {
  kernel = after_both.0;
  pivots = after_both.1;
  combination = combination;
  reduced = the_last;
  separated = told_apart;
  together = same_together;
}
