use Rattle.palp_io.proofs.FaultLemmas.{Rose-out, Rose-in, Rose-over_calls, zero-not_Rose}
use Rattle.palp_io.proofs.laws.count_law.Goals as goal

pub returns : goal.returns
returns c = record {
  in_words = λ before now later bounded. (Rose-out before now later bounded, Rose-in before now later bounded);
  over_calls = Rose-over_calls;
  zero = zero-not_Rose;
}
