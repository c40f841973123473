use Rattle.stringy_theory.proofs.SmallNumbers.{s_tilde_bound, s_tilde_dual_bound, numerator_bound}
use Rattle.stringy_theory.proofs.powers.numbers_are_small.Goals as goal

pub returns : goal.returns
returns c = record {
  s_tilde = λ d small f i k. (s_tilde_bound d small f i k, s_tilde_dual_bound d small f i k);
  numerator = numerator_bound;
}
