use Rattle.palp_io.proofs.SinkLemmas.{Gains-none, Gains-trans, GainsFront-after, GainsFront-longer}
use Rattle.palp_io.proofs.laws.giving_law.Goals as goal

pub returns : goal.returns
returns c = record {
  nothing = Gains-none;
  over_calls = Gains-trans;
  front_over_calls = GainsFront-after;
  front_of_more = GainsFront-longer;
}
