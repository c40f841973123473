use Rattle.palp_input.proofs.Readings.{has_all_items, goes_on, reading_ends, reading_faulty, reading_too_long}
use Rattle.palp_input.proofs.laws.reading_law.Goals as goal

pub returns : goal.returns
returns c = record {
  all = has_all_items;
  goes_on = goes_on;
  ends = reading_ends;
  faulty = reading_faulty;
  too_long = reading_too_long;
}
