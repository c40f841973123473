use Rattle.palp_io.proofs.SourceLemmas.{Passes-none, Passes-trans, Passes-told, Passes-untold, ends_exactly}
use Rattle.palp_io.proofs.laws.taking_law.Goals as goal

pub returns : goal.returns
returns c = record {
  nothing = Passes-none;
  over_calls = Passes-trans;
  next = Passes-told;
  untold = Passes-untold;
  ends = ends_exactly;
}
