-- What the report of one entry answers. This project's own.
use Rattle.std.specs.Prelude.{[], ◌∷◌, Result, Ok, Err}
use Rattle.palp_io.specs.Faults.{Rose}
use Rattle.palp_io.specs.Sink.{SinkState}
use Rattle.report_theory.specs.Report.{Whole, Ends}
use Rattle.report_theory.specs.Giving.{GivesItem, GivesFront}
use Rattle.palp_words.specs.declared.job.Job.{Job}
use Rattle.palp_engine.specs.Entries.{Entry}
use Rattle.palp_engine.specs.Commands.{Says}
use Rattle.palp_engine.specs.declared.session.ItemFault.{ItemFault}
use Rattle.palp_engine.specs.declared.session.ItemFault.TheVariants as faults

-- what the answer for an entry means: all its pieces were appended, and it isn't refused, or this is its first refusal; or, where the count
-- of faults rose or memory was wanting, a front of its pieces was appended
abbrev pub EntryMeans : Result (Unit {0}) ItemFault → Job → Entry → SinkState → SinkState → Type 0
EntryMeans (Ok done) job entry before now = GivesItem (Says job) entry Whole before now
EntryMeans (Err (faults.Refused cause)) job entry before now = GivesItem (Says job) entry (Ends cause) before now
EntryMeans (Err faults.Write) job entry before now = Rose before.faults now.faults × GivesFront (Says job) (entry ∷ []) before now
EntryMeans (Err faults.NoMemory) job entry before now = GivesFront (Says job) (entry ∷ []) before now
