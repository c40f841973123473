-- What the report of an item answers. This project's own.
use Rattle.std.specs.Prelude.{◌≡◌, ℕ, ◌≤◌, List, [], ◌∷◌, Result, Ok, Err}
use Rattle.lattice_core.specs.declared.faults.Fault.{Fault}
use Rattle.lattice_core.specs.declared.faults.Fault.TheVariants as stops
use Rattle.palp_io.specs.Faults.{Rose}
use Rattle.palp_io.specs.Sink.{SinkState, Gains, IsGiveFault}
use Rattle.report_theory.specs.Report.{Whole, Ends}
use Rattle.report_theory.specs.Giving.{GivesItem, GivesFront}
use Rattle.palp_words.specs.declared.job.NefWords.{NefWords}
use Rattle.palp_input.specs.Grammar.{Listed}
use Rattle.nef_report.specs.Partitions.{PartitionsSay}
use Rattle.nef_report.specs.declared.fault.NefFault.{NefFault}
use Rattle.nef_report.specs.declared.fault.NefFault.TheVariants as faults

-- what the answer for an item means: all its pieces were appended, and it isn't refused, or this is its first refusal, behind the pieces before
-- it; or, where the count of faults rose or memory was wanting, a front of its pieces was appended
abbrev pub ListingMeans : Result (Unit {0}) NefFault → NefWords → Listed → SinkState → SinkState → Type 0
ListingMeans (Ok done) words item before now = GivesItem (PartitionsSay words) item Whole before now
ListingMeans (Err (faults.Refused cause)) words item before now = GivesItem (PartitionsSay words) item (Ends cause) before now
ListingMeans (Err faults.Write) words item before now = Rose before.faults now.faults × GivesFront (PartitionsSay words) (item ∷ []) before now
ListingMeans (Err faults.NoMemory) words item before now = GivesFront (PartitionsSay words) (item ∷ []) before now

-- what giving a line means
abbrev pub LineAnswer : List ℕ → SinkState → SinkState → Result (Unit {0}) NefFault → Type 0
LineAnswer line before now (Ok done) = Gains before now line
LineAnswer line before now (Err (faults.Refused cause)) = ⊥
LineAnswer line before now (Err faults.Write) = IsGiveFault line before now
LineAnswer line before now (Err faults.NoMemory) = now ≡ before

pub record LineMeans (line : List ℕ) (before now : SinkState) (result : Result (Unit {0}) NefFault) : Type 0 where
  pub later : before.faults ≤ now.faults
  pub answer : LineAnswer line before now result

-- what stops the work on an item, as what stops its report
abbrev pub IsStop : Fault → NefFault → Type 0
IsStop (stops.Refused cause) fault = fault ≡ faults.Refused cause
IsStop stops.NoMemory fault = fault ≡ faults.NoMemory
