-- What the report of a range of weight systems answers. This project's own.
use Rattle.std.specs.Prelude.{ℕ, ◌+◌, ◌≤◌, List, None, Result, Ok, Err}
use Rattle.lattice_core.specs.declared.faults.Refusal.{Refusal}
use Rattle.palp_io.specs.Faults.{Rose}
use Rattle.palp_io.specs.Sink.{SinkState}
use Rattle.report_theory.specs.Report.{Step, stop_at}
use Rattle.report_theory.specs.Giving.{GivesReport, GivesFront}
use Rattle.weight_enum.specs.Taken.{AreSearched}
use Rattle.weight_lists.specs.Entries.{ListEntry, AreListEntries}
use Rattle.weight_lists.specs.declared.fault.ListFault.{ListFault}
use Rattle.weight_lists.specs.declared.fault.ListFault.TheVariants as faults

-- a range of degrees of which the systems can be searched
pub record IsRange (dim low high : ℕ) : Type 0 where
  pub searched : AreSearched high (dim + 1)
  pub least : 1 ≤ low
  pub in_order : low ≤ high

-- what the answer for some entries means, of which this is said: the whole report was appended, and no system is refused, or the first
-- one that is refused ends the report; or, where the count of faults rose or memory was wanting, a front of the report was appended
abbrev pub ReportMeans : (ListEntry → ℕ → Step Refusal → Type 0) → List ListEntry → SinkState → SinkState → Result (Unit {0}) ListFault → Type 0
ReportMeans says entries before now (Ok done) = GivesReport says entries None before now
ReportMeans says entries before now (Err (faults.Refused number cause)) = GivesReport says entries (stop_at number cause) before now
ReportMeans says entries before now (Err faults.Write) = Rose before.faults now.faults × GivesFront says entries before now
ReportMeans says entries before now (Err faults.NoMemory) = GivesFront says entries before now

-- the report of a range: that of the entries of the range's systems
pub record Reports (says : ListEntry → ℕ → Step Refusal → Type 0) (dim low high : ℕ) (before now : SinkState)
    (result : Result (Unit {0}) ListFault) : Type 0 where
  pub entries : List ListEntry
  pub are_entries : AreListEntries dim low high entries
  pub means : ReportMeans says entries before now result
