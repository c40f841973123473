-- The laws of this crate, as statements. This project's own.
use Rattle.std.specs.Prelude.{◌≡◌, ℕ, ◌<◌, ◌^◌, Bool, List, length}
use Rattle.lattice_core.specs.Weights.{Weighted}
use Rattle.report_theory.specs.Report.{SaysOne}
use Rattle.interior_point_theory.specs.Interior.{AreSystemsOfRange}
use Rattle.weight_lists.specs.Entries.{ListEntry, AreListEntries}
use Rattle.weight_lists.specs.Lists.{CwsSays}
use Rattle.weight_lists.specs.Sweeps.{SweepSays}
use Rattle.weight_lists.specs.Answers.{IsRange}

-- the systems of a range are finitely many: there is the list of them
abbrev pub RangesAreListed : Type 0
RangesAreListed = (dim low high : ℕ) → IsRange dim low high → (systems : List Weighted) × AreSystemsOfRange dim low high systems

-- they are fewer than 2^61
abbrev pub RangesAreFew : Type 0
RangesAreFew = (dim low high : ℕ) (systems : List Weighted) → IsRange dim low high → AreSystemsOfRange dim low high systems
    → length systems < 2 ^ 61

-- a range has one list of entries
abbrev pub OneListOfEntries : Type 0
OneListOfEntries = (dim low high : ℕ) (entries others : List ListEntry) → AreListEntries dim low high entries
    → AreListEntries dim low high others → entries ≡ others

-- what is said of an entry is one thing
abbrev pub OneCwsStep : Type 0
OneCwsStep = (only : Bool) → SaysOne (CwsSays only)

abbrev pub OneSweepStep : Type 0
OneSweepStep = SaysOne SweepSays
