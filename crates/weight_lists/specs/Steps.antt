-- What the steps of a report answer. This project's own.
use Rattle.std.specs.Prelude.{◌≡◌, ℕ, ◌≤◌, Bool, true, false, List, [], ◌∷◌, Result, Ok, Err}
use Rattle.lattice_core.specs.Weights.{Weighted}
use Rattle.lattice_core.specs.declared.faults.Fault.{Fault}
use Rattle.lattice_core.specs.declared.faults.Fault.TheVariants as stops
use Rattle.palp_io.specs.Faults.{Rose}
use Rattle.palp_io.specs.Sink.{SinkState, Gains, IsGiveFault}
use Rattle.report_theory.specs.Report.{Whole, Ends}
use Rattle.report_theory.specs.Giving.{GivesItem, GivesFront}
use Rattle.weight_lists.specs.Entries.{System}
use Rattle.weight_lists.specs.Lists.{IsListed, IsLeftOut, IsMark, CwsSays}
use Rattle.weight_lists.specs.Sweeps.{AreNumbers}
use Rattle.weight_lists.specs.declared.fault.ListFault.{ListFault}
use Rattle.weight_lists.specs.declared.fault.ListFault.TheVariants as faults
use Rattle.weight_lists.specs.declared.sums.Numbers.{Numbers}

-- what giving a line means
abbrev pub LineAnswer : List ℕ → SinkState → SinkState → Result (Unit {0}) ListFault → Type 0
LineAnswer line before now (Ok done) = Gains before now line
LineAnswer line before now (Err (faults.Refused number cause)) = ⊥
LineAnswer line before now (Err faults.Write) = IsGiveFault line before now
LineAnswer line before now (Err faults.NoMemory) = now ≡ before

pub record LineMeans (line : List ℕ) (before now : SinkState) (result : Result (Unit {0}) ListFault) : Type 0 where
  pub later : before.faults ≤ now.faults
  pub answer : LineAnswer line before now result

-- whether a system is listed
abbrev pub IsChosen : Bool → Weighted → Bool → Type 0
IsChosen only system true = IsListed only system
IsChosen only system false = IsLeftOut only system

-- what stops the work on a system, as what stops the report
abbrev pub IsStopped : ℕ → Fault → ListFault → Type 0
IsStopped number (stops.Refused cause) fault = fault ≡ faults.Refused number cause
IsStopped number stops.NoMemory fault = fault ≡ faults.NoMemory

-- what the answer for a system with this number means
abbrev pub SystemMeans : Bool → ℕ → Weighted → SinkState → SinkState → Result ℕ ListFault → Type 0
SystemMeans only number system before now (Ok mark) = GivesItem (CwsSays only) (System system) Whole before now × IsMark only system mark
SystemMeans only number system before now (Err (faults.Refused told cause)) =
    (told ≡ number) × GivesItem (CwsSays only) (System system) (Ends cause) before now
SystemMeans only number system before now (Err faults.Write) =
    Rose before.faults now.faults × GivesFront (CwsSays only) (System system ∷ []) before now
SystemMeans only number system before now (Err faults.NoMemory) = GivesFront (CwsSays only) (System system ∷ []) before now

-- the numbers of a system, as they are kept
abbrev pub HasNumbers : Weighted → Numbers → Type 0
HasNumbers system x = AreNumbers system (record { reflexive = x.reflexive; points = x.points; dual_points = x.dual_points })
