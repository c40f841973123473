-- What a sink was given of a report. This project's own.
use Rattle.std.specs.Prelude.{◌≡◌, ℕ, ◌≤◌, List, [], Option}
use Rattle.std.specs.List.{concat}
use Rattle.palp_io.specs.Sink.{SinkState, Gains}
use Rattle.report_theory.specs.Report.{Closing, Step, Stop, ArePieces, IsListReport, IsListFront}

-- these pieces were appended, and the count of faults didn't fall. Where there are none nothing was given.
pub record GivesPieces (before now : SinkState) (pieces : List (List ℕ)) : Type 0 where
  pub appended : Gains before now (concat pieces)
  pub later : before.faults ≤ now.faults
  pub nothing : pieces ≡ [] → now ≡ before

-- all pieces of an item that closes so were appended
pub record GivesItem {X R : Type 0} (says : X → ℕ → Step R → Type 0) (item : X) (closing : Closing R) (before now : SinkState)
    : Type 0 where
  pub pieces : List (List ℕ)
  pub are_pieces : ArePieces says 0 item pieces closing
  pub gives : GivesPieces before now pieces

-- the report of items, which has this first refusal, was appended, whole
pub record GivesReport {X R : Type 0} (says : X → ℕ → Step R → Type 0) (items : List X) (stop : Option (Stop R))
    (before now : SinkState) : Type 0 where
  pub report : List (List ℕ)
  pub is_report : IsListReport says 1 0 items report stop
  pub gives : GivesPieces before now report

-- a front of the report of items was appended
pub record GivesFront {X R : Type 0} (says : X → ℕ → Step R → Type 0) (items : List X) (before now : SinkState) : Type 0 where
  pub front : List (List ℕ)
  pub is_front : IsListFront says 0 items front
  pub gives : GivesPieces before now front
