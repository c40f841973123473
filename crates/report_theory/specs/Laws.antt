-- What holds of reports, as statements on items that tell their pieces. This project's own.
use Rattle.std.specs.Prelude.{◌≡◌, ℕ, List, [], ◌∷◌, ◌++◌, Option}
use Rattle.std.specs.List.{concat}
use Rattle.palp_io.specs.Sink.{IsPrefix}
use Rattle.report_theory.specs.Report.{Closing, Whole, Ends, Continues, Close, Stop, ArePieces, IsListReport, IsListFront}
use Rattle.report_theory.specs.Told.{ToldItem, ToldSays}

-- an item has one list of pieces, which ends in one way
abbrev pub OneListOfPieces : Type 0
OneListOfPieces = (item : ToldItem) (pieces other : List (List ℕ)) (closing another : Closing ℕ) → ArePieces ToldSays 0 item pieces closing
    → ArePieces ToldSays 0 item other another → (pieces ≡ other) × (closing ≡ another)

-- items have one report, and one first refusal
abbrev pub OneReportOfItems : Type 0
OneReportOfItems = (items : List ToldItem) (report other : List (List ℕ)) (stop another : Option (Stop ℕ))
    → IsListReport ToldSays 1 0 items report stop → IsListReport ToldSays 1 0 items other another → (report ≡ other) × (stop ≡ another)

-- no item is both whole and refused
abbrev pub WholeOrRefused : Type 0
WholeOrRefused = (item : ToldItem) (k : ℕ) (cause : ℕ) → ToldSays item k (Close Whole)
    → (ToldSays item k (Close (Ends cause)) → ⊥) × (ToldSays item k (Close (Continues cause)) → ⊥)

-- the report of items begins with the pieces of the first one, and goes on with the report of the others
abbrev pub FirstItemFirst : Type 0
FirstItemFirst = (item : ToldItem) (items : List ToldItem) (pieces later : List (List ℕ)) (stop : Option (Stop ℕ))
    → ArePieces ToldSays 0 item pieces Whole → IsListReport ToldSays 2 0 items later stop
    → IsListReport ToldSays 1 0 (item ∷ items) (pieces ++ later) stop

-- a front of a report stands at its front
abbrev pub FrontsOfItemsAreFronts : Type 0
FrontsOfItemsAreFronts = (items : List ToldItem) (front report : List (List ℕ)) (stop : Option (Stop ℕ))
    → IsListFront ToldSays 0 items front → IsListReport ToldSays 1 0 items report stop → IsPrefix (concat front) (concat report)

-- an empty report has no front but nothing
abbrev pub EmptyFrontOfItems : Type 0
EmptyFrontOfItems = (items : List ToldItem) (front : List (List ℕ)) (stop : Option (Stop ℕ))
    → IsListFront ToldSays 0 items front → IsListReport ToldSays 1 0 items [] stop → front ≡ []

-- the report of fewer items is a front of the report of more
abbrev pub FewerItems : Type 0
FewerItems = (items more : List ToldItem) (report : List (List ℕ)) (stop : Option (Stop ℕ))
    → IsListReport ToldSays 1 0 items report stop → IsListFront ToldSays 0 (items ++ more) report
