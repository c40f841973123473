-- What the report of a range of weight systems is about: its interior-point systems, in order, and then the whole list, which is summed up. This
-- project's own.
use Rattle.std.specs.Prelude.{◌≡◌, ℕ, List, [], ◌∷◌, ◌++◌, map}
use Rattle.lattice_core.specs.Weights.{Weighted}
use Rattle.lattice_core.specs.declared.faults.Refusal.{Refusal}
use Rattle.report_theory.specs.Report.{Whole, Step, Piece, Close}
use Rattle.interior_point_theory.specs.Interior.{AreSystemsOfRange}

-- a system of the list, or what stands behind the whole list
pub data ListEntry : Type 0 where
  System : Weighted → ListEntry
  EndOf : List Weighted → ListEntry

-- the entries of a list of systems
abbrev pub entries_of : List Weighted → List ListEntry
entries_of systems = map System systems ++ EndOf systems ∷ []

-- the entries of the interior-point systems with dim + 1 weights and a degree from low to high
pub record AreListEntries (dim low high : ℕ) (entries : List ListEntry) : Type 0 where
  pub systems : List Weighted
  pub are_systems : AreSystemsOfRange dim low high systems
  pub entries_are : entries ≡ entries_of systems

-- behind the whole list there is one piece
pub data EndSays (is_line : List ℕ → Type 0) : ℕ → Step Refusal → Type 0 where
  summary : {bytes : List ℕ} → is_line bytes → EndSays is_line 0 (Piece bytes)
  ended : EndSays is_line 1 (Close Whole)

-- what is said of an entry, by what is said of a system, and by the line behind the whole list
abbrev pub ListSays : (Weighted → ℕ → Step Refusal → Type 0) → (List Weighted → List ℕ → Type 0) → ListEntry → ℕ → Step Refusal → Type 0
ListSays system_says is_line (System system) k step = system_says system k step
ListSays system_says is_line (EndOf systems) k step = EndSays (is_line systems) k step
