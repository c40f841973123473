-- Weight systems with what is left of their degrees beside a vector of natural numbers. This project's own.
use Rattle.std.specs.Prelude.{◌≡◌, ℕ, suc, ◌+◌, ◌-◌, ◌*◌, ◌<◌, ◌≤◌, List, length, map, drop, slice_index_or}
use Rattle.std.specs.List.{All}
use Rattle.lattice_core.specs.Weights.{Weighted, weighted, columns_of, AreWellFormed}
use Rattle.lattice_core.specs.declared.limits.TheConstants.{MOST_DEGREE}
use Rattle.weight_points.specs.declared.rows.Row.{Row}
use Rattle.weight_points.specs.steps.Waits.{spent, AreTables}

-- the weight system of a row, and the systems of rows, as contracts see them
abbrev pub system_of : Row → Weighted
system_of row = weighted row.system

abbrev pub systems_of : List Row → List Weighted
systems_of rows = map system_of rows

-- the weight of a row at a place
abbrev pub weight_at : Row → ℕ → ℕ
weight_at row place = slice_index_or row.system.weights.items place 0

-- the tables of a row
abbrev pub tables_of : Row → List (List ℕ)
tables_of row = map (λ waits. waits.items) row.tables.items

-- the row has a weight at the place, and tables for its degree, which isn't exceeded
pub record HasPlace (place : ℕ) (row : Row) : Type 0 where
  pub weight : place < length row.system.weights.items
  pub tables : AreTables row.system.weights.items row.system.degree (tables_of row)
  pub within : row.left ≤ row.system.degree
  pub small : row.left ≤ MOST_DEGREE

-- so many times the weight at the place is left
abbrev pub IsAffordable : ℕ → ℕ → Row → Type 0
IsAffordable place value row = value * weight_at row place ≤ row.left

-- after so many times the weight at the place, the weights behind the place can take exactly what is left
pub record IsPlausible (place value : ℕ) (row : Row) : Type 0 where
  pub further : List ℕ
  pub is : value * weight_at row place + spent (drop (suc place) row.system.weights.items) further ≡ row.left

-- the least value, not below `from`, of which this holds
pub record IsNextValue (P : ℕ → Type 0) (from next : ℕ) : Type 0 where
  pub above : from ≤ next
  pub small : next ≤ MOST_DEGREE
  pub holds : P next
  pub least : (value : ℕ) → from ≤ value → P value → next ≤ value

-- up to the greatest degree there is none
abbrev pub HasNoValue : (ℕ → Type 0) → ℕ → Type 0
HasNoValue P from = (value : ℕ) → from ≤ value → value ≤ MOST_DEGREE → P value → ⊥

-- the value that one pass over the rows raises another to: where it is the same, it is plausible for all rows
pub record IsRaised (P : ℕ → Type 0) (from next : ℕ) : Type 0 where
  pub above : from ≤ next
  pub small : next ≤ MOST_DEGREE
  pub holds : next ≡ from → P from
  pub least : (value : ℕ) → from ≤ value → P value → next ≤ value

-- the row with so many times the weight at the place taken away, and given back
abbrev pub spending : ℕ → ℕ → Row → Row
spending place value row = record row { left = row.left - value * weight_at row place }

abbrev pub returning : ℕ → ℕ → Row → Row
returning place value row = record row { left = row.left + value * weight_at row place }

-- so many times the weight at the place can be given back
abbrev pub IsReturnable : ℕ → ℕ → Row → Type 0
IsReturnable place value row = row.left + value * weight_at row place ≤ MOST_DEGREE

-- the row beside exponents: what they take and what is left are the degree
pub record IsRow (a : List ℕ) (row : Row) : Type 0 where
  pub columns : length row.system.weights.items ≡ length a
  pub spent_is : spent row.system.weights.items a + row.left ≡ row.system.degree
  pub small : row.system.degree ≤ MOST_DEGREE
  pub tables : AreTables row.system.weights.items row.system.degree (tables_of row)

-- the rows of well formed systems beside exponents
pub record AreRows (rows : List Row) (a : List ℕ) : Type 0 where
  pub formed : AreWellFormed (systems_of rows)
  pub columns : length a ≡ columns_of (systems_of rows)
  pub each : All (IsRow a) rows

-- the row beside exponents that are all 0
pub record IsFresh (row : Row) : Type 0 where
  pub left_is : row.left ≡ row.system.degree
  pub tables : AreTables row.system.weights.items row.system.degree (tables_of row)
