-- The report of `sweep`: one line, which sums up the polytopes of a range of systems. This project's own.
use Rattle.std.specs.Prelude.{◌≡◌, ◌⊎◌, ℕ, List, length, map}
use Rattle.std.specs.List.{AllZip}
use Rattle.lattice_core.specs.Weights.{Weighted, total}
use Rattle.lattice_core.specs.declared.faults.Refusal.{Refusal}
use Rattle.report_theory.specs.Report.{Whole, Ends, Step, Close}
use Rattle.palp_print.specs.Lists.{sweep_line}
use Rattle.dual_pair.specs.Polytopes.{PolytopeState}
use Rattle.dual_pair.specs.Pairs.{PairState}
use Rattle.item_polytopes.specs.Kinds.{HasPair, IsOther, IsKindRefusal}
use Rattle.weight_lists.specs.Systems.{line_of}
use Rattle.weight_lists.specs.Entries.{ListEntry, ListSays}

-- what is summed: 1 for a reflexive polytope; its lattice points; and those of its dual
pub record SystemNumbers : Type 0 where
  pub reflexive : ℕ
  pub points : ℕ
  pub dual_points : ℕ

-- the numbers of a system whose polytope is reflexive
pub record IsReflexiveNumbers (system : Weighted) (numbers : SystemNumbers) : Type 0 where
  pub pair : PairState
  pub has_pair : HasPair (line_of system) pair
  pub numbers_are : numbers ≡ record { reflexive = 1; points = length pair.m.points; dual_points = length pair.n.points }

-- the numbers of a system whose polytope isn't
pub record IsOtherNumbers (system : Weighted) (numbers : SystemNumbers) : Type 0 where
  pub polytope : PolytopeState
  pub is_other : IsOther (line_of system) polytope
  pub numbers_are : numbers ≡ record { reflexive = 0; points = length polytope.points; dual_points = 0 }

-- the numbers of a system that isn't refused
abbrev pub AreNumbers : Weighted → SystemNumbers → Type 0
AreNumbers system numbers = IsReflexiveNumbers system numbers ⊎ IsOtherNumbers system numbers

-- why a system is refused: it has no polytope within the limits, or that polytope is reflexive and its dual exceeds a limit
abbrev pub IsSweepRefused : Weighted → Refusal → Type 0
IsSweepRefused system cause = IsKindRefusal (line_of system) cause

-- a system prints nothing
pub data SilentSays (system : Weighted) : ℕ → Step Refusal → Type 0 where
  silent : {numbers : SystemNumbers} → AreNumbers system numbers → SilentSays system 0 (Close Whole)
  refused : {cause : Refusal} → IsSweepRefused system cause → SilentSays system 0 (Close (Ends cause))

-- how many of the systems have a reflexive polytope, and the sums of all lattice points and of all lattice points of duals
pub record AreSums (systems : List Weighted) (reflexive points dual_points : ℕ) : Type 0 where
  pub numbers : List SystemNumbers
  pub are_numbers : AllZip AreNumbers systems numbers
  pub reflexive_is : reflexive ≡ total (map (λ (x : SystemNumbers). x.reflexive) numbers)
  pub points_is : points ≡ total (map (λ (x : SystemNumbers). x.points) numbers)
  pub dual_points_is : dual_points ≡ total (map (λ (x : SystemNumbers). x.dual_points) numbers)

-- the line of a whole list
pub record IsSweepLine (systems : List Weighted) (bytes : List ℕ) : Type 0 where
  pub reflexive : ℕ
  pub points : ℕ
  pub dual_points : ℕ
  pub sums : AreSums systems reflexive points dual_points
  pub bytes_are : bytes ≡ sweep_line (length systems) reflexive points dual_points

-- what `sweep` says of an entry
abbrev pub SweepSays : ListEntry → ℕ → Step Refusal → Type 0
SweepSays entry k step = ListSays SilentSays IsSweepLine entry k step
