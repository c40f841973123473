-- Walks through regions, a run of points at a time. This project's own.
use Rattle.std.specs.Prelude.{ℕ, zero, suc, List, [], ◌∷◌, ◌++◌, ℤ, pos, ◌+ℤ◌, ◌-ℤ◌}
use Rattle.lattice_theory.specs.Grid.{LexAtMost, natural_part}
use Rattle.region_walk.specs.Regions.{IsInRegion, IsSoundRegion, levels_of}
use Rattle.region_walk.specs.declared.walk.RegionWalk.{RegionWalk}
use Rattle.region_walk.specs.steps.Beginnings.{IsOpen, IsRunOf}

-- the first point and the last point of the run
abbrev pub first_point : RegionWalk → List ℤ
first_point w = w.beginning.entries.items ++ w.run.low ∷ []

abbrev pub last_point : RegionWalk → List ℤ
last_point w = w.beginning.entries.items ++ w.run.high ∷ []

-- p with one coordinate more, for each of so many integers from v on
unfoldable pub run_from : List ℤ → ℤ → ℕ → List (List ℤ)
run_from p v zero = []
run_from p v (suc k) = (p ++ v ∷ []) ∷ run_from p (v +ℤ pos 1) k

-- the points of the run, in order
abbrev pub run_points : RegionWalk → List (List ℤ)
run_points w = run_from w.beginning.entries.items w.run.low (natural_part (w.run.high +ℤ pos 1 -ℤ w.run.low))

-- the walk stands at a run of points of its region: all with these first coordinates
pub record IsAtRun (w : RegionWalk) : Type 0 where
  pub sound : IsSoundRegion w.region
  pub opened : IsOpen w.region.low w.region.high (levels_of w.region) w.beginning.entries.items w.beginning.ends.items
  pub run : IsRunOf w.region.low w.region.high (levels_of w.region) w.beginning.entries.items w.run.low w.run.high

-- that run is the first
abbrev pub IsAtFirst : RegionWalk → Type 0
IsAtFirst w = (x : List ℤ) → IsInRegion w.region x → LexAtMost (first_point w) x
