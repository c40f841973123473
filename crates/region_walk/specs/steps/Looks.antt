-- What a look at a beginning finds. This project's own.
use Rattle.std.specs.Prelude.{ℕ, ◌+◌, ◌*◌, ◌-◌, ◌<◌, ◌++◌, List, [], ◌∷◌, length, drop, ℤ}
use Rattle.lattice_theory.specs.Affine.{Affine}
use Rattle.lattice_theory.specs.Grid.{LexAtMost, grid, behind}
use Rattle.region_walk.specs.Regions.{IsInside}
use Rattle.region_walk.specs.declared.walk.Found.{Found}
use Rattle.region_walk.specs.declared.walk.Found.TheVariants as found
use Rattle.region_walk.specs.steps.Beginnings.{IsOpen, IsBeginning, IsFrom, IsFurther, IsRunOf, HasNoneFrom}

-- how much of the box is behind a beginning, and how many coordinates it lacks
abbrev pub ahead : List ℤ → List ℤ → List ℤ → ℕ
ahead low high p = 7 * length (behind (p ++ drop (length p) low) (grid low high)) + (length low - length p)

-- the run of q is the first one from p on
pub record FindsRun (low high : List ℤ) (levels : List (List Affine)) (p q ends : List ℤ) (least most : ℤ) : Type 0 where
  pub opened : IsOpen low high levels q ends
  pub run : IsRunOf low high levels q least most
  pub from : IsFrom p (q ++ least ∷ [])
  pub first : (y : List ℤ) → IsInside low high levels y → IsFrom p y → LexAtMost (q ++ least ∷ []) y

-- q is further on than p
pub record GoesFurther (low high : List ℤ) (levels : List (List Affine)) (p q ends : List ℤ) : Type 0 where
  pub beginning : IsBeginning low high levels q ends
  pub further : IsFurther low high levels p q
  pub less : ahead low high q < ahead low high p

-- by what was found
abbrev pub MeansFound : List ℤ → List ℤ → List (List Affine) → List ℤ → List ℤ → List ℤ → Found → Type 0
MeansFound low high levels p q ends (found.Run span) = FindsRun low high levels p q ends span.low span.high
MeansFound low high levels p q ends found.Further = GoesFurther low high levels p q ends
MeansFound low high levels p q ends found.Nothing = HasNoneFrom low high levels p
