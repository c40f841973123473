-- What every item of a text is. This project's own.
use Rattle.std.specs.Prelude.{◌≡◌, ℕ, ◌*◌, ◌<◌, ℤ, nat_abs, List}
use Rattle.std.specs.Prelude.{length}
use Rattle.std.specs.List.{All}
use Rattle.lattice_core.specs.Weights.{Weighted, AreWellFormed}
use Rattle.palp_input.specs.Numerals.{bound}
use Rattle.palp_input.specs.Grammar.{Listed, ListedWeights, ListedPoints}

-- a weight system all of whose numbers are smaller than the bound
pub record HasSmallNumbers (system : Weighted) : Type 0 where
  pub degree_small : system.degree < bound
  pub weights_small : All (λ w. w < bound) system.weights

-- the systems of an item are those of a weight line, and their numbers are small
pub record AreWeights (systems : List Weighted) : Type 0 where
  pub well_formed : AreWellFormed systems
  pub small : All HasSmallNumbers systems

-- a matrix has as many entries as its header says, and all its numbers are small
pub record IsMatrix (lines columns : ℕ) (entries : List ℤ) : Type 0 where
  pub count : length entries ≡ lines * columns
  pub lines_small : lines < bound
  pub columns_small : columns < bound
  pub entries_small : All (λ e. nat_abs e < bound) entries

abbrev pub IsItem : Listed → Type 0
IsItem (ListedWeights systems) = AreWeights systems
IsItem (ListedPoints lines columns entries) = IsMatrix lines columns entries
