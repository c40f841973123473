-- The rows of facets: at which of the first 128 corners each vanishes. This project's own.
use Rattle.std.specs.Prelude.{◌≡◌, ◌↔◌, ◌⊎◌, ℕ, ◌<◌, ◌≤◌, List, [], length, ℤ, pos, slice_index_or}
use Rattle.lattice_theory.specs.Affine.{Affine, value}
use Rattle.ridge_theory.specs.Ridges.{VanishesWithBoth}
use Rattle.bit_rows.specs.Rows.{HasIndex}
use Rattle.bit_rows.specs.declared.row.TheConstants.{MOST_INDICES}

-- the new row has one number more
abbrev pub AddsIndex : ℕ → ℕ → ℕ → Type 0
AddsIndex row place new = (index : ℕ) → HasIndex new index ↔ (HasIndex row index ⊎ (index ≡ place))

-- the row has the places of those of the first 128 corners at which f vanishes, and no others
pub record IsCornerRow (corners : List (List ℤ)) (f : Affine) (row : ℕ) : Type 0 where
  pub corner : (i : ℕ) → i < length corners → i < MOST_INDICES → HasIndex row i ↔ (value f (slice_index_or corners i []) ≡ pos 0)
  pub behind : (i : ℕ) → length corners ≤ i → HasIndex row i → ⊥
  pub few : (i : ℕ) → HasIndex row i → i < MOST_INDICES

-- each function has a row, that at the same place
pub record AreCornerRows (corners : List (List ℤ)) (functions : List Affine) (rows : List ℕ) : Type 0 where
  pub same : length rows ≡ length functions
  pub each : (i : ℕ) (f : Affine) (row : ℕ) → i < length functions → f ≡ slice_index_or functions i f → row ≡ slice_index_or rows i row
      → IsCornerRow corners f row

-- the third row has each number that the two others both have
abbrev pub HasCommon : ℕ → ℕ → ℕ → Type 0
HasCommon row other third = (index : ℕ) → HasIndex row index → HasIndex other index → HasIndex third index

-- below the place m there is no third row that has what those at i and j both have
abbrev pub NoThirdRowBelow : ℕ → List ℕ → ℕ → ℕ → Type 0
NoThirdRowBelow m rows i j = (k : ℕ) → k < m → HasCommon (slice_index_or rows i 0) (slice_index_or rows j 0) (slice_index_or rows k 0)
    → (k ≡ i) ⊎ (k ≡ j)

-- there is no third one at all
abbrev pub NoThirdRow : List ℕ → ℕ → ℕ → Type 0
NoThirdRow rows i j = NoThirdRowBelow (length rows) rows i j

-- below the place m there is no third function that vanishes at each corner at which those at i and j do
abbrev pub NoThirdFunctionBelow : ℕ → List (List ℤ) → List Affine → ℕ → ℕ → Type 0
NoThirdFunctionBelow m corners functions i j = (k : ℕ) (f g h : Affine) → k < m → f ≡ slice_index_or functions i f
    → g ≡ slice_index_or functions j g → h ≡ slice_index_or functions k h → VanishesWithBoth corners f g h → (k ≡ i) ⊎ (k ≡ j)

-- there is no third one at all
abbrev pub NoThirdFunction : List (List ℤ) → List Affine → ℕ → ℕ → Type 0
NoThirdFunction corners functions i j = NoThirdFunctionBelow (length functions) corners functions i j
