-- Ranks of rows that are faces, from those of their parts. This project's own.
use Rattle.std.specs.Prelude.{◌≡◌, ◌≢◌, ◌⊎◌, ℕ, ◌+◌, ◌<◌, List, length, slice_index_or}
use Rattle.std.specs.List.{Contains}
use Rattle.face_theory.specs.Faces.{TightRelation, IsRank}
use Rattle.face_closing.specs.Words.{set_of}
use Rattle.face_closing.specs.steps.Chains.{row_at}

-- a rank is at most how many rows are behind its own
abbrev pub AreLow : List ℕ → Type 0
AreLow ranks = (k : ℕ) → k < length ranks → slice_index_or ranks k 0 + k < length ranks

-- the rank at a place is that of the row there
abbrev pub HasRank : TightRelation → List (List ℕ) → List ℕ → ℕ → Type 0
HasRank R rows ranks k = IsRank R (set_of R.members (row_at rows k)) (slice_index_or ranks k 0)

-- the part stands at a place, with a rank below this number
pub record StandsBelow (rows : List (List ℕ)) (ranks : List ℕ) (part : List ℕ) (number : ℕ) : Type 0 where
  pub place : ℕ
  pub within : place < length rows
  pub row_is : row_at rows place ≡ part
  pub next : number ≡ slice_index_or ranks place 0 + 1

-- the number is 0 where the part is the row itself, or is no row, and otherwise one more than the part's rank
abbrev pub IsPartRank : List (List ℕ) → List ℕ → ℕ → List ℕ → ℕ → Type 0
IsPartRank rows ranks place part number = ((part ≡ row_at rows place) × (number ≡ 0))
    ⊎ ((part ≢ row_at rows place) × (((Contains rows part → ⊥) × (number ≡ 0)) ⊎ StandsBelow rows ranks part number))
