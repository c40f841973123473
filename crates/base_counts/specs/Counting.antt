-- How a point is counted by sets of vectors and by degrees. This project's own.
use Rattle.std.specs.Prelude.{◌≡◌, ◌≢◌, ◌⊎◌, ℕ, suc, ◌+◌, ◌*◌, ◌<◌, List, [], length, slice_index_or}
use Rattle.std.specs.List.{All}
use Rattle.bit_pool.specs.Bits.{IsSubset}
use Rattle.base_counts.specs.declared.counts.TheConstants.{DEGREES}

-- each row has so many words
abbrev pub HaveWords : ℕ → List (List ℕ) → Type 0
HaveWords many rows = All (λ row. length row ≡ many) rows

-- the row of a set, and its count at a degree: the counts stand set by set
abbrev pub set_at : List (List ℕ) → ℕ → List ℕ
set_at rows k = slice_index_or rows k []

abbrev pub count_at : List ℕ → ℕ → ℕ → ℕ
count_at counts k l = slice_index_or counts (k * DEGREES + l) 0

-- the count of a set at a degree is one more where the set is within the words, and otherwise the same
abbrev pub IsCounted : List ℕ → List ℕ → ℕ → ℕ → Type 0
IsCounted set tight old new = (IsSubset set tight × (new ≡ suc old)) ⊎ ((IsSubset set tight → ⊥) × (new ≡ old))

-- so it is for each set at this degree, and no other count changes
pub record IsAddedAt (rows : List (List ℕ)) (tight : List ℕ) (degree : ℕ) (old new : List ℕ) : Type 0 where
  pub counted : (k : ℕ) → k < length rows → IsCounted (set_at rows k) tight (count_at old k degree) (count_at new k degree)
  pub others : (k l : ℕ) → k < length rows → l < DEGREES → l ≢ degree → count_at new k l ≡ count_at old k l
