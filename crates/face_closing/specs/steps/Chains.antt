-- How a row is found by its words: the rows of one bucket are linked from the last one back. This project's own.
use Rattle.std.specs.Prelude.{◌≡◌, ℕ, suc, ◌*◌, ◌/◌, ◌%◌, ◌^◌, ◌<◌, ◌≤◌, List, [], ◌∷◌, length, bit_xor, slice_index_or}
use Rattle.face_closing.specs.Tables.{IsRowTable}
use Rattle.face_closing.specs.declared.limits.TheConstants.{MOST_FACES}

-- the words one after another, mixed into a number
abbrev pub mixed : ℕ → List ℕ → ℕ
mixed mix [] = mix
mixed mix (w ∷ words) = mixed (bit_xor mix w * 11400714819323198485 % 2 ^ 64) words

-- the bucket of a row: the highest 12 bits
abbrev pub bucket_of : List ℕ → ℕ
bucket_of words = mixed 0 words / 2 ^ 52

-- the row at a place, and the number there
abbrev pub row_at : List (List ℕ) → ℕ → List ℕ
row_at rows i = slice_index_or rows i []

abbrev pub link_at : List ℕ → ℕ → ℕ
link_at links i = slice_index_or links i 0

-- a link is 0, or one more than the place of a row. The head of each bucket links the bucket's last row, and each row the one before it in its bucket
pub record AreLinked (rows : List (List ℕ)) (heads nexts : List ℕ) : Type 0 where
  pub buckets : length heads ≡ 4096
  pub many : length nexts ≡ length rows
  pub heads_within : (b : ℕ) → b < 4096 → link_at heads b ≤ length rows
  pub heads_own : (b i : ℕ) → b < 4096 → suc i ≡ link_at heads b → bucket_of (row_at rows i) ≡ b
  pub heads_all : (i : ℕ) → i < length rows → i < link_at heads (bucket_of (row_at rows i))
  pub nexts_within : (j : ℕ) → j < length rows → link_at nexts j ≤ j
  pub nexts_own : (j i : ℕ) → j < length rows → suc i ≡ link_at nexts j → bucket_of (row_at rows i) ≡ bucket_of (row_at rows j)
  pub nexts_all : (j i : ℕ) → j < length rows → i < j → bucket_of (row_at rows i) ≡ bucket_of (row_at rows j) → i < link_at nexts j

-- a table that is kept so, with room for as many rows as it may have
pub record IsKeptTable (row_words : ℕ) (rows : List (List ℕ)) (room : ℕ) (heads nexts : List ℕ) (next_room : ℕ) : Type 0 where
  pub table : IsRowTable (record { row_words = row_words; rows = rows })
  pub rows_fit : MOST_FACES * row_words ≤ room
  pub nexts_fit : MOST_FACES ≤ next_room
  pub linked : AreLinked rows heads nexts
