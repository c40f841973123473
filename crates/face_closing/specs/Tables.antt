-- Tables of rows of words, and their closing under what rows have in common. This project's own.
use Rattle.std.specs.Prelude.{◌≡◌, ◌≢◌, ◌⊎◌, ◌↔◌, ℕ, ◌+◌, ◌<◌, ◌≤◌, Bool, List, [], ◌∷◌, ◌++◌, length, map, slice_index_or}
use Rattle.std.specs.List.{All, AllPairs, Contains}
use Rattle.face_theory.specs.Faces.{TightRelation, IsFace, AreFaces}
use Rattle.face_theory.specs.Meets.{function_row, AreRowMeets}
use Rattle.face_closing.specs.Words.{set_of, IsSetOf, meet_words}
use Rattle.face_closing.specs.declared.limits.TheConstants.{MOST_FACES}

-- a table: how many words each row has, and the rows
pub record RowsState : Type 0 where
  pub row_words : ℕ
  pub rows : List (List ℕ)

-- what holds of every table
pub record IsRowTable (table : RowsState) : Type 0 where
  pub some : 1 ≤ table.row_words
  pub most : table.row_words ≤ 64
  pub few : length table.rows ≤ MOST_FACES
  pub words : All (λ row. length row ≡ table.row_words) table.rows

-- no row stands in the list twice
abbrev pub AreApart : List (List ℕ) → Type 0
AreApart rows = AllPairs (λ a b. a ≢ b) rows

-- a row stood there already, or it was added behind the others
abbrev pub IsAdded : List (List ℕ) → List ℕ → List (List ℕ) → Type 0
IsAdded before row now = (Contains before row × (now ≡ before)) ⊎ ((Contains before row → ⊥) × (now ≡ before ++ row ∷ []))

-- the row doesn't stand there, and the table has all the rows that it may have
pub record HasNoRoom (before : List (List ℕ)) (row : List ℕ) : Type 0 where
  pub missing : Contains before row → ⊥
  pub full : length before ≡ MOST_FACES

-- the row is one of the list, or it is what one of the list has in common with this row
abbrev pub IsMade : List (List ℕ) → List ℕ → List ℕ → Type 0
IsMade rows row made = Contains rows made ⊎ ((old : List ℕ) × Contains rows old × (made ≡ meet_words old row))

-- the list has all that is made of the rows before and this row, each once
pub record IsClosedBy (row : List ℕ) (before now : List (List ℕ)) : Type 0 where
  pub members : (made : List ℕ) → Contains now made ↔ IsMade before row made
  pub apart : AreApart now

-- more rows than a table may have are made of the rows before and this row
pub record MakesTooMany (row : List ℕ) (before : List (List ℕ)) : Type 0 where
  pub some : List (List ℕ)
  pub many : length some ≡ MOST_FACES + 1
  pub apart : AreApart some
  pub are_made : (made : List ℕ) → Contains some made → IsMade before row made

-- the rows, each of so many words, are those of the relation's functions
pub record AreFunctionRows (count : ℕ) (R : TightRelation) (rows : List (List ℕ)) : Type 0 where
  pub many : length rows ≡ R.functions
  pub words : (f : ℕ) → f < R.functions → IsSetOf count R.members (slice_index_or rows f [])
  pub sets : (f : ℕ) → f < R.functions → set_of R.members (slice_index_or rows f []) ≡ function_row R f

-- the list has what rows of the first j functions have in common, and nothing else
pub record AreMeetRows (count : ℕ) (R : TightRelation) (j : ℕ) (rows : List (List ℕ)) : Type 0 where
  pub words : All (IsSetOf count R.members) rows
  pub meets : AreRowMeets R j (map (set_of R.members) rows)

-- the list has all faces, each once
pub record AreFaceRows (count : ℕ) (R : TightRelation) (rows : List (List ℕ)) : Type 0 where
  pub words : All (IsSetOf count R.members) rows
  pub apart : AreApart rows
  pub faces : AreFaces R (map (set_of R.members) rows)

-- there are more faces than a table may have
pub record HasMoreFaces (R : TightRelation) : Type 0 where
  pub some : List (List Bool)
  pub many : length some ≡ MOST_FACES + 1
  pub apart : AllPairs (λ a b. a ≢ b) some
  pub are_faces : (face : List Bool) → Contains some face → IsFace R face
