-- Which points lie on which functions. This project's own.
use Rattle.std.specs.Prelude.{◌≡◌, ◌↔◌, ℕ, ◌<◌, List, [], length, ℤ, pos, slice_index_or}
use Rattle.std.specs.List.{All, Contains}
use Rattle.lattice_theory.specs.Affine.{Affine, value}
use Rattle.lattice_theory.specs.Hull.{IsVertex}
use Rattle.bit_rows.specs.Rows.{HasIndex}

-- p lies on every function of the list on which v lies
abbrev pub LiesWith : List Affine → List ℤ → List ℤ → Type 0
LiesWith functions v p = All (λ f. value f v ≡ pos 0 → value f p ≡ pos 0) functions

-- no point of the list but v lies on every function on which v lies
abbrev pub LiesAlone : List (List ℤ) → List Affine → List ℤ → Type 0
LiesAlone points functions v = All (λ p. LiesWith functions v p → p ≡ v) points

-- the function at a place of the list
abbrev pub function_of : List Affine → ℕ → Affine
function_of functions place = slice_index_or functions place (record { normal = []; constant = pos 0 })

-- the row tells the places of the functions that vanish at p
abbrev pub IsTightRow : List Affine → List ℤ → ℕ → Type 0
IsTightRow functions p row =
    (place : ℕ) → HasIndex row place ↔ ((place < length functions) × (value (function_of functions place) p ≡ pos 0))

-- vs has the vertices among some of the points
abbrev pub HasVertices : ℕ → List (List ℤ) → List (List ℤ) → List (List ℤ) → Type 0
HasVertices n points some vs = (v : List ℤ) → Contains vs v ↔ (Contains some v × IsVertex n points v)
