-- At which normals vectors pair to -1, and at which they aren't above 0, told by the bits of numbers. This project's own.
use Rattle.std.specs.Prelude.{◌≡◌, ◌↔◌, ℕ, ◌<◌, ◌≤◌, ◌^◌, List, [], length, ℤ, pos, negsuc, ◌≤ℤ◌, slice_index_or}
use Rattle.std.specs.List.{All}
use Rattle.lattice_theory.specs.Size.{absolute_sum}
use Rattle.bit_rows.specs.Rows.{HasIndex}
use Rattle.bit_rows.specs.declared.row.TheConstants.{MOST_INDICES}
use Rattle.nef_theory.specs.Nef.{pairing_at}
use Rattle.nef_parts.specs.declared.pairings.Pairings.{Pairings}

-- the pairings of the vector with the normals can be worked out, and there are at most as many as a row has bits
pub record IsPairable (normals : List (List ℤ)) (x : List ℤ) : Type 0 where
  pub dimension : All (λ e. length e ≡ length x) normals
  pub small : All (λ e. absolute_sum e ≤ 2 ^ 60) normals
  pub few : length normals ≤ MOST_INDICES

-- the row tells the places of the normals, of the first k, to which the vector pairs to -1
abbrev pub IsTightRow : ℕ → List (List ℤ) → List ℤ → ℕ → Type 0
IsTightRow k normals x row = (e : ℕ) → HasIndex row e ↔ ((e < k) × (pairing_at normals x e ≡ negsuc 0))

-- the same of those to which it pairs to 0 or less
abbrev pub IsLowRow : ℕ → List (List ℤ) → List ℤ → ℕ → Type 0
IsLowRow k normals x row = (e : ℕ) → HasIndex row e ↔ ((e < k) × (pairing_at normals x e ≤ℤ pos 0))

-- the rows of a vector
pub record IsPairings (normals : List (List ℤ)) (x : List ℤ) (p : Pairings) : Type 0 where
  pub tight : IsTightRow (length normals) normals x p.tight
  pub low : IsLowRow (length normals) normals x p.low

-- the rows at a place of a list
abbrev pub pairings_at : List Pairings → ℕ → Pairings
pairings_at rows k = slice_index_or rows k (record { tight = 0; low = 0 })

-- the vector at a place of a list
abbrev pub vector_at : List (List ℤ) → ℕ → List ℤ
vector_at points k = slice_index_or points k []

-- the rows of each of the first n vectors, in order
pub record ArePairings (n : ℕ) (normals points : List (List ℤ)) (rows : List Pairings) : Type 0 where
  pub count : length rows ≡ n
  pub are : (k : ℕ) → k < length rows → IsPairings normals (vector_at points k) (pairings_at rows k)
