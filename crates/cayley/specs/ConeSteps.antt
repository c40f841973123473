-- The steps on the way to a cone. This project's own.
use Rattle.std.specs.Prelude.{◌≡◌, ◌⊎◌, ◌↔◌, ℕ, ◌+◌, ◌*◌, ◌^◌, ◌%◌, ◌<◌, ◌≤◌, Bool, false, cond, List, [], ◌∷◌, ◌++◌, length, map, ℤ, pos, negsuc, neg_ℤ, slice_index_or}
use Rattle.std.specs.List.{All, Contains}
use Rattle.std.specs.Ordering.{int_eq}
use Rattle.lattice_theory.specs.Vector.{dot}
use Rattle.lattice_theory.specs.Affine.{Affine}
use Rattle.lattice_theory.specs.Size.{absolute_sum}
use Rattle.face_theory.specs.Pairings.{paired}
use Rattle.cayley_theory.specs.Cones.{zero_vector}
pub use Rattle.cayley_theory.specs.Bases.{lifted_one, lifted_all, HaveParts}

-- the vector x of the part i, kept as a function
abbrev pub with_part : List ℤ → ℕ → Affine
with_part x i = record { normal = x; constant = neg_ℤ (pos i) }

-- what is kept of the point at a place, of the part that the place has when parts take turns; of a normal with its part; and of n zeros with a part
abbrev pub kept_point : List (List ℤ) → List ℕ → ℕ → ℕ → Affine
kept_point points places parts k = with_part (slice_index_or points (slice_index_or places k 0) []) (k % parts)

abbrev pub kept_normal : List (List ℤ) → List ℕ → ℕ → Affine
kept_normal normals part_of e = with_part (slice_index_or normals e []) (slice_index_or part_of e 0)

abbrev pub kept_unit : ℕ → ℕ → Affine
kept_unit n part = with_part (zero_vector n) part

-- f is one of the first k of these
pub record IsAmong (these : ℕ → Affine) (k : ℕ) (f : Affine) : Type 0 where
  pub place : ℕ
  pub within : place < k
  pub is : f ≡ these place

-- the first k of these are added to a list, and nothing else
abbrev pub AddsFirst : (ℕ → Affine) → List Affine → ℕ → List Affine → Type 0
AddsFirst these before k now = (f : Affine) → Contains now f ↔ (Contains before f ⊎ IsAmong these k f)

-- the functions of a cone
abbrev pub HoldFunctions : ℕ → List (List ℤ) → List ℕ → ℕ → List Affine → Type 0
HoldFunctions n normals part_of parts fs = (f : Affine) → Contains fs f ↔ (IsAmong (kept_normal normals part_of) (length normals) f ⊎ IsAmong (kept_unit n) parts f)

-- whether a member and a function pair to 0
abbrev pub meets : Affine → Affine → Bool
meets m f = cond (int_eq m.constant f.constant) (int_eq (dot f.normal m.normal) (negsuc 0)) (int_eq (dot f.normal m.normal) (pos 0))

-- the rows of members
abbrev pub row_of : List Affine → Affine → List Bool
row_of functions m = map (meets m) functions

abbrev pub table_of : List Affine → List Affine → List Bool
table_of functions [] = []
table_of functions (m ∷ members) = row_of functions m ++ table_of functions members

-- vectors whose pairings can be worked out
abbrev pub AreSmall : ℕ → List Affine → Type 0
AreSmall n functions = All (λ f. (length f.normal ≡ n) × (absolute_sum f.normal ≤ 2 ^ 60)) functions

-- the entries of a table, member by member, are those of the relation in which pairing to 0 is tight
pub record IsTableOf (members functions : List (List ℤ)) (table : List Bool) : Type 0 where
  pub count : length table ≡ length members * length functions
  pub entries : (m f : ℕ) → m < length members → f < length functions
      → slice_index_or table (m * length functions + f) false ≡ (paired members functions).tight m f

-- what a cone keeps: its vectors are of its dimension and of its parts, and the table tells which of them pair to 0
pub record IsKeptCone (n r : ℕ) (members functions : List Affine) (tight : List Bool) : Type 0 where
  pub member_parts : HaveParts n r members
  pub function_parts : HaveParts n r functions
  pub table : IsTableOf (lifted_all r members) (lifted_all r functions) tight
