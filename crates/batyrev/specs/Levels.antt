-- Faces of a rank or a corank, and sums over them, face by face. This project's own.
use Rattle.std.specs.Prelude.{◌≡◌, ℕ, suc, ◌+◌, ◌<◌, Bool, List, length, slice_index_or}
use Rattle.face_theory.specs.Faces.{IsRank, IsCorank}
use Rattle.face_closing.specs.declared.limits.TheConstants.{MOST_FACES}
use Rattle.face_poset.specs.Faces.{FaceState, face_at}
use Rattle.dual_pair.specs.Polytopes.{PolytopeState}
use Rattle.dual_pair.specs.Faces.{on_facets}
use Rattle.dual_pair.specs.Interiors.{set_in, IsInsideCount}
use Rattle.dual_pair.specs.declared.side.Side.{Side}
use Rattle.batyrev.specs.declared.coranks.Level.{Level}
use Rattle.batyrev.specs.declared.coranks.Level.TheVariants as levels

-- the set is a face of the level
abbrev pub IsOn : PolytopeState → Level → List Bool → Type 0
IsOn p (levels.Rank rank) set = IsRank (on_facets p) set rank
IsOn p levels.Facet set = IsCorank (on_facets p) set 1
IsOn p levels.Ridge set = IsCorank (on_facets p) set 2

abbrev pub IsAt : PolytopeState → Level → FaceState → Type 0
IsAt p level face = IsOn p level (set_in p face)

-- what is taken of a number: all of it where P holds, and otherwise nothing
pub record IsTaken (P : Type 0) (number taken : ℕ) : Type 0 where
  pub all : P → taken ≡ number
  pub nothing : (P → ⊥) → taken ≡ 0

-- s is the sum of what is taken of the first numbers
pub data IsSumTo (P : ℕ → Type 0) (number : ℕ → ℕ) : ℕ → ℕ → Type 0 where
  none : IsSumTo P number 0 0
  one_more : {j : ℕ} (s taken next : ℕ) → IsSumTo P number j s → IsTaken (P j) (number j) taken → next ≡ s + taken
      → IsSumTo P number (suc j) next

-- so over the faces of a level
abbrev pub IsLevelSum : PolytopeState → Level → List FaceState → (ℕ → ℕ) → ℕ → ℕ → Type 0
IsLevelSum p level faces number j s = IsSumTo (λ k. IsAt p level (face_at faces k)) number j s

-- the counts are those of the points in the interior of faces, or of dual faces
pub record AreInside (p : PolytopeState) (side : Side) (faces : List FaceState) (counts : List ℕ) : Type 0 where
  pub whole : length counts ≡ MOST_FACES
  pub counted : (k : ℕ) → k < length faces → IsInsideCount p side (face_at faces k) (slice_index_or counts k 0)
