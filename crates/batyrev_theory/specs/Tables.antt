-- Batyrev's numbers by lists of points and a table of all faces. This project's own.
use Rattle.std.specs.Prelude.{◌≢◌, ℕ, ◌+◌, ◌*◌, ◌==◌, Bool, List, length, map, ℤ, pos, ◌+ℤ◌, ◌-ℤ◌, sum_by}
use Rattle.std.specs.List.{All, AllPairs, filter}
use Rattle.lattice_theory.specs.Affine.{Affine}
use Rattle.face_theory.specs.Sets.{is_same}
use Rattle.face_theory.specs.Faces.{TightRelation, AreFaces, IsRank, IsCorank, IsDualFace}
use Rattle.duality_theory.specs.Lists.{with_ones}
use Rattle.batyrev_theory.specs.Interior.{zeros_at}

-- a face with its dual face, its rank and its corank
pub record FaceEntry : Type 0 where
  pub set : List Bool
  pub dual : List Bool
  pub rank : ℕ
  pub corank : ℕ

-- all faces, each once, with what belongs to them
pub record IsFaceTable (R : TightRelation) (table : List FaceEntry) : Type 0 where
  pub faces : AreFaces R (map (λ e. e.set) table)
  pub once : AllPairs (λ a b. a.set ≢ b.set) table
  pub duals : All (λ e. IsDualFace R e.set e.dual) table
  pub ranks : All (λ e. IsRank R e.set e.rank) table
  pub coranks : All (λ e. IsCorank R e.set e.corank) table

-- how many points of a list have exactly the functions of a set that are 0 there
abbrev pub points_with : List Affine → List (List ℤ) → List Bool → ℕ
points_with functions points set = length (filter (λ x. is_same (zeros_at functions x) set) points)

-- the numbers of an entry: inside the face, inside its dual, and their product
abbrev pub inner_of : List Affine → List (List ℤ) → FaceEntry → ℕ
inner_of facets points e = points_with facets points e.dual

abbrev pub outer_of : List (List ℤ) → List (List ℤ) → FaceEntry → ℕ
outer_of vertices dual_points e = points_with (with_ones vertices) dual_points e.set

abbrev pub product_of : List (List ℤ) → List Affine → List (List ℤ) → List (List ℤ) → FaceEntry → ℕ
product_of vertices facets points dual_points e = inner_of facets points e * outer_of vertices dual_points e

-- the sum of a number over the entries of a rank, and over those of a corank
abbrev pub rank_sum : ℕ → (FaceEntry → ℕ) → List FaceEntry → ℕ
rank_sum r number table = sum_by number (filter (λ e. e.rank == r) table)

abbrev pub corank_sum : ℕ → (FaceEntry → ℕ) → List FaceEntry → ℕ
corank_sum c number table = sum_by number (filter (λ e. e.corank == c) table)

-- the two numbers by a table
abbrev pub divisors_by : ℕ → List (List ℤ) → List Affine → List (List ℤ) → List (List ℤ) → List FaceEntry → ℤ
divisors_by n vertices facets points dual_points table = pos (length dual_points) -ℤ pos (n + 1)
    -ℤ pos (rank_sum 1 (outer_of vertices dual_points) table) +ℤ pos (rank_sum 2 (product_of vertices facets points dual_points) table)

abbrev pub deformations_by : ℕ → List (List ℤ) → List Affine → List (List ℤ) → List (List ℤ) → List FaceEntry → ℤ
deformations_by n vertices facets points dual_points table = pos (length points) -ℤ pos (n + 1)
    -ℤ pos (corank_sum 1 (inner_of facets points) table) +ℤ pos (corank_sum 2 (product_of vertices facets points dual_points) table)
