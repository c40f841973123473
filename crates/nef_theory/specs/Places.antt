-- Where the points of the parts stand in a list of lattice points. This project's own.
use Rattle.std.specs.Prelude.{◌≡◌, ℕ, ◌+◌, ◌*◌, ◌<◌, List, [], length, ℤ, slice_index_or}
use Rattle.nef_theory.specs.Nef.{IsPartPoint}

-- at the place stands the point of the part i at the vertex m
pub record IsPartPlace (n : ℕ) (normals points : List (List ℤ)) (parts : List ℕ) (m : List ℤ) (i place : ℕ) : Type 0 where
  pub within : place < length points
  pub is_point : IsPartPoint n normals parts m i (slice_index_or points place [])

-- the places of all of them: vertex by vertex, and part by part for each vertex
pub record ArePartPlaces (n : ℕ) (vertices normals points : List (List ℤ)) (r : ℕ) (parts places : List ℕ) : Type 0 where
  pub count : length places ≡ length vertices * r
  pub are : (v i : ℕ) → v < length vertices → i < r
      → IsPartPlace n normals points parts (slice_index_or vertices v []) i (slice_index_or places (v * r + i) 0)
