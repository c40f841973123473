-- The hull of finitely many points, and its vertices (math/0204356, section 2: a polytope is an intersection of half spaces).
use Rattle.std.specs.Prelude.{◌≡◌, ◌↔◌, ℕ, List, length, ℤ, pos, ◌≤ℤ◌}
use Rattle.std.specs.List.{Contains}
use Rattle.lattice_theory.specs.Vector.{others}
use Rattle.lattice_theory.specs.Affine.{Affine, value, IsNonnegative}
use Rattle.lattice_theory.specs.Order.{Lists, LexLess}

-- x is in the hull of points of dimension n: each affine function that is nonnegative on them is nonnegative at x
abbrev pub InHull : ℕ → List (List ℤ) → List ℤ → Type 0
InHull n points x = (f : Affine) → length f.normal ≡ n → IsNonnegative points f → pos 0 ≤ℤ value f x

-- a vertex is one of the points that isn't in the hull of the others
pub record IsVertex (n : ℕ) (points : List (List ℤ)) (v : List ℤ) : Type 0 where
  pub member : Contains points v
  pub outside : InHull n (others points v) v → ⊥

-- all vertices, each once, in lexicographic order
abbrev pub AreVertices : ℕ → List (List ℤ) → List (List ℤ) → Type 0
AreVertices n points vs = Lists LexLess (IsVertex n points) vs

-- all vertices and nothing else, in any order
abbrev pub AreVerticesInAnyOrder : ℕ → List (List ℤ) → List (List ℤ) → Type 0
AreVerticesInAnyOrder n points vs = (v : List ℤ) → Contains vs v ↔ IsVertex n points v
