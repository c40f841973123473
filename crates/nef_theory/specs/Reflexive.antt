-- The lattice points of a reflexive polytope by the normals of its facets (alg-geom/9310003: reflexive polytopes).
use Rattle.std.specs.Prelude.{◌≡◌, ◌↔◌, ℕ, ◌<◌, List, length, ℤ, negsuc, ◌≤ℤ◌}
use Rattle.std.specs.List.{Contains}
use Rattle.nef_theory.specs.Nef.{pairing_at}

-- the integer vectors with n entries whose pairing with each normal is at least -1
abbrev pub AreAtLeastMinusOne : ℕ → List (List ℤ) → List (List ℤ) → Type 0
AreAtLeastMinusOne n normals points = (x : List ℤ) → Contains points x
    ↔ ((length x ≡ n) × ((e : ℕ) → e < length normals → negsuc 0 ≤ℤ pairing_at normals x e))
