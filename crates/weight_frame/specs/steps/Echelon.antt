-- Vectors in echelon form. This project's own.
use Rattle.std.specs.Prelude.{◌≡◌, ℕ, suc, ◌<◌, ◌≤◌, List, [], ◌∷◌, ℤ, pos, ◌<ℤ◌}
use Rattle.lattice_theory.specs.Vector.{entry}

-- the entries before the place are 0
abbrev pub IsZeroBelow : ℕ → List ℤ → Type 0
IsZeroBelow place x = (j : ℕ) → j < place → entry x j ≡ pos 0

-- the first entry of u that isn't 0 is positive and stands at the place
pub record LeadsAt (u : List ℤ) (place : ℕ) : Type 0 where
  pub before : IsZeroBelow place u
  pub positive : pos 0 <ℤ entry u place

-- vectors in echelon form: the first entry of each that isn't 0 is positive, and stands behind that of the vector before and not before
-- `from`
pub data Leads : ℕ → List (List ℤ) → Type 0 where
  no_more : {from : ℕ} → Leads from []
  leads : {from : ℕ} {u : List ℤ} {us : List (List ℤ)} (place : ℕ) → from ≤ place → LeadsAt u place → Leads (suc place) us
      → Leads from (u ∷ us)
