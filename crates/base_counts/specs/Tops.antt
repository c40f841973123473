-- Heights that are raised, vector by vector, until they are the base of a point. This project's own.
use Rattle.std.specs.Prelude.{◌≡◌, ◌≢◌, ◌⊎◌, ℕ, ◌<◌, ◌≤◌, ◌^◌, List, length, ℤ, pos, nat_abs, ◌<ℤ◌, ◌≤ℤ◌}
use Rattle.std.specs.List.{All}
use Rattle.lattice_theory.specs.Vector.{entry}
use Rattle.lattice_theory.specs.Affine.{Affine}
use Rattle.face_theory.specs.Pairings.{function_at}
use Rattle.cayley_theory.specs.Bases.{part_in, pairing_with}
use Rattle.base_counts.specs.declared.base.TheConstants.{LOWEST}

-- the vectors have n entries and one of r parts
abbrev pub AreOfParts : ℕ → ℕ → List Affine → Type 0
AreOfParts n r vs = All (λ f. (length f.normal ≡ n) × (part_in f < r)) vs

-- no height is above 2^100 in size
abbrev pub HaveSmallEntries : List ℤ → Type 0
HaveSmallEntries base = All (λ b. nat_abs b ≤ 2 ^ 100) base

-- the height of one part is at least this one, and no higher than it has to be
pub record IsRaisedTo (part : ℕ) (height : ℤ) (old new : List ℤ) : Type 0 where
  pub long : length new ≡ length old
  pub above : LOWEST <ℤ height
  pub small : nat_abs height ≤ 2 ^ 100
  pub at : ((entry old part <ℤ height) × (entry new part ≡ height)) ⊎ ((height ≤ℤ entry old part) × (entry new part ≡ entry old part))
  pub others : (j : ℕ) → j ≢ part → entry new j ≡ entry old j

-- in each part the height is the least with which the first k vectors of the part pair nonnegatively, where there are any
pub record IsTopOf (vs : List Affine) (x : List ℤ) (k : ℕ) (base : List ℤ) : Type 0 where
  pub above : (i : ℕ) → i < k → pos 0 ≤ℤ pairing_with vs x base i
  pub reached : (j : ℕ) → j < length base → ((entry base j ≡ LOWEST) × ((i : ℕ) → i < k → part_in (function_at vs i) ≢ j))
      ⊎ ((i : ℕ) × (i < k) × (part_in (function_at vs i) ≡ j) × (pairing_with vs x base i ≡ pos 0))
  pub small : (j : ℕ) → j < length base → nat_abs (entry base j) ≤ 2 ^ 100
