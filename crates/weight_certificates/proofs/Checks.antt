-- What the loops of the checks have checked.
use Rattle.std.proofs.Common.{◌≡◌, ◌≢◌, ℕ, ◌<◌, List, length, ℤ, pos}
use Rattle.lattice_theory.specs.Vector.{dot}
use Rattle.interior_point_theory.specs.Certificates.{entries_at}
use Rattle.weight_certificates.specs.Surroundings.{IsInverseAt, IsBalancedAt, chosen, vectors}
use Rattle.weight_certificates.specs.declared.surroundings.Corner.{Corner}

-- the pairings of the vectors' entries at the place k, at the places below i
pub record IsInverseUpTo (points : List (List ℤ)) (corners : List Corner) (divisor : ℤ) (k i : ℕ) : Type 0 where
  pub own : k < i → dot (entries_at k (vectors corners)) (entries_at k (chosen points corners)) ≡ divisor
  pub others : (j : ℕ) → j < i → k ≢ j → dot (entries_at k (vectors corners)) (entries_at j (chosen points corners)) ≡ pos 0

-- both checks at the places below i
pub record AreCheckedUpTo (points : List (List ℤ)) (corners : List Corner) (divisor : ℤ) (times i : ℕ) : Type 0 where
  pub inverse : (k : ℕ) → k < i → IsInverseAt points corners divisor k
  pub balance : (j : ℕ) → j < i → IsBalancedAt points corners times j
