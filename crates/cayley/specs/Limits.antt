-- The limits on the number of parts of nef partitions. This project's own.
use Rattle.std.specs.Prelude.{◌≡◌, ℕ, ◌+◌, ◌<◌, ◌≤◌, Bool, true, false, List, length, ℤ}
use Rattle.lattice_core.specs.Dimensions.{dimension_of}
use Rattle.lattice_core.specs.declared.faults.Refusal.{Refusal}
use Rattle.lattice_core.specs.declared.faults.Refusal.TheVariants as refusals
use Rattle.lattice_core.specs.declared.faults.LimitName.{LimitName}
use Rattle.lattice_core.specs.declared.faults.LimitName.TheVariants as limits
use Rattle.point_scan.specs.Dilates.{AreDilatePoints}
use Rattle.dual_pair.specs.Pairs.{PairState}
use Rattle.cayley.specs.declared.limits.TheConstants.{MOST_RANK, MOST_SCANNED}

-- r parts are fewer than the dimension n, and not too many together with it
abbrev pub IsWithinRank : ℕ → ℕ → Type 0
IsWithinRank n r = (r < n) × (n + r ≤ MOST_RANK)

-- the limits, in order: on the number of parts, which is told, and on the sum, which is told
abbrev pub IsRankLimit : ℕ → ℕ → LimitName → ℕ → Type 0
IsRankLimit n r limits.Codim told = (told ≡ r) × (n ≤ r)
IsRankLimit n r limits.Rank told = (told ≡ n + r) × (r < n) × (MOST_RANK < n + r)
IsRankLimit n r other told = ⊥

abbrev pub IsRankRefusal : ℕ → ℕ → Refusal → Type 0
IsRankRefusal n r (refusals.Flat f) = ⊥
IsRankRefusal n r (refusals.Limit name told) = IsRankLimit n r name told

-- the dilate of the points has more lattice points than the limit, or it hasn't
pub record IsLargeDilate (points : List (List ℤ)) (dilate : ℕ) : Type 0 where
  pub lattice : List (List ℤ)
  pub are_dilate_points : AreDilatePoints (dimension_of points) points dilate lattice
  pub many : MOST_SCANNED < length lattice

pub record IsSmallDilate (points : List (List ℤ)) (dilate : ℕ) : Type 0 where
  pub lattice : List (List ℤ)
  pub are_dilate_points : AreDilatePoints (dimension_of points) points dilate lattice
  pub few : length lattice ≤ MOST_SCANNED

-- an answer to this
abbrev pub TellsLarge : List (List ℤ) → ℕ → Bool → Type 0
TellsLarge points dilate true = IsLargeDilate points dilate
TellsLarge points dilate false = IsSmallDilate points dilate

-- the (n + r - 1)-th dilate of the polytope is large
pub record IsLargeScanOfM (pair : PairState) (r told : ℕ) : Type 0 where
  pub within : IsWithinRank (dimension_of pair.m.vertices) r
  pub dilate : ℕ
  pub dilate_is : dilate + 1 ≡ dimension_of pair.m.vertices + r
  pub large : IsLargeDilate pair.m.vertices dilate
  pub told_is : told ≡ MOST_SCANNED + 1

-- that of the dual is, and that of the polytope isn't
pub record IsLargeScanOfN (pair : PairState) (r told : ℕ) : Type 0 where
  pub within : IsWithinRank (dimension_of pair.m.vertices) r
  pub dilate : ℕ
  pub dilate_is : dilate + 1 ≡ dimension_of pair.m.vertices + r
  pub small : IsSmallDilate pair.m.vertices dilate
  pub large : IsLargeDilate pair.n.vertices dilate
  pub told_is : told ≡ MOST_SCANNED + 1

-- no limit is exceeded
pub record IsWithinScans (pair : PairState) (r : ℕ) : Type 0 where
  pub within : IsWithinRank (dimension_of pair.m.vertices) r
  pub dilate : ℕ
  pub dilate_is : dilate + 1 ≡ dimension_of pair.m.vertices + r
  pub small : IsSmallDilate pair.m.vertices dilate
  pub dual_small : IsSmallDilate pair.n.vertices dilate

-- the limits, in order: those above, and then those on the dilates, of which the limit and one are told
abbrev pub IsScanLimit : PairState → ℕ → LimitName → ℕ → Type 0
IsScanLimit pair r limits.ScanM told = IsLargeScanOfM pair r told
IsScanLimit pair r limits.ScanN told = IsLargeScanOfN pair r told
IsScanLimit pair r name told = IsRankLimit (dimension_of pair.m.vertices) r name told

abbrev pub IsScanRefusal : PairState → ℕ → Refusal → Type 0
IsScanRefusal pair r (refusals.Flat f) = ⊥
IsScanRefusal pair r (refusals.Limit name told) = IsScanLimit pair r name told
