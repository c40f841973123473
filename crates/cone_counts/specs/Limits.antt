-- Why the vectors of a cone aren't counted. This project's own.
use Rattle.std.specs.Prelude.{◌≡◌, ℕ, ◌+◌}
use Rattle.lattice_core.specs.declared.faults.Refusal.{Refusal}
use Rattle.lattice_core.specs.declared.faults.Refusal.TheVariants as refusals
use Rattle.lattice_core.specs.declared.faults.LimitName.{LimitName}
use Rattle.lattice_core.specs.declared.faults.LimitName.TheVariants as limits
use Rattle.cayley.specs.PairCones.{ConeState}
use Rattle.cone_counts.specs.FaceCounts.{HasManyOnM, HasManyOnN}
use Rattle.cone_counts.specs.declared.limits.TheConstants.{MOST_PAIRS}

-- the limits, in order: on the cone, and where it has few vectors of each degree, on its dual; the limit and one are told
abbrev pub IsCountLimit : ConeState → LimitName → ℕ → Type 0
IsCountLimit cone limits.ConeM told = HasManyOnM cone × (told ≡ MOST_PAIRS + 1)
IsCountLimit cone limits.ConeN told = (HasManyOnM cone → ⊥) × HasManyOnN cone × (told ≡ MOST_PAIRS + 1)
IsCountLimit cone other told = ⊥

abbrev pub IsCountRefusal : ConeState → Refusal → Type 0
IsCountRefusal cone (refusals.Flat f) = ⊥
IsCountRefusal cone (refusals.Limit name told) = IsCountLimit cone name told
