-- What a call of a search gives. This project's own.
use Rattle.std.specs.Prelude.{◌≡◌, ◌+◌, Option, Some, None}
use Rattle.dual_pair.specs.declared.partition.Partition.{Partition}
use Rattle.nef_parts.specs.Partitions.{Searched, IsNefAt, HasNefPartitions, ArePointsOf}

-- the next nef partition is given, with its points; or all were given, and nothing changes
abbrev pub GivesNext : Searched → Searched → Option Partition → Type 0
GivesNext old new (Some p) = (new.lists ≡ old.lists) × (new.codim ≡ old.codim) × (new.given ≡ old.given + 1)
    × IsNefAt old.lists old.codim old.given p.part_of.items × ArePointsOf old.lists old.codim p.part_of.items p.points.items
GivesNext old new None = (new ≡ old) × HasNefPartitions old.lists old.codim old.given
