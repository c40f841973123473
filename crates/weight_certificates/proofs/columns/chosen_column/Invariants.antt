use Rattle.std.proofs.Common.{◌≡◌, take}
use Rattle.interior_point_theory.specs.Certificates.{entries_at}
use Rattle.weight_certificates.specs.Surroundings.{chosen}
use Rattle.weight_certificates.proofs.columns.chosen_column.Given as goal

abbrev pub invariant-loop-corner : goal.invariant-loop-corner
invariant-loop-corner l = l.column.items ≡ entries_at l.j (chosen l.points (take l.corner-index l.corners))
