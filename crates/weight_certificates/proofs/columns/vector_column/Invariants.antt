use Rattle.std.proofs.Common.{◌≡◌, take}
use Rattle.interior_point_theory.specs.Certificates.{entries_at}
use Rattle.weight_certificates.specs.Surroundings.{vectors}
use Rattle.weight_certificates.proofs.columns.vector_column.Given as goal

abbrev pub invariant-loop-corner : goal.invariant-loop-corner
invariant-loop-corner l = l.column.items ≡ entries_at l.k (vectors (take l.corner-index l.corners))
