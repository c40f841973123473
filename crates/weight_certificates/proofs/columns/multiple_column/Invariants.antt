use Rattle.std.proofs.Common.{◌≡◌, take}
use Rattle.weight_certificates.specs.Surroundings.{multiples}
use Rattle.weight_certificates.proofs.columns.multiple_column.Given as goal

abbrev pub invariant-loop-corner : goal.invariant-loop-corner
invariant-loop-corner l = l.column.items ≡ multiples (take l.corner-index l.corners)
