use Rattle.std.proofs.Common.{◌≡◌, take}
use Rattle.nef_parts.proofs.masks.copies.Given as goal

abbrev pub invariant-loop-p : goal.invariant-loop-p
invariant-loop-p l = l.copies.items ≡ take l.p-index l.points
