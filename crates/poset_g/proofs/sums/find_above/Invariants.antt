use Rattle.std.proofs.Common.{◌≡◌, nat_lt}
use Rattle.std.specs.List.{filter, range_with_len}
use Rattle.poset_g.specs.Stored.{find_at}
use Rattle.poset_g.proofs.sums.find_above.Given as goal

abbrev pub invariant-loop-face : goal.invariant-loop-face
invariant-loop-face l = record {
  faces : l.faces.items ≡ filter (λ z. nat_lt 0 (find_at l.places l.from z)) (range_with_len 0 l.face);
}
