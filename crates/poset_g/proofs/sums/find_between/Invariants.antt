use Rattle.std.proofs.Common.{◌≡◌, nat_lt, take}
use Rattle.std.specs.List.{filter}
use Rattle.poset_g.specs.Stored.{find_at}
use Rattle.poset_g.proofs.sums.find_between.Given as goal

abbrev pub invariant-loop-i : goal.invariant-loop-i
invariant-loop-i l = record {
  faces : l.faces.items ≡ filter (λ z. nat_lt 0 (find_at l.places z l.to)) (take l.i l.higher);
}
