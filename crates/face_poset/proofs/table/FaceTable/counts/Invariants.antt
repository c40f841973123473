use Rattle.std.proofs.Common.{◌≡◌, ◌==◌, take}
use Rattle.std.specs.List.{count_by}
use Rattle.face_poset.proofs.table.FaceTable.counts.Given as goal

abbrev pub invariant-loop-face : goal.invariant-loop-face
invariant-loop-face l = l.count ≡ count_by (λ face. face.rank == l.rank) (take l.face l.self.faces)
