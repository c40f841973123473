use Rattle.face_closing.proofs.Links.{IsBefore}
use Rattle.face_closing.proofs.table.RowTable.find.Given as goal

abbrev pub invariant-loop-link : goal.invariant-loop-link
invariant-loop-link l = IsBefore l.self.rows l.words l.link

abbrev pub decreases-loop-link : goal.decreases-loop-link
decreases-loop-link l = l.link
