use Rattle.face_poset.proofs.FaceCounts.{face_counts_are_single_lem}
use Rattle.face_poset.proofs.laws.face_counts_are_single.Goals as goal

pub returns : goal.returns
returns c = face_counts_are_single_lem
