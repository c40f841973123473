use Rattle.face_poset.proofs.FaceCounts.{table_counts_faces_lem, few_faces_lem}
use Rattle.face_poset.proofs.laws.table_counts_faces.Goals as goal

pub returns-clause-counts : goal.returns-clause-counts
returns-clause-counts c = table_counts_faces_lem

pub returns-clause-few : goal.returns-clause-few
returns-clause-few c = few_faces_lem
