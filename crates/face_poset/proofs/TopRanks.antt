-- How large the ranks of a table are.
use Rattle.std.proofs.Common.{◌+◌, ◌≤◌}
use Rattle.lattice_theory.proofs.Members.{each_from_all, all_from_each, each_weaker}
use Rattle.face_theory.specs.Pairings.{valued}
use Rattle.face_theory.proofs.Climbs.{rank_bound_of_points_lem}
use Rattle.face_closing.specs.Words.{set_of}
use Rattle.face_poset.specs.Faces.{IsFaceOf, IsTableOf}
use Rattle.face_poset.specs.Laws.{TopRankBound}

pub top_rank_bound_lem : TopRankBound
top_rank_bound_lem n points functions table dimension h = all_from_each {P = λ face. face.rank ≤ n + 1}
    (each_weaker (λ face f. rank_bound_of_points_lem n points functions dimension (set_of (valued points functions).members face.members) face.rank
    f.is_face f.rank_is) (each_from_all (IsFaceOf table (valued points functions)) table.faces h.are_faces))
