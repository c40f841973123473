-- The worked examples: tables of the faces of the square, the octahedron and a relation whose chains differ in length.
use Rattle.std.proofs.Common.{Contains, ℕ, Bool, true, false, List, [], ◌∷◌, refl, arith}
use Rattle.face_theory.specs.Faces.{IsFace, AreFaces, IsRank, IsCorank, IsDualFace}
use Rattle.face_theory.specs.Ranks.{RankedFace}
use Rattle.face_theory.specs.Examples.{four, square_relation, square_faces, six, octahedron_relation, three, uneven_relation}
use Rattle.face_theory.proofs.Sets.{true_false}
use Rattle.face_theory.proofs.FaceTests.{face_is_closure_lem}
use Rattle.face_theory.proofs.FaceTables.{faces_by_test, ranks_by_test, coranks_by_test, dual_by_test}

-- a set with a rank or a corank
abbrev ranked : List Bool → ℕ → RankedFace
ranked set k = record { set = set; rank = k }

-- the square, largest faces first, with ranks; smallest first, with coranks
abbrev square_ranks : List RankedFace
square_ranks =
    ranked (four true true true true) 3 ∷ ranked (four true false false true) 2 ∷ ranked (four false false true true) 2
    ∷ ranked (four false true true false) 2 ∷ ranked (four true true false false) 2 ∷ ranked (four false false false true) 1
    ∷ ranked (four false false true false) 1 ∷ ranked (four false true false false) 1 ∷ ranked (four true false false false) 1
    ∷ ranked (four false false false false) 0 ∷ []

abbrev square_coranks : List RankedFace
square_coranks =
    ranked (four false false false false) 3 ∷ ranked (four true false false false) 2 ∷ ranked (four false true false false) 2
    ∷ ranked (four false false true false) 2 ∷ ranked (four false false false true) 2 ∷ ranked (four true true false false) 1
    ∷ ranked (four false true true false) 1 ∷ ranked (four false false true true) 1 ∷ ranked (four true false false true) 1
    ∷ ranked (four true true true true) 0 ∷ []

-- the octahedron: its 8 triangles, 12 edges and 6 corners between the whole and the empty face
abbrev octahedron_ranks : List RankedFace
octahedron_ranks =
    ranked (six true true true true true true) 4 ∷ ranked (six false false false true true true) 3
    ∷ ranked (six false false true true true false) 3 ∷ ranked (six false true false true false true) 3
    ∷ ranked (six false true true true false false) 3 ∷ ranked (six true false false false true true) 3
    ∷ ranked (six true false true false true false) 3 ∷ ranked (six true true false false false true) 3
    ∷ ranked (six true true true false false false) 3 ∷ ranked (six false false false false true true) 2
    ∷ ranked (six false false false true false true) 2 ∷ ranked (six false false false true true false) 2
    ∷ ranked (six false false true false true false) 2 ∷ ranked (six false false true true false false) 2
    ∷ ranked (six false true false false false true) 2 ∷ ranked (six false true false true false false) 2
    ∷ ranked (six false true true false false false) 2 ∷ ranked (six true false false false false true) 2
    ∷ ranked (six true false false false true false) 2 ∷ ranked (six true false true false false false) 2
    ∷ ranked (six true true false false false false) 2 ∷ ranked (six false false false false false true) 1
    ∷ ranked (six false false false false true false) 1 ∷ ranked (six false false false true false false) 1
    ∷ ranked (six false false true false false false) 1 ∷ ranked (six false true false false false false) 1
    ∷ ranked (six true false false false false false) 1 ∷ ranked (six false false false false false false) 0 ∷ []

abbrev octahedron_coranks : List RankedFace
octahedron_coranks =
    ranked (six false false false false false false) 4 ∷ ranked (six true false false false false false) 3
    ∷ ranked (six false true false false false false) 3 ∷ ranked (six false false true false false false) 3
    ∷ ranked (six false false false true false false) 3 ∷ ranked (six false false false false true false) 3
    ∷ ranked (six false false false false false true) 3 ∷ ranked (six true true false false false false) 2
    ∷ ranked (six true false true false false false) 2 ∷ ranked (six true false false false true false) 2
    ∷ ranked (six true false false false false true) 2 ∷ ranked (six false true true false false false) 2
    ∷ ranked (six false true false true false false) 2 ∷ ranked (six false true false false false true) 2
    ∷ ranked (six false false true true false false) 2 ∷ ranked (six false false true false true false) 2
    ∷ ranked (six false false false true true false) 2 ∷ ranked (six false false false true false true) 2
    ∷ ranked (six false false false false true true) 2 ∷ ranked (six true true true false false false) 1
    ∷ ranked (six true true false false false true) 1 ∷ ranked (six true false true false true false) 1
    ∷ ranked (six true false false false true true) 1 ∷ ranked (six false true true true false false) 1
    ∷ ranked (six false true false true false true) 1 ∷ ranked (six false false true true true false) 1
    ∷ ranked (six false false false true true true) 1 ∷ ranked (six true true true true true true) 0 ∷ []

-- the uneven relation
abbrev uneven_ranks : List RankedFace
uneven_ranks =
    ranked (three true true true) 3 ∷ ranked (three true true false) 2 ∷ ranked (three false false true) 1
    ∷ ranked (three true false false) 1 ∷ ranked (three false false false) 0 ∷ []

abbrev uneven_coranks : List RankedFace
uneven_coranks =
    ranked (three false false false) 3 ∷ ranked (three true false false) 2 ∷ ranked (three false false true) 1
    ∷ ranked (three true true false) 1 ∷ ranked (three true true true) 0 ∷ []

-- the ranks of the square
square_rank : (r : RankedFace) → Contains square_ranks r → IsRank square_relation r.set r.rank
square_rank = ranks_by_test square_relation square_ranks refl

square_corank : (r : RankedFace) → Contains square_coranks r → IsCorank square_relation r.set r.rank
square_corank = coranks_by_test square_relation square_coranks refl

pub square_has : AreFaces square_relation square_faces
square_has = faces_by_test square_relation square_faces refl

pub side_rank : IsRank square_relation (four true true false false) 2
side_rank = square_rank (ranked (four true true false false) 2) (4, omega arith, refl)

pub side_corank : IsCorank square_relation (four true true false false) 1
side_corank = square_corank (ranked (four true true false false) 1) (5, omega arith, refl)

pub corner_dual : IsDualFace square_relation (four false true false false) (four true true false false)
corner_dual = dual_by_test square_relation (four false true false false) (four true true false false) refl refl refl

pub no_diagonal : IsFace square_relation (four true false true false) → ⊥
no_diagonal f = true_false ((face_is_closure_lem square_relation (four true false true false) refl).0 f) refl

-- those of the octahedron
octahedron_rank : (r : RankedFace) → Contains octahedron_ranks r → IsRank octahedron_relation r.set r.rank
octahedron_rank = ranks_by_test octahedron_relation octahedron_ranks refl

octahedron_corank : (r : RankedFace) → Contains octahedron_coranks r → IsCorank octahedron_relation r.set r.rank
octahedron_corank = coranks_by_test octahedron_relation octahedron_coranks refl

pub triangle_rank : IsRank octahedron_relation (six false false false true true true) 3
triangle_rank = octahedron_rank (ranked (six false false false true true true) 3) (1, omega arith, refl)

pub edge_rank : IsRank octahedron_relation (six false false false true true false) 2
edge_rank = octahedron_rank (ranked (six false false false true true false) 2) (11, omega arith, refl)

pub whole_rank : IsRank octahedron_relation (six true true true true true true) 4
whole_rank = octahedron_rank (ranked (six true true true true true true) 4) (0, omega arith, refl)

pub corner_corank : IsCorank octahedron_relation (six false false false true false false) 3
corner_corank = octahedron_corank (ranked (six false false false true false false) 3) (4, omega arith, refl)

pub no_axis : IsFace octahedron_relation (six true false false true false false) → ⊥
no_axis f = true_false ((face_is_closure_lem octahedron_relation (six true false false true false false) refl).0 f) refl

-- and those of the uneven relation
pub point_rank : IsRank uneven_relation (three false false true) 1
point_rank = ranks_by_test uneven_relation uneven_ranks refl (ranked (three false false true) 1) (2, omega arith, refl)

pub point_corank : IsCorank uneven_relation (three false false true) 1
point_corank = coranks_by_test uneven_relation uneven_coranks refl (ranked (three false false true) 1) (2, omega arith, refl)

pub uneven_whole : IsRank uneven_relation (three true true true) 3
uneven_whole = ranks_by_test uneven_relation uneven_ranks refl (ranked (three true true true) 3) (0, omega arith, refl)
