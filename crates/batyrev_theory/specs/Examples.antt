-- Worked examples: a tetrahedron with as many points as its dual, two edges of which have points inside, as their dual edges do; and the octahedron,
-- whose dual is the cube. This project's own.
use Rattle.std.specs.Prelude.{ℕ, Bool, true, false, List, [], ◌∷◌, ℤ, pos}
use Rattle.lattice_theory.specs.Affine.{Affine}
use Rattle.lattice_theory.specs.Examples.{in_space, minus1}
use Rattle.face_theory.specs.Examples.{four, six}
use Rattle.duality_theory.specs.Reflexive.{with_one}
use Rattle.batyrev_theory.specs.Tables.{FaceEntry}

-- its vertices
abbrev pub tetrahedron : List (List ℤ)
tetrahedron =
    in_space minus1 (pos 0) minus1 ∷ in_space minus1 (pos 0) (pos 2) ∷ in_space (pos 1) minus1 (pos 0) ∷ in_space (pos 1) (pos 2) (pos 0) ∷
    []

-- its facets
abbrev pub tetrahedron_facets : List Affine
tetrahedron_facets =
    with_one (in_space minus1 (pos 0) minus1) ∷ with_one (in_space minus1 (pos 0) (pos 2)) ∷ with_one (in_space (pos 1) minus1 (pos 0)) ∷
    with_one (in_space (pos 1) (pos 2) (pos 0)) ∷ []

-- its lattice points
abbrev pub tetrahedron_points : List (List ℤ)
tetrahedron_points =
    in_space minus1 (pos 0) minus1 ∷ in_space minus1 (pos 0) (pos 0) ∷ in_space minus1 (pos 0) (pos 1) ∷ in_space minus1 (pos 0) (pos 2) ∷
    in_space (pos 0) (pos 0) (pos 0) ∷ in_space (pos 0) (pos 0) (pos 1) ∷ in_space (pos 0) (pos 1) (pos 0) ∷
    in_space (pos 0) (pos 1) (pos 1) ∷ in_space (pos 1) minus1 (pos 0) ∷ in_space (pos 1) (pos 0) (pos 0) ∷
    in_space (pos 1) (pos 1) (pos 0) ∷ in_space (pos 1) (pos 2) (pos 0) ∷ []

-- the points of its dual
abbrev pub tetrahedron_dual_points : List (List ℤ)
tetrahedron_dual_points =
    in_space minus1 (pos 0) minus1 ∷ in_space minus1 (pos 0) (pos 0) ∷ in_space minus1 (pos 0) (pos 1) ∷ in_space minus1 (pos 0) (pos 2) ∷
    in_space (pos 0) (pos 0) (pos 0) ∷ in_space (pos 0) (pos 0) (pos 1) ∷ in_space (pos 0) (pos 1) (pos 0) ∷
    in_space (pos 0) (pos 1) (pos 1) ∷ in_space (pos 1) minus1 (pos 0) ∷ in_space (pos 1) (pos 0) (pos 0) ∷
    in_space (pos 1) (pos 1) (pos 0) ∷ in_space (pos 1) (pos 2) (pos 0) ∷ []

-- a face with its dual face, its rank and its corank
abbrev pub entry : List Bool → List Bool → ℕ → ℕ → FaceEntry
entry set dual rank corank = record { set = set; dual = dual; rank = rank; corank = corank }

-- its faces: the empty one, four corners, six edges, four sides and the whole
abbrev pub tetrahedron_faces : List FaceEntry
tetrahedron_faces =
    entry (four false false false false) (four true true true true) 0 4 ∷
    entry (four true false false false) (four false true true true) 1 3 ∷
    entry (four false true false false) (four true false true true) 1 3 ∷
    entry (four false false true false) (four true true false true) 1 3 ∷
    entry (four false false false true) (four true true true false) 1 3 ∷
    entry (four true true false false) (four false false true true) 2 2 ∷
    entry (four true false true false) (four false true false true) 2 2 ∷
    entry (four true false false true) (four false true true false) 2 2 ∷
    entry (four false true true false) (four true false false true) 2 2 ∷
    entry (four false true false true) (four true false true false) 2 2 ∷
    entry (four false false true true) (four true true false false) 2 2 ∷
    entry (four true true true false) (four false false false true) 3 1 ∷
    entry (four true true false true) (four false false true false) 3 1 ∷
    entry (four true false true true) (four false true false false) 3 1 ∷
    entry (four false true true true) (four true false false false) 3 1 ∷
    entry (four true true true true) (four false false false false) 4 0 ∷ []

-- the octahedron's lattice points: its corners and the origin
abbrev pub octahedron_points : List (List ℤ)
octahedron_points =
    in_space minus1 (pos 0) (pos 0) ∷ in_space (pos 0) minus1 (pos 0) ∷ in_space (pos 0) (pos 0) minus1 ∷ in_space (pos 0) (pos 0) (pos 0) ∷
    in_space (pos 0) (pos 0) (pos 1) ∷ in_space (pos 0) (pos 1) (pos 0) ∷ in_space (pos 1) (pos 0) (pos 0) ∷ []

-- the points of its dual, the cube
abbrev pub cube_points : List (List ℤ)
cube_points =
    in_space minus1 minus1 minus1 ∷ in_space minus1 minus1 (pos 0) ∷ in_space minus1 minus1 (pos 1) ∷ in_space minus1 (pos 0) minus1 ∷
    in_space minus1 (pos 0) (pos 0) ∷ in_space minus1 (pos 0) (pos 1) ∷ in_space minus1 (pos 1) minus1 ∷ in_space minus1 (pos 1) (pos 0) ∷
    in_space minus1 (pos 1) (pos 1) ∷ in_space (pos 0) minus1 minus1 ∷ in_space (pos 0) minus1 (pos 0) ∷ in_space (pos 0) minus1 (pos 1) ∷
    in_space (pos 0) (pos 0) minus1 ∷ in_space (pos 0) (pos 0) (pos 0) ∷ in_space (pos 0) (pos 0) (pos 1) ∷
    in_space (pos 0) (pos 1) minus1 ∷ in_space (pos 0) (pos 1) (pos 0) ∷ in_space (pos 0) (pos 1) (pos 1) ∷ in_space (pos 1) minus1 minus1 ∷
    in_space (pos 1) minus1 (pos 0) ∷ in_space (pos 1) minus1 (pos 1) ∷ in_space (pos 1) (pos 0) minus1 ∷ in_space (pos 1) (pos 0) (pos 0) ∷
    in_space (pos 1) (pos 0) (pos 1) ∷ in_space (pos 1) (pos 1) minus1 ∷ in_space (pos 1) (pos 1) (pos 0) ∷
    in_space (pos 1) (pos 1) (pos 1) ∷ []

-- the sets of its eight facets
abbrev pub eight : Bool → Bool → Bool → Bool → Bool → Bool → Bool → Bool → List Bool
eight a b c d e f g h = a ∷ b ∷ c ∷ d ∷ e ∷ f ∷ g ∷ h ∷ []

-- its faces: the empty one, six corners, twelve edges, eight sides and the whole
abbrev pub octahedron_faces : List FaceEntry
octahedron_faces =
    entry (six false false false false false false) (eight true true true true true true true true) 0 4 ∷
    entry (six true false false false false false) (eight false false false false true true true true) 1 3 ∷
    entry (six true true false false false false) (eight false false false false false false true true) 2 2 ∷
    entry (six true true true false false false) (eight false false false false false false false true) 3 1 ∷
    entry (six true true true true true true) (eight false false false false false false false false) 4 0 ∷
    entry (six true true false false false true) (eight false false false false false false true false) 3 1 ∷
    entry (six true false true false false false) (eight false false false false false true false true) 2 2 ∷
    entry (six true false true false true false) (eight false false false false false true false false) 3 1 ∷
    entry (six true false false false true false) (eight false false false false true true false false) 2 2 ∷
    entry (six true false false false true true) (eight false false false false true false false false) 3 1 ∷
    entry (six true false false false false true) (eight false false false false true false true false) 2 2 ∷
    entry (six false true false false false false) (eight false false true true false false true true) 1 3 ∷
    entry (six false true true false false false) (eight false false false true false false false true) 2 2 ∷
    entry (six false true true true false false) (eight false false false true false false false false) 3 1 ∷
    entry (six false true false true false false) (eight false false true true false false false false) 2 2 ∷
    entry (six false true false true false true) (eight false false true false false false false false) 3 1 ∷
    entry (six false true false false false true) (eight false false true false false false true false) 2 2 ∷
    entry (six false false true false false false) (eight false true false true false true false true) 1 3 ∷
    entry (six false false true true false false) (eight false true false true false false false false) 2 2 ∷
    entry (six false false true true true false) (eight false true false false false false false false) 3 1 ∷
    entry (six false false true false true false) (eight false true false false false true false false) 2 2 ∷
    entry (six false false false true false false) (eight true true true true false false false false) 1 3 ∷
    entry (six false false false true true false) (eight true true false false false false false false) 2 2 ∷
    entry (six false false false true true true) (eight true false false false false false false false) 3 1 ∷
    entry (six false false false true false true) (eight true false true false false false false false) 2 2 ∷
    entry (six false false false false true false) (eight true true false false true true false false) 1 3 ∷
    entry (six false false false false true true) (eight true false false false true false false false) 2 2 ∷
    entry (six false false false false false true) (eight true false true false true false true false) 1 3 ∷ []
