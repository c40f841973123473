-- Worked examples: the square, the octahedron, and a relation whose chains differ in length. This project's own.
use Rattle.std.specs.Prelude.{ℕ, Bool, true, false, ◌||◌, ◌&&◌, ◌==◌, ◌+◌, ◌%◌, List, [], ◌∷◌, ℤ, pos}
use Rattle.lattice_theory.specs.Affine.{Affine}
use Rattle.lattice_theory.specs.Examples.{in_space, function, minus1, octahedron}
use Rattle.face_theory.specs.Faces.{TightRelation}
use Rattle.face_theory.specs.Pairings.{valued}

-- the sets of the corners, or the sides, of the square
abbrev pub four : Bool → Bool → Bool → Bool → List Bool
four a b c d = a ∷ b ∷ c ∷ d ∷ []

-- the square with the corners 0, 1, 2 and 3 in turn: the side f has the corners f and f + 1, the last side 3 and 0
abbrev pub on_side : ℕ → ℕ → Bool
on_side m f = (m == f) || (m == (f + 1) % 4)

abbrev pub square_relation : TightRelation
square_relation = record { members = 4; functions = 4; tight = on_side }

-- its faces: the empty one, four corners, four sides and the whole
abbrev pub square_faces : List (List Bool)
square_faces =
    four false false false false ∷ four true false false false ∷ four false true false false ∷ four false false true false
    ∷ four false false false true ∷ four true true false false ∷ four false true true false ∷ four false false true true
    ∷ four true false false true ∷ four true true true true ∷ []

-- a facet of the octahedron, by the signs of its normal
abbrev pub octant : ℤ → ℤ → ℤ → Affine
octant x y z = function (in_space x y z) (pos 1)

-- its eight facets
abbrev pub octants : List Affine
octants = octant minus1 minus1 minus1 ∷ octant minus1 minus1 (pos 1) ∷ octant minus1 (pos 1) minus1 ∷ octant minus1 (pos 1) (pos 1)
    ∷ octant (pos 1) minus1 minus1 ∷ octant (pos 1) minus1 (pos 1) ∷ octant (pos 1) (pos 1) minus1 ∷ octant (pos 1) (pos 1) (pos 1) ∷ []

-- the corners of the octahedron on its facets
abbrev pub octahedron_relation : TightRelation
octahedron_relation = valued octahedron octants

-- the sets of its six corners: -x, -y, -z, x, y and z
abbrev pub six : Bool → Bool → Bool → Bool → Bool → Bool → List Bool
six a b c d e f = a ∷ b ∷ c ∷ d ∷ e ∷ f ∷ []

-- three members; the functions are tight on the members 0 and 1, on 0, and on 2
abbrev pub uneven_relation : TightRelation
uneven_relation = record {
  members = 3;
  functions = 3;
  tight = λ m f. ((f == 0) && ((m == 0) || (m == 1))) || (((f == 1) && (m == 0)) || ((f == 2) && (m == 2)));
}

-- the sets of three members
abbrev pub three : Bool → Bool → Bool → List Bool
three a b c = a ∷ b ∷ c ∷ []
