-- Worked examples in small dimensions. This project's own.
use Rattle.std.specs.Prelude.{List, [], ◌∷◌, ℤ, pos, negsuc}
use Rattle.lattice_theory.specs.Affine.{Affine}

-- the points of a line, of the plane and of space
abbrev pub on_line : ℤ → List ℤ
on_line x = x ∷ []

abbrev pub in_plane : ℤ → ℤ → List ℤ
in_plane x y = x ∷ y ∷ []

abbrev pub in_space : ℤ → ℤ → ℤ → List ℤ
in_space x y z = x ∷ y ∷ z ∷ []

-- the function with this normal and constant
abbrev pub function : List ℤ → ℤ → Affine
function x c = record { normal = x; constant = c }

-- -1, -2, -3, -4 and -5
abbrev pub minus1 : ℤ
minus1 = negsuc 0

abbrev pub minus2 : ℤ
minus2 = negsuc 1

abbrev pub minus3 : ℤ
minus3 = negsuc 2

abbrev pub minus4 : ℤ
minus4 = negsuc 3

abbrev pub minus5 : ℤ
minus5 = negsuc 4

-- the corners of a square, its center, and one corner again
abbrev pub square : List (List ℤ)
square = in_plane minus1 minus1 ∷ in_plane minus1 (pos 1) ∷ in_plane (pos 1) minus1 ∷ in_plane (pos 1) (pos 1) ∷ in_plane (pos 0) (pos 0)
    ∷ in_plane (pos 1) (pos 1) ∷ []

-- three points of the diagonal
abbrev pub diagonal : List (List ℤ)
diagonal = in_plane (pos 0) (pos 0) ∷ in_plane (pos 1) (pos 1) ∷ in_plane (pos 2) (pos 2) ∷ []

-- the ends of a segment
abbrev pub segment : List (List ℤ)
segment = on_line minus2 ∷ on_line (pos 5) ∷ []

-- the corners of the octahedron
abbrev pub octahedron : List (List ℤ)
octahedron = in_space minus1 (pos 0) (pos 0) ∷ in_space (pos 0) minus1 (pos 0) ∷ in_space (pos 0) (pos 0) minus1 ∷ in_space (pos 1) (pos 0)
    (pos 0)
    ∷ in_space (pos 0) (pos 1) (pos 0) ∷ in_space (pos 0) (pos 0) (pos 1) ∷ []

-- the corners of a triangle
abbrev pub triangle : List (List ℤ)
triangle = in_plane minus1 minus1 ∷ in_plane (pos 3) minus1 ∷ in_plane minus1 (pos 2) ∷ []
