-- Worked examples. This project's own.
use Rattle.std.specs.Prelude.{List, [], ◌∷◌, ℤ, pos}
use Rattle.lattice_theory.specs.Examples.{on_line, in_plane, minus1}

-- the ends of the segment from -1 to 1, and the normals of its facets x + 1 and 1 - x
abbrev pub short_segment : List (List ℤ)
short_segment = on_line minus1 ∷ on_line (pos 1) ∷ []

abbrev pub short_normals : List (List ℤ)
short_normals = on_line (pos 1) ∷ on_line minus1 ∷ []

-- a reflexive polygon of four corners, and the normals of its facets: the second is the sum of the first and the third
abbrev pub surface : List (List ℤ)
surface = in_plane minus1 minus1 ∷ in_plane minus1 (pos 1) ∷ in_plane (pos 0) minus1 ∷ in_plane (pos 2) (pos 1) ∷ []

abbrev pub surface_normals : List (List ℤ)
surface_normals = in_plane (pos 1) (pos 0) ∷ in_plane (pos 0) (pos 1) ∷ in_plane minus1 (pos 1) ∷ in_plane (pos 0) minus1 ∷ []
