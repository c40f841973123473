-- Worked examples: a reflexive triangle with its dual, and a square whose facets all have the constant 2. This project's own.
use Rattle.std.specs.Prelude.{List, [], ◌∷◌, ℤ, pos}
use Rattle.lattice_theory.specs.Affine.{Affine}
use Rattle.lattice_theory.specs.Examples.{in_plane, minus1, minus2}
use Rattle.duality_theory.specs.Reflexive.{with_one}

-- the corners, in order
abbrev pub large_triangle : List (List ℤ)
large_triangle = in_plane minus1 minus1 ∷ in_plane minus1 (pos 2) ∷ in_plane (pos 2) minus1 ∷ []

-- its facets 1 - x - y, y + 1 and x + 1
abbrev pub triangle_facets : List Affine
triangle_facets = with_one (in_plane minus1 minus1) ∷ with_one (in_plane (pos 0) (pos 1)) ∷ with_one (in_plane (pos 1) (pos 0)) ∷ []

-- the points of its dual: the normals and the origin
abbrev pub triangle_dual : List (List ℤ)
triangle_dual = in_plane minus1 minus1 ∷ in_plane (pos 0) (pos 0) ∷ in_plane (pos 0) (pos 1) ∷ in_plane (pos 1) (pos 0) ∷ []

-- the corners of a square that stands on one of them
abbrev pub diamond : List (List ℤ)
diamond = in_plane (pos 2) (pos 0) ∷ in_plane (pos 0) (pos 2) ∷ in_plane minus2 (pos 0) ∷ in_plane (pos 0) minus2 ∷ []
