-- Worked examples. This project's own.
use Rattle.std.specs.Prelude.{List, [], ◌∷◌, ℤ, pos}
use Rattle.lattice_theory.specs.Examples.{on_line, in_plane, minus1}
use Rattle.lattice_core.specs.Weights.{Weighted}
use Rattle.interior_point_theory.specs.Interior.{system_of}

-- the plane's weights
abbrev pub three_ones : Weighted
three_ones = system_of 3 (1 ∷ 1 ∷ 1 ∷ [])

-- a system of two weights
abbrev pub two_ones : Weighted
two_ones = system_of 2 (1 ∷ 1 ∷ [])

-- the points of its exponent vectors (2, 0), (1, 1) and (0, 2), without their first coordinate
abbrev pub two_tails : List (List ℤ)
two_tails = on_line minus1 ∷ on_line (pos 0) ∷ on_line (pos 1) ∷ []

-- the corners of a triangle around the origin, the first of them twice
abbrev pub around_origin : List (List ℤ)
around_origin = in_plane minus1 minus1 ∷ in_plane minus1 minus1 ∷ in_plane (pos 2) minus1 ∷ in_plane minus1 (pos 2) ∷ []

-- points to the right of the origin and above it
abbrev pub beside_origin : List (List ℤ)
beside_origin = in_plane (pos 0) minus1 ∷ in_plane (pos 0) (pos 2) ∷ in_plane (pos 1) (pos 0) ∷ []
