-- A worked example: the segment from -1 to 1, with both normals of its ends in one part. This project's own.
use Rattle.std.specs.Prelude.{ℕ, zero, suc, Bool, false, List, [], ◌∷◌, ℤ, pos}
use Rattle.lattice_theory.specs.Affine.{Affine}
use Rattle.lattice_theory.specs.Examples.{on_line, in_plane, function, minus1}

-- the ends, each with the unit vector of the part
abbrev pub segment_members : List (List ℤ)
segment_members = in_plane minus1 (pos 1) ∷ in_plane (pos 1) (pos 1) ∷ []

-- the normals with the unit vector of the part, and this vector alone
abbrev pub segment_functions : List (List ℤ)
segment_functions = in_plane minus1 (pos 1) ∷ in_plane (pos 0) (pos 1) ∷ in_plane (pos 1) (pos 1) ∷ []

-- the same functions, kept with their part
abbrev pub segment_kept : List Affine
segment_kept = function (on_line minus1) (pos 0) ∷ function (on_line (pos 0)) (pos 0) ∷ function (on_line (pos 1)) (pos 0) ∷ []

-- the points of the segment, and no function
abbrev pub segment_points : List (List ℤ)
segment_points = on_line minus1 ∷ on_line (pos 0) ∷ on_line (pos 1) ∷ []

abbrev pub no_function : List Bool
no_function = false ∷ false ∷ false ∷ []

-- one point has a base of degree 0, and two have bases of degree 1
abbrev pub segment_numbers : ℕ → ℕ
segment_numbers zero = 1
segment_numbers (suc zero) = 2
segment_numbers (suc (suc l)) = 0
