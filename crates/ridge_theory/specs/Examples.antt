-- Facets of the square with the corners (-1, -1), (-1, 1), (1, -1) and (1, 1), and a point outside of it, as a worked example. This
-- project's own.
use Rattle.std.specs.Prelude.{List, ℤ, pos}
use Rattle.lattice_theory.specs.Affine.{Affine}
use Rattle.lattice_theory.specs.Examples.{in_plane, function, minus1}

-- the lower, the upper and the right side
abbrev pub lower : Affine
lower = function (in_plane (pos 0) (pos 1)) (pos 1)

abbrev pub upper : Affine
upper = function (in_plane (pos 0) minus1) (pos 1)

abbrev pub right_side : Affine
right_side = function (in_plane minus1 (pos 0)) (pos 1)

-- a point to the right of it, and the side from its lower right corner to this point
abbrev pub outside : List ℤ
outside = in_plane (pos 3) (pos 0)

abbrev pub slanted : Affine
slanted = function (in_plane minus1 (pos 2)) (pos 3)
