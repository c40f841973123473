-- A triangle as a worked example: its corners are (0, 0), (1, 0) and (0, 1). This project's own.
use Rattle.std.specs.Prelude.{List, [], ◌∷◌, ℤ, pos}
use Rattle.lattice_theory.specs.Examples.{in_plane}

abbrev pub corner : List (List ℤ)
corner = in_plane (pos 0) (pos 0) ∷ in_plane (pos 1) (pos 0) ∷ in_plane (pos 0) (pos 1) ∷ []
