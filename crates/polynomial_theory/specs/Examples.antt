-- Worked examples. This project's own.
use Rattle.std.specs.Prelude.{[], ◌∷◌, pos, negsuc}
use Rattle.lattice_theory.specs.Vector.{entry}
use Rattle.polynomial_theory.specs.Series.{Series}

-- 1 + 2t
abbrev pub one_and_two_t : Series
one_and_two_t = entry (pos 1 ∷ pos 2 ∷ [])

-- 3 - t
abbrev pub three_less_t : Series
three_less_t = entry (pos 3 ∷ negsuc 0 ∷ [])
