-- The law of this crate, as a statement. This project's own.
use Rattle.std.specs.Prelude.{ℕ, List, length, ℤ}
use Rattle.interior_point_theory.specs.Certificates.{IsSurrounded}
use Rattle.weight_certificates.specs.Surroundings.{IsSurrounding}
use Rattle.weight_certificates.specs.declared.surroundings.Corner.{Corner}

-- points with a surrounding are surrounded
abbrev pub SurroundingsSurround : Type 0
SurroundingsSurround = (points : List (List ℤ)) (corners : List Corner) (divisor : ℤ) (times : ℕ) → IsSurrounding points corners divisor times
    → IsSurrounded (length corners) points
