-- The laws of numbered faces, as statements.
use Rattle.std.specs.Prelude.{ℕ}
use Rattle.face_poset.specs.Faces.{TableState}
use Rattle.polynomial_theory.specs.Series.{Series}
use Rattle.stringy_theory.specs.CountedFaces.{HasRisingRanks}
use Rattle.poset_g.specs.Numbered.{counted, HasAllFaces}

-- along the order of a table's faces ranks rise
abbrev pub RanksRise : Type 0
RanksRise = (table : TableState) → HasAllFaces table → (top : ℕ) (l l_dual : ℕ → Series) → HasRisingRanks (counted table top l l_dual)
