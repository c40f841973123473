-- A worked example: a triangle with edges of length 3, whose hypersurface is a curve of genus 1. This project's own.
use Rattle.std.specs.Prelude.{ℕ, ◌+◌, ◌*◌, List, slice_index_or}
use Rattle.dual_pair.specs.declared.side.Side.{Side}
use Rattle.dual_pair.specs.declared.side.Side.TheVariants as sides
use Rattle.stringy.specs.ConeNumbers.{PointNumbers}

-- the numbers of eight faces in three degrees, face by face, first on one side and then on the other
abbrev pub triangle_place : Side → ℕ → ℕ → ℕ
triangle_place sides.M s f = 3 * f + s
triangle_place sides.N s f = 24 + 3 * f + s

abbrev pub triangle_numbers : List ℕ → PointNumbers
triangle_numbers listed = record { dim = 3; faces = 8; number = λ side s f. slice_index_or listed (triangle_place side s f) 0 }
