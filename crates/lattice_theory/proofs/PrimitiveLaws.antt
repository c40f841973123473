-- The laws of primitive vectors.
use Rattle.lattice_theory.specs.Laws.{PrimitiveMultiple, PrimitivePart, PrimitiveSame}
use Rattle.lattice_theory.proofs.Divisibility.{multiple_of_primitive, primitive_part, primitive_same}

-- a vector on the line of a primitive one
pub primitive_multiple_lem : PrimitiveMultiple
primitive_multiple_lem q p x f n h e = multiple_of_primitive q p x f n h e

-- a vector that isn't 0
pub primitive_part_lem : PrimitivePart
primitive_part_lem v n = let s = primitive_part v n in (s.factor, s.part, s.positive, s.primitive, s.same)

-- two primitive vectors
pub primitive_same_lem : PrimitiveSame
primitive_same_lem q p x f n hx hf e = primitive_same q p x f n hx hf e
