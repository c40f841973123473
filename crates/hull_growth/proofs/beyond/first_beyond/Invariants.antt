use Rattle.std.specs.List.{AllWithin}
use Rattle.lattice_theory.specs.Affine.{IsNonnegative}
use Rattle.hull_growth.proofs.beyond.first_beyond.Given as goal

abbrev pub invariant-loop-facet : goal.invariant-loop-facet
invariant-loop-facet l = AllWithin (IsNonnegative l.points) l.functions l.from l.facet
