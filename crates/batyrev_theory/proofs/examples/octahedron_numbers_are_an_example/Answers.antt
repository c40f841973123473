use Rattle.std.proofs.Common.{refl}
use Rattle.batyrev_theory.proofs.examples.octahedron_numbers_are_an_example.Goals as goal

pub returns : goal.returns
returns c = record { in_dual_facets = refl; in_facets = refl; cor = refl; pic = refl; deformations = refl }
