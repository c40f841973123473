use Rattle.std.proofs.Common.{pos, refl, arith}
use Rattle.std.proofs.lemmas.Int.{ints}
use Rattle.lattice_theory.specs.Examples.{octahedron, in_space, minus1}
use Rattle.lattice_theory.proofs.Divisibility.{divides_one}
use Rattle.lattice_theory.proofs.ExampleSteps.{space_facet, space_multiple, one_nonzero}
use Rattle.lattice_theory.proofs.examples.octahedron_is_an_example.Goals as goal

pub returns : goal.returns
returns c =
    space_facet octahedron (pos 1) (pos 1) (pos 1) (pos 1) (λ d h. divides_one d (h 0 (pos 0) (omega arith))) refl (λ a b c d v.
    let first = v (in_space minus1 (pos 0) (pos 0)) (0, omega arith, refl) refl in
    let second = v (in_space (pos 0) minus1 (pos 0)) (1, omega arith, refl) refl in
    let third = v (in_space (pos 0) (pos 0) minus1) (2, omega arith, refl) refl in
    space_multiple (pos 1) a a b c d (pos 1) (pos 1) (pos 1) (pos 1) one_nonzero (omega (arith, ints)) (omega (arith, ints))
    (omega (arith, ints)) (omega (arith, ints)))
