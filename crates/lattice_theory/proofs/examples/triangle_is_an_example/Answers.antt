use Rattle.std.proofs.Common.{pos, refl, arith}
use Rattle.std.proofs.lemmas.Int.{ints}
use Rattle.lattice_theory.specs.Examples.{triangle, in_plane, minus1, minus3, minus4}
use Rattle.lattice_theory.proofs.Divisibility.{divides_one, divides_neighbors}
use Rattle.lattice_theory.proofs.ExampleSteps.{plane_facet, plane_multiple, one_nonzero}
use Rattle.lattice_theory.proofs.examples.triangle_is_an_example.Goals as goal

pub returns : goal.returns
returns c =
    record {
      lower = plane_facet triangle (pos 0) (pos 1) (pos 1) (λ d h. divides_one d (h 1 (pos 0) (omega arith))) refl (λ a b c v.
          let first = v (in_plane minus1 minus1) (0, omega arith, refl) refl in
          let second = v (in_plane (pos 3) minus1) (1, omega arith, refl) refl in
          plane_multiple (pos 1) b a b c (pos 0) (pos 1) (pos 1) one_nonzero (omega (arith, ints)) (omega (arith, ints))
          (omega (arith, ints)));
      left = plane_facet triangle (pos 1) (pos 0) (pos 1) (λ d h. divides_one d (h 0 (pos 0) (omega arith))) refl (λ a b c v.
          let first = v (in_plane minus1 minus1) (0, omega arith, refl) refl in
          let second = v (in_plane minus1 (pos 2)) (2, omega arith, refl) refl in
          plane_multiple (pos 1) a a b c (pos 1) (pos 0) (pos 1) one_nonzero (omega (arith, ints)) (omega (arith, ints))
          (omega (arith, ints)));
      slanted = plane_facet triangle minus3 minus4 (pos 5) (λ d h. divides_neighbors d minus3 minus4 refl (h 0 (pos 0) (omega arith))
          (h 1 (pos 0) (omega arith))) refl (λ a b c v.
          let first = v (in_plane (pos 3) minus1) (1, omega arith, refl) refl in
          let second = v (in_plane minus1 (pos 2)) (2, omega arith, refl) refl in
          plane_multiple minus4 b a b c minus3 minus4 (pos 5) (λ z. omega (arith, ints)) (omega (arith, ints)) (omega (arith, ints))
          (omega (arith, ints)));
    }
