use Rattle.std.proofs.Common.{◌≡◌, length, ℤ, pos, ◌≤ℤ◌, refl, arith}
use Rattle.std.proofs.lemmas.Int.{ints}
use Rattle.lattice_theory.specs.Affine.{Affine, value, value_over}
use Rattle.lattice_theory.specs.Examples.{on_line, function, minus2, minus4}
use Rattle.lattice_theory.proofs.ExampleSteps.{by_one}
use Rattle.lattice_theory.proofs.SegmentFacets.{lower_facet, upper_facet}
use Rattle.lattice_theory.proofs.examples.segment_is_an_example.Goals as goal

-- what is nonnegative at -2 is so, its constant taken twice, at -4
twice : (a c : ℤ) → pos 0 ≤ℤ value (function (on_line a) c) (on_line minus2)
    → pos 0 ≤ℤ value_over (function (on_line a) c) (on_line minus4) (pos 2)
twice a c h = omega (arith, ints)

-- for any function
over : (f : Affine) → length f.normal ≡ 1 → pos 0 ≤ℤ value f (on_line minus2) → pos 0 ≤ℤ value_over f (on_line minus4) (pos 2)
over f e = by_one
    (λ x. (c : ℤ) → pos 0 ≤ℤ value (function x c) (on_line minus2) → pos 0 ≤ℤ value_over (function x c) (on_line minus4) (pos 2))
    twice f.normal e f.constant

pub returns : goal.returns
returns c =
    record {
      lower = lower_facet;
      upper = upper_facet;
      inside = record { dimension = refl; inside = λ f facet. over f facet.dimension (facet.nonnegative 0 (on_line minus2) (omega arith)) };
      outside = λ d. let below = d.inside (function (on_line (pos 1)) (pos 2)) lower_facet in omega (arith, ints);
    }
