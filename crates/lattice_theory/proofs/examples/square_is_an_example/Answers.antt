use Rattle.std.proofs.Common.{◌≡◌, length, List, ℤ, pos, ◌≤ℤ◌, ◌*ℤ◌, ap, refl, arith}
use Rattle.std.proofs.lemmas.Int.{ints}
use Rattle.std.proofs.lemmas.List.Elements.{All-from_recursion, All-contains}
use Rattle.lattice_theory.specs.Vector.{entry, others}
use Rattle.lattice_theory.specs.Affine.{Affine, value, VanishesWith, IsMultiple}
use Rattle.lattice_theory.specs.Examples.{square, in_plane, function, minus1}
use Rattle.lattice_theory.proofs.Divisibility.{divides_one}
use Rattle.lattice_theory.proofs.ExampleSteps.{by_two, plane_facet, plane_multiple, one_nonzero, nonnegative_points}
use Rattle.lattice_theory.proofs.examples.square_is_an_example.Goals as goal

-- a function that is nonnegative on two opposite corners is nonnegative between them
between : (a b c : ℤ) → pos 0 ≤ℤ value (function (in_plane a b) c) (in_plane minus1 minus1)
    → pos 0 ≤ℤ value (function (in_plane a b) c) (in_plane (pos 1) (pos 1))
    → pos 0 ≤ℤ value (function (in_plane a b) c) (in_plane (pos 0) (pos 0))
between a b c h k = omega (arith, ints)

center_between : (f : Affine) → length f.normal ≡ 2 → pos 0 ≤ℤ value f (in_plane minus1 minus1)
    → pos 0 ≤ℤ value f (in_plane (pos 1) (pos 1)) → pos 0 ≤ℤ value f (in_plane (pos 0) (pos 0))
center_between f e = by_two (λ x. (c : ℤ) → pos 0 ≤ℤ value (function x c) (in_plane minus1 minus1)
    → pos 0 ≤ℤ value (function x c) (in_plane (pos 1) (pos 1)) → pos 0 ≤ℤ value (function x c) (in_plane (pos 0) (pos 0))) between f.normal
    e f.constant

-- x + 1 vanishes at the one point of the square at which x + y + 2 vanishes
vanishes_with : VanishesWith square (function (in_plane (pos 1) (pos 1)) (pos 2)) (function (in_plane (pos 1) (pos 0)) (pos 1))
vanishes_with p member =
    let f : Affine = function (in_plane (pos 1) (pos 1)) (pos 2) in
    let g : Affine = function (in_plane (pos 1) (pos 0)) (pos 1) in
    All-contains (λ q. value f q ≡ pos 0 → value g q ≡ pos 0) square p (All-from_recursion (λ q. value f q ≡ pos 0
    → value g q ≡ pos 0) square (
      λ z. refl,
      (
        λ z. omega (arith, ints),
        (
          λ z. absurd (omega (arith, ints)),
          (λ z. absurd (omega (arith, ints)), (λ z. absurd (omega (arith, ints)), (λ z. absurd (omega (arith, ints)), tt))),
        ),
      ),
    )) member

-- x + 1 is no multiple of x + y + 2
not_multiple : IsMultiple (function (in_plane (pos 1) (pos 0)) (pos 1)) (function (in_plane (pos 1) (pos 1)) (pos 2)) → ⊥
not_multiple m =
    let first : m.left *ℤ pos 1 ≡ m.right *ℤ pos 1 = ap (λ (x : List ℤ). entry x 0) m.normals in
    let second : m.left *ℤ pos 0 ≡ m.right *ℤ pos 1 = ap (λ (x : List ℤ). entry x 1) m.normals in
    m.nonzero (omega (arith, ints))

pub returns : goal.returns
returns c =
    record {
      center_inside = λ f e h. center_between f e (h 0 (in_plane (pos 0) (pos 0)) (omega arith))
          (h 3 (in_plane (pos 0) (pos 0)) (omega arith));
      center_no_vertex = λ v. v.outside (λ f e h. center_between f e (h 0 (in_plane (pos 0) (pos 0)) (omega arith))
          (h 3 (in_plane (pos 0) (pos 0)) (omega arith)));
      corner_vertex = record {
        member = (3, omega arith, refl);
        outside = λ inside. let below =
            inside (function (in_plane minus1 minus1) (pos 1)) refl (nonnegative_points (others square (in_plane (pos 1) (pos 1)))
            (function (in_plane minus1 minus1) (pos 1)) refl) in omega (arith, ints);
      };
      facet = plane_facet square (pos 1) (pos 0) (pos 1) (λ d h. divides_one d (h 0 (pos 0) (omega arith))) refl (λ a b c v.
          let first = v (in_plane minus1 minus1) (0, omega arith, refl) refl in
          let second = v (in_plane minus1 (pos 1)) (1, omega arith, refl) refl in
          plane_multiple (pos 1) a a b c (pos 1) (pos 0) (pos 1) one_nonzero (omega (arith, ints)) (omega (arith, ints))
          (omega (arith, ints)));
      no_facet = λ facet. not_multiple (facet.determined (function (in_plane (pos 1) (pos 0)) (pos 1)) refl vanishes_with);
    }
