use Rattle.std.proofs.Common.{◌≡◌, ℕ, zero, suc, List, [], ◌∷◌, ℤ, pos, neg_ℤ, ◌+ℤ◌, ◌*ℤ◌, ◌⊎◌, inl, inr, ⊎_elim, refl, sym, arith}
use Rattle.std.proofs.lemmas.Int.{ints}
use Rattle.std.specs.List.{Contains}
use Rattle.lattice_theory.specs.Vector.{entry}
use Rattle.lattice_theory.specs.Affine.{value}
use Rattle.lattice_theory.specs.Combinations.{IsRationalCombination, IsCombinationAt}
use Rattle.lattice_theory.specs.Facet.{IsFacet}
use Rattle.lattice_theory.specs.Examples.{on_line, in_plane, function, minus1, minus2, segment, square}
use Rattle.lattice_theory.proofs.Divisibility.{divides_one, divides_minus_one}
use Rattle.lattice_theory.proofs.ExampleSteps.{by_two, plane_facet, plane_multiple, one_nonzero}
use Rattle.lattice_theory.proofs.Unique.{member_cases, no_member}
use Rattle.ridge_theory.specs.Ridges.{IsRidge}
use Rattle.ridge_theory.specs.Examples.{lower, upper, right_side, outside, slanted}
use Rattle.ridge_theory.proofs.examples.sides_are_an_example.Goals as goal

-- a function that vanishes at the common corner of the two sides is a combination of them
at_corner : (a b c : ℤ) → value (function (in_plane a b) c) (in_plane (pos 1) minus1) ≡ pos 0
    → IsRationalCombination lower right_side (function (in_plane a b) c)
at_corner a b c z = record {
  whole = pos 1;
  left = b;
  right = neg_ℤ a;
  nonzero = one_nonzero;
  normals = entries;
  constants = omega (arith, ints);
}
  where
    entries : (i : ℕ) → pos 1 *ℤ entry (in_plane a b) i ≡ b *ℤ entry lower.normal i +ℤ neg_ℤ a *ℤ entry right_side.normal i
    entries zero = omega (arith, ints)
    entries (suc zero) = omega (arith, ints)
    entries (suc (suc i)) = omega (arith, ints)

corner_ridge : IsRidge 2 square lower right_side
corner_ridge u e with_both = by_two
    (λ x. (c : ℤ) → value (function x c) (in_plane (pos 1) minus1) ≡ pos 0 → IsRationalCombination lower right_side (function x c))
    at_corner u.normal e u.constant (with_both (in_plane (pos 1) minus1) (2, omega arith, refl) refl refl)

-- nowhere do both the lower and the upper side vanish
apart : (p : List ℤ) → value lower p ≡ pos 0 → value upper p ≡ pos 0 → ⊥
apart [] e e' = absurd (omega (arith, ints))
apart (a ∷ []) e e' = absurd (omega (arith, ints))
apart (a ∷ b ∷ p) e e' = absurd (omega (arith, ints))

-- so x would be a combination of them
no_combination : IsRationalCombination lower upper (function (in_plane (pos 1) (pos 0)) (pos 0)) → ⊥
no_combination k = let first = k.normals 0 in k.nonzero (omega (arith, ints, first))

lower_facet : IsFacet 2 square lower
lower_facet = plane_facet square (pos 0) (pos 1) (pos 1) (λ d h. divides_one d (h 1 (pos 1) (omega arith))) refl (λ a b c v.
    let first = v (in_plane minus1 minus1) (0, omega arith, refl) refl in
    let second = v (in_plane (pos 1) minus1) (2, omega arith, refl) refl in
    plane_multiple (pos 1) b a b c (pos 0) (pos 1) (pos 1) one_nonzero (omega (arith, ints)) (omega (arith, ints)) (omega (arith, ints)))

right_facet : IsFacet 2 square right_side
right_facet = plane_facet square minus1 (pos 0) (pos 1) (λ d h. divides_minus_one d (h 0 minus1 (omega arith))) refl (λ a b c v.
    let first = v (in_plane (pos 1) minus1) (2, omega arith, refl) refl in
    let second = v (in_plane (pos 1) (pos 1)) (3, omega arith, refl) refl in
    plane_multiple (pos 1) (neg_ℤ a) a b c minus1 (pos 0) (pos 1) one_nonzero (omega (arith, ints)) (omega (arith, ints))
    (omega (arith, ints)))

-- 1 (-x + 2 y + 3) is 2 (y + 1) and 1 (-x + 1)
slanted_entries : (i : ℕ) → pos 1 *ℤ entry slanted.normal i ≡ pos 2 *ℤ entry lower.normal i +ℤ pos 1 *ℤ entry right_side.normal i
slanted_entries zero = refl
slanted_entries (suc zero) = refl
slanted_entries (suc (suc i)) = refl

slanted_combination : IsCombinationAt lower right_side outside slanted
slanted_combination = record {
  dimension = refl;
  primitive = λ d h. divides_minus_one d (h 0 minus1 (omega arith));
  vanishes = refl;
  combination = record {
    whole = 1;
    left = 2;
    right = 1;
    positive = (omega arith, omega arith, omega arith);
    normals = slanted_entries;
    constants = refl;
  };
}

-- the ends of the segment
ends : (x : List ℤ) → Contains segment x → Contains (on_line minus2 ∷ []) x ⊎ (x ≡ on_line (pos 5))
ends x c = by (member_cases (on_line minus2) x (on_line (pos 5) ∷ []) c)
  where
    last : (on_line (pos 5) ≡ x) ⊎ Contains [] x → x ≡ on_line (pos 5)
    last (inl e) = sym e
    last (inr k) = absurd (no_member x k)

    by : (on_line minus2 ≡ x) ⊎ Contains (on_line (pos 5) ∷ []) x → Contains (on_line minus2 ∷ []) x ⊎ (x ≡ on_line (pos 5))
    by (inl e) = inl (0, omega arith, e)
    by (inr k) = inr (last (member_cases (on_line (pos 5)) x [] k))

back : (x : List ℤ) → Contains (on_line minus2 ∷ []) x ⊎ (x ≡ on_line (pos 5)) → Contains segment x
back x (inl c) = ⊎_elim
    (λ (e : on_line minus2 ≡ x). (0, omega arith, e))
    (λ (k : Contains [] x). absurd (no_member x k))
    (member_cases (on_line minus2) x [] c)
back x (inr e) = (1, omega arith, sym e)

pub returns : goal.returns
returns c = record {
  ridge = corner_ridge;
  no_ridge = λ ridge. no_combination (ridge (function (in_plane (pos 1) (pos 0)) (pos 0)) refl (λ p k e e'. absurd (apart p e e')));
  new = record {
    left = lower_facet;
    right = right_facet;
    before = omega (arith, ints);
    behind = omega (arith, ints);
    ridge = corner_ridge;
    combination = slanted_combination;
  };
  one_more = λ x. (ends x, back x);
}
