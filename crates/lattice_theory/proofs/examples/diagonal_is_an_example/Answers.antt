use Rattle.std.proofs.Common.{◌≡◌, ◌≤◌, ◌<◌, ℕ, zero, suc, List, ℤ, pos, refl, arith}
use Rattle.std.proofs.lemmas.Int.{ints}
use Rattle.std.proofs.lemmas.List.Elements.{All-from_recursion}
use Rattle.lattice_theory.specs.Vector.{entry, EndsAt}
use Rattle.lattice_theory.specs.Affine.{Affine, value, Vanishes}
use Rattle.lattice_theory.specs.Examples.{diagonal, in_plane, function, minus1}
use Rattle.lattice_theory.proofs.Divisibility.{divides_one}
use Rattle.lattice_theory.proofs.ExampleSteps.{by_two}
use Rattle.lattice_theory.proofs.examples.diagonal_is_an_example.Goals as goal

-- no function of x alone vanishes on the diagonal
later : (a b c : ℤ) → Vanishes diagonal (function (in_plane a b) c) → (k : ℕ) → EndsAt (in_plane a b) k → 1 ≤ k
later a b c v (suc k) e = omega arith
later a b c v zero e =
    let first = v 0 (in_plane a b) (omega arith) in
    let second = v 1 (in_plane a b) (omega arith) in
    let none = e.zeros 1 (omega arith) in
    let zero_entry : a ≡ pos 0 = omega (arith, ints) in
    absurd (e.nonzero zero_entry)

-- the normal ends at its second entry
ends : EndsAt (in_plane minus1 (pos 1)) 1
ends = record { nonzero = λ z. omega (arith, ints); zeros = beyond }
  where
    beyond : (j : ℕ) → 1 < j → entry (in_plane minus1 (pos 1)) j ≡ pos 0
    beyond zero h = absurd (omega arith)
    beyond (suc zero) h = absurd (omega arith)
    beyond (suc (suc j)) h = refl

pub returns : goal.returns
returns c =
    let f : Affine = function (in_plane minus1 (pos 1)) (pos 0) in
    let on : List ℤ → Type 0 = λ p. value f p ≡ pos 0 in
    record {
      dimension = refl;
      primitive = λ d h. divides_one d (h 1 (pos 0) (omega arith));
      vanishes = All-from_recursion on diagonal (refl, (refl, (refl, tt)));
      place = 1;
      ends = ends;
      positive = omega (arith, ints);
      earliest = λ g k e v. by_two (λ x. (c : ℤ) → Vanishes diagonal (function x c) → (k : ℕ) → EndsAt x k
          → 1 ≤ k) later g.normal e g.constant v k;
    }
