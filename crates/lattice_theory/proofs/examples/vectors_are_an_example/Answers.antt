use Rattle.std.proofs.Common.{◌≡◌, [], ◌∷◌, pos, ◌<ℤ◌, inl, ⊎_elim, refl, arith}
use Rattle.std.proofs.lemmas.Int.{ints}
use Rattle.std.proofs.lemmas.List.Elements.{All-from_recursion}
use Rattle.lattice_theory.specs.Vector.{DividesInteger}
use Rattle.lattice_theory.specs.Order.{LexLess}
use Rattle.lattice_theory.specs.Examples.{in_plane, minus1}
use Rattle.lattice_theory.proofs.Divisibility.{divides_neighbors}
use Rattle.lattice_theory.proofs.examples.vectors_are_an_example.Goals as goal

-- (-1, 5) comes before (0, -1)
before : LexLess (in_plane minus1 (pos 5)) (in_plane (pos 0) minus1)
before = inl (omega (arith, ints))

-- and not behind it
behind : LexLess (in_plane (pos 0) minus1) (in_plane minus1 (pos 5)) → ⊥
behind h = ⊎_elim
    (λ (less : pos 0 <ℤ minus1). absurd (omega (arith, ints)))
    (λ (same : (pos 0 ≡ minus1) × LexLess (minus1 ∷ []) (pos 5 ∷ [])). let e = same.0 in absurd (omega (arith, ints)))
    h

pub returns : goal.returns
returns c =
    record {
      sum = refl;
      size = refl;
      primitive = λ d h. divides_neighbors d (pos 3) (pos 2) refl (h 1 (pos 0) (omega arith)) (h 0 (pos 0) (omega arith));
      not_primitive = λ h.
          let two : 2 ≡ 1 = h 2 (All-from_recursion (DividesInteger 2) (in_plane (pos 2) (pos 4)) ((pos 1, refl), ((pos 2, refl), tt))) in
          omega arith;
      before = before;
      ascends = (
        All-from_recursion (LexLess (in_plane minus1 (pos 5))) (in_plane (pos 0) minus1 ∷ []) (before, tt),
        (λ k d within. absurd (omega arith), tt),
      );
      descends = λ h. behind (h.0 0 (in_plane (pos 0) (pos 0)) (omega arith));
    }
