-- Two sets of three vectors, of one part.
use Rattle.std.proofs.Common.{◌≡◌, ℕ, ◌^◌, ◌<◌, List, [], ◌∷◌, length, refl, sym, ◌∙◌, subst, arith}
use Rattle.lattice_theory.specs.Affine.{Affine}
use Rattle.lattice_theory.proofs.Members.{empty, more, all_from_each}
use Rattle.cayley_theory.specs.Bases.{part_in}
use Rattle.base_counts.specs.Counting.{HaveWords}
use Rattle.base_counts.proofs.Words.{two_within}
use Rattle.dilate_counts.specs.Counters.{AreSets}

pub three_vectors : (n : ℕ) (a b c : Affine) (p q : ℕ) (rows : List (List ℕ)) → length a.normal ≡ n → length b.normal ≡ n → length c.normal ≡ n
    → part_in a ≡ 0 → part_in b ≡ 0 → part_in c ≡ 0 → rows ≡ (p ∷ []) ∷ (q ∷ []) ∷ [] → p < 2 ^ 3 → q < 2 ^ 3 → AreSets n 1 (a ∷ b ∷ c ∷ []) 1 rows
three_vectors n a b c p q rows la lb lc pa pb pc e sp sq = record {
  of_parts = all_from_each {P = λ (f : Affine). (length f.normal ≡ n) × (part_in f < 1)}
      (more (la, first a pa) (more (lb, first b pb) (more (lc, first c pc) empty)));
  all_parts = λ j h. (0, omega arith, pa ∙ zero_is j h);
  few = omega arith;
  words = subst (HaveWords 1) (sym e) (all_from_each {P = λ (row : List ℕ). length row ≡ 1} (more refl (more refl empty)));
  wide = omega arith;
  within = two_within 3 p q rows e sp sq;
}
  where
    first : (f : Affine) → part_in f ≡ 0 → part_in f < 1
    first f h = omega (arith, h)

    zero_is : (j : ℕ) → j < 1 → 0 ≡ j
    zero_is j h = omega (arith, h)
