-- An example of a combination: x + 1 and -x - y + 1 at the point (2, 2), where they are 3 and -3, add up to -y + 2.
use Rattle.std.proofs.Common.{◌≡◌, ℕ, zero, suc, ◌<◌, List, [], ◌∷◌, length, ℤ, pos, negsuc, neg_ℤ, ◌+ℤ◌, ◌*ℤ◌, refl, ap₂, arith}
use Rattle.std.proofs.lemmas.List.Elements.{All-nil, All-cons, All-head, All-tail}
use Rattle.std.proofs.lemmas.Int.{ints}
use Rattle.lattice_theory.specs.Vector.{entry, dot}
use Rattle.lattice_theory.specs.Affine.{Affine, value, IsMultiple}
use Rattle.lattice_theory.proofs.Integers.{linear}
use Rattle.lattice_theory.proofs.Divisibility.{primitive_from_combination}
use Rattle.lattice_theory.specs.Combinations.{IsPositiveCombination, IsCombinationAt}
use Rattle.lattice_core.specs.Combine.{HasFixedCombination}

abbrev first : Affine
first = record { normal = pos 1 ∷ pos 0 ∷ []; constant = pos 1 }

abbrev second : Affine
second = record { normal = negsuc 0 ∷ negsuc 0 ∷ []; constant = pos 1 }

abbrev sum : Affine
sum = record { normal = pos 0 ∷ negsuc 0 ∷ []; constant = pos 2 }

abbrev point : List ℤ
point = pos 2 ∷ pos 2 ∷ []

-- two points of the line y = 2
abbrev other : List ℤ
other = pos 0 ∷ pos 2 ∷ []

abbrev line : List (List ℤ)
line = point ∷ other ∷ []

-- each function that vanishes on them is a multiple
multiple : (normal : List ℤ) (c : ℤ) → length normal ≡ 2 → dot normal point +ℤ c ≡ pos 0 → dot normal other +ℤ c ≡ pos 0
    → IsMultiple (record { normal = normal; constant = c }) sum
multiple [] c l e e' = absurd (omega arith)
multiple (a ∷ []) c l e e' = absurd (omega arith)
multiple (a ∷ b ∷ []) c l e e' = record {
  left = pos 1;
  right = neg_ℤ b;
  nonzero = λ (u : pos 1 ≡ pos 0). absurd (omega (arith, linear));
  normals = ap₂ (λ (u v : ℤ). u ∷ v ∷ []) (level a b c e e') (steep b);
  constants = high a b c e e';
}
  where
    level : (a b c : ℤ) → (a *ℤ pos 2 +ℤ (b *ℤ pos 2 +ℤ pos 0)) +ℤ c ≡ pos 0 → (a *ℤ pos 0 +ℤ (b *ℤ pos 2 +ℤ pos 0)) +ℤ c ≡ pos 0
        → pos 1 *ℤ a ≡ neg_ℤ b *ℤ pos 0
    level a b c e e' = omega (arith, ints)

    steep : (b : ℤ) → pos 1 *ℤ b ≡ neg_ℤ b *ℤ negsuc 0
    steep b = omega (arith, ints)

    high : (a b c : ℤ) → (a *ℤ pos 2 +ℤ (b *ℤ pos 2 +ℤ pos 0)) +ℤ c ≡ pos 0 → (a *ℤ pos 0 +ℤ (b *ℤ pos 2 +ℤ pos 0)) +ℤ c ≡ pos 0
        → pos 1 *ℤ c ≡ neg_ℤ b *ℤ pos 2
    high a b c e e' = omega (arith, ints)
multiple (a ∷ b ∷ d ∷ x) c l e e' = absurd (omega arith)

-- entry by entry, 1 (-y + 2) is the sum of the two
entries_add : (i : ℕ) → pos 1 *ℤ entry sum.normal i ≡ pos 1 *ℤ entry first.normal i +ℤ pos 1 *ℤ entry second.normal i
entries_add zero = refl
entries_add (suc zero) = refl
entries_add (suc (suc i)) = refl

-- the combination
pub example_combination : IsCombinationAt first second point sum
example_combination = record {
  dimension = refl;
  primitive = primitive_from_combination (pos 0 ∷ negsuc 0 ∷ []) (pos 0 ∷ negsuc 0 ∷ []) refl;
  vanishes = refl;
  combination = record {
    whole = 1;
    left = 1;
    right = 1;
    positive = (omega arith, omega arith, omega arith);
    normals = entries_add;
    constants = refl;
  };
}

-- the difference 2x + y: its constant would be the sum of two positive numbers
pub difference_is_none : IsPositiveCombination first second (record { normal = pos 2 ∷ pos 1 ∷ []; constant = pos 0 }) → ⊥
difference_is_none h = never h.whole h.left h.right h.positive.1 h.constants
  where
    never : (w l r : ℕ) → 0 < l → pos w *ℤ pos 0 ≡ pos l *ℤ pos 1 +ℤ pos r *ℤ pos 1 → ⊥
    never w l r p e = absurd (omega (arith, ints))

-- the two functions have this combination, and the points of the line fix it
pub example_fixed : HasFixedCombination first second point
example_fixed = record {
  function = sum;
  combination = example_combination;
  fixed = record {
    points = line;
    count = refl;
    dimension = All-cons (λ x. length x ≡ 2) point (other ∷ []) refl
        (All-cons (λ x. length x ≡ 2) other [] refl (All-nil (λ x. length x ≡ 2)));
    small = omega arith;
    fixed = record {
      dimension = refl;
      primitive = primitive_from_combination (pos 0 ∷ negsuc 0 ∷ []) (pos 0 ∷ negsuc 0 ∷ []) refl;
      vanishes = All-cons (λ x. value sum x ≡ pos 0) point (other ∷ []) refl
          (All-cons (λ x. value sum x ≡ pos 0) other [] refl (All-nil (λ x. value sum x ≡ pos 0)));
      determined = λ g l z. multiple g.normal g.constant l (All-head (λ x. value g x ≡ pos 0) point (other ∷ []) z)
          (All-head (λ x. value g x ≡ pos 0) other [] (All-tail (λ x. value g x ≡ pos 0) point (other ∷ []) z));
    };
  };
}
