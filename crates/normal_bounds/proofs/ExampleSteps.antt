-- A worked example: the points (2, 0) and (-1, 1) of the plane have absolute
-- sum 2 and fix the function x + 3y - 2. Its entries 1 and 3 are at most 4.
use Rattle.std.proofs.Common.{◌≡◌, zero, suc, ◌≤◌, List, [], ◌∷◌, length, ℤ, pos, negsuc, ◌+ℤ◌, ◌*ℤ◌, nat_abs, refl, ap₂, arith}
use Rattle.std.proofs.lemmas.Int.{ints}
use Rattle.std.proofs.lemmas.List.Elements.{All-nil, All-cons, All-head, All-tail}
use Rattle.lattice_theory.specs.Vector.{dot}
use Rattle.lattice_theory.specs.Affine.{Affine, value, IsMultiple}
use Rattle.lattice_theory.specs.Size.{absolute_sum}
use Rattle.normal_bounds.specs.Bounds.{EntriesWithin, IsFixedBy}
use Rattle.lattice_theory.proofs.Integers.{linear}
use Rattle.lattice_theory.proofs.Divisibility.{primitive_from_combination}
use Rattle.normal_bounds.proofs.Normals.{normal_bound_lem}

-- the points
abbrev p : List ℤ
p = pos 2 ∷ (pos 0 ∷ [])

-- the second
abbrev q : List ℤ
q = negsuc 0 ∷ (pos 1 ∷ [])

-- the function
abbrev f : Affine
f = record { normal = pos 1 ∷ (pos 3 ∷ []); constant = negsuc 1 }

-- a function that vanishes at both is a multiple of it
multiple : (normal : List ℤ) (c : ℤ) → length normal ≡ 2 → dot normal p +ℤ c ≡ pos 0 → dot normal q +ℤ c ≡ pos 0
    → IsMultiple (record { normal = normal; constant = c }) f
multiple [] c l e e' = absurd (omega arith)
multiple (a ∷ []) c l e e' = absurd (omega arith)
multiple (a ∷ (b ∷ [])) c l e e' = record {
  left = pos 1;
  right = a;
  nonzero = λ (u : pos 1 ≡ pos 0). absurd (omega (arith, linear));
  normals = ap₂ (λ (u v : ℤ). u ∷ (v ∷ [])) (first a) (second a b c e e');
  constants = third a b c e;
}
  where
    first : (a : ℤ) → pos 1 *ℤ a ≡ a *ℤ pos 1
    first a = omega (arith, ints)

    second : (a b c : ℤ) → (a *ℤ pos 2 +ℤ (b *ℤ pos 0 +ℤ pos 0)) +ℤ c ≡ pos 0 → (a *ℤ negsuc 0 +ℤ (b *ℤ pos 1 +ℤ pos 0)) +ℤ c ≡ pos 0
        → pos 1 *ℤ b ≡ a *ℤ pos 3
    second a b c e e' = omega (arith, ints)

    third : (a b c : ℤ) → (a *ℤ pos 2 +ℤ (b *ℤ pos 0 +ℤ pos 0)) +ℤ c ≡ pos 0 → pos 1 *ℤ c ≡ a *ℤ negsuc 1
    third a b c e = omega (arith, ints)
multiple (a ∷ (b ∷ (d ∷ x))) c l e e' = absurd (omega arith)

-- the points fix the function
pub fixed_by : IsFixedBy 2 (p ∷ (q ∷ [])) f
fixed_by = record {
  dimension = refl;
  primitive = primitive_from_combination (pos 1 ∷ []) f.normal refl;
  vanishes = All-cons (λ x. value f x ≡ pos 0) p (q ∷ []) refl
      (All-cons (λ x. value f x ≡ pos 0) q [] refl (All-nil (λ x. value f x ≡ pos 0)));
  determined = λ g l z. multiple g.normal g.constant l (All-head (λ x. value g x ≡ pos 0) p (q ∷ []) z)
      (All-head (λ x. value g x ≡ pos 0) q [] (All-tail (λ x. value g x ≡ pos 0) p (q ∷ []) z));
}

-- what the law says of it
pub example_bound : EntriesWithin 4 f.normal × (nat_abs f.constant ≤ 8) × ((x : List ℤ) → absolute_sum x ≤ 2 → nat_abs (value f x) ≤ 16)
example_bound = normal_bound_lem 1 2 (p ∷ (q ∷ [])) f (omega arith) refl
    (All-cons (λ x. length x ≡ 2) p (q ∷ []) refl (All-cons (λ x. length x ≡ 2) q [] refl (All-nil (λ x. length x ≡ 2))))
    (All-cons (λ x. absolute_sum x ≤ 2) p (q ∷ []) (omega arith)
    (All-cons (λ x. absolute_sum x ≤ 2) q [] (omega arith) (All-nil (λ x. absolute_sum x ≤ 2)))) fixed_by

-- the normal's entries
pub within_three : EntriesWithin 3 f.normal
within_three zero = omega arith
within_three (suc zero) = omega arith
within_three (suc (suc i)) = omega arith

pub above_two : EntriesWithin 2 f.normal → ⊥
above_two h = let second : 3 ≤ 2 = h 1 in absurd (omega arith)
