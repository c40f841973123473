-- A worked example: the vectors that pair to 0 with (1, 2, 3) and (4, 5, 6) are the multiples of (1, -2, 1).
use Rattle.std.proofs.Common.{◌≡◌, ℕ, zero, suc, ◌≤◌, List, [], ◌∷◌, ℤ, pos, negsuc, ◌-ℤ◌, ◌*ℤ◌, refl, arith}
use Rattle.lattice_theory.specs.Vector.{entry, dot}
use Rattle.lattice_theory.specs.Examples.{in_plane}
use Rattle.elimination.specs.Elimination.{Member, pairings, IsCombination, IsKernel, ArePivots, IsReduced, AreSeparated}
use Rattle.lattice_theory.proofs.Integers.{linear}
use Rattle.std.proofs.lemmas.Int.{ints}
use Rattle.std.proofs.lemmas.List.Elements.{All-nil, All-cons, All-head}
use Rattle.elimination.proofs.KernelForm.{kernel_out}
use Rattle.elimination.proofs.KernelStart.{units_kernel, units_pivots}
use Rattle.elimination.proofs.KernelLaws.{kernel_steps_lem}

-- a member of length 3
abbrev member : ℕ → ℤ → ℤ → ℤ → Member
member i a b c = record { own = i; vector = a ∷ (b ∷ (c ∷ [])) }

-- the vectors, and the members that the two steps leave
abbrev v1 : List ℤ
v1 = pos 1 ∷ (pos 2 ∷ (pos 3 ∷ []))

-- the second vector
abbrev v2 : List ℤ
v2 = pos 4 ∷ (pos 5 ∷ (pos 6 ∷ []))

-- the unit members
abbrev e0 : Member
e0 = member 0 (pos 1) (pos 0) (pos 0)

-- the second
abbrev e1 : Member
e1 = member 1 (pos 0) (pos 1) (pos 0)

-- the third
abbrev e2 : Member
e2 = member 2 (pos 0) (pos 0) (pos 1)

-- after the first step
abbrev k1 : Member
k1 = member 1 (negsuc 1) (pos 1) (pos 0)

-- the other
abbrev k2 : Member
k2 = member 2 (negsuc 2) (pos 0) (pos 1)

-- after the second step
abbrev last : Member
last = member 2 (pos 1) (negsuc 1) (pos 1)

-- (-2, 1, 0) = 1 e1 - 2 e0 and (-3, 0, 1) = 1 e2 - 3 e0
first_of_two : IsReduced e0 v1 e1 k1
first_of_two = record {
  own = refl;
  dimension = refl;
  positive = omega (arith, linear);
  factor = pos 1;
  nonzero = λ (e : pos 1 ≡ pos 0). absurd (omega (arith, linear));
  entries = entries;
}
  where
    entries : (j : ℕ) → pos 1 *ℤ entry k1.vector j ≡ dot e0.vector v1 *ℤ entry e1.vector j -ℤ dot e1.vector v1 *ℤ entry e0.vector j
    entries zero = refl
    entries (suc zero) = refl
    entries (suc (suc zero)) = refl
    entries (suc (suc (suc j))) = refl

-- the other of the two
second_of_two : IsReduced e0 v1 e2 k2
second_of_two = record {
  own = refl;
  dimension = refl;
  positive = omega (arith, linear);
  factor = pos 1;
  nonzero = λ (e : pos 1 ≡ pos 0). absurd (omega (arith, linear));
  entries = entries;
}
  where
    entries : (j : ℕ) → pos 1 *ℤ entry k2.vector j ≡ dot e0.vector v1 *ℤ entry e2.vector j -ℤ dot e2.vector v1 *ℤ entry e0.vector j
    entries zero = refl
    entries (suc zero) = refl
    entries (suc (suc zero)) = refl
    entries (suc (suc (suc j))) = refl

-- -3 (1, -2, 1) = -3 (-3, 0, 1) - -6 (-2, 1, 0)
pub the_last : IsReduced k1 v2 k2 last
the_last = record {
  own = refl;
  dimension = refl;
  positive = omega (arith, linear);
  factor = negsuc 2;
  nonzero = λ (e : negsuc 2 ≡ pos 0). absurd (omega (arith, linear));
  entries = entries;
}
  where
    entries : (j : ℕ) → negsuc 2 *ℤ entry last.vector j ≡ dot k1.vector v2 *ℤ entry k2.vector j -ℤ dot k2.vector v2 *ℤ entry k1.vector j
    entries zero = refl
    entries (suc zero) = refl
    entries (suc (suc zero)) = refl
    entries (suc (suc (suc j))) = refl

-- the first step, with v1 as pivot vector
after_first : IsKernel 3 (v1 ∷ []) (k1 ∷ (k2 ∷ [])) × ArePivots 3 (v1 ∷ []) (v1 ∷ []) (k1 ∷ (k2 ∷ []))
after_first = kernel_steps_lem 3 [] [] [] e0 (e1 ∷ (e2 ∷ [])) (k1 ∷ (k2 ∷ [])) v1 (kernel_out (units_kernel 3)) (units_pivots 3)
    (All-nil (λ k. dot k.vector v1 ≡ pos 0)) (λ (e : pos 1 ≡ pos 0). absurd (omega (arith, linear)))
    (All-cons (λ k. 0 ≤ k.own) e1 (e2 ∷ []) (omega arith) (All-cons (λ k. 0 ≤ k.own) e2 [] (omega arith) (All-nil (λ k. 0 ≤ k.own))))
    (first_of_two, (second_of_two, tt))

-- the second step: both vectors are pivots, and one member is left
pub after_both : IsKernel 3 (v1 ∷ (v2 ∷ [])) (last ∷ []) × ArePivots 3 (v1 ∷ (v2 ∷ [])) (v1 ∷ (v2 ∷ [])) (last ∷ [])
after_both = kernel_steps_lem 3 (v1 ∷ []) (v1 ∷ []) [] k1 (k2 ∷ []) (last ∷ []) v2 after_first.0 after_first.1
    (All-nil (λ k. dot k.vector v2 ≡ pos 0)) (λ (e : negsuc 2 ≡ pos 0). absurd (omega (arith, linear)))
    (All-cons (λ k. 1 ≤ k.own) k2 [] (omega arith) (All-nil (λ k. 1 ≤ k.own))) (the_last, tt)

-- (-2, 4, -2) is -2 times the member
twice : (x : List ℤ) → pos 1 *ℤ dot (negsuc 1 ∷ (pos 4 ∷ (negsuc 1 ∷ []))) x ≡ pairings (negsuc 1 ∷ []) (last ∷ []) x
twice [] = refl
twice (a ∷ []) = omega (arith, ints)
twice (a ∷ (b ∷ [])) = omega (arith, ints)
twice (a ∷ (b ∷ (c ∷ x))) = omega (arith, ints)

-- so it is a combination
pub combination : IsCombination (last ∷ []) (negsuc 1 ∷ (pos 4 ∷ (negsuc 1 ∷ [])))
combination = record { multiplier = 1; positive = omega arith; coefficients = negsuc 1 ∷ []; as_many = refl; sums = twice }

-- (0, 1) tells (1, 2) from (1, 0)
pub told_apart : AreSeparated 2 (in_plane (pos 1) (pos 2) ∷ in_plane (pos 1) (pos 0) ∷ [])
told_apart = (
  record {
    separator = in_plane (pos 0) (pos 1);
    dimension = refl;
    annihilates = All-cons (λ v. dot (in_plane (pos 0) (pos 1)) v ≡ pos 0) (in_plane (pos 1) (pos 0)) [] refl
        (All-nil (λ v. dot (in_plane (pos 0) (pos 1)) v ≡ pos 0));
    nonzero = λ (e : pos 2 ≡ pos 0). absurd (omega (arith, linear));
  },
  (
    record {
      separator = in_plane (pos 1) (pos 0);
      dimension = refl;
      annihilates = All-nil (λ v. dot (in_plane (pos 1) (pos 0)) v ≡ pos 0);
      nonzero = λ (e : pos 1 ≡ pos 0). absurd (omega (arith, linear));
    },
    tt,
  ),
)

-- no vector is told from itself
pub same_together : AreSeparated 2 (in_plane (pos 1) (pos 2) ∷ in_plane (pos 1) (pos 2) ∷ []) → ⊥
same_together (s, rest) = s.nonzero (All-head (λ v. dot s.separator v ≡ pos 0) (in_plane (pos 1) (pos 2)) [] s.annihilates)
