-- The largest absolute value of the entries of a vector.
use Rattle.std.proofs.Common.{◌≡◌, ℕ, zero, suc, ◌+◌, ◌<◌, ◌≤◌, max, List, [], ◌∷◌, ◌++◌, length, take, drop, ℤ, pos, nat_abs, negsuc, ◌-ℤ◌, ◌*ℤ◌, SFits, w64, refl, sym, ap, ap₂, ◌∙◌, arith, ◌≢◌, ⊎_elim, All}
use Rattle.std.proofs.lemmas.Bool.{cases_eq, cases_lt}
use Rattle.lattice_theory.proofs.Vectors.{entry_past}
use Rattle.std.proofs.lemmas.Int.{ints, fits_signed_from_abs}
use Rattle.std.proofs.lemmas.List.{drop_more, drop_all, take_more, map-append}
use Rattle.lattice_theory.specs.Vector.{entry, scaled, IsUnitVector}
use Rattle.lattice_core.specs.declared.limits.TheConstants.{MOST_FRAME_ENTRY}
use Rattle.weight_frame.specs.Frame.{IsZeroVector, largest}

-- it is reached or passed by no entry
pub entry_at_most : (x : List ℤ) (i : ℕ) → nat_abs (entry x i) ≤ largest x
entry_at_most [] i = omega arith
entry_at_most (a ∷ x) zero = omega arith
entry_at_most (a ∷ x) (suc i) = let h = entry_at_most x i in omega arith

-- it is the least such bound
pub largest_at_most : (x : List ℤ) (m : ℕ) → ((i : ℕ) → nat_abs (entry x i) ≤ m) → largest x ≤ m
largest_at_most [] m h = omega arith
largest_at_most (a ∷ x) m h = let k = largest_at_most x m (λ i. h (suc i)) in let l = h 0 in omega arith

-- the opposite vector
opposite_abs : (a : ℤ) → nat_abs (negsuc 0 *ℤ a) ≡ nat_abs a
opposite_abs a = omega (arith, ints)

pub largest_opposite : (x : List ℤ) → largest (scaled (negsuc 0) x) ≡ largest x
largest_opposite [] = refl
largest_opposite (a ∷ x) = rw (opposite_abs a, largest_opposite x) refl

-- one entry more
pub largest_more : (x : List ℤ) (i so_far next : ℕ) → i < length x → next ≡ max so_far (nat_abs (entry x i))
    → max so_far (largest (drop i x)) ≡ largest x → max next (largest (drop (i + 1) x)) ≡ largest x
largest_more x i so_far next within n e =
    let here : max so_far (max (nat_abs (entry x i)) (largest (drop (i + 1) x))) ≡ largest x = rw (drop_more x i (pos 0) within) at e in
    omega arith

pub largest_all : (x : List ℤ) (i so_far : ℕ) → length x ≤ i → max so_far (largest (drop i x)) ≡ largest x → so_far ≡ largest x
largest_all x i so_far past e = let whole : max so_far 0 ≡ largest x = rw (drop_all i x past) at e in omega arith

-- a bound on one entry
zero_abs : (a : ℤ) (m : ℕ) → a ≡ pos 0 → nat_abs a ≤ m
zero_abs a m e = omega (arith, ints)

one_abs : (a : ℤ) (m : ℕ) → 1 ≤ m → a ≡ pos 1 → nat_abs a ≤ m
one_abs a m h e = omega (arith, ints)

-- the zero vector and the unit vectors are within the limit
pub zero_small : (n : ℕ) (x : List ℤ) → IsZeroVector n x → largest x ≤ MOST_FRAME_ENTRY
zero_small n x h = largest_at_most x MOST_FRAME_ENTRY (λ i. zero_abs (entry x i) MOST_FRAME_ENTRY (h.zeros i))

pub unit_small : (n i : ℕ) (x : List ℤ) → IsUnitVector n i x → largest x ≤ MOST_FRAME_ENTRY
unit_small n i x h = largest_at_most x MOST_FRAME_ENTRY
    (λ j. ⊎_elim (λ (e : j ≡ i). rw e (one_abs (entry x i) MOST_FRAME_ENTRY (omega arith) h.one))
    (λ (d : j ≢ i). zero_abs (entry x j) MOST_FRAME_ENTRY (h.zeros j d)) (cases_eq j i))

-- one entry of the opposite vector
opposite_entry : (a r : ℤ) → r ≡ pos 0 -ℤ a → r ≡ negsuc 0 *ℤ a
opposite_entry a r e = omega (arith, ints)

pub opposite_more : (x old new : List ℤ) (i : ℕ) (r : ℤ) → i < length x → r ≡ pos 0 -ℤ entry x i → new ≡ old ++ (r ∷ [])
    → old ≡ scaled (negsuc 0) (take i x) → new ≡ scaled (negsuc 0) (take (i + 1) x)
opposite_more x old new i r h e n b = n ∙ ap₂ (λ (u : List ℤ) (a : ℤ). u ++ (a ∷ [])) b (opposite_entry (entry x i) r e)
    ∙ sym (ap (scaled (negsuc 0)) (take_more x i (pos 0) h) ∙ map-append (λ (a : ℤ). negsuc 0 *ℤ a) (take i x) (entry x i ∷ []))

-- it fits 64 bits
pub opposite_fits : (x : List ℤ) (i : ℕ) → largest x ≤ MOST_FRAME_ENTRY → SFits w64 (pos 0 -ℤ entry x i)
opposite_fits x i h = let k = entry_at_most x i in fits_signed_from_abs w64 (pos 0 -ℤ entry x i) (omega (arith, ints))

-- a bound on each entry bounds the largest
pub largest_of_all : (x : List ℤ) (m : ℕ) → All (λ a. nat_abs a ≤ m) x → largest x ≤ m
largest_of_all x m h = largest_at_most x m
    (λ i. ⊎_elim (λ (below : i < length x). h i (pos 0) below) (λ (above : length x ≤ i). zero_abs (entry x i) m (entry_past x i above))
    (cases_lt i (length x)))
