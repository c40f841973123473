-- The bound by counting, in the form that fixes some places to 0: fewer vectors than free places all pair to 0 with a vector that isn't 0.
use Rattle.std.proofs.Common.{◌≡◌, ◌≢◌, ℕ, zero, suc, ◌*◌, ◌^◌, ◌<◌, ◌≤◌, List, [], ◌∷◌, length, Bool, true, false, ℤ, pos, negsuc, ◌+ℤ◌, ◌*ℤ◌, nat_abs, refl, sym, ap, ◌∙◌, subst, All, arith}
use Rattle.std.proofs.lemmas.Int.{ints}
use Rattle.std.proofs.Math.Nat.{pow-zero, pow-succ'}
use Rattle.lattice_theory.specs.Vector.{entry, dot}
use Rattle.lattice_theory.specs.Size.{absolute_sum}
use Rattle.elimination.specs.Elimination.{Annihilates}
use Rattle.normal_bounds.specs.Bounds.{EntriesWithin}
use Rattle.normal_bounds.specs.Laws.{CountingBound}
use Rattle.lattice_theory.proofs.Members.{Each, empty, more, each_head, each_tail, each_from_all, all_from_each}
use Rattle.lattice_theory.proofs.Vectors.{combined, length-combined, entry-combined, dot-combined_left, dot_comm, same_from_entries, entries_from_zero}
use Rattle.normal_bounds.proofs.Boxes.{Different, one_more, Inside, nothing, free, fixed, free_places, box, length-box, box_inside, box_different}
use Rattle.normal_bounds.proofs.Pigeons.{Among, each_among, different_among, among_itself, among_among, Crowd, crowd}
use Rattle.normal_bounds.proofs.Ranges.{range_low, dots_one_of, fewer_values}

-- two members or more of a list on which each of some pairings has one value
record Agreement (ws xs : List (List ℤ)) : Type 0 where
  members : List (List ℤ)
  among : Among members xs
  many : 1 < length members
  same : Each (λ w. (v : ℤ) × Each (λ x. dot w x ≡ v) members) ws

-- one more vector: an agreement among those of one value
agreement_more : {w : List ℤ} {ws xs : List (List ℤ)} {n : ℕ} (c : Crowd (dot w) n xs) → Agreement ws c.members → Agreement (w ∷ ws) xs
agreement_more c r = record {
  members = r.members;
  among = among_among r.among c.among;
  many = r.many;
  same = more (c.value, each_among r.among c.same) r.same;
}

-- one vector after another, on a list that shrinks
agreement : (T M : ℕ) (mask : List Bool) (ws xs : List (List ℤ)) → Each (λ w. absolute_sum w ≤ T) ws → Each (Inside M mask) xs
    → suc (T * M) ^ length ws < length xs → Agreement ws xs
agreement T M mask [] xs hs ps l = record {
  members = xs;
  among = among_itself xs;
  many = let e = pow-zero (suc (T * M)) in omega arith;
  same = empty;
}
agreement T M mask (w ∷ ws) xs hs ps l =
    let e = pow-succ' (suc (T * M)) (length ws) in
    let c = crowd (dot w) (suc (T * M)) (suc (T * M) ^ length ws) (pos (range_low M w)) xs (dots_one_of T M mask w (each_head hs) ps)
    (omega arith) in
    agreement_more c (agreement T M mask ws c.members (each_tail hs) (each_among c.among ps) c.many)

-- a place is fixed by a mask, or past its end
abbrev pub IsFixed : List Bool → ℕ → Type 0
IsFixed [] i = Unit {0}
IsFixed (b ∷ mask) zero = b ≡ false
IsFixed (b ∷ mask) (suc i) = IsFixed mask i

-- what a vector of a box is like
inside_length : {M : ℕ} {mask : List Bool} {x : List ℤ} → Inside M mask x → length x ≡ length mask
inside_length nothing = refl
inside_length (free n l h) = ap suc (inside_length h)
inside_length (fixed h) = ap suc (inside_length h)

-- a number from 0 to M
record IsBetween (M : ℕ) (a : ℤ) : Type 0 where
  number : ℕ
  below : number ≤ M
  same : a ≡ pos number

-- its entries
inside_entry : {M : ℕ} {mask : List Bool} {x : List ℤ} → Inside M mask x → (i : ℕ) → IsBetween M (entry x i)
inside_entry nothing i = record { number = 0; below = omega arith; same = refl }
inside_entry (free n l h) zero = record { number = n; below = l; same = refl }
inside_entry (free n l h) (suc i) = inside_entry h i
inside_entry (fixed h) zero = record { number = 0; below = omega arith; same = refl }
inside_entry (fixed h) (suc i) = inside_entry h i

-- its entries at fixed places
inside_fixed : {M : ℕ} {mask : List Bool} {x : List ℤ} → Inside M mask x → (i : ℕ) → IsFixed mask i → entry x i ≡ pos 0
inside_fixed nothing i f = refl
inside_fixed (free n l h) zero f = absurd (true_false f)
  where
    true_false : true ≡ false → ⊥
    true_false e = cc
inside_fixed (free n l h) (suc i) f = inside_fixed h i f
inside_fixed (fixed h) zero f = refl
inside_fixed (fixed h) (suc i) f = inside_fixed h i f

-- a vector that isn't 0, pairs to 0 with the vectors, has entries of at most M, and is 0 at the fixed places
pub record IsFound (M : ℕ) (mask : List Bool) (ws : List (List ℤ)) (x : List ℤ) : Type 0 where
  pub dimension : length x ≡ length mask
  pub nonzero : All (λ a. a ≡ pos 0) x → ⊥
  pub annihilates : Each (λ w. dot x w ≡ pos 0) ws
  pub within : EntriesWithin M x
  pub zeros : (i : ℕ) → IsFixed mask i → entry x i ≡ pos 0

-- the difference of two vectors
abbrev difference : List ℤ → List ℤ → List ℤ
difference x y = combined (pos 1) x (negsuc 0) y

-- its entries, and its pairings
close : (M : ℕ) (a b : ℤ) → IsBetween M a → IsBetween M b → nat_abs (pos 1 *ℤ a +ℤ negsuc 0 *ℤ b) ≤ M
close M a b p q = let x = p.below in let y = q.below in let e = p.same in let f = q.same in omega (arith, ints)

-- equal numbers cancel
equal_cancel : (a b v : ℤ) → a ≡ v → b ≡ v → pos 1 *ℤ a +ℤ negsuc 0 *ℤ b ≡ pos 0
equal_cancel a b v e f = omega (arith, ints)

-- and only those
cancel_equal : (a b : ℤ) → pos 1 *ℤ a +ℤ negsuc 0 *ℤ b ≡ pos 0 → a ≡ b
cancel_equal a b e = omega (arith, ints)

-- the difference pairs to 0 where both vectors have the same pairings
difference_kills : {x y : List ℤ} {zs : List (List ℤ)} {ws : List (List ℤ)}
    → Each (λ w. (v : ℤ) × Each (λ z. dot w z ≡ v) (x ∷ (y ∷ zs))) ws → Each (λ w. dot (difference x y) w ≡ pos 0) ws
difference_kills empty = empty
difference_kills {x = x} {y = y} (more {x = w} (v, p) ps) = more
    (dot-combined_left (pos 1) x (negsuc 0) y w ∙ equal_cancel (dot x w) (dot y w) v (dot_comm x w ∙ each_head p)
    (dot_comm y w ∙ each_head (each_tail p)))
    (difference_kills ps)

-- two different vectors of a box with the same pairings
found_from_two : {M : ℕ} {mask : List Bool} {ws : List (List ℤ)} (x y : List ℤ) → x ≢ y → Inside M mask x → Inside M mask y
    → Each (λ w. dot (difference x y) w ≡ pos 0) ws → IsFound M mask ws (difference x y)
found_from_two {M = M} {mask = mask} x y n p q z = record {
  dimension = length-combined (length mask) (pos 1) x (negsuc 0) y (inside_length p) (inside_length q);
  nonzero = λ h. n (same_from_entries x y (inside_length p ∙ sym (inside_length q))
      (λ i. cancel_equal (entry x i) (entry y i) (sym (entry-combined (pos 1) x (negsuc 0) y i) ∙ entries_from_zero (difference x y) h i)));
  annihilates = z;
  within = λ i. subst (λ (a : ℤ). nat_abs a ≤ M) (sym (entry-combined (pos 1) x (negsuc 0) y i))
      (close M (entry x i) (entry y i) (inside_entry p i) (inside_entry q i));
  zeros = λ i f. entry-combined (pos 1) x (negsuc 0) y i ∙ equal_cancel (entry x i) (entry y i) (pos 0) (inside_fixed p i f)
      (inside_fixed q i f);
}

-- the first two of many
found_from : {M : ℕ} {mask : List Bool} {ws : List (List ℤ)} (xs : List (List ℤ)) → 1 < length xs → Different xs → Each (Inside M mask) xs
    → Each (λ w. (v : ℤ) × Each (λ x. dot w x ≡ v) xs) ws → (x : List ℤ) × IsFound M mask ws x
found_from [] l d ps z = absurd (omega arith)
found_from (x ∷ []) l d ps z = absurd (omega arith)
found_from (x ∷ (y ∷ xs)) l (one_more n d) ps z =
    (difference x y, found_from_two x y (each_head n) (each_head ps) (each_head (each_tail ps)) (difference_kills z))

-- fewer vectors of absolute sum at most T than free places
pub found : (T : ℕ) (mask : List Bool) (ws : List (List ℤ)) → 1 ≤ T → Each (λ w. absolute_sum w ≤ T) ws → length ws < free_places mask
    → (x : List ℤ) × IsFound (T ^ length ws) mask ws x
found T mask ws t hs l =
    let M = T ^ length ws in
    let e = length-box M mask in
    let f = fewer_values T (length ws) (free_places mask) t l in
    let a = agreement T M mask ws (box M mask) hs (box_inside M mask) (omega arith) in
    found_from a.members a.many (different_among a.among (box_different M mask)) (each_among a.among (box_inside M mask)) a.same

-- the mask with n places, all free
abbrev pub all_free : ℕ → List Bool
all_free zero = []
all_free (suc n) = true ∷ all_free n

-- its places
pub length-all_free : (n : ℕ) → length (all_free n) ≡ n
length-all_free zero = refl
length-all_free (suc n) = ap suc (length-all_free n)

-- all of them free
pub free-all_free : (n : ℕ) → free_places (all_free n) ≡ n
free-all_free zero = refl
free-all_free (suc n) = ap suc (free-all_free n)

-- from the box whose places are all free
counting_from : (T : ℕ) {k : ℕ} {vectors : List (List ℤ)} {x : List ℤ} → length vectors ≡ k
    → IsFound (T ^ length vectors) (all_free (suc k)) vectors x
    → (length x ≡ suc k) × (All (λ a. a ≡ pos 0) x → ⊥) × Annihilates vectors x × EntriesWithin (T ^ k) x
counting_from T {k = k} {x = x} e f = (
  f.dimension ∙ length-all_free (suc k),
  f.nonzero,
  all_from_each f.annihilates,
  subst (λ (j : ℕ). EntriesWithin (T ^ j) x) e f.within,
)

-- the law
pub counting_bound_lem : CountingBound
counting_bound_lem k T vectors t e h =
    let w = free-all_free (suc k) in
    let f = found T (all_free (suc k)) vectors t (each_from_all (λ v. absolute_sum v ≤ T) vectors h) (omega arith) in
    let r = counting_from T e f.1 in
    (f.0, r.0, r.1, r.2, r.3)
