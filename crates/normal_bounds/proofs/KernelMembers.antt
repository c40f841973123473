-- The bound on the members of a kernel: a member is no larger than a vector
-- that pairs to 0 with the pivots and is 0 at the own places of the others.
use Rattle.std.proofs.Common.{◌≡◌, ℕ, zero, suc, ◌+◌, ◌^◌, ◌<◌, ◌≤◌, List, [], ◌∷◌, ◌++◌, length, Bool, true, false, ℤ, pos, nat_abs, refl, sym, ap, ◌∙◌, subst, All, arith}
use Rattle.std.proofs.lemmas.List.{length-append}
use Rattle.std.proofs.Math.Nat.{mul-le-mul_left, pow-suc}
use Rattle.lattice_theory.specs.Vector.{entry, dot, IsPrimitive, IsVectorMultiple}
use Rattle.lattice_theory.specs.Size.{absolute_sum}
use Rattle.elimination.specs.Elimination.{Member, IsKernel, ArePivots}
use Rattle.normal_bounds.specs.Bounds.{EntriesWithin}
use Rattle.normal_bounds.specs.Laws.{MemberBound}
use Rattle.lattice_theory.proofs.Members.{Each, empty, more, In, here, there, each_weaker, each_from_all, all_from_each, in_from_contains}
use Rattle.elimination.proofs.KernelPlaces.{kernel_member_lem}
use Rattle.normal_bounds.proofs.Boxes.{free_places}
use Rattle.normal_bounds.proofs.Counting.{IsFixed, IsFound, found, all_free, length-all_free, free-all_free}
use Rattle.normal_bounds.proofs.Sizes.{pairing_bound_lem}
use Rattle.normal_bounds.proofs.Normals.{primitive_within}

-- a mask with one more fixed place
abbrev fix : List Bool → ℕ → List Bool
fix [] i = []
fix (b ∷ mask) zero = false ∷ mask
fix (b ∷ mask) (suc i) = b ∷ fix mask i

-- it has as many places
length-fix : (mask : List Bool) (i : ℕ) → length (fix mask i) ≡ length mask
length-fix [] i = refl
length-fix (b ∷ mask) zero = refl
length-fix (b ∷ mask) (suc i) = ap suc (length-fix mask i)

-- at most one fewer is free
free-fix : (mask : List Bool) (i : ℕ) → free_places mask ≤ suc (free_places (fix mask i))
free-fix [] i = omega arith
free-fix (true ∷ mask) zero = omega arith
free-fix (false ∷ mask) zero = omega arith
free-fix (true ∷ mask) (suc i) = let e = free-fix mask i in omega arith
free-fix (false ∷ mask) (suc i) = free-fix mask i

-- the place is fixed
fixed_there : (mask : List Bool) (i : ℕ) → IsFixed (fix mask i) i
fixed_there [] i = tt
fixed_there (b ∷ mask) zero = refl
fixed_there (b ∷ mask) (suc i) = fixed_there mask i

-- other fixed places still are
fixed_still : (mask : List Bool) (i j : ℕ) → IsFixed mask j → IsFixed (fix mask i) j
fixed_still [] i j h = tt
fixed_still (b ∷ mask) zero zero h = refl
fixed_still (b ∷ mask) zero (suc j) h = h
fixed_still (b ∷ mask) (suc i) zero h = h
fixed_still (b ∷ mask) (suc i) (suc j) h = fixed_still mask i j h

-- the mask of m places in which the own places of some members are fixed
abbrev mask_of : ℕ → List Member → List Bool
mask_of m [] = all_free m
mask_of m (l ∷ ls) = fix (mask_of m ls) l.own

-- it has m places
length-mask_of : (m : ℕ) (ls : List Member) → length (mask_of m ls) ≡ m
length-mask_of m [] = length-all_free m
length-mask_of m (l ∷ ls) = length-fix (mask_of m ls) l.own ∙ length-mask_of m ls

-- at most one fixed place for each member
free-mask_of : (m : ℕ) (ls : List Member) → m ≤ free_places (mask_of m ls) + length ls
free-mask_of m [] = let e = free-all_free m in omega arith
free-mask_of m (l ∷ ls) = let e = free-mask_of m ls in let f = free-fix (mask_of m ls) l.own in omega arith

-- all own places are fixed
fixed-mask_of : (m : ℕ) (ls : List Member) → Each (λ l. IsFixed (mask_of m ls) l.own) ls
fixed-mask_of m [] = empty
fixed-mask_of m (l ∷ ls) = more (fixed_there (mask_of m ls) l.own) (each_weaker (λ k h. fixed_still (mask_of m ls) l.own k.own h)
    (fixed-mask_of m ls))

-- a member, and the members before and behind it
record Split (k : Member) (ks : List Member) : Type 0 where
  before : List Member
  after : List Member
  same : ks ≡ before ++ (k ∷ after)

-- a list split at a member
split_at : {k : Member} {ks : List Member} → In k ks → Split k ks
split_at (here {xs = xs}) = record { before = []; after = xs; same = refl }
split_at (there {y = y} i) = let s = split_at i in
    record { before = y ∷ s.before; after = s.after; same = ap (λ (ls : List Member). y ∷ ls) s.same }

-- a member of a kernel, by a vector that is found with the own places of the others fixed
member_from : (m bound : ℕ) (pivots : List (List ℤ)) (before : List Member) (k : Member) (after : List Member) (x : List ℤ)
    → IsKernel m pivots (before ++ (k ∷ after)) → IsPrimitive k.vector
    → IsFound bound (mask_of m (before ++ after)) pivots x → EntriesWithin bound k.vector
member_from m bound pivots before k after x h p f =
    by (kernel_member_lem m pivots before k after h x (f.dimension ∙ length-mask_of m (before ++ after)) (all_from_each f.annihilates)
    (all_from_each (each_weaker {Q = λ l. entry x l.own ≡ pos 0} (λ l z. f.zeros l.own z) (fixed-mask_of m (before ++ after)))))
  where
    by : IsVectorMultiple x k.vector → EntriesWithin bound k.vector
    by s = primitive_within bound s.left s.right x k.vector s.nonzero p s.same f.nonzero f.within

-- fewer pivots than free places
fewer_pivots : (m j : ℕ) (before : List Member) (k : Member) (after : List Member) → j + length (before ++ (k ∷ after)) ≡ m
    → j < free_places (mask_of m (before ++ after))
fewer_pivots m j before k after e = let f = free-mask_of m (before ++ after) in let a = length-append before (k ∷ after) in
    let b = length-append before after in omega arith

-- the entries of a member
member_entries : (m T : ℕ) (vectors pivots : List (List ℤ)) (ks : List Member) (k : Member) → 1 ≤ T → ArePivots m vectors pivots ks
    → All (λ v. absolute_sum v ≤ T) pivots → Split k ks → IsPrimitive k.vector → EntriesWithin (T ^ length pivots) k.vector
member_entries m T vectors pivots ks k t hp hs s p =
    let f = found T (mask_of m (s.before ++ s.after)) pivots t (each_from_all (λ v. absolute_sum v ≤ T) pivots hs)
    (fewer_pivots m (length pivots) s.before k s.after (ap (λ (ls : List Member). length pivots + length ls) (sym s.same) ∙ hp.count)) in
    member_from m (T ^ length pivots) pivots s.before k s.after f.0 (subst (IsKernel m pivots) s.same hp.kernel) p f.1

-- a pairing with a vector of absolute sum at most T
value_within : (T j : ℕ) (x v : List ℤ) → EntriesWithin (T ^ j) x → absolute_sum v ≤ T → nat_abs (dot x v) ≤ T ^ (j + 1)
value_within T j x v h l = let e = pairing_bound_lem (T ^ j) x v h in let f = mul-le-mul_left (T ^ j) l in let g = pow-suc T j in
    let i : T ^ (j + 1) ≡ T ^ suc j = ap (λ (n : ℕ). T ^ n) (next j) in omega arith
  where
    next : (n : ℕ) → n + 1 ≡ suc n
    next n = omega arith

-- the law
pub member_bound_lem : MemberBound
member_bound_lem m T vectors pivots ks t hp hs k c p =
    let b = member_entries m T vectors pivots ks k t hp hs (split_at (in_from_contains ks c)) p in
    (b, λ v l. value_within T (length pivots) k.vector v b l)
