-- Differences of points: their entries, pairings and absolute sums, and the functions that vanish where they are annihilated.
use Rattle.std.proofs.Common.{◌≡◌, ℕ, zero, suc, ◌+◌, ◌*◌, ◌^◌, ◌<◌, ◌≤◌, List, [], ◌∷◌, ◌++◌, length, map, take, drop, ℤ, pos}
use Rattle.std.proofs.Common.{◌+ℤ◌, ◌-ℤ◌, ◌*ℤ◌, refl, sym, ap, ap₂, ◌∙◌, subst, arith, All, SFits}
use Rattle.std.specs.Prelude.{nat_abs, get_or, ◌-◌}
use Rattle.std.specs.Int.{w64}
use Rattle.std.proofs.lemmas.Int.{ints, fits_signed_from_abs}
use Rattle.std.proofs.lemmas.List.{take_all, get_or_default}
use Rattle.std.proofs.lemmas.List.Elements.{All-head, All-tail}
use Rattle.normal_bounds.proofs.Sizes.{difference_absolute_sum_lem}
use Rattle.lattice_core.specs.Limits.{size_limit_of}
use Rattle.hull.specs.steps.Kernels.{IsPrimitiveKernel, IsSmallKernel}
use Rattle.hull.proofs.Pivots.{take_more}
use Rattle.lattice_theory.specs.Vector.{entry, dot, HaveDimension, IsVectorMultiple}
use Rattle.lattice_theory.specs.Affine.{Affine, value, Vanishes, IsMultiple}
use Rattle.lattice_theory.specs.Size.{absolute_sum}
use Rattle.lattice_theory.proofs.Integers.{products_out, linear}
use Rattle.elimination.specs.Elimination.{Member, Annihilates}
use Rattle.lattice_theory.proofs.Members.{Each, empty, more, each_from_all, all_from_each}
use Rattle.lattice_theory.proofs.Vectors.{dot-scaled_left}
use Rattle.hull.specs.steps.Differences.{difference, differences}

-- a difference is as long as the vectors
pub length-difference : (p q : List ℤ) → length p ≡ length q → length (difference p q) ≡ length p
length-difference [] q e = refl
length-difference (a ∷ p) [] e = absurd (omega arith)
length-difference (a ∷ p) (b ∷ q) e = ap suc (length-difference p q (omega arith))

-- its entries
pub entry-difference : (p q : List ℤ) (i : ℕ) → length p ≡ length q → entry (difference p q) i ≡ entry p i -ℤ entry q i
entry-difference [] [] i e = refl
entry-difference [] (b ∷ q) i e = absurd (omega arith)
entry-difference (a ∷ p) [] i e = absurd (omega arith)
entry-difference (a ∷ p) (b ∷ q) zero e = refl
entry-difference (a ∷ p) (b ∷ q) (suc i) e = entry-difference p q i (omega arith)

-- one product of a pairing with a difference, and the others
regroup : (k a b x y z : ℤ) → z ≡ x -ℤ y → k *ℤ (a -ℤ b) +ℤ z ≡ (k *ℤ a +ℤ x) -ℤ (k *ℤ b +ℤ y)
regroup k a b x y z e = simp products_out (omega (arith, linear))

-- its pairings
pub dot-difference : (k p q : List ℤ) → length p ≡ length q → dot k (difference p q) ≡ dot k p -ℤ dot k q
dot-difference [] p q e = refl
dot-difference (c ∷ k) [] [] e = refl
dot-difference (c ∷ k) [] (b ∷ q) e = absurd (omega arith)
dot-difference (c ∷ k) (a ∷ p) [] e = absurd (omega arith)
dot-difference (c ∷ k) (a ∷ p) (b ∷ q) e = regroup c a b (dot k p) (dot k q) (dot k (difference p q)) (dot-difference k p q (omega arith))

-- its absolute sum
pub absolute_sum-difference : (p q : List ℤ) (m : ℕ) → length p ≡ length q → absolute_sum p ≤ m → absolute_sum q ≤ m
    → absolute_sum (difference p q) ≤ 2 * m
absolute_sum-difference p q m e h k = omega (arith, difference_absolute_sum_lem p q (difference p q) (λ i. entry-difference p q i e))

-- equal pairings at two points annihilate their difference
pub zero_difference : (k p q : List ℤ) → length p ≡ length q → dot k p ≡ dot k q → dot k (difference p q) ≡ pos 0
zero_difference k p q e h = dot-difference k p q e ∙ same_less (dot k p) (dot k q) h
  where
    same_less : (a b : ℤ) → a ≡ b → a -ℤ b ≡ pos 0
    same_less a b h = omega (arith, linear)

-- and conversely
pub same_pairings : (k p q : List ℤ) → length p ≡ length q → dot k (difference p q) ≡ pos 0 → dot k p ≡ dot k q
same_pairings k p q e h = less_zero (dot k p) (dot k q) (sym (dot-difference k p q e) ∙ h)
  where
    less_zero : (a b : ℤ) → a -ℤ b ≡ pos 0 → a ≡ b
    less_zero a b h = omega (arith, linear)

-- two functions' values
pub both_vanish : (d e c : ℤ) → d +ℤ c ≡ pos 0 → e +ℤ c ≡ pos 0 → d ≡ e
both_vanish d e c h k = omega (arith, linear)

-- a function that vanishes at one point vanishes at another with the same pairing
pub vanishes_too : (d e c : ℤ) → e +ℤ c ≡ pos 0 → d ≡ e → d +ℤ c ≡ pos 0
vanishes_too d e c h k = omega (arith, linear)

-- a function that vanishes at all points annihilates their differences
pub annihilates_differences : (n : ℕ) (points : List (List ℤ)) (f : Affine) → HaveDimension n points → Vanishes points f
    → Annihilates (differences points) f.normal
annihilates_differences n [] f d h = all_from_each empty
annihilates_differences n (p ∷ points) f d h =
    all_from_each (each points (All-tail (λ q. length q ≡ n) p points d) (All-tail (λ q. value f q ≡ pos 0) p points h))
  where
    each : (qs : List (List ℤ)) → HaveDimension n qs → Vanishes qs f → Each (λ v. dot f.normal v ≡ pos 0) (map (λ q. difference q p) qs)
    each [] d' h' = empty
    each (q ∷ qs) d' h' =
        more (zero_difference f.normal q p (All-head (λ r. length r ≡ n) q qs d' ∙ sym (All-head (λ r. length r ≡ n) p points d))
        (both_vanish (dot f.normal q) (dot f.normal p) f.constant (All-head (λ r. value f r ≡ pos 0) q qs h')
        (All-head (λ r. value f r ≡ pos 0) p points h)))
        (each qs (All-tail (λ r. length r ≡ n) q qs d') (All-tail (λ r. value f r ≡ pos 0) q qs h'))

-- and conversely where it vanishes at the first
pub vanishes_from_differences : (n : ℕ) (p : List ℤ) (points : List (List ℤ)) (f : Affine) → HaveDimension n (p ∷ points)
    → value f p ≡ pos 0 → Annihilates (differences (p ∷ points)) f.normal → Vanishes (p ∷ points) f
vanishes_from_differences n p points f d z h =
    all_from_each (more z (each points (All-tail (λ q. length q ≡ n) p points d)
    (each_from_all (λ v. dot f.normal v ≡ pos 0) (differences (p ∷ points)) h)))
  where
    each : (qs : List (List ℤ)) → HaveDimension n qs → Each (λ v. dot f.normal v ≡ pos 0) (map (λ q. difference q p) qs)
        → Each (λ q. value f q ≡ pos 0) qs
    each [] d' h' = empty
    each (q ∷ qs) d' (more k ks) =
        more (vanishes_too (dot f.normal q) (dot f.normal p) f.constant z
        (same_pairings f.normal q p (All-head (λ r. length r ≡ n) q qs d' ∙ sym (All-head (λ r. length r ≡ n) p points d)) k))
        (each qs (All-tail (λ r. length r ≡ n) q qs d') ks)

-- multiples of normals and a common zero give multiples of functions
pub multiple_from_normals : (g f : Affine) (p : List ℤ) → value g p ≡ pos 0 → value f p ≡ pos 0 → IsVectorMultiple g.normal f.normal
    → IsMultiple g f
multiple_from_normals g f p h k m = record {
  left = m.left;
  right = m.right;
  nonzero = m.nonzero;
  normals = m.same;
  constants = by (dot g.normal p) (dot f.normal p) g.constant f.constant m.left m.right h k (sym (dot-scaled_left m.left g.normal p)
      ∙ ap (λ (x : List ℤ). dot x p) m.same ∙ dot-scaled_left m.right f.normal p);
}
  where
    by : (d e c b q r : ℤ) → d +ℤ c ≡ pos 0 → e +ℤ b ≡ pos 0 → q *ℤ d ≡ r *ℤ e → q *ℤ c ≡ r *ℤ b
    by d e c b q r h k m =
        let h' = simp products_out at (ap (λ (z : ℤ). q *ℤ z) h) in
        let k' = simp products_out at (ap (λ (z : ℤ). r *ℤ z) k) in
        let m' = simp products_out at m in
        simp products_out (omega (arith, linear))

-- and the other way round
pub normals_from_multiple : (g f : Affine) → IsMultiple g f → IsVectorMultiple g.normal f.normal
normals_from_multiple g f m = record { left = m.left; right = m.right; nonzero = m.nonzero; same = m.normals }

-- an entry of a point isn't larger than its absolute sum
pub entry_small : (p : List ℤ) (i m : ℕ) → absolute_sum p ≤ m → nat_abs (entry p i) ≤ m
entry_small [] i m h = omega arith
entry_small (a ∷ p) zero m h = omega arith
entry_small (a ∷ p) (suc i) m h = entry_small p i m (omega arith)

-- so a difference of entries fits
pub entries_fit : (a b : ℤ) → nat_abs a ≤ 2 ^ 30 → nat_abs b ≤ 2 ^ 30 → SFits w64 (a -ℤ b)
entries_fit a b h k = fits_signed_from_abs w64 (a -ℤ b) (omega (arith, ints))

-- one more entry of a difference
pub difference_more : (p q old new : List ℤ) (i : ℕ) (r : ℤ) → length p ≡ length q → i < length p → old ≡ take i (difference p q)
    → r ≡ entry p i -ℤ entry q i → new ≡ old ++ (r ∷ []) → new ≡ take (i + 1) (difference p q)
difference_more p q old new i r e h o v n =
    let within : i < length (difference p q) = let l = length-difference p q e in omega arith in
    let here : r ≡ get_or (difference p q) i r = v ∙ sym (entry-difference p q i e) ∙ get_or_default (difference p q) i (pos 0) r within in
    n ∙ ap (λ (x : List ℤ). x ++ (r ∷ [])) o ∙ sym (take_more (difference p q) i r within here)

-- all of them
pub difference_all : (p q x : List ℤ) (i : ℕ) → length p ≡ length q → length p ≤ i → x ≡ take i (difference p q) → x ≡ difference p q
difference_all p q x i e h o = o ∙ take_all i (difference p q) (let l = length-difference p q e in omega arith)

-- the differences of points and a first one
abbrev pub from : List ℤ → List (List ℤ) → List (List ℤ)
from first points = map (λ q. difference q first) points

-- one more
pub from-push : (first : List ℤ) (points : List (List ℤ)) (p : List ℤ)
    → from first (points ++ (p ∷ [])) ≡ from first points ++ (difference p first ∷ [])
from-push first [] p = refl
from-push first (q ∷ points) p = ap (λ (xs : List (List ℤ)). difference q first ∷ xs) (from-push first points p)

-- they are small
pub from_small : (n m : ℕ) (first : List ℤ) (points : List (List ℤ)) → length first ≡ n → absolute_sum first ≤ m → HaveDimension n points
    → All (λ p. absolute_sum p ≤ m) points → All (λ v. absolute_sum v ≤ 2 * m) (from first points)
from_small n m first points e w d s =
    all_from_each (each points (each_from_all (λ p. length p ≡ n) points d) (each_from_all (λ p. absolute_sum p ≤ m) points s))
  where
    each : (ps : List (List ℤ)) → Each (λ p. length p ≡ n) ps → Each (λ p. absolute_sum p ≤ m) ps
        → Each (λ v. absolute_sum v ≤ 2 * m) (from first ps)
    each [] empty empty = empty
    each (p ∷ ps) (more l ls) (more h hs) = more (absolute_sum-difference p first m (l ∙ sym e) h w) (each ps ls hs)

-- what the code has behind the first point
abbrev pub others_of : List (List ℤ) → List (List ℤ)
others_of points = take (length points - 1) (drop 1 points)

-- its differences are those of the list
pub differences_are : (points : List (List ℤ)) (first : List ℤ) → 0 < length points → first ≡ get_or points 0 first
    → from first (others_of points) ≡ differences points
differences_are [] first h e = absurd (omega arith)
differences_are (p ∷ points) first h e = ap₂ from e (take_all (length (p ∷ points) - 1) points (omega arith))

-- and its length
pub others_length : (points : List (List ℤ)) → 0 < length points → length (others_of points) + 1 ≡ length points
others_length [] h = absurd (omega arith)
others_length (p ∷ points) h = let e = ap length (take_all (length (p ∷ points) - 1) points (omega arith)) in omega arith

-- what holds of all points holds of those
pub others_all : (P : List ℤ → Type 0) (points : List (List ℤ)) → All P points → All P (others_of points)
others_all P [] h = h
others_all P (p ∷ points) h = subst (All P) (sym (take_all (length (p ∷ points) - 1) points (omega arith))) (All-tail P p points h)

-- a kernel of differences is a small one
pub small_kernel : (n : ℕ) (first : List ℤ) (points : List (List ℤ)) (ks ms : List Member) (v : List ℤ) → length first ≡ n
    → absolute_sum first ≤ size_limit_of n → HaveDimension n points → All (λ p. absolute_sum p ≤ size_limit_of n) points
    → IsPrimitiveKernel n (from first points) ks → ms ≡ ks → length v ≡ n → IsSmallKernel (length v) ms
small_kernel n first points ks ms v e w d s k same l =
    subst (λ (m : ℕ). IsSmallKernel m ms) (sym l)
    (subst (IsSmallKernel n) (sym same) (record {
      vectors = from first points;
      is_kernel = k;
      small = from_small n (size_limit_of n) first points e w d s;
    }))

-- and the kernel with one more difference is one of differences
pub next_kernel : (n : ℕ) (first : List ℤ) (points : List (List ℤ)) (i : ℕ) (p v : List ℤ) (old ms new : List Member) → i < length points
    → p ≡ get_or points i p → v ≡ difference p first → length v ≡ n → ms ≡ old
    → ((vs : List (List ℤ)) → IsPrimitiveKernel (length v) vs ms → IsPrimitiveKernel (length v) (vs ++ (v ∷ [])) new)
    → IsPrimitiveKernel n (from first (take i points)) old → IsPrimitiveKernel n (from first (take (i + 1) points)) new
next_kernel n first points i p v old ms new h ep ev l same law k =
    let at_n = subst (λ (m : ℕ). (vs : List (List ℤ)) → IsPrimitiveKernel m vs ms → IsPrimitiveKernel m (vs ++ (v ∷ [])) new) l law in
    let vectors : from first (take i points) ++ (v ∷ []) ≡ from first (take (i + 1) points) =
    ap (λ (x : List ℤ). from first (take i points) ++ (x ∷ [])) ev ∙ sym (from-push first (take i points) p)
    ∙ ap (from first) (sym (take_more points i p h ep)) in
    subst (λ (vs : List (List ℤ)). IsPrimitiveKernel n vs new) vectors
    (at_n (from first (take i points)) (subst (IsPrimitiveKernel n (from first (take i points))) (sym same) k))

-- the first point of a list has its dimension
pub first_length : (n : ℕ) (points : List (List ℤ)) (first : List ℤ) → HaveDimension n points → 0 < length points
    → first ≡ get_or points 0 first → length first ≡ n
first_length n points first d h e = ap length e ∙ d 0 first h
