-- Absolute sums: of points within a size, of differences, and the bound that they give a pairing.
use Rattle.std.proofs.Common.{◌≡◌, ℕ, zero, suc, ◌+◌, ◌*◌, ◌<◌, ◌≤◌, List, [], ◌∷◌, length, ℤ, pos, negsuc, ◌+ℤ◌, ◌-ℤ◌, ◌*ℤ◌, nat_abs, ⊎_elim, refl, sym, ap, ◌∙◌, subst, All, arith}
use Rattle.std.proofs.lemmas.Int.{ints}
use Rattle.std.proofs.lemmas.Bool.{cases_lt}
use Rattle.std.proofs.lemmas.List.{get_or_default}
use Rattle.std.proofs.Math.Nat.{mul-le-mul_right}
use Rattle.lattice_theory.specs.Vector.{entry, dot}
use Rattle.lattice_theory.specs.Size.{size, absolute_sum}
use Rattle.normal_bounds.specs.Bounds.{EntriesWithin}
use Rattle.normal_bounds.specs.Laws.{PairingBound, PointAbsoluteSum, DifferenceAbsoluteSum}
use Rattle.lattice_theory.proofs.Vectors.{entry_past}
use Rattle.lattice_theory.proofs.Members.{In, each_from_all, all_from_each, each_from_in, each_in}
use Rattle.lattice_theory.proofs.Sizes.{within_reach}

-- a bound on all entries in the form of the library
pub all_within : (bound : ℕ) (x : List ℤ) → EntriesWithin bound x → All (λ a. nat_abs a ≤ bound) x
all_within bound x h k d l = subst (λ (a : ℤ). nat_abs a ≤ bound) (get_or_default x k (pos 0) d l) (h k)

-- and back
pub within_from_all : (bound : ℕ) (x : List ℤ) → All (λ a. nat_abs a ≤ bound) x → EntriesWithin bound x
within_from_all bound x h i = ⊎_elim (λ (l : i < length x). h i (pos 0) l) (λ (l : length x ≤ i). let e = ap nat_abs (entry_past x i l) in
    omega (arith, ints)) (cases_lt i (length x))

-- below a number that is above the bound
pub all_below : (bound limit : ℕ) (x : List ℤ) → EntriesWithin bound x → bound < limit → All (λ a. nat_abs a < limit) x
all_below bound limit x h l k d i = let e = all_within bound x h k d i in omega arith

-- the absolute value of a product
pub abs_product : (a b : ℤ) → nat_abs (a *ℤ b) ≡ nat_abs a * nat_abs b
abs_product (pos m) (pos n) = omega (arith, ints)
abs_product (pos m) (negsuc n) = omega (arith, ints)
abs_product (negsuc m) (pos n) = omega (arith, ints)
abs_product (negsuc m) (negsuc n) = omega (arith, ints)

-- of a product and a sum
product_and_sum : (bound : ℕ) (a b d : ℤ) (w : ℕ) → nat_abs a ≤ bound → nat_abs d ≤ bound * w
    → nat_abs (a *ℤ b +ℤ d) ≤ bound * (nat_abs b + w)
product_and_sum bound a b d w h k = let e = abs_product a b in let f = mul-le-mul_right (nat_abs b) h in let g = sum_within (a *ℤ b) d in
    omega arith
  where
    sum_within : (a b : ℤ) → nat_abs (a +ℤ b) ≤ nat_abs a + nat_abs b
    sum_within a b = omega (arith, ints)

-- the law on pairings
pub pairing_bound_lem : PairingBound
pairing_bound_lem bound [] y h = omega (arith, ints)
pairing_bound_lem bound (a ∷ x) [] h = omega (arith, ints)
pairing_bound_lem bound (a ∷ x) (b ∷ y) h =
    product_and_sum bound a b (dot x y) (absolute_sum y) (h 0) (pairing_bound_lem bound x y (λ i. h (suc i)))

-- the sum of the first n absolute values
abbrev first_sum : ℕ → List ℤ → ℕ
first_sum zero x = 0
first_sum (suc n) x = first_sum n x + nat_abs (entry x n)

-- of a vector with one more entry at its front
first_sum-cons : (n : ℕ) (a : ℤ) (x : List ℤ) → first_sum (suc n) (a ∷ x) ≡ nat_abs a + first_sum n x
first_sum-cons zero a x = omega arith
first_sum-cons (suc n) a x = let e = first_sum-cons n a x in omega arith

-- all of them together are the absolute sum
absolute_sum_sum : (x : List ℤ) → absolute_sum x ≡ first_sum (length x) x
absolute_sum_sum [] = refl
absolute_sum_sum (a ∷ x) = ap (λ (n : ℕ). nat_abs a + n) (absolute_sum_sum x) ∙ sym (first_sum-cons (length x) a x)

-- so no sum is above the sum of the largest
sum_within_size : {p : List ℤ} (n : ℕ) (points : List (List ℤ)) → In p points → first_sum n p ≤ size n points
sum_within_size zero points m = omega arith
sum_within_size (suc n) points m = let e = sum_within_size n points m in let f = within_reach points n m in omega arith

-- a point of n coordinates
absolute_sum_within_size : {p : List ℤ} (n : ℕ) (points : List (List ℤ)) → length p ≡ n → In p points → absolute_sum p ≤ size n points
absolute_sum_within_size {p = p} n points e m = let f = absolute_sum_sum p in let g = ap (λ (k : ℕ). first_sum k p) e in
    let h = sum_within_size n points m in omega arith

-- the law on points
pub point_absolute_sum_lem : PointAbsoluteSum
point_absolute_sum_lem n points d =
    all_from_each (each_from_in points (λ p m. absolute_sum_within_size n points (each_in (each_from_all (λ q. length q ≡ n) points d) m)
    m))

-- one more entry of a difference
absolute_sum_more : (a b c : ℤ) (p q w : ℕ) → c ≡ a -ℤ b → w ≤ p + q → nat_abs c + w ≤ (nat_abs a + p) + (nat_abs b + q)
absolute_sum_more a b c p q w e h = omega (arith, ints)

-- the law on differences
pub difference_absolute_sum_lem : DifferenceAbsoluteSum
difference_absolute_sum_lem p q [] h = omega arith
difference_absolute_sum_lem [] [] (c ∷ w) h = absolute_sum_more (pos 0) (pos 0) c 0 0 (absolute_sum w) (h 0)
    (difference_absolute_sum_lem [] [] w (λ i. h (suc i)))
difference_absolute_sum_lem [] (b ∷ q) (c ∷ w) h = absolute_sum_more (pos 0) b c 0 (absolute_sum q) (absolute_sum w) (h 0)
    (difference_absolute_sum_lem [] q w (λ i. h (suc i)))
difference_absolute_sum_lem (a ∷ p) [] (c ∷ w) h = absolute_sum_more a (pos 0) c (absolute_sum p) 0 (absolute_sum w) (h 0)
    (difference_absolute_sum_lem p [] w (λ i. h (suc i)))
difference_absolute_sum_lem (a ∷ p) (b ∷ q) (c ∷ w) h = absolute_sum_more a b c (absolute_sum p) (absolute_sum q) (absolute_sum w) (h 0)
    (difference_absolute_sum_lem p q w (λ i. h (suc i)))
