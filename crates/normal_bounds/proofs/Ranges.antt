-- The values of a pairing on a box: those of <w, x> lie in a range of M times w's absolute sum, which begins at -M times the absolute sum
-- of w's negative entries.
use Rattle.std.proofs.Common.{◌≡◌, ℕ, zero, suc, ◌+◌, ◌*◌, ◌^◌, ◌<◌, ◌≤◌, List, [], ◌∷◌, Bool, ℤ, pos, negsuc, ◌+ℤ◌, ◌*ℤ◌, nat_abs, refl, ap, arith}
use Rattle.std.proofs.lemmas.Int.{ints}
use Rattle.std.proofs.lemmas.Nat.{mul-pow}
use Rattle.std.proofs.Math.Nat.{mul-le-mul_left, pow-le-pow_left, pow-le-pow_right, one-le-pow, pow-succ'}
use Rattle.lattice_theory.specs.Vector.{dot}
use Rattle.lattice_theory.specs.Size.{absolute_sum}
use Rattle.lattice_theory.proofs.Integers.{linear}
use Rattle.lattice_theory.proofs.Members.{Each, empty, more}
use Rattle.normal_bounds.proofs.Boxes.{Inside, nothing, free, fixed}
use Rattle.normal_bounds.proofs.Pigeons.{IsOneOf}

-- a lies between -low and high - low
record InRange (low high : ℕ) (a : ℤ) : Type 0 where
  place : ℕ
  below : place ≤ high
  same : a +ℤ pos low ≡ pos place

-- sums
range_sum : {l h l' h' : ℕ} {a b : ℤ} → InRange l h a → InRange l' h' b → InRange (l + l') (h + h') (a +ℤ b)
range_sum {l = l} {l' = l'} {a = a} {b = b} p q = record {
  place = p.place + q.place;
  below = let x = p.below in let y = q.below in omega arith;
  same = added a b l l' p.place q.place p.same q.same;
}
  where
    added : (a b : ℤ) (l l' m n : ℕ) → a +ℤ pos l ≡ pos m → b +ℤ pos l' ≡ pos n → (a +ℤ b) +ℤ pos (l + l') ≡ pos (m + n)
    added a b l l' m n e f = omega (arith, linear)

-- how far a number is below 0
abbrev pub deficit : ℤ → ℕ
deficit (pos p) = 0
deficit (negsuc p) = suc p

-- the rest of a number below another
record IsRest (n M : ℕ) : Type 0 where
  rest : ℕ
  sums : n + rest ≡ M

-- a - b as a number
rest_of : (n M : ℕ) → n ≤ M → IsRest n M
rest_of zero M h = record { rest = M; sums = omega arith }
rest_of (suc n) zero h = absurd (omega arith)
rest_of (suc n) (suc M) h = let r = rest_of n M (omega arith) in record { rest = r.rest; sums = let e = r.sums in omega arith }

-- products with a number from 0 to M
range_product : (M n : ℕ) (a : ℤ) → n ≤ M → InRange (M * deficit a) (M * nat_abs a) (a *ℤ pos n)
range_product M n (pos p) h = record {
  place = p * n;
  below = let e = mul-le-mul_left p h in omega (arith, ints);
  same = omega (arith, ints);
}
range_product M n (negsuc p) h = let r = rest_of n M h in
    record {
      place = suc p * r.rest;
      below = let e = mul-le-mul_left (suc p) (rest_below r.sums) in omega (arith, ints);
      same = below_zero M n p r.rest r.sums;
    }
  where
    rest_below : {r : ℕ} → n + r ≡ M → r ≤ M
    rest_below e = omega arith

    below_zero : (M n p r : ℕ) → n + r ≡ M → negsuc p *ℤ pos n +ℤ pos (M * suc p) ≡ pos (suc p * r)
    below_zero M n p r e = let f = ap (λ (m : ℕ). m * suc p) e in omega (arith, ints)

-- the range of a pairing
abbrev pub range_low : ℕ → List ℤ → ℕ
range_low M [] = 0
range_low M (a ∷ w) = M * deficit a + range_low M w

-- its length
abbrev range_length : ℕ → List ℤ → ℕ
range_length M [] = 0
range_length M (a ∷ w) = M * nat_abs a + range_length M w

-- the range holds 0
low_within : (M : ℕ) (w : List ℤ) → range_low M w ≤ range_length M w
low_within M [] = omega arith
low_within M (a ∷ w) = let e = low_within M w in let f = mul-le-mul_left M (deficit_within a) in omega arith
  where
    deficit_within : (a : ℤ) → deficit a ≤ nat_abs a
    deficit_within (pos p) = omega arith
    deficit_within (negsuc p) = omega (arith, ints)

-- the pairing with a vector of a box
range_dot : (M : ℕ) (w : List ℤ) {mask : List Bool} {x : List ℤ} → Inside M mask x → InRange (range_low M w) (range_length M w) (dot w x)
range_dot M [] h = record { place = 0; below = omega arith; same = refl }
range_dot M (a ∷ w) nothing = record { place = range_low M (a ∷ w); below = low_within M (a ∷ w); same = omega (arith, linear) }
range_dot M (a ∷ w) (free n l h) = range_sum (range_product M n a l) (range_dot M w h)
range_dot M (a ∷ w) (fixed h) = range_sum (range_product M 0 a (omega arith)) (range_dot M w h)

-- the length is M times the absolute sum
length_by_absolute_sum : (M : ℕ) (w : List ℤ) → range_length M w ≡ M * absolute_sum w
length_by_absolute_sum M [] = omega arith
length_by_absolute_sum M (a ∷ w) = let e = length_by_absolute_sum M w in omega arith

-- for absolute sum at most T it is one of T M + 1 numbers
dot_one_of : (T M : ℕ) (w : List ℤ) {mask : List Bool} {x : List ℤ} → absolute_sum w ≤ T → Inside M mask x
    → IsOneOf (suc (T * M)) (pos (range_low M w)) (dot w x)
dot_one_of T M w l h = let r = range_dot M w h in record {
  place = r.place;
  below = let b = r.below in let e = length_by_absolute_sum M w in let f = mul-le-mul_left M l in omega arith;
  same = r.same;
}

-- for all vectors of a box
pub dots_one_of : (T M : ℕ) (mask : List Bool) (w : List ℤ) → absolute_sum w ≤ T → {xs : List (List ℤ)} → Each (Inside M mask) xs
    → Each (λ x. IsOneOf (suc (T * M)) (pos (range_low M w)) (dot w x)) xs
dots_one_of T M mask w l empty = empty
dots_one_of T M mask w l (more {x = x} p ps) = more (dot_one_of T M w l p) (dots_one_of T M mask w l ps)

-- k pairings have fewer values together than a box with more than k free places has members
pub fewer_values : (T k f : ℕ) → 1 ≤ T → k < f → suc (T * T ^ k) ^ k < suc (T ^ k) ^ f
fewer_values T k f t l =
    let M = T ^ k in
    let a : suc (T * M) ^ k ≤ (T * suc M) ^ k = pow-le-pow_left (one_more_layer T M t) k in
    let b = mul-pow T (suc M) k in
    let c : suc M ^ suc k ≤ suc M ^ f = pow-le-pow_right (above_zero M) l in
    let d = pow-succ' (suc M) k in
    let e : 1 ≤ suc M ^ k = one-le-pow k (suc M) (above_zero M) in
    omega arith
  where
    one_more_layer : (T M : ℕ) → 1 ≤ T → suc (T * M) ≤ T * suc M
    one_more_layer T M t = omega arith

    above_zero : (M : ℕ) → zero < suc M
    above_zero M = omega arith
