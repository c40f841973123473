-- The points of the box of a dilate are no larger than the dilate's size.
use Rattle.std.specs.Prelude.{ℤ, pos, nat_abs, ◌+ℤ◌, ◌-ℤ◌, ◌*ℤ◌, ◌≤ℤ◌}
use Rattle.std.proofs.Common.{◌≡◌, ℕ, suc, ◌+◌, ◌*◌, ◌^◌, ◌<◌, ◌≤◌, List, [], ◌∷◌, length, refl, sym, ap, ◌∙◌, arith, suc-le-suc, zero-lt-suc}
use Rattle.std.proofs.lemmas.Int.{ints, unsigned_abs-mul}
use Rattle.std.proofs.Math.Nat.{mul-le-mul_right, mul-le-mul_left}
use Rattle.lattice_theory.specs.Vector.{entry}
use Rattle.lattice_theory.specs.Size.{reach, size, absolute_sum}
use Rattle.lattice_theory.proofs.Integers.{linear, product_nonnegative, *ℤ-+ℤ, between_small}
use Rattle.lattice_core.specs.Limits.{IsSized}
use Rattle.lattice_core.proofs.SizeLimits.{limit_bound}
use Rattle.lattice_theory.specs.Grid.{IsInBox}
use Rattle.point_scan.specs.ScanSteps.{AreCorners}

-- the absolute sum of a vector whose entries are within j times the reaches from the coordinate k on
absolute_sum_from : (points : List (List ℤ)) (j k m : ℕ) (x : List ℤ) → m ≡ k + length x
    → ((i p : ℕ) → i < length x → p ≡ k + i → nat_abs (entry x i) ≤ j * reach points p)
    → absolute_sum x + j * size k points ≤ j * size m points
absolute_sum_from points j k m [] e h = let same : j * size k points ≡ j * size m points =
    ap (λ (n : ℕ). j * size n points) (omega arith) in omega arith
absolute_sum_from points j k m (a ∷ x) e h =
    let first = h 0 k (zero-lt-suc _) (omega arith) in
    let rest = absolute_sum_from points j (suc k) m x (omega arith) (λ i p l q. h (suc i) p (suc-le-suc l) (omega arith)) in
    omega (arith, first, rest)

-- j times a number
pub multiple_small : (j r : ℕ) (a b : ℤ) → a ≡ pos j *ℤ b → nat_abs b ≤ r → nat_abs a ≤ j * r
multiple_small j r a b e h = rw (e, unsigned_abs-mul) (mul-le-mul_left j h)

-- so the points of the box have at most j times the size
pub absolute_sum_in_box : (n : ℕ) (points : List (List ℤ)) (j : ℕ) (low high x : List ℤ) → AreCorners n points j low high
    → IsInBox low high x → absolute_sum x ≤ j * size n points
absolute_sum_in_box n points j low high x corners inside =
    let e = inside.low_dimension in
    let d = corners.low_dimension in
    let w = absolute_sum_from points j 0 n x (omega arith) (λ i p l q. small i p l (omega arith)) in
    omega (arith, w)
  where
    small : (i p : ℕ) → i < length x → p ≡ i → nat_abs (entry x i) ≤ j * reach points p
    small i p l q =
        let s = corners.spans i (let e = inside.low_dimension in let d = corners.low_dimension in omega arith) in
        let w = inside.within i l in
        rw q (between_small (entry low i) (entry high i) (entry x i) (j * reach points i) w.0 w.1
        (multiple_small j (reach points i) (entry low i) s.lowest s.low_is s.spans.small_low)
        (multiple_small j (reach points i) (entry high i) s.highest s.high_is s.spans.small_high))

-- multiples of numbers in order
times_ordered : (j : ℕ) (a b : ℤ) → a ≤ℤ b → (pos j *ℤ a) ≤ℤ (pos j *ℤ b)
times_ordered j a b h =
    let rest = product_nonnegative (pos j) (b -ℤ a) (omega (arith, linear)) (omega (arith, linear)) in
    let parts = *ℤ-+ℤ (pos j) a (b -ℤ a) in
    let whole : pos j *ℤ (a +ℤ (b -ℤ a)) ≡ pos j *ℤ b = ap (λ (z : ℤ). pos j *ℤ z) (omega (arith, linear)) in
    omega (arith, linear, rest, parts, whole)

-- the lowest corner is in the box
pub corner_in_box : (n : ℕ) (points : List (List ℤ)) (j : ℕ) (low high : List ℤ) → AreCorners n points j low high → IsInBox low high low
corner_in_box n points j low high corners = record {
  low_dimension = refl;
  high_dimension = corners.high_dimension ∙ sym corners.low_dimension;
  within = λ i l.
      let d = corners.low_dimension in
      let s = corners.spans i (omega arith) in
      (omega (arith, ints), rw (s.low_is, s.high_is) (times_ordered j s.lowest s.highest s.spans.ordered));
}

-- within the size limit they are small enough for values to be computed
pub position_small : (n : ℕ) (points : List (List ℤ)) (j : ℕ) (low high x : List ℤ) → j ≤ 7 → IsSized n points
    → AreCorners n points j low high → IsInBox low high x → absolute_sum x ≤ 2 ^ 33
position_small n points j low high x dilate small corners inside =
    let w = absolute_sum_in_box n points j low high x corners inside in
    let s : size n points ≤ 2 ^ 30 = omega (arith, limit_bound n) in
    omega (arith, w, mul-le-mul_right {m = j} {n = 7} (size n points) dilate, mul-le-mul_left 7 s)

-- the corners are small, too
pub low_small : (n : ℕ) (points : List (List ℤ)) (j : ℕ) (low high : List ℤ) → j ≤ 7 → IsSized n points → AreCorners n points j low high
    → absolute_sum low ≤ 2 ^ 33
low_small n points j low high dilate small corners =
    position_small n points j low high low dilate small corners (corner_in_box n points j low high corners)

-- the highest one is in the box
top_in_box : (n : ℕ) (points : List (List ℤ)) (j : ℕ) (low high : List ℤ) → AreCorners n points j low high → IsInBox low high high
top_in_box n points j low high corners = record {
  low_dimension = corners.low_dimension ∙ sym corners.high_dimension;
  high_dimension = refl;
  within = λ i l. let w = (corner_in_box n points j low high corners).within i (let a = corners.low_dimension in
      let b = corners.high_dimension in omega arith) in (w.1, omega (arith, ints));
}

-- so it is small
pub high_small : (n : ℕ) (points : List (List ℤ)) (j : ℕ) (low high : List ℤ) → j ≤ 7 → IsSized n points → AreCorners n points j low high
    → absolute_sum high ≤ 2 ^ 33
high_small n points j low high dilate small corners = position_small n points j low high high dilate small corners
    (top_in_box n points j low high corners)

-- the corners told by equations
pub corners_moved : (n : ℕ) (points : List (List ℤ)) (j : ℕ) (low high low' high' : List ℤ) → low' ≡ low → high' ≡ high
    → AreCorners n points j low high → AreCorners n points j low' high'
corners_moved n points j low high low' high' e f h = rw (e, f) h
