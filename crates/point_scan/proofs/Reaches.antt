-- The span of a coordinate, point by point.
use Rattle.std.specs.Prelude.{ℤ, nat_abs, ◌*ℤ◌, ◌≤ℤ◌}
use Rattle.std.specs.List.{All}
use Rattle.std.proofs.Common.{◌≡◌, ℕ, zero, suc, ◌+◌, ◌^◌, ◌<◌, ◌≤◌, ◌⊎◌, inl, inr, List, [], ◌∷◌, ◌++◌, length, take, get_or, sym, ap, subst, arith}
use Rattle.std.proofs.lemmas.Int.{ints, fits_signed_mul}
use Rattle.std.specs.Int.RustNames.{FitsSigned}
use mir.Syntax.{w64}
use Rattle.std.proofs.lemmas.List.Elements.{All-more, All-weaker}
use Rattle.lattice_theory.specs.Vector.{entry}
use Rattle.lattice_theory.specs.Size.{reach, size}
use Rattle.lattice_theory.proofs.Members.{in_from_contains}
use Rattle.point_scan.specs.ScanSteps.{IsDilateSpan}
use Rattle.lattice_theory.proofs.Vectors.{entry_before, entry_last}
use Rattle.lattice_theory.proofs.Sizes.{within_reach}

-- each coordinate of a point is within the reach of that coordinate
pub within_reach_at : (points : List (List ℤ)) (j i : ℕ) (p : List ℤ) → j < length points → p ≡ get_or points j p
    → nat_abs (entry p i) ≤ reach points i
within_reach_at points j i p within is = within_reach points i (in_from_contains points (j, within, sym is))

-- a span of the first points, widened to one more
pub span_more : (points : List (List ℤ)) (i j : ℕ) (p : List ℤ) (low high low' high' : ℤ) → j < length points → p ≡ get_or points j p
    → All (λ q. (low ≤ℤ entry q i) × (entry q i ≤ℤ high)) (take j points) → low' ≤ℤ low → high ≤ℤ high' → low' ≤ℤ entry p i
    → entry p i ≤ℤ high'
    → All (λ q. (low' ≤ℤ entry q i) × (entry q i ≤ℤ high')) (take (j + 1) points)
span_more points i j p low high low' high' within is span lower upper p_low p_high =
    let wide : List ℤ → Type 0 = λ q. (low' ≤ℤ entry q i) × (entry q i ≤ℤ high') in
    All-more wide points j p within
    (All-weaker (λ (q : List ℤ). (low ≤ℤ entry q i) × (entry q i ≤ℤ high)) wide (λ q h. wider (entry q i) h.0 h.1) (take j points) span)
    (subst wide is (p_low, p_high))
  where
    wider : (z : ℤ) → low ≤ℤ z → z ≤ℤ high → (low' ≤ℤ z) × (z ≤ℤ high')
    wider z h k = (omega (arith, ints), omega (arith, ints))

-- no coordinate reaches further than the size
pub reach-size : (n i : ℕ) (points : List (List ℤ)) → i < n → reach points i ≤ size n points
reach-size zero i points h = absurd (omega arith)
reach-size (suc n) i points h = by (last_or_below i n h) (λ b. reach-size n i points b)
  where
    last_or_below : (i n : ℕ) → i < suc n → (i < n) ⊎ (i ≡ n)
    last_or_below i n h = grind arith

    by : (i < n) ⊎ (i ≡ n) → (i < n → reach points i ≤ size n points) → reach points i ≤ size n points + reach points n
    by (inl b) below = let e = below b in omega arith
    by (inr e) below = let same : reach points i ≡ reach points n = ap (reach points) e in omega arith

-- so j times a coordinate of a span fits 64 bits
pub product_fits : (points : List (List ℤ)) (n i : ℕ) (d a : ℤ) → i < n → size n points ≤ 2 ^ 30 → nat_abs d ≤ 7
    → nat_abs a ≤ reach points i → FitsSigned w64 (d *ℤ a)
product_fits points n i d a h small l k = let r = reach-size n i points h in
    fits_signed_mul w64 d a 7 (2 ^ 30) l (omega arith) (omega arith)

-- with one more coordinate of both corners, their spans are known up to that one
pub spans_more : (points : List (List ℤ)) (j i : ℕ) (low high : List ℤ) (a b : ℤ) → length low ≡ i → length high ≡ i
    → ((k : ℕ) → k < i → IsDilateSpan points j k (entry low k) (entry high k)) → IsDilateSpan points j i a b
    → (k : ℕ) → k < i + 1 → IsDilateSpan points j k (entry (low ++ (a ∷ [])) k) (entry (high ++ (b ∷ [])) k)
spans_more points j i low high a b e f spans last k h = by (last_or_below k i h)
  where
    last_or_below : (k i : ℕ) → k < i + 1 → (k < i) ⊎ (k ≡ i)
    last_or_below k i h = grind arith

    by : (k < i) ⊎ (k ≡ i) → IsDilateSpan points j k (entry (low ++ (a ∷ [])) k) (entry (high ++ (b ∷ [])) k)
    by (inl l) = rw (entry_before low a k (omega arith), entry_before high b k (omega arith)) (spans k l)
    by (inr l) = rw (entry_last low a k (omega arith), entry_last high b k (omega arith)) (rw l last)
