-- The segment from -2 to 5: its two facets, that it has no others, and that it isn't flat.
use Rattle.std.specs.Prelude.{◌≢◌, ℤ, pos, negsuc, ◌*ℤ◌, ◌≤ℤ◌}
use Rattle.std.specs.List.{Contains}
use Rattle.std.proofs.Common.{◌≡◌, ◌⊎◌, inl, inr, ℕ, zero, suc, List, [], ◌∷◌, refl, sym, ap, arith}
use Rattle.std.proofs.lemmas.Int.{ints}
use Rattle.lattice_theory.specs.Vector.{entry, DividesInteger, IsPrimitive}
use Rattle.lattice_theory.specs.Affine.{Affine, value}
use Rattle.lattice_theory.specs.Facet.{IsFlat, IsFacet, AreFacetsInAnyOrder}
use Rattle.lattice_theory.specs.Examples.{segment, on_line, function, minus1, minus2}
use Rattle.lattice_theory.proofs.Divisibility.{divides_one, divides_minus_one}
use Rattle.lattice_theory.proofs.ExampleSteps.{by_one, line_facet, line_multiple, one_nonzero}
use Rattle.lattice_theory.proofs.Integers.{one-*ℤ, minus_one-*ℤ, zero_or_not}
use Rattle.lattice_theory.proofs.Members.{In, here, there, empty, more, all_from_each, in_from_contains}

abbrev pub lower : Affine
lower = function (on_line (pos 1)) (pos 2)

abbrev pub upper : Affine
upper = function (on_line minus1) (pos 5)

pub lower_facet : IsFacet 1 segment lower
lower_facet = line_facet segment (pos 1) (pos 2) (λ d h. divides_one d (h 0 (pos 0) (omega arith))) refl (λ a c v.
    let e = v (on_line minus2) (0, omega arith, refl) refl in
    line_multiple (pos 1) a a c (pos 1) (pos 2) one_nonzero (omega (arith, ints)) (omega (arith, ints)))

pub upper_facet : IsFacet 1 segment upper
upper_facet = line_facet segment minus1 (pos 5) (λ d h. divides_minus_one d (h 0 (pos 0) (omega arith))) refl (λ a c v.
    let e = v (on_line (pos 5)) (1, omega arith, refl) refl in
    line_multiple minus1 a a c minus1 (pos 5) (λ z. omega (arith, ints)) (omega (arith, ints)) (omega (arith, ints)))

-- a primitive vector of one entry
unit_entry : (a : ℤ) → IsPrimitive (on_line a) → (a ≡ pos 1) ⊎ (a ≡ minus1)
unit_entry (pos n) h =
    let one = h n (all_from_each {P = DividesInteger n} (more (pos 1, one-*ℤ (pos n)) empty)) in
    inl (ap (λ (m : ℕ). pos m) one)
unit_entry (negsuc n) h =
    let one : suc n ≡ 1 = h (suc n) (all_from_each {P = DividesInteger (suc n)} (more (negsuc 0, minus_one-*ℤ (pos (suc n))) empty)) in
    inr (omega (arith, ints))

-- a facet vanishes at an end: otherwise a constant function would be a multiple of it
at_an_end : (a c : ℤ) → (a ≡ pos 1) ⊎ (a ≡ minus1) → IsFacet 1 segment (function (on_line a) c)
    → (value (function (on_line a) c) (on_line minus2) ≡ pos 0) ⊎ (value (function (on_line a) c) (on_line (pos 5)) ≡ pos 0)
at_an_end a c unit facet = by (zero_or_not (value (function (on_line a) c) (on_line minus2)))
    (zero_or_not (value (function (on_line a) c) (on_line (pos 5))))
  where
    one_at : (p : List ℤ) → value (function (on_line a) c) (on_line minus2) ≢ pos 0
        → value (function (on_line a) c) (on_line (pos 5)) ≢ pos 0 → In p segment → value (function (on_line a) c) p ≡ pos 0
        → value (function (on_line (pos 0)) (pos 1)) p ≡ pos 0
    one_at p low high here e = absurd (low e)
    one_at p low high (there here) e = absurd (high e)
    one_at p low high (there (there i)) e = elim i [ ]

    no_multiple : (u : ℤ) → (u ≡ pos 1) ⊎ (u ≡ minus1) → (q r : ℤ) → q ≢ pos 0 → q *ℤ pos 0 ≡ r *ℤ u → q *ℤ pos 1 ≡ r *ℤ c → ⊥
    no_multiple u (inl e) q r nonzero first constants =
        let first' = rw e at first in
        let none : r ≡ pos 0 = omega (arith, ints) in
        let constants' = rw none at constants in
        nonzero (omega (arith, ints))
    no_multiple u (inr e) q r nonzero first constants =
        let first' = rw e at first in
        let none : r ≡ pos 0 = omega (arith, ints) in
        let constants' = rw none at constants in
        nonzero (omega (arith, ints))

    by : (value (function (on_line a) c) (on_line minus2) ≡ pos 0) ⊎ (value (function (on_line a) c) (on_line minus2) ≢ pos 0)
        → (value (function (on_line a) c) (on_line (pos 5)) ≡ pos 0) ⊎ (value (function (on_line a) c) (on_line (pos 5)) ≢ pos 0)
        → (value (function (on_line a) c) (on_line minus2) ≡ pos 0) ⊎ (value (function (on_line a) c) (on_line (pos 5)) ≡ pos 0)
    by (inl e) h = inl e
    by (inr n) (inl e) = inr e
    by (inr n) (inr m) =
        let multiple = facet.determined (function (on_line (pos 0)) (pos 1)) refl (λ p i e. one_at p n m (in_from_contains segment i) e) in
        absurd (no_multiple a unit multiple.left multiple.right multiple.nonzero (ap (λ (x : List ℤ). entry x 0) multiple.normals)
        multiple.constants)

-- so there are no others
only : (a c : ℤ) → IsFacet 1 segment (function (on_line a) c) → Contains (lower ∷ upper ∷ []) (function (on_line a) c)
only a c facet = by (unit_entry a facet.primitive) (at_an_end a c (unit_entry a facet.primitive) facet)
  where
    least : pos 0 ≤ℤ value (function (on_line a) c) (on_line minus2)
    least = facet.nonnegative 0 (on_line minus2) (omega arith)

    greatest : pos 0 ≤ℤ value (function (on_line a) c) (on_line (pos 5))
    greatest = facet.nonnegative 1 (on_line (pos 5)) (omega arith)

    low : (u d : ℤ) → u ≡ pos 1 → d ≡ pos 2 → function (on_line u) d ≡ lower
    low u d e g = λ i. function (on_line (e i)) (g i)

    high : (u d : ℤ) → u ≡ minus1 → d ≡ pos 5 → function (on_line u) d ≡ upper
    high u d e g = λ i. function (on_line (e i)) (g i)

    by : (a ≡ pos 1) ⊎ (a ≡ minus1) → (value (function (on_line a) c) (on_line minus2) ≡ pos 0)
        ⊎ (value (function (on_line a) c) (on_line (pos 5)) ≡ pos 0)
        → Contains (lower ∷ upper ∷ []) (function (on_line a) c)
    by (inl e) (inl v) = (0, omega arith, sym (low a c e (let v' = rw e at v in omega (arith, ints))))
    by (inl e) (inr v) = let v' = rw e at v in let l = rw e at least in absurd (omega (arith, ints))
    by (inr e) (inl v) = let v' = rw e at v in let g = rw e at greatest in absurd (omega (arith, ints))
    by (inr e) (inr v) = (1, omega arith, sym (high a c e (let v' = rw e at v in omega (arith, ints))))

pub segment_facets : AreFacetsInAnyOrder 1 segment (lower ∷ upper ∷ [])
segment_facets f = (
  from,
  λ facet. by_one (λ x. (c : ℤ) → IsFacet 1 segment (function x c) → Contains (lower ∷ upper ∷ []) (function x c))
      only f.normal facet.dimension f.constant facet,
)
  where
    of_member : (g : Affine) → In g (lower ∷ upper ∷ []) → IsFacet 1 segment g
    of_member g here = lower_facet
    of_member g (there here) = upper_facet
    of_member g (there (there i)) = elim i [ ]

    from : Contains (lower ∷ upper ∷ []) f → IsFacet 1 segment f
    from c = of_member f (in_from_contains (lower ∷ upper ∷ []) c)

-- no function that isn't constant vanishes at both ends
pub segment_not_flat : IsFlat 1 segment → ⊥
segment_not_flat h = by_one
    (λ x. (c : ℤ) → (k : ℕ) → entry x k ≢ pos 0 → value (function x c) (on_line minus2) ≡ pos 0
    → value (function x c) (on_line (pos 5)) ≡ pos 0 → ⊥)
    none h.function.normal h.dimension h.function.constant h.nonconstant.0 h.nonconstant.1
    (h.vanishes 0 (on_line minus2) (omega arith)) (h.vanishes 1 (on_line (pos 5)) (omega arith))
  where
    none : (a c : ℤ) (k : ℕ) → entry (on_line a) k ≢ pos 0 → value (function (on_line a) c) (on_line minus2) ≡ pos 0
        → value (function (on_line a) c) (on_line (pos 5)) ≡ pos 0 → ⊥
    none a c zero n e g = n (omega (arith, ints))
    none a c (suc k) n e g = n refl
