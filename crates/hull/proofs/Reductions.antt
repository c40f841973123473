-- What the step leaves of a member: from the primitive part of a k - b p to the reduced member.
use Rattle.std.proofs.Common.{◌≡◌, ℕ, List, length, ℤ, pos, neg_ℤ, ◌-ℤ◌, ◌*ℤ◌, ◌<ℤ◌, ◌≤ℤ◌, sym, ap, ◌∙◌, subst, All, arith}
use Rattle.lattice_theory.specs.Vector.{entry, IsPrimitive}
use Rattle.lattice_theory.proofs.Integers.{products_out, linear, product_positive, positive_pos, positive_nonzero, positive_factor, neg_nonzero, *ℤ-zero}
use Rattle.facet_theory.proofs.Signs.{positive_from}
use Rattle.elimination.specs.Elimination.{Member}
use Rattle.lattice_theory.proofs.Vectors.{length-scaled, entry-scaled, entries_from_zero}
use Rattle.lattice_core.specs.Divisors.{IsPrimitivePart}
use Rattle.hull.specs.steps.Kernels.{CanReduce, IsReducedBy, AreMultiplesApart}

-- an entry of the primitive part, times the factor
pub part_entry : (v w : List ℤ) (h : IsPrimitivePart v w) (i : ℕ) → pos h.factor *ℤ entry w i ≡ entry v i
part_entry v w h i = sym (entry-scaled (pos h.factor) w i) ∙ ap (λ (x : List ℤ). entry x i) h.multiple

-- and its length
pub part_length : (v w : List ℤ) → IsPrimitivePart v w → length w ≡ length v
part_length v w h = sym (length-scaled (pos h.factor) w) ∙ ap length h.multiple

-- at its own place the member keeps a positive entry
own_value : (a b x y z : ℤ) → pos 0 <ℤ a → pos 0 <ℤ x → y ≡ pos 0 → z ≡ a *ℤ x -ℤ b *ℤ y → pos 0 <ℤ z
own_value a b x y z h k e f =
    let m = product_positive a x h k in
    let n = ap (λ (w : ℤ). b *ℤ w) e ∙ *ℤ-zero b in
    omega (arith, linear)

-- so a k - b p isn't 0
pub own_entry : (p : Member) (a : ℤ) (k : Member) (b : ℤ) (z : List ℤ) → pos 0 <ℤ a → entry p.vector k.own ≡ pos 0
    → pos 0 <ℤ entry k.vector k.own → AreMultiplesApart a k.vector b p.vector z → pos 0 <ℤ entry z k.own
own_entry p a k b z h apart positive m = own_value a b (entry k.vector k.own) (entry p.vector k.own) (entry z k.own) h positive apart
    (m.entries k.own)

-- so it has a primitive part
pub not_zero : (z : List ℤ) (i : ℕ) → pos 0 <ℤ entry z i → All (λ a. a ≡ pos 0) z → ⊥
not_zero z i h n = positive_nonzero (entry z i) h (entries_from_zero z n i)

-- the primitive part is the reduced member, where a is positive
pub reduced_positive : (p : Member) (a : ℤ) (k : Member) (b : ℤ) (z w : List ℤ) (l : Member) → pos 0 <ℤ a → entry p.vector k.own ≡ pos 0
    → pos 0 <ℤ entry k.vector k.own → AreMultiplesApart a k.vector b p.vector z
    → IsPrimitivePart z w → l.own ≡ k.own → l.vector ≡ w → IsReducedBy p a k b l
reduced_positive p a k b z w l h apart positive m part own vector = record {
  own = own;
  dimension = ap length vector ∙ part_length z w part ∙ m.dimension;
  primitive = subst IsPrimitive (sym vector) part.primitive;
  positive = positive_factor (pos part.factor) (entry l.vector l.own) (positive_pos part.factor part.positive)
      (rw (vector, own, part_entry z w part k.own) (own_entry p a k b z h apart positive m));
  factor = pos part.factor;
  nonzero = positive_nonzero (pos part.factor) (positive_pos part.factor part.positive);
  entries = λ j. ap (λ (x : List ℤ). pos part.factor *ℤ entry x j) vector ∙ part_entry z w part j ∙ m.entries j;
}

-- a change of both signs
signs : (d x a s b t : ℤ) → d *ℤ x ≡ neg_ℤ a *ℤ s -ℤ neg_ℤ b *ℤ t → neg_ℤ d *ℤ x ≡ a *ℤ s -ℤ b *ℤ t
signs d x a s b t e = let e' = simp products_out at e in simp products_out (omega (arith, linear))

-- where a is negative the step takes both numbers with the other sign
pub reduced_negative : (p : Member) (a : ℤ) (k : Member) (b : ℤ) (l : Member) → IsReducedBy p (neg_ℤ a) k (neg_ℤ b) l
    → IsReducedBy p a k b l
reduced_negative p a k b l h = record {
  own = h.own;
  dimension = h.dimension;
  primitive = h.primitive;
  positive = h.positive;
  factor = neg_ℤ h.factor;
  nonzero = neg_nonzero h.factor h.nonzero;
  entries = λ j. signs h.factor (entry l.vector j) a (entry k.vector j) b (entry p.vector j) (h.entries j);
}

-- the step in the program, where a isn't negative
pub reduced_plain : (p : Member) (a : ℤ) (k : Member) (b : ℤ) (x y z v w : List ℤ) (l : Member) → CanReduce p a k b → pos 0 ≤ℤ a
    → x ≡ k.vector → y ≡ p.vector → AreMultiplesApart a x b y z → v ≡ z
    → IsPrimitivePart v w → l.own ≡ k.own → l.vector ≡ w → IsReducedBy p a k b l
reduced_plain p a k b x y z v w l can n ex ey m ev part own vector =
    reduced_positive p a k b z w l (positive_from a n can.usable) can.apart can.positive
    (subst (λ (u : List ℤ). AreMultiplesApart a u b p.vector z) ex (subst (λ (u : List ℤ). AreMultiplesApart a x b u z) ey m))
    (subst (λ (u : List ℤ). IsPrimitivePart u w) ev part) own vector

-- and where it is
pub reduced_turned : (p : Member) (a : ℤ) (k : Member) (b c d : ℤ) (x y z v w : List ℤ) (l : Member) → CanReduce p a k b → a <ℤ pos 0
    → c ≡ neg_ℤ a → d ≡ neg_ℤ b → x ≡ k.vector → y ≡ p.vector → AreMultiplesApart c x d y z → v ≡ z
    → IsPrimitivePart v w → l.own ≡ k.own → l.vector ≡ w → IsReducedBy p a k b l
reduced_turned p a k b c d x y z v w l can n ec ed ex ey m ev part own vector =
    reduced_negative p a k b l (subst (λ (u : ℤ). IsReducedBy p u k (neg_ℤ b) l) ec (subst (λ (u : ℤ). IsReducedBy p c k u l) ed
    (reduced_positive p c k d z w l (rw ec (turned_positive a n)) can.apart can.positive
    (subst (λ (u : List ℤ). AreMultiplesApart c u d p.vector z) ex (subst (λ (u : List ℤ). AreMultiplesApart c x d u z) ey m))
    (subst (λ (u : List ℤ). IsPrimitivePart u w) ev part) own vector)))
  where
    turned_positive : (a : ℤ) → a <ℤ pos 0 → pos 0 <ℤ neg_ℤ a
    turned_positive a h = omega (arith, linear)
