-- Functions with the members of a kernel as normals: hyperplanes, flat functions, and opposite functions.
use Rattle.std.specs.Prelude.{nat_abs}
use Rattle.std.proofs.Common.{◌≡◌, ◌≢◌, ◌⊎◌, ℕ, zero, suc, ◌^◌, ◌<◌, ◌≤◌, List, [], ◌∷◌, length, get_or, map, ℤ, pos, negsuc, neg_ℤ, ◌+ℤ◌, ◌*ℤ◌}
use Rattle.std.proofs.Common.{◌<ℤ◌, inl, inr, ⊎_elim, refl, sym, ap, ap₂, ◌∙◌, subst, All, Contains, arith}
use Rattle.std.proofs.lemmas.List.Elements.{All-contains, All-weaker}
use Rattle.lattice_theory.specs.Vector.{entry, dot, scaled, IsPrimitive, HaveDimension, IsVectorMultiple}
use Rattle.lattice_theory.specs.Affine.{Affine, value, Vanishes, IsMultiple}
use Rattle.lattice_theory.specs.Facet.{IsFlat, IsFlatFunction}
use Rattle.lattice_theory.proofs.Integers.{products_out, linear, zero_or_not, positive_or_negative, positive_nonzero, product_nonzero, *ℤ_comm, minus_one-*ℤ, zero-*ℤ}
use Rattle.elimination.specs.Elimination.{Member, Annihilates}
use Rattle.elimination.proofs.KernelSize.{empty_kernel_lem, single_kernel_lem, large_kernel_lem}
use Rattle.elimination.proofs.KernelPlaces.{kernel_earliest_lem}
use Rattle.lattice_theory.proofs.Members.{each_from_all, all_from_each}
use Rattle.lattice_theory.proofs.Vectors.{length-scaled, entry-scaled, scaled-scaled, dot-scaled_left, dot-scaled_right, entries_from_zero, same_from_entries, zero_from_entries}
use Rattle.lattice_theory.proofs.Divisibility.{primitive_combination, primitive_from_combination, primitive_nonzero}
use Rattle.normal_bounds.specs.Bounds.{IsFixedBy}
use Rattle.hull.specs.Hyperplanes.{StartsPositive, HasTwoFunctions}
use Rattle.hull.specs.steps.Differences.{differences}
use Rattle.hull.specs.steps.Kernels.{IsPrimitiveKernel}
use Rattle.hull.proofs.Kernels.{owns_later}
use Rattle.hull.proofs.Vectors.{annihilates_differences, vanishes_from_differences, multiple_from_normals, normals_from_multiple}

-- a number less itself
less_itself : (a : ℤ) → a +ℤ neg_ℤ a ≡ pos 0
less_itself a = omega (arith, linear)

-- the function vanishes at the point
pub vanishes_at : (k p : List ℤ) (f : Affine) → f.normal ≡ k → f.constant ≡ neg_ℤ (dot k p) → value f p ≡ pos 0
vanishes_at k p f n c = ap₂ (λ (x : List ℤ) (z : ℤ). dot x p +ℤ z) n c ∙ less_itself (dot k p)

-- and at all points, where the member annihilates their differences
pub member_vanishes : (n : ℕ) (points : List (List ℤ)) (first k : List ℤ) (f : Affine) → HaveDimension n points
    → first ≡ get_or points 0 first → Annihilates (differences points) k → f.normal ≡ k → f.constant ≡ neg_ℤ (dot k first)
    → Vanishes points f
member_vanishes n [] first k f d e a m c = λ i x h. absurd (omega arith)
member_vanishes n (p ∷ points) first k f d e a m c =
    vanishes_from_differences n p points f d (subst (λ (q : List ℤ). value f q ≡ pos 0) e (vanishes_at k first f m c)) (rw m a)

-- the first point is a point
pub first_member : (points : List (List ℤ)) (first : List ℤ) → 0 < length points → first ≡ get_or points 0 first → Contains points first
first_member points first h e = (0, h, sym e)

-- with one member, its function is fixed by the points
pub single_fixed : (n : ℕ) (points : List (List ℤ)) (first : List ℤ) (ks : List Member) (k : Member) (f : Affine) → HaveDimension n points
    → 0 < length points → first ≡ get_or points 0 first
    → IsPrimitiveKernel n (differences points) ks → ks ≡ k ∷ [] → f.normal ≡ k.vector → f.constant ≡ neg_ℤ (dot k.vector first)
    → IsFixedBy n points f
single_fixed n points first ks k f d some e kernel only m c =
    let single = subst (IsPrimitiveKernel n (differences points)) only kernel in
    let vanishes = member_vanishes n points first k.vector f d e (single.kernel.annihilate 0 k (omega arith)) m c in
    let at_first = vanishes_at k.vector first f m c in
    record {
      dimension = ap length m ∙ single.kernel.lengths 0 k (omega arith);
      primitive = rw m (single.primitive 0 k (omega arith));
      vanishes = vanishes;
      determined = λ g l v. multiple_from_normals g f first
          (All-contains (λ p. value g p ≡ pos 0) points first v (first_member points first some e)) at_first
          (rw m (single_kernel_lem n (differences points) k single.kernel g.normal l (annihilates_differences n points g d v)));
    }

-- the function through a point with a vector as its normal
abbrev through : List ℤ → List ℤ → Affine
through k p = record { normal = k; constant = neg_ℤ (dot k p) }

-- a vector is a multiple of itself
itself : (x : List ℤ) → IsVectorMultiple x x
itself x = record { left = pos 1; right = pos 1; nonzero = positive_nonzero (pos 1) (omega (arith, linear)); same = refl }

-- with two members or more, two functions vanish
pub several_functions : (n : ℕ) (points : List (List ℤ)) (first : List ℤ) (ks : List Member) → HaveDimension n points
    → first ≡ get_or points 0 first → IsPrimitiveKernel n (differences points) ks → 2 ≤ length ks → HasTwoFunctions n points
several_functions n points first [] d e kernel h = absurd (omega arith)
several_functions n points first (k ∷ []) d e kernel h = absurd (omega arith)
several_functions n points first (k ∷ (l ∷ ks)) d e kernel h = record {
  one = through k.vector first;
  other = through l.vector first;
  dimension_one = kernel.kernel.lengths 0 k (omega arith);
  dimension_other = kernel.kernel.lengths 1 l (omega arith);
  vanishes_one = member_vanishes n points first k.vector (through k.vector first) d e (kernel.kernel.annihilate 0 k (omega arith))
      refl refl;
  vanishes_other = member_vanishes n points first l.vector (through l.vector first) d e (kernel.kernel.annihilate 1 l (omega arith))
      refl refl;
  not_multiple = λ m. large_kernel_lem n (differences points) k l ks kernel.kernel l.vector
      (normals_from_multiple (through k.vector first) (through l.vector first) m) (itself l.vector);
  not_multiple_back = λ m. large_kernel_lem n (differences points) k l ks kernel.kernel k.vector (itself k.vector)
      (normals_from_multiple (through l.vector first) (through k.vector first) m);
}

-- a multiple by 0 of vectors of one length
zero_multiples : (x y : List ℤ) → length x ≡ length y → scaled (pos 0) x ≡ scaled (pos 0) y
zero_multiples x y e = same_from_entries (scaled (pos 0) x) (scaled (pos 0) y) (length-scaled (pos 0) x ∙ e ∙ sym (length-scaled (pos 0) y))
    (λ i. entry-scaled (pos 0) x i ∙ zero-*ℤ (entry x i) ∙ sym (zero-*ℤ (entry y i)) ∙ sym (entry-scaled (pos 0) y i))

-- where all are multiples of one, there are no two functions
pub not_several : (n : ℕ) (points : List (List ℤ)) (f : Affine) → IsFixedBy n points f → HasTwoFunctions n points → ⊥
not_several n points f fixed two =
    let a = fixed.determined two.one two.dimension_one two.vanishes_one in
    let b = fixed.determined two.other two.dimension_other two.vanishes_other in
    ⊎_elim
    (λ (z : a.right ≡ pos 0). two.not_multiple (record {
      left = a.left;
      right = pos 0;
      nonzero = a.nonzero;
      normals = a.normals ∙ ap (λ (q : ℤ). scaled q f.normal) z ∙ zero_multiples f.normal two.other.normal
          (fixed.dimension ∙ sym two.dimension_other);
      constants = a.constants ∙ ap (λ (q : ℤ). q *ℤ f.constant) z ∙ zero-*ℤ f.constant ∙ sym (zero-*ℤ two.other.constant);
    }))
    (λ (u : a.right ≢ pos 0). two.not_multiple_back (record {
      left = a.right *ℤ b.left;
      right = b.right *ℤ a.left;
      nonzero = product_nonzero a.right b.left u b.nonzero;
      normals = sym (scaled-scaled a.right b.left two.other.normal) ∙ ap (scaled a.right) b.normals ∙ scaled-scaled a.right b.right f.normal
          ∙ ap (λ (q : ℤ). scaled q f.normal) (*ℤ_comm a.right b.right) ∙ sym (scaled-scaled b.right a.right f.normal)
          ∙ ap (scaled b.right) (sym a.normals) ∙ scaled-scaled b.right a.left two.one.normal;
      constants = crossed a.left a.right b.left b.right two.one.constant two.other.constant f.constant a.constants b.constants;
    }))
    (zero_or_not a.right)
  where
    crossed : (q r s t x y z : ℤ) → q *ℤ x ≡ r *ℤ z → s *ℤ y ≡ t *ℤ z → (r *ℤ s) *ℤ y ≡ (t *ℤ q) *ℤ x
    crossed q r s t x y z h k =
        let h' = simp products_out at (ap (λ (w : ℤ). t *ℤ w) h) in
        let k' = ap (λ (w : ℤ). r *ℤ w) k in
        simp products_out (omega (arith, linear))

-- the opposite function's values
pub opposite_value : (f g : Affine) (p : List ℤ) → g.normal ≡ scaled (negsuc 0) f.normal → g.constant ≡ neg_ℤ f.constant
    → value g p ≡ neg_ℤ (value f p)
opposite_value f g p m c = ap₂ (λ (x : List ℤ) (z : ℤ). dot x p +ℤ z) m c ∙ ap (λ (z : ℤ). z +ℤ neg_ℤ f.constant)
    (dot-scaled_left (negsuc 0) f.normal p ∙ minus_one-*ℤ (dot f.normal p)) ∙ both_neg (dot f.normal p) f.constant
  where
    both_neg : (a b : ℤ) → neg_ℤ a +ℤ neg_ℤ b ≡ neg_ℤ (a +ℤ b)
    both_neg a b = omega (arith, linear)

-- the opposite vector is primitive too
pub opposite_primitive : (x : List ℤ) → IsPrimitive x → IsPrimitive (scaled (negsuc 0) x)
opposite_primitive x h =
    let c = primitive_combination x h in
    primitive_from_combination (scaled (negsuc 0) c.0) (scaled (negsuc 0) x) (dot-scaled_left (negsuc 0) c.0 (scaled (negsuc 0) x)
    ∙ ap (λ (z : ℤ). negsuc 0 *ℤ z) (dot-scaled_right (negsuc 0) c.0 x ∙ ap (λ (z : ℤ). negsuc 0 *ℤ z) c.1))

-- a multiple of a function is one of the opposite function
pub opposite_multiple : (f g h : Affine) → g.normal ≡ scaled (negsuc 0) f.normal → g.constant ≡ neg_ℤ f.constant → IsMultiple h f
    → IsMultiple h g
opposite_multiple f g h m c a = record {
  left = a.left;
  right = neg_ℤ a.right;
  nonzero = a.nonzero;
  normals = a.normals ∙ ap (λ (q : ℤ). scaled q f.normal) (twice a.right) ∙ sym (scaled-scaled (neg_ℤ a.right) (negsuc 0) f.normal)
      ∙ ap (scaled (neg_ℤ a.right)) (sym m);
  constants = a.constants ∙ both a.right f.constant ∙ ap (λ (z : ℤ). neg_ℤ a.right *ℤ z) (sym c);
}
  where
    twice : (q : ℤ) → q ≡ neg_ℤ q *ℤ negsuc 0
    twice q = sym (*ℤ_comm (neg_ℤ q) (negsuc 0) ∙ minus_one-*ℤ (neg_ℤ q) ∙ omega (arith, linear))

    both : (q z : ℤ) → q *ℤ z ≡ neg_ℤ q *ℤ neg_ℤ z
    both q z = simp products_out (omega (arith, linear))

-- so the opposite of a function that is fixed is fixed
pub opposite_fixed : (n : ℕ) (points : List (List ℤ)) (f g : Affine) → IsFixedBy n points f → g.normal ≡ scaled (negsuc 0) f.normal
    → g.constant ≡ neg_ℤ f.constant → IsFixedBy n points g
opposite_fixed n points f g fixed m c = record {
  dimension = ap length m ∙ length-scaled (negsuc 0) f.normal ∙ fixed.dimension;
  primitive = rw m (opposite_primitive f.normal fixed.primitive);
  vanishes = All-weaker (λ p. value f p ≡ pos 0) (λ p. value g p ≡ pos 0) (λ p z. opposite_value f g p m c ∙ ap neg_ℤ z)
      points fixed.vanishes;
  determined = λ h l v. opposite_multiple f g h m c (fixed.determined h l v);
}

-- the first entry that isn't 0
record FirstEntry (x : List ℤ) : Type 0 where
  place : ℕ
  nonzero : entry x place ≢ pos 0
  zeros : (j : ℕ) → j < place → entry x j ≡ pos 0

-- one entry more before it
first_deeper : (a : ℤ) (x : List ℤ) → a ≡ pos 0 → FirstEntry x → FirstEntry (a ∷ x)
first_deeper a x e h = record { place = suc h.place; nonzero = h.nonzero; zeros = earlier }
  where
    earlier : (j : ℕ) → j < suc h.place → entry (a ∷ x) j ≡ pos 0
    earlier zero l = e
    earlier (suc j) l = h.zeros j (omega arith)

-- none, or the first
first_entry : (x : List ℤ) → ((i : ℕ) → entry x i ≡ pos 0) ⊎ FirstEntry x
first_entry [] = inl (λ i. refl)
first_entry (a ∷ x) = ⊎_elim
    (λ (e : a ≡ pos 0). ⊎_elim (λ (z : (i : ℕ) → entry x i ≡ pos 0). inl (λ i. none e z i))
    (λ (h : FirstEntry x). inr (first_deeper a x e h)) (first_entry x))
    (λ (u : a ≢ pos 0). inr (record { place = 0; nonzero = u; zeros = λ j l. absurd (omega arith) }))
    (zero_or_not a)
  where
    none : a ≡ pos 0 → ((i : ℕ) → entry x i ≡ pos 0) → (i : ℕ) → entry (a ∷ x) i ≡ pos 0
    none e z zero = e
    none e z (suc i) = z i

-- a primitive vector whose first entry isn't positive has the opposite of one whose first entry is
pub opposite_starts : (x y : List ℤ) → IsPrimitive x → (StartsPositive x → ⊥) → y ≡ scaled (negsuc 0) x → StartsPositive y
opposite_starts x y p n e = ⊎_elim
    (λ (z : (i : ℕ) → entry x i ≡ pos 0). absurd (primitive_nonzero x p (zero_from_entries x z)))
    (λ (h : FirstEntry x). ⊎_elim
    (λ (up : pos 0 <ℤ entry x h.place). absurd (n (record { place = h.place; positive = up; zeros = h.zeros })))
    (λ (down : pos 0 <ℤ neg_ℤ (entry x h.place)). record {
      place = h.place;
      positive = rw (e, entry-scaled (negsuc 0) x h.place, minus_one-*ℤ) down;
      zeros = λ j l. ap (λ (z : List ℤ). entry z j) e ∙ entry-scaled (negsuc 0) x j ∙ ap (λ (z : ℤ). negsuc 0 *ℤ z) (h.zeros j l);
    })
    (positive_or_negative (entry x h.place) h.nonzero))
    (first_entry x)

-- with no member the points aren't flat
pub none_not_flat : (n : ℕ) (points : List (List ℤ)) (ks : List Member) → HaveDimension n points
    → IsPrimitiveKernel n (differences points) ks → ks ≡ [] → IsFlat n points → ⊥
none_not_flat n points ks d kernel e flat =
    let empty_one = subst (IsPrimitiveKernel n (differences points)) e kernel in
    let zeros = empty_kernel_lem n (differences points) empty_one.kernel flat.function.normal flat.dimension
    (annihilates_differences n points flat.function d flat.vanishes) in
    flat.nonconstant.1 (entries_from_zero flat.function.normal zeros flat.nonconstant.0)

-- otherwise the first member gives the flat function
pub first_flat : (n : ℕ) (points : List (List ℤ)) (first : List ℤ) (ks : List Member) (k : Member) (f : Affine) → HaveDimension n points
    → first ≡ get_or points 0 first → IsPrimitiveKernel n (differences points) ks → 1 ≤ length ks → k ≡ get_or ks 0 k
    → f.normal ≡ k.vector → f.constant ≡ neg_ℤ (dot k.vector first) → IsFlatFunction n points f
first_flat n points first [] k f d e kernel h ek m c = absurd (omega arith)
first_flat n points first (l ∷ ks) k f d e kernel h ek m c =
    let normal : f.normal ≡ l.vector = m ∙ ap (λ (q : Member). q.vector) ek in
    let constant : f.constant ≡ neg_ℤ (dot l.vector first) = c ∙ ap (λ (q : Member). neg_ℤ (dot q.vector first)) ek in
    let later = all_from_each (owns_later l.own ks (each_from_all (λ y. l.own ≤ y) (map (λ q. q.own) ks) kernel.ascends.0)) in
    record {
      dimension = ap length normal ∙ kernel.kernel.lengths 0 l (omega arith);
      primitive = rw normal (kernel.primitive 0 l (omega arith));
      vanishes = member_vanishes n points first l.vector f d e (kernel.kernel.annihilate 0 l (omega arith)) normal constant;
      place = l.own;
      ends = rw normal (kernel.kernel.ends 0 l (omega arith));
      positive = rw normal (kernel.kernel.own_positive 0 l (omega arith));
      earliest = λ g j dimension v ends. (kernel_earliest_lem n (differences points) l ks kernel.kernel later g.normal dimension
          (annihilates_differences n points g d v) j ends).0;
    }

-- a list of one member
pub only_member : (ks : List Member) (k : Member) → length ks ≡ 1 → k ≡ get_or ks 0 k → ks ≡ k ∷ []
only_member [] k h e = absurd (omega arith)
only_member (l ∷ []) k h e = ap (λ (q : Member). q ∷ []) (sym e)
only_member (l ∷ (m ∷ ks)) k h e = absurd (omega arith)

-- a list of none
pub no_member : (ks : List Member) → length ks ≡ 0 → ks ≡ []
no_member [] h = refl
no_member (k ∷ ks) h = absurd (omega arith)

-- the entries of the first member
pub first_entries : (items ks : List Member) (k : Member) (x : List ℤ) → ks ≡ items → 0 < length ks → k ≡ get_or ks 0 k → x ≡ k.vector
    → All (λ m. All (λ a. nat_abs a < 2 ^ 63) m.vector) items → All (λ a. nat_abs a < 2 ^ 63) x
first_entries items ks k x e h ek ex small =
    let here = subst (All (λ m. All (λ a. nat_abs a < 2 ^ 63) m.vector)) (sym e) small 0 k h in
    subst (All (λ a. nat_abs a < 2 ^ 63)) (ap (λ (m : Member). m.vector) (sym ek) ∙ sym ex) here

-- the same without a name for the first point
pub two_functions : (n : ℕ) (points : List (List ℤ)) (ks : List Member) → 0 < length points → HaveDimension n points
    → IsPrimitiveKernel n (differences points) ks → 2 ≤ length ks → HasTwoFunctions n points
two_functions n [] ks h d kernel l = absurd (omega arith)
two_functions n (p ∷ points) ks h d kernel l = several_functions n (p ∷ points) p ks d refl kernel l
