-- Points have at most one flat function.
use Rattle.std.proofs.Common.{◌≡◌, ℕ, ◌<◌, ◌≤◌, List, length, ℤ, pos, negsuc, ◌+ℤ◌, ◌*ℤ◌, neg_ℤ, ◌<ℤ◌, sym, ap, subst, ◌∙◌, ⊎_elim, arith}
use Rattle.std.specs.List.{Contains}
use Rattle.std.proofs.lemmas.Bool.{cases_lt}
use Rattle.std.proofs.lemmas.Int.{ints}
use Rattle.std.proofs.lemmas.List.Elements.{All-contains}
use Rattle.lattice_theory.specs.Vector.{entry, dot, scaled, EndsAt}
use Rattle.lattice_theory.specs.Affine.{Affine, value, Vanishes}
use Rattle.lattice_theory.specs.Facet.{IsFlatFunction}
use Rattle.lattice_theory.proofs.Integers.{products_out, linear, positive_nonzero, zero_terms}
use Rattle.lattice_theory.proofs.Vectors.{entry-scaled, same_from_entries, zero_or_ends, length-scaled}
use Rattle.lattice_theory.proofs.Functions.{mixed, length-mixed, entry-mixed, value-mixed}
use Rattle.lattice_theory.proofs.Divisibility.{primitive_same}

-- it vanishes where both do
mixed_vanishes : (points : List (List ℤ)) (p : ℤ) (f : Affine) (q : ℤ) (g : Affine) → Vanishes points f → Vanishes points g
    → Vanishes points (mixed p f q g)
mixed_vanishes points p f q g h k i d within = value-mixed p f q g _ ∙ zero_terms p q _ _ (h i d within) (k i d within)

-- the entries of two flat functions where both end
cross : (a b : ℤ) → b *ℤ a +ℤ neg_ℤ a *ℤ b ≡ pos 0
cross a b = simp products_out (omega (arith, linear))

-- b f and a g have the same entries, where b f - a g has none but 0
same_entry : (a b u v : ℤ) → b *ℤ u +ℤ neg_ℤ a *ℤ v ≡ pos 0 → b *ℤ u ≡ a *ℤ v
same_entry a b u v h = let k = simp products_out at h in omega (arith, linear)

-- both normals end at one place
same_place : (n : ℕ) (points : List (List ℤ)) (f g : Affine) (hf : IsFlatFunction n points f) (hg : IsFlatFunction n points g)
    → hf.place ≡ hg.place
same_place n points f g hf hg =
    let first = hf.earliest g hg.place hg.dimension hg.vanishes hg.ends in
    let second = hg.earliest f hf.place hf.dimension hf.vanishes hf.ends in
    omega arith

-- with a and b their entries at that place k, b f - a g is 0 at k and beyond
late_zero : (f g : Affine) (k j : ℕ) → EndsAt f.normal k → EndsAt g.normal k → k ≤ j
    → entry (mixed (entry g.normal k) f (neg_ℤ (entry f.normal k)) g).normal j ≡ pos 0
late_zero f g k j ends_f ends_g late =
    entry-mixed (entry g.normal k) f (neg_ℤ (entry f.normal k)) g j ∙ ⊎_elim
    (λ (beyond : k < j). zero_terms (entry g.normal k) (neg_ℤ (entry f.normal k)) _ _ (ends_f.zeros j beyond) (ends_g.zeros j beyond))
    (λ (upto : j ≤ k). let same : j ≡ k = omega arith in rw same (cross (entry f.normal k) (entry g.normal k)))
    (cases_lt k j)

-- so it has no last entry that isn't 0, where no function that vanishes on the points ends before k: the two normals are on one line
same_line : (n : ℕ) (points : List (List ℤ)) (f g : Affine) (k : ℕ) → length f.normal ≡ n → length g.normal ≡ n → Vanishes points f
    → Vanishes points g
    → EndsAt f.normal k → EndsAt g.normal k → ((h : Affine) (j : ℕ) → length h.normal ≡ n → Vanishes points h → EndsAt h.normal j → k ≤ j)
    → scaled (entry g.normal k) f.normal ≡ scaled (entry f.normal k) g.normal
same_line n points f g k dimension_f dimension_g vanishes_f vanishes_g ends_f ends_g earliest =
    let a = entry f.normal k in
    let b = entry g.normal k in
    let h : Affine = mixed b f (neg_ℤ a) g in
    let dimension = length-mixed n b f (neg_ℤ a) g dimension_f dimension_g in
    let vanishes = mixed_vanishes points b f (neg_ℤ a) g vanishes_f vanishes_g in
    let zero : (i : ℕ) → entry h.normal i ≡ pos 0 = ⊎_elim
    (λ (z : (j : ℕ) → entry h.normal j ≡ pos 0). z)
    (λ (e : (j : ℕ) × (j < length h.normal) × EndsAt h.normal j). absurd
    (e.2.nonzero (late_zero f g k e.0 ends_f ends_g (earliest h e.0 dimension vanishes e.2))))
    (zero_or_ends h.normal) in
    same_from_entries _ _ (length-scaled b f.normal ∙ dimension_f ∙ sym dimension_g ∙ sym (length-scaled a g.normal)) (λ i.
    entry-scaled b f.normal i ∙ same_entry a b (entry f.normal i) (entry g.normal i) (sym (entry-mixed b f (neg_ℤ a) g i) ∙ zero i)
    ∙ sym (entry-scaled a g.normal i))

-- two vectors that aren't opposite
not_opposite : (f g : List ℤ) (k : ℕ) → pos 0 <ℤ entry f k → pos 0 <ℤ entry g k → f ≡ scaled (negsuc 0) g → ⊥
not_opposite f g k positive_f positive_g e =
    let entries : entry f k ≡ negsuc 0 *ℤ entry g k = ap (λ (x : List ℤ). entry x k) e ∙ entry-scaled (negsuc 0) g k in
    omega (arith, ints)

-- equal normals and a common zero give equal constants
same_constant : (d c e : ℤ) → d +ℤ c ≡ pos 0 → d +ℤ e ≡ pos 0 → c ≡ e
same_constant d c e h k = omega (arith, linear)

pub flat_function_unique : (n : ℕ) (points : List (List ℤ)) (p : List ℤ) (f g : Affine) → Contains points p → IsFlatFunction n points f
    → IsFlatFunction n points g → f ≡ g
flat_function_unique n points p f g member hf hg =
    let place = same_place n points f g hf hg in
    let ends_g : EndsAt g.normal hf.place = subst (EndsAt g.normal) (sym place) hg.ends in
    let positive_g : pos 0 <ℤ entry g.normal hf.place = subst (λ (k : ℕ). pos 0 <ℤ entry g.normal k) (sym place) hg.positive in
    let line = same_line n points f g hf.place hf.dimension hg.dimension hf.vanishes hg.vanishes hf.ends ends_g hf.earliest in
    let normals : f.normal ≡ g.normal =
    ⊎_elim (λ (e : f.normal ≡ g.normal). e)
    (λ (e : f.normal ≡ scaled (negsuc 0) g.normal). absurd (not_opposite f.normal g.normal hf.place hf.positive positive_g e))
    (primitive_same _ _ f.normal g.normal (positive_nonzero _ positive_g) hf.primitive hg.primitive line) in
    let zero_f : dot g.normal p +ℤ f.constant ≡ pos 0 = rw normals at (All-contains (λ x. value f x ≡ pos 0) points p hf.vanishes member) in
    let zero_g = All-contains (λ x. value g x ≡ pos 0) points p hg.vanishes member in
    let constants = same_constant (dot g.normal p) f.constant g.constant zero_f zero_g in
    λ i. record { normal = normals i; constant = constants i }
