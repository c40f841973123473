-- The weights 1, .., 1 are a system of the degree that is their number, and no other system has a degree that isn't above it.
use Rattle.std.proofs.Common.{◌≡◌, ℕ, zero, suc, ◌+◌, ◌<◌, ◌≤◌, List, [], ◌∷◌, length, map, ℤ, pos, ◌+ℤ◌, ◌-ℤ◌, ◌*ℤ◌, ◌≤ℤ◌, refl, sym, ap, ap₂, ◌∙◌, arith, subst}
use Rattle.lattice_theory.specs.Vector.{entry, dot, scaled}
use Rattle.lattice_theory.specs.Order.{Ascends}
use Rattle.lattice_theory.proofs.Integers.{products_out, linear, positive_nonzero, positive_pos}
use Rattle.lattice_theory.proofs.Members.{Each, empty, more, each_from_all, all_from_each, each_map}
use Rattle.lattice_theory.proofs.Vectors.{unit, zeros, length-unit, length-scaled, dot-unit, dot_comm, dot-scaled_right}
use Rattle.lattice_theory.proofs.Divisibility.{primitive_from_combination}
use Rattle.facet_theory.proofs.Signs.{nonnegative_sum, terms_zero}
use Rattle.lattice_core.specs.Weights.{IsMonomial, monomial_point, total}
use Rattle.interior_point_theory.specs.Interior.{HasInteriorPoint, ones, system_of}
use Rattle.interior_point_theory.specs.Certificates.{integer_sum}
use Rattle.interior_point_theory.specs.Laws.{OnesAreSystem, OnesAlone}
use Rattle.interior_point_theory.proofs.WeightVectors.{monomial}

length-ones : (n : ℕ) → length (ones n) ≡ n
length-ones zero = refl
length-ones (suc n) = ap suc (length-ones n)

total-ones : (n : ℕ) → total (ones n) ≡ n
total-ones zero = refl
total-ones (suc n) = let e = total-ones n in omega arith

entry-ones : (n i : ℕ) → i < n → entry (map pos (ones n)) i ≡ pos 1
entry-ones zero i h = absurd (omega arith)
entry-ones (suc n) zero h = refl
entry-ones (suc n) (suc i) h = entry-ones n i (omega arith)

each-ones : (P : ℕ → Type 0) (n : ℕ) → P 1 → Each P (ones n)
each-ones P zero p = empty
each-ones P (suc n) p = more p (each-ones P n p)

ones_ascend : (n : ℕ) → Ascends (λ v w. v ≤ w) (ones n)
ones_ascend zero = tt
ones_ascend (suc n) = (all_from_each (each-ones (λ w. 1 ≤ w) n (omega arith)), ones_ascend n)

-- the multiple of a unit vector isn't negative
each-unit : (k : ℕ) (n i : ℕ) → Each (λ e. pos 0 ≤ℤ e) (scaled (pos k) (unit n i))
each-unit k n i = each_map (λ e. pos 0 ≤ℤ e) (λ a. pos k *ℤ a) (unit_entries n i)
  where
    zero_entry : pos 0 ≤ℤ (pos k *ℤ pos 0)
    zero_entry = simp products_out (omega (arith, linear))

    one_entry : pos 0 ≤ℤ (pos k *ℤ pos 1)
    one_entry = simp products_out (omega (arith, linear))

    zeros_entries : (m : ℕ) → Each (λ a. pos 0 ≤ℤ (pos k *ℤ a)) (zeros m)
    zeros_entries zero = empty
    zeros_entries (suc m) = more zero_entry (zeros_entries m)

    unit_entries : (m j : ℕ) → Each (λ a. pos 0 ≤ℤ (pos k *ℤ a)) (unit m j)
    unit_entries zero j = empty
    unit_entries (suc m) zero = more one_entry (zeros_entries m)
    unit_entries (suc m) (suc j) = more zero_entry (unit_entries m j)

-- the pairing with a point is that with the exponents less the sum of the entries
dot_point : (c a : List ℤ) → length c ≡ length a → dot c (monomial_point a) ≡ dot c a -ℤ integer_sum c
dot_point [] [] e = refl
dot_point [] (x ∷ a) e = absurd (omega arith)
dot_point (w ∷ c) [] e = absurd (omega arith)
dot_point (w ∷ c) (x ∷ a) e = one w x (x -ℤ pos 1) (dot c (monomial_point a)) (dot c a) (integer_sum c) (omega (arith, linear)) (dot_point c a (omega arith))
  where
    one : (w x t d e s : ℤ) → x ≡ t +ℤ pos 1 → d ≡ e -ℤ s → w *ℤ t +ℤ d ≡ (w *ℤ x +ℤ e) -ℤ (w +ℤ s)
    one w x t d e s p h = rw (p, h) (simp products_out (omega (arith, linear)))

each_from_entries : (P : ℤ → Type 0) (c : List ℤ) → ((i : ℕ) → i < length c → P (entry c i)) → Each P c
each_from_entries P [] h = empty
each_from_entries P (a ∷ c) h = more (h 0 (omega arith)) (each_from_entries P c (λ i l. h (suc i) (omega arith)))

-- differences from a mean that aren't negative are 0: of k more entries c, whose sum with r is taken m times
no_differences : (m s : ℤ) (c : List ℤ) → Each (λ x. pos 0 ≤ℤ (m *ℤ x -ℤ s)) c
    → (pos 0 ≤ℤ (m *ℤ integer_sum c -ℤ pos (length c) *ℤ s))
    × (m *ℤ integer_sum c -ℤ pos (length c) *ℤ s ≡ pos 0 → Each (λ x. m *ℤ x ≡ s) c)
no_differences m s [] h = (simp products_out (omega (arith, linear)), λ e. empty)
no_differences m s (x ∷ c) (more p ps) =
    let rest = no_differences m s c ps in
    let split = parts m s x (integer_sum c) (pos (length c)) (pos (suc (length c))) (omega (arith, linear)) in (
      subst (λ (z : ℤ). pos 0 ≤ℤ z) (sym split) (nonnegative_sum p rest.0),
      λ e. let both = terms_zero (m *ℤ x -ℤ s) (m *ℤ integer_sum c -ℤ pos (length c) *ℤ s) p rest.0 (sym split ∙ e) in
          more (same (m *ℤ x) s both.0) (rest.1 both.1),
    )
  where
    parts : (m s x t k k' : ℤ) → k' ≡ k +ℤ pos 1 → m *ℤ (x +ℤ t) -ℤ k' *ℤ s ≡ (m *ℤ x -ℤ s) +ℤ (m *ℤ t -ℤ k *ℤ s)
    parts m s x t k k' e = rw e (simp products_out (omega (arith, linear)))

    same : (a b : ℤ) → a -ℤ b ≡ pos 0 → a ≡ b
    same a b e = omega (arith, linear)

multiple_of_ones : (m s : ℤ) (c : List ℤ) → Each (λ x. m *ℤ x ≡ s) c → scaled m c ≡ scaled s (map pos (ones (length c)))
multiple_of_ones m s [] h = refl
multiple_of_ones m s (x ∷ c) (more p ps) = ap₂ (λ (a : ℤ) (y : List ℤ). a ∷ y) (p ∙ sym (simp products_out refl)) (multiple_of_ones m s c ps)

ones_interior : (n : ℕ) → 0 < n → HasInteriorPoint (system_of n (ones n))
ones_interior n some c l h = record {
  left = pos n;
  right = integer_sum c;
  nonzero = positive_nonzero (pos n) (positive_pos n some);
  same = multiple_of_ones (pos n) (integer_sum c) c ((no_differences (pos n) (integer_sum c) c differences).1
      (even (pos n) (pos (length c)) (integer_sum c) (ap pos count)))
      ∙ ap (λ (k : ℕ). scaled (integer_sum c) (map pos (ones k))) count;
}
  where
    count : length c ≡ n
    count = l ∙ length-ones n

    even : (m k s : ℤ) → k ≡ m → m *ℤ s -ℤ k *ℤ s ≡ pos 0
    even m k s e = rw e (omega (arith, linear))

    -- the exponent vector that is the number of weights at one place
    corner : (i : ℕ) → i < n → IsMonomial (system_of n (ones n) ∷ []) (scaled (pos n) (unit n i))
    corner i b = monomial (system_of n (ones n)) (scaled (pos n) (unit n i)) (length-scaled (pos n) (unit n i) ∙ length-unit n i ∙ sym (length-ones n))
        (each-unit n n i) (dot-scaled_right (pos n) (map pos (ones n)) (unit n i)
        ∙ times_one (pos n) (dot (map pos (ones n)) (unit n i)) (dot_comm (map pos (ones n)) (unit n i) ∙ dot-unit n i (map pos (ones n)) b ∙ entry-ones n i b))
      where
        times_one : (a b : ℤ) → b ≡ pos 1 → a *ℤ b ≡ a
        times_one a b e = rw e (simp products_out refl)

    at : (i : ℕ) → i < n → pos 0 ≤ℤ (pos n *ℤ entry c i -ℤ integer_sum c)
    at i b = subst (λ (z : ℤ). pos 0 ≤ℤ z) (dot_point c (scaled (pos n) (unit n i)) (count ∙ sym (length-scaled (pos n) (unit n i) ∙ length-unit n i))
        ∙ ap (λ (z : ℤ). z -ℤ integer_sum c) (dot-scaled_right (pos n) c (unit n i) ∙ ap (λ (z : ℤ). pos n *ℤ z) (dot_comm c (unit n i) ∙ dot-unit n i c b)))
        (h (scaled (pos n) (unit n i)) (corner i b))

    differences : Each (λ x. pos 0 ≤ℤ (pos n *ℤ x -ℤ integer_sum c)) c
    differences = each_from_entries (λ x. pos 0 ≤ℤ (pos n *ℤ x -ℤ integer_sum c)) c (λ i b. at i (let e = count in omega arith))

ones_primitive : (n : ℕ) → 0 < n → (c : List ℤ) × (dot c (map pos (ones n)) ≡ pos 1)
ones_primitive zero h = absurd (omega arith)
ones_primitive (suc n) h = (pos 1 ∷ [], refl)

pub ones_are_system_lem : OnesAreSystem
ones_are_system_lem n some = record {
  positive = all_from_each (each-ones (λ w. 1 ≤ w) n (omega arith));
  ascends = ones_ascend n;
  primitive = let c = ones_primitive n some in primitive_from_combination c.0 (map pos (ones n)) c.1;
  sum = total-ones n;
  interior = ones_interior n some;
}

-- positive numbers whose sum isn't above their number are 1
few_are_ones : (v : List ℕ) → Each (λ w. 1 ≤ w) v → (length v ≤ total v) × (total v ≤ length v → v ≡ ones (length v))
few_are_ones [] h = (omega arith, λ l. refl)
few_are_ones (w ∷ v) (more p ps) =
    let rest = few_are_ones v ps in
    let least = rest.0 in
    (omega arith, λ l. ap₂ (λ (a : ℕ) (x : List ℕ). a ∷ x) (one w (total v) (length v) p least l) (rest.1 (fewer w (total v) (length v) p l)))
  where
    one : (w t l : ℕ) → 1 ≤ w → l ≤ t → w + t ≤ suc l → w ≡ 1
    one w t l p q r = omega arith

    fewer : (w t l : ℕ) → 1 ≤ w → w + t ≤ suc l → t ≤ l
    fewer w t l p r = omega arith

pub ones_alone_lem : OnesAlone
ones_alone_lem system is few =
    let both = few_are_ones system.weights (each_from_all (λ w. 1 ≤ w) system.weights is.positive) in
    let least = both.0 in
    let sum = is.sum in
    ap₂ system_of (omega arith) (both.1 (omega arith))
