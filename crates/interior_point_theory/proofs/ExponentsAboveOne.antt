-- No exponent is at most 1 in all exponent vectors, so the degree is taken with each weight twice.
use Rattle.std.proofs.Common.{◌≡◌, ◌≢◌, ℕ, zero, suc, ◌<◌, ◌≤◌, List, [], ◌∷◌, length, map, ℤ, pos, negsuc, ◌+ℤ◌, ◌-ℤ◌, ◌*ℤ◌, ◌≤ℤ◌, ◌<ℤ◌, refl, sym, ap, ◌∙◌, arith, ⊎_elim, get_or}
use Rattle.lattice_theory.specs.Vector.{entry, dot, scaled}
use Rattle.lattice_theory.proofs.Integers.{products_out, linear, minus_one-*ℤ, positive_or_not}
use Rattle.lattice_theory.proofs.Members.{Each, empty, more, each_from_all, all_from_each}
use Rattle.lattice_theory.proofs.Vectors.{unit, length-unit, length-scaled, dot-unit, dot-scaled_left, entry-scaled, entry-unit_same, entry-unit_other}
use Rattle.lattice_core.specs.Weights.{monomial_point}
use Rattle.interior_point_theory.specs.Interior.{IsNonnegativeOnMonomials}
use Rattle.interior_point_theory.specs.Laws.{SomeExponentAboveOne, TakenTwice}
use Rattle.interior_point_theory.proofs.WeightVectors.{entry_point, degree_is, no_multiple}

-- another place of at least two
other_place : (n i : ℕ) → 1 < n → (j : ℕ) × (j < n) × (i ≢ j)
other_place n zero h = (1, h, λ e. absurd (omega arith))
other_place n (suc i) h = (0, omega arith, λ e. absurd (omega arith))

pub some_exponent_above_one_lem : SomeExponentAboveOne
some_exponent_above_one_lem system i positive b two h interior =
    let j = other_place n i two in
    no_multiple v system.weights j.0 i (each_from_all (λ x. 1 ≤ x) system.weights positive) j.1
    (entry-scaled (negsuc 0) (unit n i) j.0 ∙ ap (λ (z : ℤ). negsuc 0 *ℤ z) (entry-unit_other n i j.0 j.2))
    (entry-scaled (negsuc 0) (unit n i) i ∙ ap (λ (z : ℤ). negsuc 0 *ℤ z) (entry-unit_same n i b))
    (interior v (length-scaled (negsuc 0) (unit n i) ∙ length-unit n i) nonnegative)
  where
    n : ℕ
    n = length system.weights

    v : List ℤ
    v = scaled (negsuc 0) (unit (length system.weights) i)

    below : (a d e : ℤ) → d ≡ e → e ≡ a -ℤ pos 1 → a ≤ℤ pos 1 → pos 0 ≤ℤ (negsuc 0 *ℤ d)
    below a d e p q r = let s = minus_one-*ℤ d in omega (arith, linear)

    nonnegative : IsNonnegativeOnMonomials system v
    nonnegative a k = rw (dot-scaled_left (negsuc 0) (unit (length system.weights) i) (monomial_point a))
        (below (entry a i) (dot (unit (length system.weights) i) (monomial_point a)) (entry (monomial_point a) i)
        (dot-unit (length system.weights) i (monomial_point a) b) (entry_point a i (let l = k.columns in omega arith)) (h a k))

-- the exponents with two less at a place
abbrev less_two : List ℤ → ℕ → List ℤ
less_two [] i = []
less_two (e ∷ a) zero = (e -ℤ pos 2) ∷ a
less_two (e ∷ a) (suc i) = e ∷ less_two a i

length-less_two : (a : List ℤ) (i : ℕ) → length (less_two a i) ≡ length a
length-less_two [] i = refl
length-less_two (e ∷ a) zero = refl
length-less_two (e ∷ a) (suc i) = ap suc (length-less_two a i)

each-less_two : (a : List ℤ) (i : ℕ) → Each (λ e. pos 0 ≤ℤ e) a → pos 1 <ℤ entry a i → Each (λ e. pos 0 ≤ℤ e) (less_two a i)
each-less_two [] i h l = empty
each-less_two (e ∷ a) zero (more p ps) l = more (omega (arith, linear)) ps
each-less_two (e ∷ a) (suc i) (more p ps) l = more p (each-less_two a i ps l)

value-less_two : (v : List ℕ) (a : List ℤ) (i : ℕ) → length v ≡ length a → i < length a
    → dot (map pos v) (less_two a i) +ℤ pos 2 *ℤ pos (get_or v i 0) ≡ dot (map pos v) a
value-less_two v [] i l h = absurd (omega arith)
value-less_two [] (e ∷ a) i l h = absurd (omega arith)
value-less_two (w ∷ v) (e ∷ a) zero l h = at (pos w) e (e -ℤ pos 2) (dot (map pos v) a) (omega (arith, linear))
  where
    at : (w e t d : ℤ) → e ≡ t +ℤ pos 2 → (w *ℤ t +ℤ d) +ℤ pos 2 *ℤ w ≡ w *ℤ e +ℤ d
    at w e t d p = rw p (simp products_out (omega (arith, linear)))
value-less_two (w ∷ v) (e ∷ a) (suc i) l h = deeper (pos w *ℤ e) (dot (map pos v) (less_two a i)) (pos 2 *ℤ pos (get_or v i 0)) (dot (map pos v) a)
    (value-less_two v a i (omega arith) (omega arith))
  where
    deeper : (p d u r : ℤ) → d +ℤ u ≡ r → (p +ℤ d) +ℤ u ≡ p +ℤ r
    deeper p d u r h = omega (arith, linear)

pub taken_twice_lem : TakenTwice
taken_twice_lem system i positive b two none interior = some_exponent_above_one_lem system i positive b two (λ a m. ⊎_elim
    (λ (l : pos 0 <ℤ (entry a i -ℤ pos 1)). absurd (none (less_two a i) (length-less_two a i ∙ m.columns)
    (all_from_each (each-less_two a i (each_from_all (λ e. pos 0 ≤ℤ e) a m.nonnegative) (above (entry a i) l)))
    (value-less_two system.weights a i (sym m.columns) (let k = m.columns in omega arith) ∙ degree_is system a m)))
    (λ (l : (entry a i -ℤ pos 1) ≤ℤ pos 0). below (entry a i) l) (positive_or_not (entry a i -ℤ pos 1))) interior
  where
    above : (e : ℤ) → pos 0 <ℤ (e -ℤ pos 1) → pos 1 <ℤ e
    above e h = omega (arith, linear)

    below : (e : ℤ) → (e -ℤ pos 1) ≤ℤ pos 0 → e ≤ℤ pos 1
    below e h = omega (arith, linear)
