-- Weights, exponent vectors and their points as vectors, and what a multiple of the weights is at a place.
use Rattle.std.proofs.Common.{◌≡◌, ◌≢◌, ℕ, zero, suc, ◌<◌, ◌≤◌, List, [], ◌∷◌, length, map, ℤ, pos, negsuc, ◌-ℤ◌, ◌*ℤ◌, ◌+ℤ◌, ◌≤ℤ◌, refl, sym, ap, ◌∙◌, arith, get_or}
use Rattle.lattice_theory.specs.Vector.{entry, dot, IsVectorMultiple}
use Rattle.lattice_theory.proofs.Integers.{products_out, linear, positive_nonzero, factor_zero, minus_one-*ℤ, *ℤ_comm, zero-*ℤ}
use Rattle.lattice_theory.proofs.Members.{Each, empty, more, each_head, each_from_all, all_from_each}
use Rattle.lattice_theory.proofs.Vectors.{entry-scaled}
use Rattle.lattice_core.specs.Weights.{Weighted, IsMonomial, weighted_degree, monomial_point, total}

pub length-weights : (v : List ℕ) → length (map pos v) ≡ length v
length-weights [] = refl
length-weights (a ∷ v) = ap suc (length-weights v)

pub entry_weights : (v : List ℕ) (i : ℕ) → entry (map pos v) i ≡ pos (get_or v i 0)
entry_weights [] i = refl
entry_weights (a ∷ v) zero = refl
entry_weights (a ∷ v) (suc i) = entry_weights v i

-- a positive weight isn't 0
pub weight_nonzero : (v : List ℕ) (i : ℕ) → Each (λ w. 1 ≤ w) v → i < length v → entry (map pos v) i ≢ pos 0
weight_nonzero [] i h l = absurd (omega arith)
weight_nonzero (a ∷ v) zero (more p ps) l = positive_nonzero (pos a) (omega (arith, linear))
weight_nonzero (a ∷ v) (suc i) (more p ps) l = weight_nonzero v i ps (omega arith)

pub length-point : (a : List ℤ) → length (monomial_point a) ≡ length a
length-point [] = refl
length-point (e ∷ a) = ap suc (length-point a)

pub entry_point : (a : List ℤ) (i : ℕ) → i < length a → entry (monomial_point a) i ≡ entry a i -ℤ pos 1
entry_point [] i h = absurd (omega arith)
entry_point (e ∷ a) zero h = refl
entry_point (e ∷ a) (suc i) h = entry_point a i (omega arith)

pub degree_is : (system : Weighted) (a : List ℤ) → IsMonomial (system ∷ []) a → weighted_degree system a ≡ pos system.degree
degree_is system a m = each_head (each_from_all (λ s. weighted_degree s a ≡ pos s.degree) (system ∷ []) m.degrees)

-- the value of a point is that of its exponents less the sum of the weights
pub point_value : (v : List ℕ) (a : List ℤ) → length v ≡ length a → dot (map pos v) (monomial_point a) ≡ dot (map pos v) a -ℤ pos (total v)
point_value [] [] e = refl
point_value [] (x ∷ a) e = absurd (omega arith)
point_value (w ∷ v) [] e = absurd (omega arith)
point_value (w ∷ v) (x ∷ a) e = one (pos w) x (x -ℤ pos 1) (dot (map pos v) (monomial_point a)) (dot (map pos v) a) (pos (total v))
    (omega (arith, linear)) (point_value v a (omega arith))
  where
    one : (w x t d e s : ℤ) → x ≡ t +ℤ pos 1 → d ≡ e -ℤ s → w *ℤ t +ℤ d ≡ (w *ℤ x +ℤ e) -ℤ (w +ℤ s)
    one w x t d e s p h = rw (p, h) (simp products_out (omega (arith, linear)))

-- a multiple at a place
pub multiple_at : (c w : List ℤ) (m : IsVectorMultiple c w) (i : ℕ) → m.left *ℤ entry c i ≡ m.right *ℤ entry w i
multiple_at c w m i = sym (entry-scaled m.left c i) ∙ ap (λ (v : List ℤ). entry v i) m.same ∙ entry-scaled m.right w i

-- it is taken 0 times where one side is 0 and the other isn't
pub right_zero : (q p c w : ℤ) → q *ℤ c ≡ p *ℤ w → c ≡ pos 0 → w ≢ pos 0 → p ≡ pos 0
right_zero q p c w e f n = factor_zero w p n (*ℤ_comm w p ∙ sym e ∙ rw f (simp products_out refl))

pub left_zero : (q p c w : ℤ) → q *ℤ c ≡ p *ℤ w → p ≡ pos 0 → c ≡ negsuc 0 → q ≡ pos 0
left_zero q p c w e f g =
    let t = sym (minus_one-*ℤ q) ∙ *ℤ_comm (negsuc 0) q ∙ ap (λ (z : ℤ). q *ℤ z) (sym g) ∙ e ∙ ap (λ (z : ℤ). z *ℤ w) f ∙ zero-*ℤ w in
    omega (arith, linear)

-- so a vector with an entry 0 and an entry -1 is no multiple of positive weights
pub no_multiple : (c : List ℤ) (v : List ℕ) (i j : ℕ) → Each (λ w. 1 ≤ w) v → i < length v → entry c i ≡ pos 0 → entry c j ≡ negsuc 0
    → IsVectorMultiple c (map pos v) → ⊥
no_multiple c v i j positive l z n m = m.nonzero (left_zero m.left m.right (entry c j) (entry (map pos v) j) (multiple_at c (map pos v) m j)
    (right_zero m.left m.right (entry c i) (entry (map pos v) i) (multiple_at c (map pos v) m i) z (weight_nonzero v i positive l)) n)

-- an exponent vector of one system
pub monomial : (system : Weighted) (a : List ℤ) → length a ≡ length system.weights → Each (λ e. pos 0 ≤ℤ e) a
    → weighted_degree system a ≡ pos system.degree → IsMonomial (system ∷ []) a
monomial system a l n d = record {
  columns = l;
  nonnegative = all_from_each n;
  degrees = all_from_each {P = λ s. weighted_degree s a ≡ pos s.degree} {xs = system ∷ []} (more d empty);
}
