-- A function and its opposite as axes, and the farthest point.
use Rattle.std.proofs.Common.{◌≡◌, ◌≢◌, ⊎_elim, ℕ, ◌+◌, ◌<◌, ◌≤◌, List, [], length, get_or, suc, zero, ℤ, pos, negsuc, ◌*ℤ◌, neg_ℤ, ◌<ℤ◌, refl, sym, ap, ◌∙◌, subst, arith, All}
use Rattle.std.specs.Prelude.{nat_abs}
use Rattle.std.proofs.lemmas.Int.{ints}
use Rattle.std.proofs.lemmas.Bool.{cases_lt}
use Rattle.std.proofs.lemmas.List.{get_or_default}
use Rattle.lattice_theory.specs.Vector.{entry, scaled, IsPrimitive}
use Rattle.lattice_theory.specs.Affine.{Affine, value}
use Rattle.lattice_theory.proofs.Integers.{products_out, linear}
use Rattle.lattice_theory.proofs.Vectors.{entry-scaled, length-scaled}
use Rattle.lattice_core.specs.Combine.{IsSmallAt}
use Rattle.hull.specs.steps.Facing.{corner_of, AreAxes}
use Rattle.hull.proofs.AffineFunctions.{opposite_value, opposite_primitive}

negative_zero : (a b : ℤ) → b ≡ neg_ℤ a → a ≡ pos 0 → b ≡ pos 0
negative_zero a b e z = omega (arith, linear)

zero_negative : (a b : ℤ) → b ≡ neg_ℤ a → b ≡ pos 0 → a ≡ pos 0
zero_negative a b e z = omega (arith, linear)

-- the opposite of a small function is small
module _ (f g : Affine) (p : List ℤ) (normal : g.normal ≡ scaled (negsuc 0) f.normal) (constant : g.constant ≡ neg_ℤ f.constant) where
  opposed_length : length g.normal ≡ length f.normal
  opposed_length = ap length normal ∙ length-scaled (negsuc 0) f.normal

  opposed_small : IsSmallAt p f → IsSmallAt p g
  opposed_small small = record {
    dimension = opposed_length ∙ small.dimension;
    entries = λ i. same_size (entry f.normal i) (entry g.normal i) _
        (ap (λ (v : List ℤ). entry v i) normal ∙ entry-scaled (negsuc 0) f.normal i) (small.entries i);
    at_point = same_value (value f p) (value g p) _ (opposite_value f g p normal constant) small.at_point;
  }
    where
      same_size : (a b : ℤ) (m : ℕ) → b ≡ negsuc 0 *ℤ a → nat_abs a ≤ m → nat_abs b ≤ m
      same_size a b m e h = let e' = simp products_out at e in omega (arith, ints)

      same_value : (a b : ℤ) (m : ℕ) → b ≡ neg_ℤ a → nat_abs a ≤ m → nat_abs b ≤ m
      same_value a b m e h = omega (arith, ints)

  pub axes_forward : IsPrimitive f.normal → IsSmallAt p f → pos 0 <ℤ value f p → AreAxes f p f g
  axes_forward primitive small positive = record {
    dimension = refl;
    other_dimension = opposed_length;
    primitive = primitive;
    first = small;
    second = opposed_small small;
    positive = positive;
    negative = minus (value f p) (value g p) (opposite_value f g p normal constant) positive;
    zeros = λ x z. (z, negative_zero (value f x) (value g x) (opposite_value f g x normal constant) z);
    back = λ x z. z;
  }
    where
      minus : (a b : ℤ) → b ≡ neg_ℤ a → pos 0 <ℤ a → b <ℤ pos 0
      minus a b e h = omega (arith, linear)

  pub axes_backward : IsPrimitive f.normal → IsSmallAt p f → value f p ≢ pos 0 → (pos 0 <ℤ value f p → ⊥) → AreAxes f p g f
  axes_backward primitive small nonzero other = record {
    dimension = opposed_length;
    other_dimension = refl;
    primitive = subst IsPrimitive (sym normal) (opposite_primitive f.normal primitive);
    first = opposed_small small;
    second = small;
    positive = plus (value f p) (value g p) (opposite_value f g p normal constant) negative;
    negative = negative;
    zeros = λ x z. (negative_zero (value f x) (value g x) (opposite_value f g x normal constant) z, z);
    back = λ x z. zero_negative (value f x) (value g x) (opposite_value f g x normal constant) z;
  }
    where
      below : (a : ℤ) → a ≢ pos 0 → (pos 0 <ℤ a → ⊥) → a <ℤ pos 0
      below (pos zero) n m = absurd (n refl)
      below (pos (suc a)) n m = absurd (m (omega (arith, linear)))
      below (negsuc a) n m = omega (arith, linear)

      negative : value f p <ℤ pos 0
      negative = below (value f p) nonzero other

      plus : (a b : ℤ) → b ≡ neg_ℤ a → a <ℤ pos 0 → pos 0 <ℤ b
      plus a b e h = omega (arith, linear)

-- the search for the farthest point: none so far is farther, and this one is as far, where it isn't the first
pub record IsFarthest (points : List (List ℤ)) (f : Affine) (i far largest : ℕ) : Type 0 where
  pub within : far < length points
  pub bound : (j : ℕ) → j < i → nat_abs (value f (corner_of points j)) ≤ largest
  pub reached : 0 < largest → largest ≡ nat_abs (value f (corner_of points far))

pub farthest_nonzero : (points : List (List ℤ)) (f : Affine) (i far largest : ℕ) → length points ≤ i → IsFarthest points f i far largest
    → (All (λ p. value f p ≡ pos 0) points → ⊥) → value f (corner_of points far) ≢ pos 0
farthest_nonzero points f i far largest past h somewhere z = somewhere (λ j d l. zero_value (value f (get_or points j d))
    (let b = h.bound j (omega arith) in subst (λ (x : List ℤ). nat_abs (value f x) ≤ 0) (get_or_default points j [] d l) (omega (arith, none))))
  where
    none : largest ≡ 0
    none = ⊎_elim (λ (l : 0 < largest). let r = h.reached l in let a = zero_size (value f (corner_of points far)) z in omega arith)
        (λ (l : largest ≤ 0). omega arith) (cases_lt 0 largest)
      where
        zero_size : (a : ℤ) → a ≡ pos 0 → nat_abs a ≡ 0
        zero_size a e = ap nat_abs e

    zero_value : (a : ℤ) → nat_abs a ≤ 0 → a ≡ pos 0
    zero_value a h = omega (arith, ints)

-- the turn at one point
pub farther : (points : List (List ℤ)) (f : Affine) (i far largest distance : ℕ) → i < length points
    → distance ≡ nat_abs (value f (corner_of points i)) → largest < distance → IsFarthest points f i far largest
    → IsFarthest points f (i + 1) i distance
farther points f i far largest distance h e l so_far = record {
  within = h;
  bound = λ j b. ⊎_elim (λ (c : j < i). let k = so_far.bound j c in omega arith)
      (λ (c : i ≤ j). subst (λ (m : ℕ). nat_abs (value f (corner_of points m)) ≤ distance) (same j b c) (omega (arith, e))) (cases_lt j i);
  reached = λ k. e;
}
  where
    same : (j : ℕ) → j < i + 1 → i ≤ j → i ≡ j
    same j b c = omega arith

pub not_farther : (points : List (List ℤ)) (f : Affine) (i far largest distance : ℕ) → distance ≡ nat_abs (value f (corner_of points i))
    → distance ≤ largest → IsFarthest points f i far largest → IsFarthest points f (i + 1) far largest
not_farther points f i far largest distance e l so_far = record {
  within = so_far.within;
  bound = λ j b. ⊎_elim (λ (c : j < i). so_far.bound j c)
      (λ (c : i ≤ j). subst (λ (m : ℕ). nat_abs (value f (corner_of points m)) ≤ largest) (same j b c) (omega (arith, e))) (cases_lt j i);
  reached = so_far.reached;
}
  where
    same : (j : ℕ) → j < i + 1 → i ≤ j → i ≡ j
    same j b c = omega arith
