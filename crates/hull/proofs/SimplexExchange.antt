-- What becomes of a simplex where a point takes the place of a corner.
use Rattle.std.proofs.Common.{◌≡◌, ◌≢◌, ◌⊎◌, inl, inr, ⊎_elim, ℕ, zero, suc, ◌+◌, ◌<◌, ◌≤◌, List, [], ◌∷◌, length, set, ℤ, pos}
use Rattle.std.proofs.Common.{◌+ℤ◌, ◌*ℤ◌, ◌<ℤ◌, sym, ap, ◌∙◌, subst, arith, All, Contains}
use Rattle.std.proofs.lemmas.List.{get_or_default, get_or-set_same, get_or-set_other, length-set}
use Rattle.std.proofs.lemmas.List.Elements.{All-set, All-contains}
use Rattle.lattice_theory.specs.Vector.{entry, dot, IsPrimitive}
use Rattle.lattice_theory.specs.Affine.{Affine, value, VanishesWith, IsMultiple}
use Rattle.lattice_theory.specs.Combinations.{IsCombinationAt}
use Rattle.lattice_theory.specs.Size.{size, reach}
use Rattle.lattice_theory.specs.Facet.{IsFlat, IsFacet}
use Rattle.lattice_theory.proofs.Integers.{products_out, linear, positive_nonzero, positive_pos, factor_zero, zero_terms, product_positive, positive_factor, *ℤ-zero}
use Rattle.lattice_theory.proofs.Members.{In, Each, empty, more, each_from_all, contains_from_in}
use Rattle.lattice_theory.proofs.Vectors.{entry-scaled, dot-scaled_left}
use Rattle.lattice_theory.proofs.Combinations.{combination_value}
use Rattle.facet_theory.specs.Solid.{AreSolid}
use Rattle.facet_theory.proofs.Signs.{positive_same}
use Rattle.hull.specs.steps.Tight.{function_of}
use Rattle.hull.specs.steps.Facing.{corner_of, AreFacing, IsReachedBy, IsTurned}
use Rattle.hull.proofs.SimplexFacets.{same_or_apart, facing_facet, corner_facet}

-- the corners with p in the place k
module _ (n k : ℕ) (corners : List (List ℤ)) (p : List ℤ) (count : length corners ≡ n + 1) (place : k < n + 1) where
  pub new_corner : corner_of (set corners k p) k ≡ p
  new_corner = get_or-set_same corners k p [] (omega arith)

  pub other_corner : (j : ℕ) → j ≢ k → corner_of (set corners k p) j ≡ corner_of corners j
  other_corner j apart = get_or-set_other corners k j p [] apart

  -- what the exchanged corners contain
  pub exchanged_corner : (x : List ℤ) → Contains (set corners k p) x → (x ≡ p) ⊎ ((j : ℕ) × (j < n + 1) × (j ≢ k) × (corner_of corners j ≡ x))
  exchanged_corner x (j, l, e) = ⊎_elim
      (λ (same : j ≡ k). inl (sym is ∙ ap (corner_of (set corners k p)) same ∙ new_corner))
      (λ (apart : j ≢ k). inr (j, (let s = length-set corners k p in omega arith), apart, sym (other_corner j apart) ∙ is))
      (same_or_apart j k)
    where
      is : corner_of (set corners k p) j ≡ x
      is = get_or_default (set corners k p) j [] x l ∙ e

  pub new_within : Contains (set corners k p) p
  new_within = (k, (let s = length-set corners k p in omega arith), get_or-set_same corners k p p (omega arith))

  pub other_within : (j : ℕ) → j < n + 1 → j ≢ k → Contains (set corners k p) (corner_of corners j)
  other_within j h apart = (
    j,
    (let s = length-set corners k p in omega arith),
    get_or-set_other corners k j p (corner_of corners j) apart
        ∙ sym (get_or_default corners j [] (corner_of corners j) (omega arith)),
  )

-- the same for functions
module _ (n k : ℕ) (functions : List Affine) (h : Affine) (count : length functions ≡ n + 1) (place : k < n + 1) where
  new_function : function_of (set functions k h) k ≡ h
  new_function = get_or-set_same functions k h _ (omega arith)

  other_function : (j : ℕ) → j ≢ k → function_of (set functions k h) j ≡ function_of functions j
  other_function j apart = get_or-set_other functions k j h _ apart

-- a simplex, and a point at which the function in the place k isn't 0
module _ (n k : ℕ) (corners : List (List ℤ)) (functions : List Affine) (p : List ℤ) (facing : AreFacing n corners functions)
    (solid : AreSolid n corners) (place : k < n + 1) (long : length p ≡ n) (nonzero : value (function_of functions k) p ≢ pos 0) where
  -- the exchanged corners aren't flat: what vanishes on them vanishes where the function does, so is a multiple of it, and so is 0
  pub exchanged_solid : AreSolid n (set corners k p)
  exchanged_solid = record {
    coordinates = solid.coordinates;
    dimension = All-set (λ q. length q ≡ n) corners k p long solid.dimension;
    solid = flat;
  }
    where
      flat : IsFlat n (set corners k p) → ⊥
      flat u = by ((facing_facet n corners functions facing solid k place).determined u.function u.dimension along) u.nonconstant
        where
          at : (x : List ℤ) → Contains (set corners k p) x → value u.function x ≡ pos 0
          at x c = All-contains (λ q. value u.function q ≡ pos 0) (set corners k p) x u.vanishes c

          along : VanishesWith corners (function_of functions k) u.function
          along x (j, l, e) z = ⊎_elim
              (λ (same : j ≡ k). absurd (positive_nonzero _ (facing.away k place)
              (ap (value (function_of functions k)) (ap (corner_of corners) (sym same) ∙ is) ∙ z)))
              (λ (apart : j ≢ k). ap (value u.function) (sym is) ∙ at (corner_of corners j) (other_within n k corners p facing.corner_count place j
              (let c = facing.corner_count in omega arith) apart))
              (same_or_apart j k)
            where
              is : corner_of corners j ≡ x
              is = get_or_default corners j [] x l ∙ e

          by : IsMultiple u.function (function_of functions k) → (i : ℕ) × (entry u.function.normal i ≢ pos 0) → ⊥
          by m (i, other) = other (factor_zero m.left (entry u.function.normal i) m.nonzero (sym (entry-scaled m.left u.function.normal i)
              ∙ ap (λ (v : List ℤ). entry v i) m.normals ∙ entry-scaled m.right (function_of functions k).normal i
              ∙ zero_times m.right (entry (function_of functions k).normal i) none))
            where
              zero_times : (a b : ℤ) → a ≡ pos 0 → a *ℤ b ≡ pos 0
              zero_times a b e = rw e (simp products_out)

              both : (l r a b c d : ℤ) → l *ℤ a ≡ r *ℤ b → l *ℤ c ≡ r *ℤ d → l *ℤ (a +ℤ c) ≡ r *ℤ (b +ℤ d)
              both l r a b c d e k = simp products_out (omega (arith, linear))

              values : m.left *ℤ value u.function p ≡ m.right *ℤ value (function_of functions k) p
              values = both m.left m.right (dot u.function.normal p) (dot (function_of functions k).normal p) u.function.constant
                  (function_of functions k).constant
                  (sym (dot-scaled_left m.left u.function.normal p) ∙ ap (λ (v : List ℤ). dot v p) m.normals
                  ∙ dot-scaled_left m.right (function_of functions k).normal p)
                  m.constants

              turned : (a b : ℤ) → a *ℤ b ≡ b *ℤ a
              turned a b = simp products_out

              none : m.right ≡ pos 0
              none = factor_zero (value (function_of functions k) p) m.right nonzero (turned (value (function_of functions k) p) m.right
                  ∙ sym values ∙ ap (λ (z : ℤ). m.left *ℤ z) (at p (new_within n k corners p facing.corner_count place)) ∙ *ℤ-zero m.left)

  -- with functions that are turned to the point, and the one at the place k facing it, they are a simplex again
  pub exchanged_facing : (turned : List Affine) → length turned ≡ n + 1
      → ((i : ℕ) → i < n + 1 → i ≢ k → IsTurned (function_of functions i) (function_of functions k) p (function_of turned i))
      → length (function_of turned k).normal ≡ n → IsPrimitive (function_of turned k).normal → pos 0 <ℤ value (function_of turned k) p
      → ((x : List ℤ) → value (function_of functions k) x ≡ pos 0 → value (function_of turned k) x ≡ pos 0)
      → AreFacing n (set corners k p) turned
  exchanged_facing turned count are own_long own_primitive own_away own_zeros = record {
    corner_count = length-set corners k p ∙ facing.corner_count;
    function_count = count;
    dimension = λ i h. ⊎_elim
        (λ (e : i ≡ k). subst (λ (j : ℕ). length (function_of turned j).normal ≡ n) (sym e) own_long)
        (λ (a : i ≢ k). (are i h a).dimension ∙ long) (same_or_apart i k);
    primitive = λ i h. ⊎_elim
        (λ (e : i ≡ k). subst (λ (j : ℕ). IsPrimitive (function_of turned j).normal) (sym e) own_primitive)
        (λ (a : i ≢ k). (are i h a).primitive) (same_or_apart i k);
    away = λ i h. ⊎_elim
        (λ (e : i ≡ k). subst (λ (j : ℕ). pos 0 <ℤ value (function_of turned j) (corner_of (set corners k p) j)) (sym e)
        (subst (λ (x : List ℤ). pos 0 <ℤ value (function_of turned k) x) (sym new) own_away))
        (λ (a : i ≢ k). subst (λ (x : List ℤ). pos 0 <ℤ value (function_of turned i) x) (sym (other i a))
        ((are i h a).positive (corner_of corners i) (facing.on k i place h (λ e. a (sym e))) (facing.away i h))) (same_or_apart i k);
    on = λ i j h l apart. ⊎_elim
        (λ (e : i ≡ k). subst (λ (m : ℕ). value (function_of turned m) (corner_of (set corners k p) j) ≡ pos 0) (sym e)
        (subst (λ (x : List ℤ). value (function_of turned k) x ≡ pos 0) (sym (other j (λ d. apart (e ∙ sym d))))
        (own_zeros (corner_of corners j) (facing.on k j place l (λ d. apart (e ∙ d))))))
        (λ (a : i ≢ k). ⊎_elim
        (λ (e : j ≡ k). subst (λ (m : ℕ). value (function_of turned i) (corner_of (set corners k p) m) ≡ pos 0) (sym e)
        (subst (λ (x : List ℤ). value (function_of turned i) x ≡ pos 0) (sym new) (are i h a).vanishes))
        (λ (b : j ≢ k). subst (λ (x : List ℤ). value (function_of turned i) x ≡ pos 0) (sym (other j b))
        ((are i h a).zeros (corner_of corners j) (facing.on k j place l (λ d. b (sym d))) (facing.on i j h l apart)))
        (same_or_apart j k))
        (same_or_apart i k);
  }
    where
      new : corner_of (set corners k p) k ≡ p
      new = new_corner n k corners p facing.corner_count place

      other : (j : ℕ) → j ≢ k → corner_of (set corners k p) j ≡ corner_of corners j
      other j a = other_corner n k corners p facing.corner_count place j a

  -- a turned function is a facet of the exchanged corners
  pub turned_facet : (i : ℕ) (h : Affine) → i < n + 1 → i ≢ k → IsTurned (function_of functions i) (function_of functions k) p h
      → IsFacet n (set corners k p) h
  turned_facet i h l apart turned = corner_facet n (set corners k p) exchanged_solid h (corner_of corners i) (turned.dimension ∙ long)
      turned.primitive
      (turned.positive (corner_of corners i) (facing.on k i place l (λ e. apart (sym e))) (facing.away i l)) on
    where
      on : (x : List ℤ) → In x (set corners k p) → (value h x ≡ pos 0) ⊎ (x ≡ corner_of corners i)
      on x m = ⊎_elim
          (λ (e : x ≡ p). inl (ap (value h) e ∙ turned.vanishes))
          (λ (o : (j : ℕ) × (j < n + 1) × (j ≢ k) × (corner_of corners j ≡ x)). ⊎_elim
          (λ (e : i ≡ o.0). inr (sym o.3 ∙ ap (corner_of corners) (sym e)))
          (λ (a : i ≢ o.0). inl (ap (value h) (sym o.3)
          ∙ turned.zeros (corner_of corners o.0) (facing.on k o.0 place o.1 (λ e. o.2 (sym e))) (facing.on i o.0 l o.1 a)))
          (same_or_apart i o.0))
          (exchanged_corner n k corners p facing.corner_count place x (contains_from_in m))

-- corners that the points reach are no larger
reached_reach : (n : ℕ) (points corners : List (List ℤ)) (i : ℕ) → Each (IsReachedBy n points) corners → reach corners i ≤ reach points i
reached_reach n points [] i empty = omega arith
reached_reach n points (c ∷ corners) i (more r rs) = let a = r.within i in let b = reached_reach n points corners i rs in omega arith

reached_below : (n m : ℕ) (points corners : List (List ℤ)) → Each (IsReachedBy n points) corners → size m corners ≤ size m points
reached_below n zero points corners h = omega arith
reached_below n (suc m) points corners h =
    let a = reached_below n m points corners h in let b = reached_reach n points corners m h in omega arith

pub reached_size : (n : ℕ) (points corners : List (List ℤ)) → All (IsReachedBy n points) corners → size n corners ≤ size n points
reached_size n points corners h = reached_below n n points corners (each_from_all (IsReachedBy n points) corners h)

-- numbers: w c = l a + r b with positive w, l and r
combined_zero : (w l r : ℕ) (a b c : ℤ) → 0 < w → pos w *ℤ c ≡ pos l *ℤ a +ℤ pos r *ℤ b → a ≡ pos 0 → b ≡ pos 0 → c ≡ pos 0
combined_zero w l r a b c h e za zb = factor_zero (pos w) c (positive_nonzero (pos w) (positive_pos w h)) (e ∙ zero_terms (pos l) (pos r) a b za zb)

combined_positive : (w l r : ℕ) (a b c : ℤ) → 0 < w → 0 < l → pos w *ℤ c ≡ pos l *ℤ a +ℤ pos r *ℤ b → b ≡ pos 0 → pos 0 <ℤ a → pos 0 <ℤ c
combined_positive w l r a b c h k e zb positive = positive_factor (pos w) c (positive_pos w h)
    (positive_same (sym (e ∙ ap (λ (z : ℤ). pos l *ℤ a +ℤ pos r *ℤ z) zb ∙ alone (pos l *ℤ a) (pos r)))
    (product_positive (pos l) a (positive_pos l k) positive))
  where
    alone : (x y : ℤ) → x +ℤ y *ℤ pos 0 ≡ x
    alone x y = simp products_out (omega (arith, linear))

-- a combination with a function that is 0 where g is turns f about where g vanishes
pub combination_turns : (n : ℕ) (f g g' h : Affine) (p : List ℤ) → length f.normal ≡ n → length g'.normal ≡ n → length p ≡ n
    → ((x : List ℤ) → value g x ≡ pos 0 → value g' x ≡ pos 0) → IsCombinationAt f g' p h → IsTurned f g p h
combination_turns n f g g' h p df dg long same c = record {
  dimension = c.dimension;
  primitive = c.primitive;
  vanishes = c.vanishes;
  zeros = λ x z y. combined_zero c.combination.whole c.combination.left c.combination.right (value f x) (value g' x) (value h x)
      c.combination.positive.0 (values x) y (same x z);
  positive = λ x z y. combined_positive c.combination.whole c.combination.left c.combination.right (value f x) (value g' x) (value h x)
      c.combination.positive.0 c.combination.positive.1 (values x) (same x z) y;
}
  where
    values : (x : List ℤ) → pos c.combination.whole *ℤ value h x ≡ pos c.combination.left *ℤ value f x +ℤ pos c.combination.right *ℤ value g' x
    values x = combination_value (pos c.combination.whole) (pos c.combination.left) (pos c.combination.right) f g' h n df dg (c.dimension ∙ long)
        c.combination.normals c.combination.constants x
