-- The exchange of a corner, function by function.
use Rattle.std.proofs.Common.{◌≡◌, ◌≢◌, inl, inr, ⊎_elim, ℕ, ◌+◌, ◌*◌, ◌<◌, ◌≤◌, List, length, set, ℤ, pos, ◌<ℤ◌, refl, sym, ◌∙◌, subst, arith, All, Contains}
use Rattle.std.specs.Prelude.{nat_abs, ◌-◌, ◌^◌}
use Rattle.std.proofs.Math.Nat.{mul-le-mul_right}
use Rattle.std.proofs.lemmas.Bool.{cases_lt}
use Rattle.std.proofs.lemmas.List.{get_or-set_same, get_or-set_other, length-set}
use Rattle.std.proofs.lemmas.List.Elements.{All-set, All-contains}
use Rattle.lattice_theory.specs.Vector.{IsPrimitive, HaveDimension}
use Rattle.lattice_theory.specs.Affine.{Affine, value}
use Rattle.lattice_theory.specs.Size.{size, absolute_sum}
use Rattle.lattice_theory.proofs.Members.{in_from_contains}
use Rattle.lattice_theory.proofs.Sizes.{within_reach}
use Rattle.normal_bounds.proofs.Numbers.{entries_fit_lem}
use Rattle.lattice_core.specs.Limits.{IsSized, size_limit_of}
use Rattle.lattice_core.specs.Combine.{IsSmallAt}
use Rattle.lattice_core.proofs.SizeLimits.{limit_bound}
use Rattle.hull.specs.steps.Tight.{function_of}
use Rattle.hull.specs.steps.Facing.{IsReachedBy, IsFacingSimplex, IsTurned, IsTurnable, AreAxes}
use Rattle.hull.proofs.FacetBounds.{facets_bounded_lem}
use Rattle.hull.proofs.SimplexFacets.{facing_facet}
use Rattle.hull.proofs.SimplexExchange.{exchanged_solid, exchanged_facing, reached_size}
use Rattle.hull.proofs.SimplexSizes.{point_small, function_small, exchange_fixed}

-- a point of the list is reached
pub point_reached : (n : ℕ) (points : List (List ℤ)) (p : List ℤ) → HaveDimension n points → Contains points p → IsReachedBy n points p
point_reached n points p d c = record {
  dimension = All-contains (λ q. length q ≡ n) points p d c;
  within = λ i. within_reach points i (in_from_contains points c);
}

-- what turning about the axis of the axes is about the function
about : (f g axis : Affine) (p : List ℤ) (h : Affine) → ((x : List ℤ) → value g x ≡ pos 0 → value axis x ≡ pos 0) → IsTurned f axis p h
    → IsTurned f g p h
about f g axis p h same t = record {
  dimension = t.dimension;
  primitive = t.primitive;
  vanishes = t.vanishes;
  zeros = λ x z y. t.zeros x (same x z) y;
  positive = λ x z y. t.positive x (same x z) y;
}

-- the functions below i are turned, and the others as before
pub record IsTurnedBelow (n k i : ℕ) (functions turned : List Affine) (p : List ℤ) (axis : Affine) : Type 0 where
  pub count : length turned ≡ n + 1
  pub done : (j : ℕ) → j < i → j < n + 1 → j ≢ k → IsTurned (function_of functions j) axis p (function_of turned j)
  pub rest : (j : ℕ) → i ≤ j → function_of turned j ≡ function_of functions j
  pub own : function_of turned k ≡ function_of functions k

pub none_turned : (n k : ℕ) (functions : List Affine) (p : List ℤ) (axis : Affine) → length functions ≡ n + 1
    → IsTurnedBelow n k 0 functions functions p axis
none_turned n k functions p axis e = record { count = e; done = λ j h l a. absurd (omega (arith, h)); rest = λ j h. refl; own = refl }

pub one_turned : (n k i : ℕ) (functions turned new : List Affine) (p : List ℤ) (axis h : Affine) → i < n + 1 → i ≢ k
    → IsTurned (function_of functions i) axis p h → new ≡ set turned i h → IsTurnedBelow n k i functions turned p axis
    → IsTurnedBelow n k (i + 1) functions new p axis
one_turned n k i functions turned new p axis h l apart t e so_far =
    subst (λ (fs : List Affine). IsTurnedBelow n k (i + 1) functions fs p axis) (sym e) (record {
      count = length-set turned i h ∙ so_far.count;
      done = λ j b m a. ⊎_elim
          (λ (c : j < i). subst (IsTurned (function_of functions j) axis p) (sym (other j (λ d. absurd (omega (arith, c, d))))) (so_far.done j c m a))
          (λ (c : i ≤ j). here j (omega arith)) (cases_lt j i);
      rest = λ j b. other j (λ d. absurd (omega (arith, b, d))) ∙ so_far.rest j (omega arith);
      own = other k (λ d. apart (sym d)) ∙ so_far.own;
    })
  where
    other : (j : ℕ) → j ≢ i → function_of (set turned i h) j ≡ function_of turned j
    other j a = get_or-set_other turned i j h _ a

    here : (j : ℕ) → i ≡ j → IsTurned (function_of functions j) axis p (function_of (set turned i h) j)
    here j d = subst (λ (m : ℕ). IsTurned (function_of functions m) axis p (function_of (set turned i h) m)) d
        (subst (IsTurned (function_of functions i) axis p) (sym (get_or-set_same turned i h _ (let c = so_far.count in omega arith))) t)

pub own_skipped : (n k i : ℕ) (functions turned : List Affine) (p : List ℤ) (axis : Affine) → i ≡ k
    → IsTurnedBelow n k i functions turned p axis → IsTurnedBelow n k (i + 1) functions turned p axis
own_skipped n k i functions turned p axis e so_far = record {
  count = so_far.count;
  done = λ j b m a. so_far.done j (below j (λ d. a (d ∙ e)) b) m a;
  rest = λ j b. so_far.rest j (omega arith);
  own = so_far.own;
}
  where
    below : (j : ℕ) → j ≢ i → j < i + 1 → j < i
    below j a b = omega arith

module _ (n k : ℕ) (points corners : List (List ℤ)) (functions : List Affine) (p : List ℤ) (simplex : IsFacingSimplex n points corners functions)
    (sized : IsSized n points) (place : k < n + 1) (reached : IsReachedBy n points p)
    (nonzero : value (function_of functions k) p ≢ pos 0) where
  pub exchange_point : absolute_sum p ≤ 2 ^ 30
  exchange_point =
      let small = point_small n k points corners functions p simplex sized place reached nonzero in let bound = limit_bound n in omega arith

  pub exchange_function : (i : ℕ) → i < n + 1 → IsSmallAt p (function_of functions i)
  exchange_function i h = function_small n k points corners functions p simplex sized place reached nonzero i h

  product_small : (c b m : ℕ) → c ≤ b * m → b < 2 ^ 63 → m ≤ 2 ^ 30 → c ≤ 2 ^ 96
  product_small c b m h l s = omega (arith, mul-le-mul_right {m = b} {n = 2 ^ 63} m (omega arith))

  smaller : size n corners ≤ size_limit_of n
  smaller = let less = reached_size n points corners simplex.small in omega arith

  power : (2 * size n corners) ^ (n - 1) < 2 ^ 63
  power = let some = simplex.solid.coordinates in entries_fit_lem n (n - 1) (size n corners) (omega arith) smaller

  pub exchange_constant : (i : ℕ) → i < n + 1 → nat_abs (function_of functions i).constant ≤ 2 ^ 96
  exchange_constant i h = product_small _ ((2 * size n corners) ^ (n - 1)) (size n corners)
      (facets_bounded_lem n corners simplex.solid (function_of functions i) (facing_facet n corners functions simplex.facing simplex.solid i h)).constant
      power (let bound = limit_bound n in let s = smaller in omega arith)

  pub exchange_entries : (i : ℕ) → i < n + 1 → All (λ a. nat_abs a < 2 ^ 63) (function_of functions i).normal
  exchange_entries i h j d l =
      let bound = (facets_bounded_lem n corners simplex.solid (function_of functions i)
      (facing_facet n corners functions simplex.facing simplex.solid i h)).normal j d l in
      let s = power in omega arith

  -- each other function can be turned
  pub turnable : (i : ℕ) (axis opposed : Affine) → i < n + 1 → i ≢ k → AreAxes (function_of functions k) p axis opposed
      → IsTurnable (function_of functions i) axis opposed p
  turnable i axis opposed h apart axes = record {
    point = exchange_point;
    constant = let c = exchange_constant i h in omega arith;
    function = exchange_function i h;
    primitive = simplex.facing.primitive i h;
    first = axes.first;
    second = axes.second;
    positive = axes.positive;
    negative = axes.negative;
    together = λ x z. (axes.zeros x (axes.back x z)).1;
    before = λ l. exchange_fixed n k points corners functions p simplex sized place reached nonzero i h apart opposed
        (axes.other_dimension ∙ simplex.facing.dimension k place) (λ x z. (axes.zeros x z).1) (inl (l, axes.negative));
    behind = λ l. exchange_fixed n k points corners functions p simplex sized place reached nonzero i h apart axis
        (axes.dimension ∙ simplex.facing.dimension k place) (λ x z. (axes.zeros x z).0) (inr (l, axes.positive));
  }

  -- all are turned
  pub exchanged_simplex : (turned new : List Affine) (axis opposed : Affine) (i : ℕ) → n + 1 ≤ i
      → AreAxes (function_of functions k) p axis opposed → IsTurnedBelow n k i functions turned p axis → new ≡ set turned k axis
      → IsFacingSimplex n points (set corners k p) new
  exchanged_simplex turned new axis opposed i past axes all e = subst (IsFacingSimplex n points (set corners k p)) (sym e) (record {
    facing = exchanged_facing n k corners functions p simplex.facing simplex.solid place reached.dimension nonzero (set turned k axis)
        (length-set turned k axis ∙ all.count)
        (λ j l a. subst (IsTurned (function_of functions j) (function_of functions k) p) (sym (get_or-set_other turned k j axis _ a))
        (about (function_of functions j) (function_of functions k) axis p (function_of turned j) (λ x z. (axes.zeros x z).0)
        (all.done j (omega arith) l a)))
        (subst (λ (f : Affine). length f.normal ≡ n) (sym own) (axes.dimension ∙ simplex.facing.dimension k place))
        (subst (λ (f : Affine). IsPrimitive f.normal) (sym own) axes.primitive)
        (subst (λ (f : Affine). pos 0 <ℤ value f p) (sym own) axes.positive)
        (λ x z. subst (λ (f : Affine). value f x ≡ pos 0) (sym own) (axes.zeros x z).0);
    solid = exchanged_solid n k corners functions p simplex.facing simplex.solid place reached.dimension nonzero;
    small = All-set (IsReachedBy n points) corners k p reached simplex.small;
  })
    where
      own : function_of (set turned k axis) k ≡ axis
      own = get_or-set_same turned k axis _ (let c = all.count in omega arith)
