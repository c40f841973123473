-- The functions of a simplex within the size limit, and their combinations at a point, are small.
use Rattle.std.proofs.Common.{◌≡◌, ◌≢◌, inl, inr, ℕ, ◌+◌, ◌<◌, ◌≤◌, List, length, set, ℤ, pos, ◌+ℤ◌, ◌*ℤ◌, neg_ℤ, ◌≤ℤ◌, ◌<ℤ◌, sym, ◌∙◌, subst, arith}
use Rattle.std.proofs.lemmas.List.Elements.{All-set, All-contains}
use Rattle.lattice_theory.specs.Affine.{Affine, value}
use Rattle.lattice_theory.specs.Combinations.{IsCombinationAt}
use Rattle.lattice_theory.specs.Size.{absolute_sum}
use Rattle.lattice_theory.proofs.Integers.{products_out, linear}
use Rattle.facet_theory.specs.Solid.{AreSolid}
use Rattle.ridge_theory.proofs.Pairs.{combination_exists}
use Rattle.lattice_core.specs.Limits.{IsSized, size_limit_of}
use Rattle.std.specs.Prelude.{nat_abs, ◌-◌, ◌^◌}
use Rattle.normal_bounds.specs.Bounds.{EntriesWithin}
use Rattle.lattice_core.specs.Combine.{AreOpposite, twice_limit, IsSmallAt, IsFixedWithinLimit, HasFixedCombination}
use Rattle.hull_growth.proofs.Small.{points_small, facet_fixed, facet_small}
use Rattle.hull.specs.steps.Tight.{function_of}
use Rattle.hull.specs.steps.Facing.{corner_of, IsReachedBy, IsFacingSimplex}
use Rattle.hull.proofs.SimplexFacets.{facing_facet}
use Rattle.hull.proofs.SimplexExchange.{new_within, exchanged_solid, turned_facet, combination_turns, reached_size}

-- a function of the simplex, or its negative, is small at a point that the points reach
module _ (n k : ℕ) (points corners : List (List ℤ)) (functions : List Affine) (p : List ℤ) (simplex : IsFacingSimplex n points corners functions)
    (sized : IsSized n points) (place : k < n + 1) (reached : IsReachedBy n points p)
    (nonzero : value (function_of functions k) p ≢ pos 0) where
  exchanged_sized : IsSized n (set corners k p)
  exchanged_sized =
      let less = reached_size n points (set corners k p) (All-set (IsReachedBy n points) corners k p reached simplex.small) in omega arith

  corners_sized : IsSized n corners
  corners_sized = let less = reached_size n points corners simplex.small in omega arith

  solid : AreSolid n (set corners k p)
  solid = exchanged_solid n k corners functions p simplex.facing simplex.solid place reached.dimension nonzero

  pub point_small : absolute_sum p ≤ size_limit_of n
  point_small = All-contains (λ q. absolute_sum q ≤ size_limit_of n) (set corners k p) p
      (points_small n (set corners k p) solid.dimension exchanged_sized) (new_within n k corners p simplex.facing.corner_count place)

  pub function_small : (i : ℕ) → i < n + 1 → IsSmallAt p (function_of functions i)
  function_small i h =
      let facet = facing_facet n corners functions simplex.facing simplex.solid i h in
      let small = facet_small n corners (function_of functions i) simplex.solid corners_sized facet in
      record {
        dimension = facet.dimension ∙ sym reached.dimension;
        entries = subst (λ (m : ℕ). EntriesWithin (twice_limit m ^ (m - 1)) (function_of functions i).normal) (sym reached.dimension) small.entries;
        at_point = subst (λ (m : ℕ). nat_abs (value (function_of functions i) p) ≤ twice_limit m ^ m) (sym reached.dimension)
            (small.values p point_small);
      }

  -- where a function and g, which is 0 where the one at the place k is, have opposite signs at p, their combination is fixed within the limit
  pub exchange_fixed : (i : ℕ) → i < n + 1 → i ≢ k → (g : Affine) → length g.normal ≡ n
      → ((x : List ℤ) → value (function_of functions k) x ≡ pos 0 → value g x ≡ pos 0)
      → AreOpposite (value (function_of functions i) p) (value g p) → HasFixedCombination (function_of functions i) g p
  exchange_fixed i h apart g long zeros opposite = by (exists opposite)
    where
      f : Affine
      f = function_of functions i

      at_own : value g (corner_of corners i) ≡ pos 0
      at_own = zeros (corner_of corners i) (simplex.facing.on k i place h (λ e. apart (sym e)))

      cancels : (a b : ℤ) → neg_ℤ b *ℤ a +ℤ a *ℤ b ≡ pos 0
      cancels a b = simp products_out (omega (arith, linear))

      cancels_too : (a b : ℤ) → b *ℤ a +ℤ neg_ℤ a *ℤ b ≡ pos 0
      cancels_too a b = simp products_out (omega (arith, linear))

      not_negative : (a : ℤ) → a ≡ pos 0 → pos 0 ≤ℤ a
      not_negative a e = omega (arith, linear)

      minus_positive : (a : ℤ) → a <ℤ pos 0 → pos 0 <ℤ neg_ℤ a
      minus_positive a l = omega (arith, linear)

      exists : AreOpposite (value (function_of functions i) p) (value g p) → (t : Affine) × IsCombinationAt (function_of functions i) g p t
      exists (inl (before, behind)) = combination_exists n p reached.dimension (function_of functions i) g (simplex.facing.dimension i h) long
          (neg_ℤ (value g p)) (value (function_of functions i) p) (minus_positive (value g p) behind) before
          (cancels (value (function_of functions i) p) (value g p)) (corner_of corners i) (simplex.facing.away i h)
          (not_negative (value g (corner_of corners i)) at_own)
      exists (inr (before, behind)) = combination_exists n p reached.dimension (function_of functions i) g (simplex.facing.dimension i h) long
          (value g p) (neg_ℤ (value (function_of functions i) p)) behind (minus_positive (value (function_of functions i) p) before)
          (cancels_too (value (function_of functions i) p) (value g p)) (corner_of corners i) (simplex.facing.away i h)
          (not_negative (value g (corner_of corners i)) at_own)

      by : (t : Affine) × IsCombinationAt (function_of functions i) g p t → HasFixedCombination (function_of functions i) g p
      by (t, c) = record {
        function = t;
        combination = c;
        fixed = subst (λ (m : ℕ). IsFixedWithinLimit m t) (sym reached.dimension) (facet_fixed n (set corners k p) t solid exchanged_sized
            (turned_facet n k corners functions p simplex.facing simplex.solid place reached.dimension nonzero i t h apart
            (combination_turns n (function_of functions i) (function_of functions k) g t p (simplex.facing.dimension i h) long reached.dimension
            zeros c)));
      }
