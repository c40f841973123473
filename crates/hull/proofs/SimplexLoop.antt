-- The farthest points take the places of the unit simplex's corners one after another.
use Rattle.std.proofs.Common.{◌≡◌, ◌≢◌, ⊎_elim, ℕ, zero, suc, ◌+◌, ◌<◌, ◌≤◌, List, [], length, set, ℤ, pos, sym, ◌∙◌, subst, arith, All, Contains}
use Rattle.std.proofs.lemmas.List.{get_or_default, get_or-set_same, get_or-set_other}
use Rattle.std.proofs.lemmas.List.Elements.{All-contains, All-weaker}
use Rattle.lattice_theory.specs.Vector.{HaveDimension}
use Rattle.lattice_theory.specs.Affine.{Affine, value}
use Rattle.lattice_theory.specs.Size.{size, absolute_sum}
use Rattle.lattice_theory.specs.Facet.{IsFlat, IsFacet}
use Rattle.lattice_theory.proofs.Divisibility.{primitive_nonzero}
use Rattle.lattice_theory.proofs.Vectors.{nonzero_entry}
use Rattle.normal_bounds.proofs.Sizes.{point_absolute_sum_lem}
use Rattle.facet_theory.specs.Solid.{AreSolid}
use Rattle.lattice_core.specs.Limits.{IsSized}
use Rattle.lattice_core.specs.Dimensions.{dimension_of}
use Rattle.lattice_core.specs.PointLists.{AreSolidPoints}
use Rattle.lattice_core.specs.ValueWidths.{IsWithin, FitsWidth, Serves}
use Rattle.lattice_core.specs.declared.value_widths.Width.{Width}
use Rattle.lattice_core.proofs.Dimension.{dimension_is}
use Rattle.hull_growth.specs.Grown.{HasFacets}
use Rattle.hull.specs.steps.Tight.{function_of}
use Rattle.hull.specs.steps.Facing.{corner_of, IsFacingSimplex, IsUnitSimplex}
use Rattle.hull.specs.steps.Simplex.{IsSimplex}
use Rattle.hull.proofs.FacetBounds.{facets_bounded_lem, within_larger}
use Rattle.hull.proofs.SimplexFacets.{same_or_apart, facing_facet, facing_facets}
use Rattle.hull.proofs.SimplexExchange.{reached_size}
use Rattle.hull.proofs.UnitSimplex.{unit_is_simplex}

-- the corners before the place are points of the list
pub record IsPlacedBelow (n : ℕ) (points : List (List ℤ)) (place : ℕ) (corners : List (List ℤ)) (functions : List Affine) : Type 0 where
  pub simplex : IsFacingSimplex n points corners functions
  pub among : (j : ℕ) → j < place → Contains points (corner_of corners j)

-- at the start the first one is
pub placed_first : (n : ℕ) (points : List (List ℤ)) (p : List ℤ) (corners : List (List ℤ)) (functions : List Affine) → AreSolid n points
    → Contains points p → IsUnitSimplex p corners functions → IsPlacedBelow n points 1 corners functions
placed_first n points p corners functions solid c unit_simplex = record {
  simplex = unit_is_simplex n p corners functions (All-contains (λ q. length q ≡ n) points p solid.dimension c) solid.coordinates unit_simplex
      points solid c;
  among = λ j h. at j h;
}
  where
    at : (j : ℕ) → j < 1 → Contains points (corner_of corners j)
    at zero h = subst (Contains points) (sym unit_simplex.first) c
    at (suc j) h = absurd (omega (arith, h))

-- then one more is
pub placed_more : (n place far : ℕ) (points corners new : List (List ℤ)) (functions more : List Affine) → place < n + 1 → far < length points
    → new ≡ set corners place (corner_of points far) → IsFacingSimplex n points new more → IsPlacedBelow n points place corners functions
    → IsPlacedBelow n points (place + 1) new more
placed_more n place far points corners new functions more h l e simplex so_far = record {
  simplex = simplex;
  among = λ j b. subst (λ (cs : List (List ℤ)). Contains points (corner_of cs j)) (sym e) (⊎_elim
      (λ (s : j ≡ place). subst (λ (m : ℕ). Contains points (corner_of (set corners place (corner_of points far)) m)) (sym s)
      (subst (Contains points) (sym (get_or-set_same corners place (corner_of points far) [] (let c = so_far.simplex.facing.corner_count in omega arith)))
      (far, l, get_or_default points far _ [] l)))
      (λ (a : j ≢ place). subst (Contains points) (sym (get_or-set_other corners place j (corner_of points far) [] a)) (so_far.among j (omega arith)))
      (same_or_apart j place));
}

-- a function of the simplex is such that its values at the points fit the width that serves these
module _ (n i : ℕ) (points corners : List (List ℤ)) (functions : List Affine) (solid : AreSolid n points)
    (simplex : IsFacingSimplex n points corners functions) (below : i < n + 1) where
  facet : IsFacet n corners (function_of functions i)
  facet = facing_facet n corners functions simplex.facing simplex.solid i below

  less : size n corners ≤ size n points
  less = reached_size n points corners simplex.small

  within : IsWithin n (size n points) (function_of functions i)
  within = within_larger n (size n corners) (size n points) (function_of functions i) less
      (facets_bounded_lem n corners simplex.solid (function_of functions i) facet)

  pub simplex_fits : (width : Width) → Serves n (size n points) width → All (λ p. FitsWidth width (function_of functions i) p) points
  simplex_fits width serves = All-weaker (λ p. absolute_sum p ≤ size n points) (λ p. FitsWidth width (function_of functions i) p)
      (λ p small. serves (function_of functions i) p within small) points (point_absolute_sum_lem n points solid.dimension)

  -- it isn't 0 at all of them, since they aren't flat
  pub simplex_somewhere : All (λ p. value (function_of functions i) p ≡ pos 0) points → ⊥
  simplex_somewhere all = solid.solid (record {
    function = function_of functions i;
    dimension = facet.dimension;
    nonconstant = (let (k, l, e) = nonzero_entry (function_of functions i).normal (primitive_nonzero (function_of functions i).normal facet.primitive)
        in (k, e.nonzero));
    vanishes = all;
  })

-- in the end all corners are points
pub all_placed : (points corners : List (List ℤ)) (functions : List Affine) (place : ℕ) → AreSolidPoints points
    → dimension_of points + 1 ≤ place → IsPlacedBelow (dimension_of points) points place corners functions → IsSimplex points corners
all_placed points corners functions place solid past placed = record {
  dimension = same;
  count = placed.simplex.facing.corner_count;
  among = among;
  solid = record {
    sized = record {
      are_points = record {
        some = some;
        one_dimension = subst (λ (m : ℕ). HaveDimension m corners) (sym same) placed.simplex.solid.dimension;
      };
      within = subst (λ (m : ℕ). IsSized m corners) (sym same) (let less = reached_size (dimension_of points) points corners placed.simplex.small in
          let w = solid.sized.within in omega arith);
    };
    solid = λ flat. placed.simplex.solid.solid (subst (λ (m : ℕ). IsFlat m corners) same flat);
  };
}
  where
    some : 0 < length corners
    some = let c = placed.simplex.facing.corner_count in omega arith

    same : dimension_of corners ≡ dimension_of points
    same = dimension_is (dimension_of points) corners some placed.simplex.solid.dimension

    among : (c : List ℤ) → Contains corners c → Contains points c
    among c (j, l, e) = subst (Contains points) (get_or_default corners j [] c l ∙ e)
        (placed.among j (let d = placed.simplex.facing.corner_count in omega arith))

pub placed_facets : (n : ℕ) (points corners : List (List ℤ)) (functions : List Affine) (place : ℕ)
    → IsPlacedBelow n points place corners functions → HasFacets n corners functions
placed_facets n points corners functions place placed = facing_facets n corners functions placed.simplex.facing placed.simplex.solid
