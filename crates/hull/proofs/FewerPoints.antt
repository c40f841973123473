-- Some of the points: they are within the size limit as all are, and flat where all are.
use Rattle.std.proofs.Common.{◌≡◌, ℕ, ◌<◌, List, [], ◌∷◌, ◌++◌, length, get_or, ℤ, pos, sym, subst, All, Contains, true, Some, None, arith}
use Rattle.std.specs.Prelude.{Option, MatchOption, is_none}
use Rattle.std.proofs.lemmas.Bool.{true≢false}
use Rattle.std.proofs.lemmas.List.{length_push}
use Rattle.std.proofs.lemmas.List.Elements.{All-push, All-contains, All-weaker, All-contains_itself}
use Rattle.lattice_theory.specs.Vector.{HaveDimension}
use Rattle.lattice_theory.specs.Affine.{value}
use Rattle.lattice_theory.specs.Facet.{IsFlat}
use Rattle.lattice_core.specs.Dimensions.{dimension_of}
use Rattle.lattice_core.specs.Limits.{IsSized}
use Rattle.lattice_core.specs.PointLists.{AreSizedPoints}
use Rattle.lattice_core.proofs.Dimension.{dimension_is}
use Rattle.hull_growth.proofs.Small.{fewer_sized, fewer_dimension}

-- with the copy of one more point they are points, and there is one
pub one_more_among : (points old new : List (List ℤ)) (p copy : List ℤ) (i : ℕ) → i < length points → p ≡ get_or points i p → copy ≡ p
    → new ≡ old ++ (copy ∷ []) → All (Contains points) old → (0 < length new) × All (Contains points) new
one_more_among points old new p copy i l e c s among =
    subst (λ (ps : List (List ℤ)). (0 < length ps) × All (Contains points) ps) (sym s) (
      (let n = length_push old copy in omega arith),
      All-push (Contains points) old copy among (subst (Contains points) (sym c) (i, l, sym e)),
    )

-- what holds where there is no value
pub of_none : {X : Type 0} (o : Option X) (P : Type 0) (Q : X → Type 0) → is_none o ≡ true → MatchOption o P Q → P
of_none None P Q e h = h
of_none (Some x) P Q e h = absurd (true≢false (sym e))

module _ (points few : List (List ℤ)) (sized : AreSizedPoints points) (some : 0 < length few)
    (among : (p : List ℤ) → Contains few p → Contains points p) where
  -- they have the points' dimension
  dimension : HaveDimension (dimension_of points) few
  dimension = fewer_dimension (dimension_of points) few points among sized.are_points.one_dimension

  same : dimension_of few ≡ dimension_of points
  same = dimension_is (dimension_of points) few some dimension

  pub fewer_sized_points : AreSizedPoints few
  fewer_sized_points = record {
    are_points = record { some = some; one_dimension = subst (λ (n : ℕ). HaveDimension n few) (sym same) dimension };
    within = subst (λ (n : ℕ). IsSized n few) (sym same) (fewer_sized (dimension_of points) few points among sized.within);
  }

  pub fewer_solid : (IsFlat (dimension_of few) few → ⊥) → IsFlat (dimension_of points) points → ⊥
  fewer_solid solid flat = solid (subst (λ (n : ℕ). IsFlat n few) (sym same) (record {
    function = flat.function;
    dimension = flat.dimension;
    nonconstant = flat.nonconstant;
    vanishes = All-weaker (Contains few) (λ p. value flat.function p ≡ pos 0)
        (λ p c. All-contains (λ q. value flat.function q ≡ pos 0) points p flat.vanishes (among p c)) few (All-contains_itself few);
  }))
