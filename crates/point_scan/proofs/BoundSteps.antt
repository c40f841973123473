-- Bounds of a polytope, and regions with one bound more.
use Rattle.std.specs.Prelude.{◌↔◌, ℤ, pos, nat_abs, ◌-ℤ◌, ◌*ℤ◌, ◌≤ℤ◌, ◌^◌}
use Rattle.std.specs.List.{All}
use Rattle.std.proofs.Common.{◌≡◌, ◌⊎◌, inl, inr, ℕ, ◌+◌, ◌*◌, ◌<◌, ◌≤◌, List, [], ◌∷◌, ◌++◌, length, take, get_or, sym, ap, subst, ◌∙◌, arith}
use Rattle.std.proofs.lemmas.Int.{ints}
use Rattle.std.proofs.lemmas.List.Elements.{All-more}
use Rattle.lattice_theory.specs.Affine.{Affine, value}
use Rattle.lattice_theory.specs.Vector.{dot, entry}
use Rattle.lattice_theory.proofs.Vectors.{entry_before, entry_last}
use Rattle.lattice_theory.specs.Size.{absolute_sum}
use Rattle.lattice_theory.proofs.Members.{each_from_all, all_from_each, each_push}
use Rattle.facet_theory.specs.Solid.{AreSolid}
use Rattle.facet_theory.proofs.Generate.{facets_generate_lem}
use Rattle.facet_theory.proofs.Hull.{sum_nonnegative}
use Rattle.normal_bounds.proofs.Sizes.{point_absolute_sum_lem}
use Rattle.lattice_core.specs.Dimensions.{dimension_of}
use Rattle.lattice_core.specs.PointLists.{AreSolidPoints}
use Rattle.lattice_core.proofs.SizeLimits.{limit_bound}
use Rattle.region_walk.specs.Regions.{IsInRegion, IsSoundRegion}
use Rattle.region_walk.specs.declared.region.Region.{Region}
use Rattle.point_scan.specs.ScanSteps.{HoldsDilate}
use Rattle.point_scan.specs.ProjectionSteps.{IsBound}
use Rattle.point_scan.specs.declared.bounds.Bound.{Bound}
use Rattle.point_scan.proofs.Holdings.{dilated_value}

-- vertices within the size limit are small
pub vertices_small : (points : List (List ℤ)) → AreSolidPoints points → All (λ p. absolute_sum p ≤ 2 ^ 33) points
vertices_small points solid =
    let heavy = point_absolute_sum_lem (dimension_of points) points solid.sized.are_points.one_dimension in
    let most = limit_bound (dimension_of points) in
    let within = solid.sized.within in
    λ k d l. let h = heavy k d l in omega (arith, h, most, within)

-- a number below all heights so far and below one more
pub least_more : (a : List ℤ) (points : List (List ℤ)) (i : ℕ) (p : List ℤ) (least height new : ℤ) → i < length points → p ≡ get_or points i p
    → height ≡ dot a p → All (λ q. least ≤ℤ dot a q) (take i points) → new ≤ℤ least → new ≤ℤ height
    → All (λ q. new ≤ℤ dot a q) (take (i + 1) points)
least_more a points i p least height new within is height_is below lower last =
    All-more (λ q. new ≤ℤ dot a q) points i p within (λ k d l. let h = below k d l in omega (arith, ints, h, lower))
    (subst (λ q. new ≤ℤ dot a q) is (subst (λ (z : ℤ). new ≤ℤ z) height_is last))

-- a height at a small point
pub height_small : (s : ℕ) (height : ℤ) → nat_abs height ≤ 2 ^ 63 * s → s ≤ 2 ^ 33 → nat_abs height ≤ 2 ^ 96
height_small s height h k = omega (arith, h, k)

-- the function whose least value is 0
pub bound_is : (a : List ℤ) (points : List (List ℤ)) (f : Affine) (least : ℤ) → f.normal ≡ a → f.constant ≡ pos 0 -ℤ least
    → All (λ q. least ≤ℤ dot a q) points → nat_abs least ≤ 2 ^ 96 → IsBound (length a) points f
bound_is a points f least e h below small = record {
  dimension = ap length e;
  nonnegative = λ k d l. rw (e, h) (let b = below k d l in omega (arith, ints, b));
  small = rw h (omega (arith, ints, small));
}

-- one bound more
pub bounds_more : (n : ℕ) (points : List (List ℤ)) (old new : List Bound) (b : Bound) → new ≡ old ++ b ∷ []
    → All (λ c. IsBound n points c.function) old → IsBound n points b.function → All (λ c. IsBound n points c.function) new
bounds_more n points old new b e h k =
    rw e (all_from_each {P = λ c. IsBound n points c.function} (each_push (each_from_all (λ c. IsBound n points c.function) old h) k))

-- a region that holds a dilate, with a bound more
module _ (n : ℕ) (points : List (List ℤ)) (solid : AreSolid n points) (j : ℕ) (functions : List Affine) (f g : Affine) (old new : Region)
    (bound : IsBound n points f) (normals : g.normal ≡ f.normal) (constants : g.constant ≡ pos j *ℤ f.constant) where
  pub holds_bound : HoldsDilate n points j functions old → IsSoundRegion new → length new.low ≡ length old.low
      → ((x : List ℤ) → IsInRegion new x ↔ IsInRegion old x × (pos 0 ≤ℤ value g x)) → HoldsDilate n points j functions new
  holds_bound holds sound same members = record {
    sound = sound;
    dimension = same ∙ holds.dimension;
    small = λ x h. holds.small x ((members x).0 h).0;
    inside = λ x h. holds.inside x ((members x).0 h).0;
    all = λ x d. (members x).1 (
      holds.all x d,
      subst (λ (z : ℤ). pos 0 ≤ℤ z) (sym (dilated_value f g j x normals constants))
          (sum_nonnegative n points f (facets_generate_lem n points solid f bound.dimension bound.nonnegative) x (pos j) d.inside),
    );
  }

-- one entry more, by what it is
pub entries_more : (P : ℕ → ℤ → Type 0) (i : ℕ) (old new : List ℤ) (s : ℤ) → length old ≡ i → new ≡ old ++ s ∷ []
    → ((m : ℕ) → m < i → P m (entry old m)) → P i s → (m : ℕ) → m < i + 1 → P m (entry new m)
entries_more P i old new s e push before last m h = rw push (by (last_or_below m i h))
  where
    last_or_below : (m i : ℕ) → m < i + 1 → (m < i) ⊎ (m ≡ i)
    last_or_below m i h = grind arith

    by : (m < i) ⊎ (m ≡ i) → P m (entry (old ++ s ∷ []) m)
    by (inl l) = rw (entry_before old s m (omega arith)) (before m l)
    by (inr l) = rw (entry_last old s m (omega arith)) (rw l last)
