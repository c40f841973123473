-- Points inside and outside of the hull of the corners.
use Rattle.std.proofs.Common.{◌≡◌, ◌↔◌, ⊎_elim, ℕ, zero, suc, ◌^◌, ◌<◌, ◌≤◌, List, [], ◌∷◌, ◌++◌, length, take, ℤ, pos, ◌≤ℤ◌, refl, sym, subst, ◌∙◌, Contains, All, arith}
use Rattle.std.proofs.lemmas.Bool.{cases_lt}
use Rattle.std.proofs.lemmas.List.{take_all}
use Rattle.std.proofs.lemmas.List.Elements.{All-contains, All-weaker, All-contains_itself, All-push, Contains-append_left, Contains-push}
use Rattle.lattice_theory.specs.Vector.{HaveDimension}
use Rattle.lattice_theory.specs.Affine.{Affine, value}
use Rattle.lattice_theory.specs.Hull.{InHull}
use Rattle.lattice_theory.specs.Facet.{IsFlat, IsFacet}
use Rattle.lattice_theory.specs.Size.{absolute_sum}
use Rattle.facet_theory.proofs.Hull.{hull_by_facets_lem}
use Rattle.ridge_theory.proofs.NewFacets.{facets_of_all_lem}
use Rattle.lattice_core.specs.Dimensions.{dimension_of}
use Rattle.lattice_core.specs.Limits.{IsSized}
use Rattle.hull_growth.specs.Grown.{HasFacets, IsGrown}
use Rattle.hull_growth.specs.steps.Rows.{AreCornerRows}
use Rattle.hull_growth.specs.steps.Growing.{IsGrowthStep, kept_at}
use Rattle.hull_growth.proofs.Small.{solid_at, no_facet, fewer_sized, one_more, points_bound}
use Rattle.hull_growth.proofs.MorePoints.{more_are_solid, more_are_points, dimension_more}
use Rattle.hull_growth.proofs.NewFacetTurns.{kept_front}

-- two vectors without entries are the same
pub no_coordinates : (x y : List ℤ) → length x ≡ 0 → length y ≡ 0 → x ≡ y
no_coordinates [] [] e h = refl
no_coordinates [] (b ∷ y) e h = absurd (omega arith)
no_coordinates (a ∷ x) y e h = absurd (omega arith)

-- without coordinates each point lies in the hull
inside_without : (corners : List (List ℤ)) (p : List ℤ) → 0 < length corners → HaveDimension 0 corners → length p ≡ 0 → InHull 0 corners p
inside_without [] p some d e = absurd (omega arith)
inside_without (q ∷ corners) p some d e = λ f l h.
    subst (λ (x : List ℤ). pos 0 ≤ℤ value f x) (no_coordinates q p (d 0 q (omega arith)) e) (h 0 q (omega arith))

-- a point lies in the hull exactly where no facet is negative at it
pub inside_by_facets : (n : ℕ) (corners : List (List ℤ)) (fs : List Affine) (p : List ℤ) → 0 < length corners → HaveDimension n corners
    → (IsFlat n corners → ⊥) → HasFacets n corners fs → length p ≡ n → All (λ f. pos 0 ≤ℤ value f p) fs ↔ InHull n corners p
inside_by_facets zero corners fs p some d s h e = (
  λ all. inside_without corners p some d e,
  λ inside. All-weaker (Contains fs) (λ f. pos 0 ≤ℤ value f p) (λ f c. absurd (no_facet f corners ((h.members f).0 c))) fs
      (All-contains_itself fs),
)
inside_by_facets (suc k) corners fs p some d s h e =
    let law = hull_by_facets_lem (suc k) corners (solid_at k corners d s) p e in (
      λ all. law.1 (λ f facet. All-contains (λ f. pos 0 ≤ℤ value f p) fs f all ((h.members f).1 facet)),
      λ inside. All-weaker (Contains fs) (λ f. pos 0 ≤ℤ value f p) (λ f c. law.0 inside f ((h.members f).0 c)) fs
          (All-contains_itself fs),
    )

-- with a point in the hull the facets are the same
pub inside_facets : (n : ℕ) (corners : List (List ℤ)) (fs : List Affine) (p : List ℤ) → HaveDimension n corners → (IsFlat n corners → ⊥)
    → HasFacets n corners fs → length p ≡ n → InHull n corners p → HasFacets n (corners ++ (p ∷ [])) fs
inside_facets zero corners fs p d s h e inside = record {
  once = h.once;
  members = λ f. (
    λ c. absurd (no_facet f corners ((h.members f).0 c)),
    λ facet. absurd (no_facet f (corners ++ (p ∷ [])) facet),
  );
}
inside_facets (suc k) corners fs p d s h e inside = record {
  once = h.once;
  members = λ f. (λ c. (law f).0 ((h.members f).0 c), λ facet. (h.members f).1 ((law f).1 facet));
}
  where
    nonnegative : (f : Affine) → IsFacet (suc k) corners f → (x : List ℤ) → Contains (corners ++ (p ∷ [])) x → pos 0 ≤ℤ value f x
    nonnegative f facet x c = ⊎_elim
        (λ (i : Contains corners x). All-contains (λ q. pos 0 ≤ℤ value f q) corners x facet.nonnegative i)
        (λ (i : x ≡ p). subst (λ (q : List ℤ). pos 0 ≤ℤ value f q) (sym i) (inside f facet.dimension facet.nonnegative))
        ((one_more corners p x).0 c)

    law : (f : Affine) → IsFacet (suc k) corners f ↔ IsFacet (suc k) (corners ++ (p ∷ [])) f
    law f = facets_of_all_lem (suc k) corners (corners ++ (p ∷ [])) (solid_at k corners d s)
        (λ x c. Contains-append_left corners (p ∷ []) x c) nonnegative f

-- a point outside has coordinates
outside_coordinates : (n : ℕ) (corners : List (List ℤ)) (p : List ℤ) → 0 < length corners → HaveDimension n corners → length p ≡ n
    → (InHull n corners p → ⊥) → 0 < n
outside_coordinates zero corners p some d e out = absurd (out (inside_without corners p some d e))
outside_coordinates (suc k) corners p some d e out = omega arith

module _ (corners : List (List ℤ)) (fs : List Affine) (rows : List ℕ) (p : List ℤ) (g : IsGrown corners fs)
    (e : length p ≡ dimension_of corners) (w : IsSized (length p) (corners ++ (p ∷ []))) where
  -- the corners have the point's dimension
  dimension : HaveDimension (length p) corners
  dimension = subst (λ (n : ℕ). HaveDimension n corners) (sym e) g.solid.sized.are_points.one_dimension

  -- the point is small
  pub point_bound : absolute_sum p ≤ 2 ^ 30
  point_bound = All-contains (λ q. absolute_sum q ≤ 2 ^ 30) (corners ++ (p ∷ [])) p
      (points_bound (length p) (corners ++ (p ∷ []))
      (All-push (λ q. length q ≡ length p) corners p dimension refl) w) (Contains-push corners p)

  -- in the hull or not
  pub point_inside : All (λ f. pos 0 ≤ℤ value f p) fs ↔ InHull (dimension_of corners) corners p
  point_inside = inside_by_facets (dimension_of corners) corners fs p g.solid.sized.are_points.some g.solid.sized.are_points.one_dimension
      g.solid.solid g.hull e

  -- in the hull: the facets are the same
  pub facets_inside : InHull (dimension_of corners) corners p → HasFacets (length p) (corners ++ (p ∷ [])) fs
  facets_inside inside = subst (λ (n : ℕ). HasFacets n (corners ++ (p ∷ [])) fs) (sym e)
      (inside_facets (dimension_of corners) corners fs p g.solid.sized.are_points.one_dimension g.solid.solid g.hull e inside)

  -- outside: a step
  pub step_outside : AreCornerRows corners fs rows → (InHull (dimension_of corners) corners p → ⊥) → IsGrowthStep corners fs rows p
  step_outside r out = record {
    held = record {
      solid = record {
        coordinates = subst (λ (n : ℕ). 0 < n) (sym e) (outside_coordinates (dimension_of corners) corners p
            g.solid.sized.are_points.some g.solid.sized.are_points.one_dimension e out);
        dimension = dimension;
        solid = subst (λ (n : ℕ). IsFlat n corners → ⊥) (sym e) g.solid.solid;
      };
      sized = fewer_sized (length p) corners (corners ++ (p ∷ [])) (λ x c. Contains-append_left corners (p ∷ []) x c) w;
      hull = subst (λ (n : ℕ). HasFacets n corners fs) (sym e) g.hull;
      rows = r;
    };
    within = w;
  }

  -- what is held afterwards
  pub grown_outside : (new : List Affine) → HasFacets (length p) (corners ++ (p ∷ [])) new → IsGrown (corners ++ (p ∷ [])) new
  grown_outside new h =
      let n : length p ≡ dimension_of (corners ++ (p ∷ [])) = e ∙ sym (dimension_more corners p g.solid.sized.are_points.some) in
      record {
        solid = more_are_solid corners (corners ++ (p ∷ [])) p refl g.solid (record {
          are_points = more_are_points corners (corners ++ (p ∷ [])) p refl e g.solid.sized.are_points;
          within = subst (λ (m : ℕ). IsSized m (corners ++ (p ∷ []))) n w;
        });
        hull = subst (λ (m : ℕ). HasFacets m (corners ++ (p ∷ [])) new) n h;
      }

  -- the places of the first facets that aren't negative at a point outside
  pub places_outside : (InHull (dimension_of corners) corners p → ⊥) → (k : ℕ) (more : List Affine)
      → All (λ f. pos 0 ≤ℤ value f p) (take k fs) → take k (kept_at p fs ++ more) ≡ take k fs
  places_outside out k more all = ⊎_elim
      (λ (l : length fs < k). absurd (out (point_inside.0 (subst (All (λ f. pos 0 ≤ℤ value f p)) (take_all k fs (omega arith)) all))))
      (λ (l : k ≤ length fs). kept_front p fs k more l all)
      (cases_lt (length fs) k)
