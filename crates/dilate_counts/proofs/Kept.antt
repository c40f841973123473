-- Points that are kept, and visited again.
use Rattle.std.specs.Prelude.{ℤ}
use Rattle.std.proofs.Common.{◌≡◌, ℕ, ◌+◌, ◌<◌, Bool, true, false, List, [], ◌∷◌, ◌++◌, length, take, drop, get_or, sym, ap, ◌∙◌, subst, append-nil}
use Rattle.std.proofs.lemmas.List.{append_assoc, take-append-drop, take_more, drop_more}
use Rattle.lattice_core.specs.Dimensions.{dimension_of}
use Rattle.point_scan.specs.Dilates.{AreDilatePoints}
use Rattle.point_scan.specs.Visits.{Visited, none, one_more, StopsWithin, VisitsDilate}
use Rattle.dilate_counts.specs.KeptSteps.{AreFit, KeeperState, IsKept, ArePointsOf, HoldsPoints}

-- visits of the points of a list up to a place, and of the next one
module _ {V : Type 0} (visits : V → List ℤ → Bool → V → Type 0) (before middle after : V) (points : List (List ℤ)) (i : ℕ) (x : List ℤ)
    (within : i < length points) (is : x ≡ get_or points i x) (so_far : Visited visits before (take i points) middle) where
  pub visit_more : visits middle x true after → Visited visits before (take (i + 1) points) after
  visit_more step = subst (λ xs. Visited visits before xs after)
      (sym (take_more points i x within ∙ ap (λ (y : List ℤ). take i points ++ y ∷ []) (sym is))) (one_more (take i points) x middle after so_far step)

  pub stops_at : visits middle x false after → StopsWithin visits before points after
  stops_at step = record {
    front = take i points;
    x = x;
    rest = drop (i + 1) points;
    middle = middle;
    whole = sym (take-append-drop i points) ∙ ap (λ (ys : List (List ℤ)). take i points ++ ys)
        (drop_more points i x within ∙ ap (λ (y : List ℤ). y ∷ drop (i + 1) points) (sym is));
    visited = so_far;
    last = step;
  }

-- what is kept are the points that were taken
pub kept_points : (before after : KeeperState) (xs : List (List ℤ)) → Visited IsKept before xs after → after.points ≡ before.points ++ xs
kept_points before _ _ none = sym (append-nil before.points)
kept_points before after _ (one_more xs x middle _ h step) =
    step ∙ ap (λ (ys : List (List ℤ)). ys ++ x ∷ []) (kept_points before middle xs h) ∙ append_assoc before.points xs (x ∷ [])

-- so a room holds the points of its dilate
pub held : (vertices room_vertices : List (List ℤ)) (dilate : ℕ) (whole : Bool) (before after : KeeperState) (points : List (List ℤ)) → before.points ≡ []
    → VisitsDilate IsKept (dimension_of vertices) vertices dilate before whole after → points ≡ after.points → AreFit (dimension_of vertices) points
    → room_vertices ≡ vertices → HoldsPoints room_vertices dilate whole points
held vertices room_vertices dilate false before after points empty v is fit same = tt
held vertices room_vertices dilate true before after points empty v is fit same =
    let all : v.lattice ≡ points =
    sym (is ∙ kept_points before after v.lattice v.taken ∙ ap (λ (ys : List (List ℤ)). ys ++ v.lattice) empty) in
    subst (λ (vs : List (List ℤ)). ArePointsOf vs dilate points) (sym same)
    (record { are_points = subst (AreDilatePoints (dimension_of vertices) vertices dilate) all v.are_dilate_points; fit = fit })
