-- The hull that grows until no point lies beyond a facet: what it keeps, that it ends, and what it has then.
use Rattle.std.proofs.Common.{◌≡◌, ◌⊎◌, ◌↔◌, inl, inr, ⊎_elim, ℕ, zero, suc, ◌<◌, ◌≤◌, Bool, true, false, not, cond, List, [], ◌∷◌, ◌++◌, length}
use Rattle.std.proofs.Common.{get_or, take, ℤ, pos, ◌≤ℤ◌, ◌<ℤ◌, refl, sym, ap, ◌∙◌, subst, All, Contains, arith}
use Rattle.std.specs.Prelude.{◌-◌, Result, Ok, Err, is_err, OnOk, OnErr}
use Rattle.std.specs.List.{AllWithin}
use Rattle.std.proofs.lemmas.Bool.{cases_lt, true≢false}
use Rattle.std.proofs.lemmas.List.{get_or-take, length-take, get_or_default, length_push, take-append-le, take_all}
use Rattle.std.proofs.lemmas.List.Elements.{All-contains, All-weaker, All-contains_itself, All-push, Contains-append_left, Contains-push}
use Rattle.lattice_theory.specs.Vector.{HaveDimension, vector_eq, others}
use Rattle.lattice_theory.specs.Affine.{Affine, value, IsNonnegative}
use Rattle.lattice_theory.specs.Hull.{InHull}
use Rattle.lattice_theory.specs.Order.{Ascends, FunctionLess}
use Rattle.lattice_theory.specs.Facet.{IsFlat, IsFacet, AreFacets}
use Rattle.lattice_theory.proofs.Integers.{linear}
use Rattle.lattice_theory.proofs.Members.{In, here, there, in_from_contains, contains_from_in}
use Rattle.facet_theory.specs.Solid.{AreSolid}
use Rattle.facet_theory.proofs.Hull.{hull_by_facets_lem}
use Rattle.facet_theory.proofs.Others.{vector_eq_refl, to_others}
use Rattle.ridge_theory.proofs.NewFacets.{facets_of_all_lem}
use Rattle.ridge_theory.proofs.OneMore.{more_are_solid_lem}
use Rattle.lattice_core.specs.Dimensions.{dimension_of}
use Rattle.lattice_core.specs.Limits.{IsSized}
use Rattle.lattice_core.specs.PointLists.{AreSizedPoints, AreSolidPoints}
use Rattle.hull_growth.specs.Beyond.{IsFirstBeyond}
use Rattle.hull_growth.specs.Grown.{GrownHull, HasFacets, IsGrown}
use Rattle.hull.specs.Built.{IsBuilt}
use Rattle.hull_growth.proofs.Small.{no_facet, solid_at, one_more, fewer_sized}
use Rattle.hull_growth.proofs.MorePoints.{dimension_more, more_are_points, more_are_solid}
use Rattle.hull.proofs.BuilderFacts.{has_facets}
use Rattle.hull.specs.steps.Growing.{IsGrowing, IsWholeHull, others_than}

-- where the facets of some points aren't negative at any, they are those of all
pub facets_of_points : (n : ℕ) (corners points : List (List ℤ)) (facets : List Affine) → HaveDimension n corners → (IsFlat n corners → ⊥)
    → ((c : List ℤ) → Contains corners c → Contains points c) → HasFacets n corners facets → All (IsNonnegative points) facets
    → HasFacets n points facets
facets_of_points zero corners points facets d s among h all = record {
  once = h.once;
  members = λ f. (λ c. absurd (no_facet f corners ((h.members f).0 c)), λ facet. absurd (no_facet f points facet));
}
facets_of_points (suc k) corners points facets d s among h all = record {
  once = h.once;
  members = λ f. (λ c. (law f).0 ((h.members f).0 c), λ facet. (h.members f).1 ((law f).1 facet));
}
  where
    law : (f : Affine) → IsFacet (suc k) corners f ↔ IsFacet (suc k) points f
    law = facets_of_all_lem (suc k) corners points (solid_at k corners d s) among
        (λ f facet x c. All-contains (λ q. pos 0 ≤ℤ value f q) points x
        (All-contains (IsNonnegative points) facets f all ((h.members f).1 facet)) c)

-- a facet of the corners and a point isn't negative at the points in the corners' hull
more_nonnegative : (k : ℕ) (corners points : List (List ℤ)) (p : List ℤ) (facets : List Affine) (g : Affine)
    → AreSolid (suc k) corners → HaveDimension (suc k) points → HasFacets (suc k) corners facets → HasFacets (suc k) points facets
    → IsFacet (suc k) (corners ++ (p ∷ [])) g → IsNonnegative (points ++ (p ∷ [])) g
more_nonnegative k corners points p facets g solid d h all facet =
    All-weaker (Contains (points ++ (p ∷ []))) (λ x. pos 0 ≤ℤ value g x) (λ x c. by x ((one_more points p x).0 c)) (points ++ (p ∷ []))
    (All-contains_itself (points ++ (p ∷ [])))
  where
    at : (x : List ℤ) → Contains (corners ++ (p ∷ [])) x → pos 0 ≤ℤ value g x
    at x c = All-contains (λ q. pos 0 ≤ℤ value g q) (corners ++ (p ∷ [])) x facet.nonnegative c

    inside : (x : List ℤ) → Contains points x → InHull (suc k) corners x
    inside x c = (hull_by_facets_lem (suc k) corners solid x (All-contains (λ q. length q ≡ suc k) points x d c)).1
        (λ f old. All-contains (λ q. pos 0 ≤ℤ value f q) points x ((all.members f).0 ((h.members f).1 old)).nonnegative c)

    by : (x : List ℤ) → Contains points x ⊎ (x ≡ p) → pos 0 ≤ℤ value g x
    by x (inl c) = inside x c g facet.dimension (All-weaker (Contains corners) (λ q. pos 0 ≤ℤ value g q)
        (λ q m. at q (Contains-append_left corners (p ∷ []) q m)) corners (All-contains_itself corners))
    by x (inr e) = at x (subst (Contains (corners ++ (p ∷ []))) (sym e) (Contains-push corners p))

-- where corners have the facets of points, both have the same facets with one more point
pub facets_of_more : (n : ℕ) (corners points : List (List ℤ)) (p : List ℤ) (old new : List Affine) → HaveDimension n corners
    → (IsFlat n corners → ⊥) → HaveDimension n points → length p ≡ n → ((c : List ℤ) → Contains corners c → Contains points c)
    → HasFacets n corners old → HasFacets n points old → HasFacets n (corners ++ (p ∷ [])) new → HasFacets n (points ++ (p ∷ [])) new
facets_of_more zero corners points p old new d s e l among h all k = record {
  once = k.once;
  members = λ f. (
    λ c. absurd (no_facet f (corners ++ (p ∷ [])) ((k.members f).0 c)),
    λ facet. absurd (no_facet f (points ++ (p ∷ [])) facet),
  );
}
facets_of_more (suc k) corners points p old new d s e l among h all g =
    facets_of_points (suc k) (corners ++ (p ∷ [])) (points ++ (p ∷ [])) new more.dimension more.solid inside g
    (All-weaker (Contains new) (IsNonnegative (points ++ (p ∷ [])))
    (λ f c. more_nonnegative k corners points p old f (solid_at k corners d s) e h all ((g.members f).0 c)) new (All-contains_itself new))
  where
    more : AreSolid (suc k) (corners ++ (p ∷ []))
    more = more_are_solid_lem (suc k) corners (corners ++ (p ∷ [])) (solid_at k corners d s)
        (All-push (λ q. length q ≡ suc k) corners p d l) (λ x c. Contains-append_left corners (p ∷ []) x c)

    inside : (x : List ℤ) → Contains (corners ++ (p ∷ [])) x → Contains (points ++ (p ∷ [])) x
    inside x c = ⊎_elim (λ (m : Contains corners x). Contains-append_left points (p ∷ []) x (among x m))
        (λ (m : x ≡ p). subst (Contains (points ++ (p ∷ []))) (sym m) (Contains-push points p)) ((one_more corners p x).0 c)

-- in order they are the facets
pub facets_listed : (n : ℕ) (points : List (List ℤ)) (facets sorted : List Affine) → HasFacets n points facets
    → Ascends FunctionLess sorted → ((f : Affine) → Contains sorted f ↔ Contains facets f) → AreFacets n points sorted
facets_listed n points facets sorted h ascends same = record {
  ascends = ascends;
  members = λ f. (λ c. (h.members f).0 ((same f).0 c), λ facet. (same f).1 ((h.members f).1 facet));
}

-- all facets are done
pub growing_done : (points corners : List (List ℤ)) (facets : List Affine) (done : ℕ) → IsGrowing points corners facets done
    → AllWithin (IsNonnegative points) facets done (length facets) → All (IsNonnegative points) facets
growing_done points corners facets done g rest k d l = ⊎_elim
    (λ (b : k < done). g.nonnegative k d (omega arith) b)
    (λ (b : done ≤ k). rest k d b l) (cases_lt k done)

-- without the point there are fewer
others_at_most : (points : List (List ℤ)) (v : List ℤ) → length (others points v) ≤ length points
others_at_most [] v = omega arith
others_at_most (p ∷ points) v = one (vector_eq p v) (others_at_most points v)
  where
    one : (b : Bool) → length (others points v) ≤ length points → length (cond (not b) (p ∷ others points v) (others points v)) ≤ suc (length points)
    one true h = omega arith
    one false h = omega arith

others_fewer : (points : List (List ℤ)) (v : List ℤ) → In v points → length (others points v) < length points
others_fewer [] v i = elim i [ ]
others_fewer (p ∷ points) v here = by (vector_eq v v) (vector_eq_refl v) (others_at_most points v)
  where
    by : (b : Bool) → b ≡ true → length (others points v) ≤ length points
        → length (cond (not b) (v ∷ others points v) (others points v)) < suc (length points)
    by true e h = omega arith
    by false e h = cc
others_fewer (p ∷ points) v (there i) = one (vector_eq p v) (others_fewer points v i)
  where
    one : (b : Bool) → length (others points v) < length points → length (cond (not b) (p ∷ others points v) (others points v)) < suc (length points)
    one true h = omega arith
    one false h = omega arith

-- one corner more
others_push : (corners points : List (List ℤ)) (p : List ℤ) → others_than (corners ++ (p ∷ [])) points ≡ others (others_than corners points) p
others_push [] points p = refl
others_push (c ∷ corners) points p = others_push corners (others points c) p

-- a point that isn't a corner is among them
among_others : (corners points : List (List ℤ)) (p : List ℤ) → In p points → (In p corners → ⊥) → In p (others_than corners points)
among_others [] points p i n = i
among_others (c ∷ corners) points p i n = among_others corners (others points c) p
    (to_others points c p i (λ e. n (subst (λ (q : List ℤ). In p (q ∷ corners)) e here))) (λ j. n (there j))

-- so they get fewer
pub others_less : (corners new points : List (List ℤ)) (p : List ℤ) → Contains points p → (Contains corners p → ⊥)
    → new ≡ corners ++ (p ∷ []) → length (others_than new points) < length (others_than corners points)
others_less corners new points p c n e =
    subst (λ (cs : List (List ℤ)). length (others_than cs points) < length (others_than corners points)) (sym e)
    (subst (λ (ps : List (List ℤ)). length ps < length (others_than corners points)) (sym (others_push corners points p))
    (others_fewer (others_than corners points) p (among_others corners points p (in_from_contains points c) (λ i. n (contains_from_in i)))))

-- the point beyond a facet is no corner
pub beyond_new : (n : ℕ) (corners points : List (List ℤ)) (facets : List Affine) (done facet point : ℕ) (p : List ℤ)
    → HasFacets n corners facets → IsFirstBeyond facets points done facet point → p ≡ get_or points point p → Contains corners p → ⊥
beyond_new n corners points facets done facet point p h b e c =
    let f = get_or facets facet (record { normal = []; constant = pos 0 }) in
    let far = b.farthest (record { normal = []; constant = pos 0 }) in
    let is : Contains facets f = (facet, b.within, get_or_default facets facet f (record { normal = []; constant = pos 0 }) b.within) in
    clash (value f p) (subst (λ (q : List ℤ). value f q <ℤ pos 0) (sym e) (far.beyond p))
    (All-contains (λ q. pos 0 ≤ℤ value f q) corners p ((h.members f).0 is).nonnegative c)
  where
    clash : (a : ℤ) → a <ℤ pos 0 → pos 0 ≤ℤ a → ⊥
    clash a k l = absurd (omega (arith, linear))

-- some facet is negative at it
pub record IsBehind (facets : List Affine) (p : List ℤ) : Type 0 where
  pub function : Affine
  pub member : Contains facets function
  pub negative : value function p <ℤ pos 0

pub beyond_behind : (points : List (List ℤ)) (facets : List Affine) (done facet point : ℕ) (p : List ℤ)
    → IsFirstBeyond facets points done facet point → p ≡ get_or points point p → IsBehind facets p
beyond_behind points facets done facet point p b e = record {
  function = get_or facets facet zero_function;
  member = (facet, b.within, get_or_default facets facet (get_or facets facet zero_function) zero_function b.within);
  negative = subst (λ (q : List ℤ). value (get_or facets facet zero_function) q <ℤ pos 0) (sym e) ((b.farthest zero_function).beyond p);
}
  where
    zero_function : Affine
    zero_function = record { normal = []; constant = pos 0 }

-- the facets before that one aren't negative at any point
pub before_beyond : (points corners : List (List ℤ)) (facets : List Affine) (done facet point : ℕ) → IsGrowing points corners facets done
    → IsFirstBeyond facets points done facet point → AllWithin (IsNonnegative points) facets 0 facet
before_beyond points corners facets done facet point g b k d low l = ⊎_elim
    (λ (m : k < done). g.nonnegative k d low m)
    (λ (m : done ≤ k). b.before k d m l) (cases_lt k done)

-- so the hull has grown
pub growing_more : (points corners new : List (List ℤ)) (facets grown : List Affine) (done facet point : ℕ) (p : List ℤ)
    → IsGrowing points corners facets done → IsFirstBeyond facets points done facet point → Contains points p → 0 < length corners
    → new ≡ corners ++ (p ∷ [])
    → ((k : ℕ) → All (λ f. pos 0 ≤ℤ value f p) (take k facets) → take k grown ≡ take k facets)
    → IsGrowing points new grown facet
growing_more points corners new facets grown done facet point p g b c some e places = record {
  dimension = ap dimension_of e ∙ dimension_more corners p some ∙ g.dimension;
  among = λ x m. ⊎_elim (λ (i : Contains corners x). g.among x i) (λ (i : x ≡ p). subst (Contains points) (sym i) c)
      ((one_more corners p x).0 (subst (λ (cs : List (List ℤ)). Contains cs x) e m));
  nonnegative = nonnegative;
}
  where
    before : AllWithin (IsNonnegative points) facets 0 facet
    before = before_beyond points corners facets done facet point g b

    kept : All (λ f. pos 0 ≤ℤ value f p) (take facet facets)
    kept k d l =
        let short = length-take facet facets in
        let within : k < facet = omega arith in
        subst (λ (f : Affine). pos 0 ≤ℤ value f p) (sym (get_or-take facet facets k d within))
        (All-contains (λ q. pos 0 ≤ℤ value (get_or facets k d) q) points p (before k d (omega arith) within) c)

    nonnegative : AllWithin (IsNonnegative points) grown 0 facet
    nonnegative k d low l = subst (IsNonnegative points)
        (sym (get_or-take facet facets k d l) ∙ ap (λ (fs : List Affine). get_or fs k d) (sym (places facet kept))
        ∙ get_or-take facet grown k d l) (before k d low l)

-- the point beyond a facet is one of the points
pub beyond_within : (points : List (List ℤ)) (facets : List Affine) (done facet point : ℕ) → IsFirstBeyond facets points done facet point
    → point < length points
beyond_within points facets done facet point b = (b.farthest (record { normal = []; constant = pos 0 })).within

-- the facets have the points' dimension
pub facets_match : (n : ℕ) (points corners : List (List ℤ)) (facets : List Affine) → HaveDimension n points → HasFacets n corners facets
    → All (λ f. HaveDimension (length f.normal) points) facets
facets_match n points corners facets d h = All-weaker (Contains facets) (λ f. HaveDimension (length f.normal) points)
    (λ f c. subst (λ (m : ℕ). HaveDimension m points) (sym ((h.members f).0 c).dimension) d) facets (All-contains_itself facets)

-- all of one dimension
pub facets_dimension_of : (n : ℕ) (corners : List (List ℤ)) (facets : List Affine) → HasFacets n corners facets
    → All (λ f. length f.normal ≡ n) facets
facets_dimension_of n corners facets h = All-weaker (Contains facets) (λ f. length f.normal ≡ n)
    (λ f c. ((h.members f).0 c).dimension) facets (All-contains_itself facets)

-- the corners and one more of the points are within the size limit
pub turn_within : (points corners : List (List ℤ)) (facets : List Affine) (done : ℕ) (p : List ℤ) → AreSizedPoints points
    → IsGrowing points corners facets done → Contains points p → length p ≡ dimension_of points → IsSized (length p) (corners ++ (p ∷ []))
turn_within points corners facets done p s g c l = fewer_sized (length p) (corners ++ (p ∷ [])) points
    (λ x m. ⊎_elim (λ (i : Contains corners x). g.among x i) (λ (i : x ≡ p). subst (Contains points) (sym i) c) ((one_more corners p x).0 m))
    (subst (λ (n : ℕ). IsSized n points) (sym l) s.within)

-- where all are done, they are the facets of the points
pub growing_facets : (points corners : List (List ℤ)) (facets : List Affine) (done : ℕ) → AreSolidPoints corners
    → IsGrowing points corners facets done → HasFacets (dimension_of corners) corners facets
    → AllWithin (IsNonnegative points) facets done (length facets) → HasFacets (dimension_of points) points facets
growing_facets points corners facets done s g h rest =
    facets_of_points (dimension_of points) corners points facets
    (subst (λ (n : ℕ). HaveDimension n corners) g.dimension s.sized.are_points.one_dimension)
    (subst (λ (n : ℕ). IsFlat n corners → ⊥) g.dimension s.solid) g.among
    (subst (λ (n : ℕ). HasFacets n corners facets) g.dimension h) (growing_done points corners facets done g rest)

-- so, in order, they are those of the corners and of the points
pub growing_whole : (points corners : List (List ℤ)) (facets sorted : List Affine) (done : ℕ) → AreSolidPoints corners
    → IsGrowing points corners facets done → HasFacets (dimension_of corners) corners facets
    → AllWithin (IsNonnegative points) facets done (length facets) → Ascends FunctionLess sorted
    → ((f : Affine) → Contains sorted f ↔ Contains facets f) → IsWholeHull points corners sorted
growing_whole points corners facets sorted done s g h rest ascends same = record {
  dimension = g.dimension;
  among = g.among;
  solid = s;
  own = (facets_listed (dimension_of corners) corners facets sorted h ascends same).members;
  whole = facets_listed (dimension_of points) points facets sorted (growing_facets points corners facets done s g h rest) ascends same;
}

-- and of the points with one more, where the corners with it have these facets
pub built_more : (points : List (List ℤ)) (growth : GrownHull) (p : List ℤ) (new : List Affine) → IsBuilt points growth
    → length p ≡ dimension_of points → HasFacets (dimension_of points) (growth.corners ++ (p ∷ [])) new
    → HasFacets (dimension_of points) (points ++ (p ∷ [])) new
built_more points growth p new b l h =
    facets_of_more (dimension_of points) growth.corners points p growth.facets new
    (subst (λ (n : ℕ). HaveDimension n growth.corners) b.dimension b.corners.solid.sized.are_points.one_dimension)
    (subst (λ (n : ℕ). IsFlat n growth.corners → ⊥) b.dimension b.corners.solid.solid) b.solid.sized.are_points.one_dimension l b.among
    (subst (λ (n : ℕ). HasFacets n growth.corners growth.facets) b.dimension b.corners.hull) b.hull h

-- what a builder keeps when a point comes
pub built_grown : (points whole : List (List ℤ)) (growth new : GrownHull) (p : List ℤ) → whole ≡ points ++ (p ∷ []) → IsBuilt points growth
    → length p ≡ dimension_of points → AreSizedPoints whole → HasFacets (dimension_of whole) (growth.corners ++ (p ∷ [])) new.facets
    → (new ≡ growth) ⊎ (new.corners ≡ growth.corners ++ (p ∷ [])) → IsBuilt whole new
built_grown points whole growth new p same b l sized facets either = record {
  solid = more_are_solid points whole p same b.solid sized;
  hull = subst (λ (ps : List (List ℤ)). HasFacets (dimension_of ps) ps new.facets) (sym same)
      (subst (λ (n : ℕ). HasFacets n (points ++ (p ∷ [])) new.facets) (sym n) (built_more points growth p new.facets b l at_points));
  corners = ⊎_elim (λ (e : new ≡ growth). subst (λ (g : GrownHull). IsGrown g.corners g.facets) (sym e) b.corners)
      (λ (e : new.corners ≡ growth.corners ++ (p ∷ [])). subst (λ (cs : List (List ℤ)). IsGrown cs new.facets) (sym e) grown) either;
  dimension = ⊎_elim (λ (e : new ≡ growth). ap (λ (g : GrownHull). dimension_of g.corners) e ∙ b.dimension ∙ sym n ∙ ap dimension_of (sym same))
      (λ (e : new.corners ≡ growth.corners ++ (p ∷ [])). ap dimension_of e ∙ k ∙ b.dimension ∙ sym n ∙ ap dimension_of (sym same)) either;
  among = λ c m. subst (λ (ps : List (List ℤ)). Contains ps c) (sym same)
      (⊎_elim (λ (e : new ≡ growth). Contains-append_left points (p ∷ []) c
      (b.among c (subst (λ (g : GrownHull). Contains g.corners c) e m)))
      (λ (e : new.corners ≡ growth.corners ++ (p ∷ [])). within c (subst (λ (cs : List (List ℤ)). Contains cs c) e m)) either);
}
  where
    n : dimension_of (points ++ (p ∷ [])) ≡ dimension_of points
    n = dimension_more points p b.solid.sized.are_points.some

    k : dimension_of (growth.corners ++ (p ∷ [])) ≡ dimension_of growth.corners
    k = dimension_more growth.corners p b.corners.solid.sized.are_points.some

    at_points : HasFacets (dimension_of points) (growth.corners ++ (p ∷ [])) new.facets
    at_points = subst (λ (m : ℕ). HasFacets m (growth.corners ++ (p ∷ [])) new.facets) (ap dimension_of same ∙ n) facets

    within : (c : List ℤ) → Contains (growth.corners ++ (p ∷ [])) c → Contains (points ++ (p ∷ [])) c
    within c m = ⊎_elim (λ (i : Contains growth.corners c). Contains-append_left points (p ∷ []) c (b.among c i))
        (λ (i : c ≡ p). subst (Contains (points ++ (p ∷ []))) (sym i) (Contains-push points p)) ((one_more growth.corners p c).0 m)

    grown : IsGrown (growth.corners ++ (p ∷ [])) new.facets
    grown = record {
      solid = more_are_solid growth.corners (growth.corners ++ (p ∷ [])) p refl b.corners.solid (record {
        are_points = more_are_points growth.corners (growth.corners ++ (p ∷ [])) p refl (l ∙ sym b.dimension)
            b.corners.solid.sized.are_points;
        within = subst (λ (m : ℕ). IsSized m (growth.corners ++ (p ∷ []))) (ap dimension_of same ∙ n ∙ sym b.dimension ∙ sym k)
            (fewer_sized (dimension_of whole) (growth.corners ++ (p ∷ [])) whole
            (λ c m. subst (λ (ps : List (List ℤ)). Contains ps c) (sym same) (within c m)) sized.within);
      });
      hull = subst (λ (m : ℕ). HasFacets m (growth.corners ++ (p ∷ [])) new.facets) (sym b.dimension ∙ sym k) at_points;
    }

-- what it keeps at first
pub built_first : (points copies corners : List (List ℤ)) (facets : List Affine) (growth : GrownHull) → copies ≡ points → corners ≡ points
    → growth.corners ≡ corners → growth.facets ≡ facets → AreSolidPoints points → AreFacets (dimension_of points) points facets
    → IsBuilt copies growth
built_first points copies corners facets growth e d c f s h =
    subst (λ (ps : List (List ℤ)). IsBuilt ps growth) (sym e) (record {
      solid = s;
      hull = hull;
      corners = record {
        solid = subst AreSolidPoints (sym (c ∙ d)) s;
        hull = subst (λ (cs : List (List ℤ)). HasFacets (dimension_of cs) cs growth.facets) (sym (c ∙ d)) hull;
      };
      dimension = ap dimension_of (c ∙ d);
      among = λ q m. subst (λ (cs : List (List ℤ)). Contains cs q) (c ∙ d) m;
    })
  where
    hull : HasFacets (dimension_of points) points growth.facets
    hull = subst (HasFacets (dimension_of points) points) (sym f) (has_facets (dimension_of points) points facets h)

-- the answers of a call, by its case
pub of_ok : {A B : Type 0} (r : Result A B) (P : Type 0) → is_err r ≡ false → OnOk r P → P
of_ok (Ok x) P e h = h
of_ok (Err x) P e h = absurd (true≢false e)

pub of_err : {A B : Type 0} (r : Result A B) (P : Type 0) → is_err r ≡ true → OnErr r P → P
of_err (Ok x) P e h = absurd (true≢false (sym e))
of_err (Err x) P e h = h

pub on_ok : {A B : Type 0} (r : Result A B) (P Q : Type 0) → (P → Q) → OnOk r P → OnOk r Q
on_ok (Ok x) P Q f h = f h
on_ok (Err x) P Q f h = h

-- the last point leaves
pub popped : (points whole left : List (List ℤ)) (p : List ℤ) (k : ℕ) → whole ≡ points ++ (p ∷ []) → k ≡ length whole
    → left ≡ take (k - 1) whole → left ≡ points
popped points whole left p k e l t =
    let long = length_push points p in
    let n : k - 1 ≡ length points = (let m = ap length e in omega arith) in
    t ∙ ap (take (k - 1)) e ∙ ap (λ (i : ℕ). take i (points ++ (p ∷ []))) n ∙ take-append-le (length points) points (p ∷ []) (omega arith)
    ∙ take_all (length points) points (omega arith)
