-- The dual of a reflexive polytope: its lists are those of a polytope, and the dual's dual is the polytope.
use Rattle.std.proofs.Common.{◌≡◌, ◌↔◌, ℕ, suc, ◌<◌, ◌≤◌, List, [], ◌∷◌, length, ℤ, refl, sym, ap, ◌∙◌, subst, arith}
use Rattle.lattice_theory.specs.Vector.{HaveDimension}
use Rattle.lattice_theory.specs.Affine.{Affine}
use Rattle.lattice_theory.specs.Order.{LexLess}
use Rattle.lattice_theory.specs.Facet.{AreFacetsInAnyOrder}
use Rattle.lattice_theory.specs.Points.{IsLatticePoint, AreLatticePoints}
use Rattle.lattice_theory.proofs.Members.{In}
use Rattle.facet_theory.proofs.Lifted.{some_point}
use Rattle.duality_theory.specs.Reflexive.{IsDualPoint, normals_of}
use Rattle.duality_theory.specs.Lists.{ReflexiveLists, AreDualPoints, with_ones}
use Rattle.duality_theory.proofs.DualLists.{lists_of_dual_lem, point_list_of_dual_lem, dual_of_dual_lem}
use Rattle.lattice_core.specs.Dimensions.{dimension_of}
use Rattle.lattice_core.specs.Limits.{IsSized}
use Rattle.lattice_core.specs.PointLists.{AreSolidPoints}
use Rattle.lattice_core.specs.Stops.{Stops}
use Rattle.lattice_core.specs.declared.faults.Fault.{Fault}
use Rattle.lattice_core.specs.declared.faults.Fault.TheVariants as faults
use Rattle.lattice_core.specs.declared.faults.Refusal.TheVariants.{Flat, Limit}
use Rattle.lattice_core.specs.declared.faults.LimitName.{LimitName}
use Rattle.lattice_core.specs.declared.faults.LimitName.TheVariants as limits
use Rattle.lattice_core.proofs.Dimension.{dimension_is}
use Rattle.point_scan.specs.Faults.{HasMorePoints}
use Rattle.dual_pair.specs.Polytopes.{PolytopeState, IsPolytope}
use Rattle.dual_pair.specs.Pairs.{IsReflexivePolytope, IsDualOf, PairState, IsPair, exchanged, HasNoDual}
use Rattle.dual_pair.specs.PairSteps.{IsDualScanRefusal}
use Rattle.dual_pair.proofs.VertexLists.{same_list, solid_of}

-- as many normals as functions, and as many functions as points
pub length-normals : (fs : List Affine) → length (normals_of fs) ≡ length fs
length-normals [] = refl
length-normals (f ∷ fs) = ap suc (length-normals fs)

pub length-with_ones : (ps : List (List ℤ)) → length (with_ones ps) ≡ length ps
length-with_ones [] = refl
length-with_ones (p ∷ ps) = ap suc (length-with_ones ps)

-- a list with a member isn't empty
filled : {x : List ℤ} (xs : List (List ℤ)) → In x xs → 0 < length xs
filled [] i = elim i [ ]
filled (x ∷ xs) i = omega arith

module _ (p : PolytopeState) (is : IsPolytope p) (reflexive : IsReflexivePolytope p) where
  abbrev n : ℕ
  n = dimension_of p.vertices

  abbrev normals : List (List ℤ)
  normals = normals_of p.facets

  pub lists : ReflexiveLists n p.vertices p.vertices p.facets
  lists = record {
    solid = solid_of p.vertices is.least is.solid;
    reflexive = reflexive;
    vertices_are = is.vertices_are;
    facets_are = is.facets_are;
  }

  dual : ReflexiveLists n normals normals (with_ones p.vertices)
  dual = lists_of_dual_lem n p.vertices p.vertices p.facets lists

  some : 0 < length normals
  some = let q = some_point n normals dual.solid in filled normals q.1

  -- the normals have the vertices' dimension
  pub dual_dimension : dimension_of normals ≡ n
  dual_dimension = dimension_is n normals some dual.solid.dimension

  pub normals_have_dimension : HaveDimension n normals
  normals_have_dimension = dual.solid.dimension

  -- and are what a scan asks for, with the functions of the vertices
  pub solid_normals : IsSized n normals → AreSolidPoints normals
  solid_normals small = record {
    sized = record {
      are_points = record { some = some; one_dimension = rw dual_dimension dual.solid.dimension };
      within = rw dual_dimension small;
    };
    solid = rw dual_dimension dual.solid.solid;
  }

  pub dual_facets : AreFacetsInAnyOrder (dimension_of normals) normals (with_ones p.vertices)
  dual_facets = rw dual_dimension dual.facets_are.members

  -- their lattice points are the dual's points
  pub dual_points : (points : List (List ℤ)) → AreLatticePoints (dimension_of normals) normals points → AreDualPoints n p.vertices points
  dual_points points are = (point_list_of_dual_lem n p.vertices p.vertices p.facets points lists).0
      (subst (λ (m : ℕ). AreLatticePoints m normals points) dual_dimension are)

  -- the dual
  pub made : IsSized n normals → (points : List (List ℤ)) → AreLatticePoints (dimension_of normals) normals points → length points ≤ 16384
      → IsDualOf p (record { vertices = normals; facets = with_ones p.vertices; points = points })
  made small points are few = record {
    polytope = record {
      least = subst (λ (k : ℕ). 1 ≤ k) (sym dual_dimension) is.least;
      most = subst (λ (k : ℕ). k ≤ 6) (sym dual_dimension) is.most;
      solid = solid_normals small;
      vertices_are = rw dual_dimension dual.vertices_are;
      facets_are = rw dual_dimension dual.facets_are;
      points_are = are;
      few_vertices = subst (λ (k : ℕ). k ≤ 128) (sym (length-normals p.facets)) is.few_facets;
      few_facets = subst (λ (k : ℕ). k ≤ 128) (sym (length-with_ones p.vertices)) is.few_vertices;
      few_points = few;
    };
    vertices_are = refl;
    facets_are = refl;
    points_are = dual_points points are;
  }

  -- too many points
  pub too_many : IsSized n normals → HasMorePoints (dimension_of normals) normals 16384 → HasNoDual p (Limit limits.DualPoints 16385)
  too_many small h = (
    reflexive,
    (record { sized = small; points = h.lattice; are_points = dual_points h.lattice h.are_lattice_points; many = h.more }, refl),
  )

  -- the size of the normals
  pub sized : (dim : ℕ) (at : List (List ℤ)) → dim ≡ n → at ≡ normals → IsSized dim at → IsSized n normals
  sized dim at e e' small = subst (λ (d : ℕ). IsSized d normals) e (subst (IsSized dim) e' small)

  -- their dimension
  pub have_dimension : (dim : ℕ) (at : List (List ℤ)) → dim ≡ n → at ≡ normals → HaveDimension dim at
  have_dimension dim at e e' = rw (e, e') normals_have_dimension

-- what the call that makes the dual has found: normals and functions that are those of the dual
module _ (p : PolytopeState) (is : IsPolytope p) (reflexive : IsReflexivePolytope p) (fs : List Affine) (ps vs : List (List ℤ))
    (gs : List Affine) (same_facets : fs ≡ p.facets) (same_vertices : ps ≡ p.vertices) (normals_are : vs ≡ normals_of fs)
    (ones_are : gs ≡ with_ones ps) where
  are_normals : vs ≡ normals_of p.facets
  are_normals = normals_are ∙ ap normals_of same_facets

  are_ones : gs ≡ with_ones p.vertices
  are_ones = ones_are ∙ ap with_ones same_vertices

  pub found_vertices : (dim : ℕ) (at : List (List ℤ)) → dim ≡ dimension_of p.vertices → at ≡ vs → IsSized dim at → AreSolidPoints at
  found_vertices dim at e e' small = rw (e' ∙ are_normals) (solid_normals p is reflexive (sized p is reflexive dim at e (e' ∙ are_normals) small))

  pub found_facets : (at : List (List ℤ)) (functions : List Affine) → at ≡ vs → functions ≡ gs
      → AreFacetsInAnyOrder (dimension_of at) at functions
  found_facets at functions e e' = rw (e ∙ are_normals, e' ∙ are_ones) (dual_facets p is reflexive)

  pub found : (dim : ℕ) (at points : List (List ℤ)) → dim ≡ dimension_of p.vertices → at ≡ vs → IsSized dim at
      → AreLatticePoints (dimension_of at) at points → length points ≤ 16384
      → IsDualOf p (record { vertices = vs; facets = gs; points = points })
  found dim at points e e' small are few =
      subst (λ (xs : List (List ℤ)). IsDualOf p (record { vertices = xs; facets = gs; points = points })) (sym are_normals)
      (subst (λ (hs : List Affine). IsDualOf p (record { vertices = normals_of p.facets; facets = hs; points = points })) (sym are_ones)
      (made p is reflexive (sized p is reflexive dim at e (e' ∙ are_normals) small) points
      (subst (λ (xs : List (List ℤ)). AreLatticePoints (dimension_of xs) xs points) (e' ∙ are_normals) are) few))

  pub found_dimension : (dim : ℕ) → dim ≡ dimension_of p.vertices → dim ≡ dimension_of vs
  found_dimension dim e = e ∙ sym (dual_dimension p is reflexive) ∙ ap dimension_of (sym are_normals)

  -- what stops the scan
  pub found_stop : (dim : ℕ) (at : List (List ℤ)) → dim ≡ dimension_of p.vertices → at ≡ vs → IsSized dim at → (fault : Fault)
      → Stops (IsDualScanRefusal (dimension_of at) at) fault → Stops (HasNoDual p) fault
  found_stop dim at e e' small faults.NoMemory h = h
  found_stop dim at e e' small (faults.Refused (Flat f)) h = absurd h
  found_stop dim at e e' small (faults.Refused (Limit name told)) h =
      subst (λ (l : LimitName). HasNoDual p (Limit l told)) (sym h.0)
      (subst (λ (t : ℕ). HasNoDual p (Limit limits.DualPoints t)) (sym h.1)
      (too_many p is reflexive (sized p is reflexive dim at e (e' ∙ are_normals) small)
      (subst (λ (xs : List (List ℤ)). HasMorePoints (dimension_of xs) xs 16384) (e' ∙ are_normals) h.2)))

-- the dual's dual
pub exchanged_pair : (pair : PairState) → IsPair pair → IsPair (exchanged pair)
exchanged_pair pair is = record {
  polytope = is.dual.polytope;
  reflexive = rw (is.dual.vertices_are, dual_dimension pair.m is.polytope is.reflexive) own.reflexive;
  dual = record {
    polytope = is.polytope;
    vertices_are = sym back.0 ∙ ap normals_of (sym is.dual.facets_are);
    facets_are = sym back.1 ∙ ap with_ones (sym is.dual.vertices_are);
    points_are = rw (is.dual.vertices_are, dual_dimension pair.m is.polytope is.reflexive)
        (same_list LexLess (IsLatticePoint (dimension_of pair.m.vertices) pair.m.vertices)
        (IsDualPoint (dimension_of pair.m.vertices) (normals_of pair.m.facets)) pair.m.points
        (λ x. ((back.2 x).1, (back.2 x).0)) is.polytope.points_are);
  };
}
  where
    own : ReflexiveLists (dimension_of pair.m.vertices) (normals_of pair.m.facets) (normals_of pair.m.facets) (with_ones pair.m.vertices)
    own = lists_of_dual_lem (dimension_of pair.m.vertices) pair.m.vertices pair.m.vertices pair.m.facets (lists pair.m is.polytope is.reflexive)

    back : (normals_of (with_ones pair.m.vertices) ≡ pair.m.vertices) × (with_ones (normals_of pair.m.facets) ≡ pair.m.facets)
        × ((x : List ℤ) → IsDualPoint (dimension_of pair.m.vertices) (normals_of pair.m.facets) x
        ↔ IsLatticePoint (dimension_of pair.m.vertices) pair.m.vertices x)
    back = dual_of_dual_lem (dimension_of pair.m.vertices) pair.m.vertices pair.m.vertices pair.m.facets (lists pair.m is.polytope is.reflexive)
