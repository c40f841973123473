-- What can be printed of points that aren't refused.
use Rattle.std.specs.Prelude.{ℤ, pos, ◌≤ℤ◌, Bool}
use Rattle.std.specs.List.{All, Contains}
use Rattle.std.proofs.Common.{◌≡◌, ℕ, ◌<◌, ◌≤◌, List, [], ◌∷◌, length, sym, subst, ◌∙◌, arith}
use Rattle.std.proofs.lemmas.List.Elements.{All-contains, All-weaker, All-contains_itself}
use Rattle.lattice_theory.specs.Affine.{Affine, value}
use Rattle.lattice_theory.specs.Size.{size, absolute_sum}
use Rattle.lattice_theory.specs.Points.{IsLatticePoint, AreLatticePoints}
use Rattle.facet_theory.specs.Solid.{AreSolid}
use Rattle.facet_theory.proofs.Hull.{some_positive_constant_lem}
use Rattle.normal_bounds.proofs.Sizes.{point_absolute_sum_lem}
use Rattle.lattice_core.specs.Dimensions.{dimension_of}
use Rattle.lattice_core.specs.PointLists.{ArePoints}
use Rattle.lattice_core.proofs.Dimension.{own_dimension}
use Rattle.lattice_core.proofs.ValueSizes.{wide_serves}
use Rattle.hull.proofs.FacetBounds.{facets_bounded_lem}
use Rattle.palp_print.specs.Blocks.{function_dimension, AreFunctions, AreInReach, ArePaired}
use Rattle.item_points.specs.Points.{AreItemPoints}
use Rattle.dual_pair.specs.Polytopes.{PolytopeState, IsPolytopeOf}
use Rattle.dual_pair.proofs.VertexLists.{solid_of}
use Rattle.palp_engine.specs.RunSteps.{ArePassed, IsLattice, IsKept}
use Rattle.palp_engine.specs.declared.polytopes.Lattice.{Lattice}
use Rattle.palp_engine.specs.declared.polytopes.Polytope.{Polytope}
use Rattle.palp_engine.proofs.CountedPoints.{scanned_vertices}
use Rattle.palp_engine.proofs.SingleAnswers.{first_point}

some_member : {X : Type 0} (x : X) (xs : List X) → Contains xs x → 0 < length xs
some_member x [] c = absurd (omega (arith, c.1))
some_member x (y ∷ xs) c = omega arith

own_functions : (n : ℕ) (fs : List Affine) → All (λ (f : Affine). length f.normal ≡ n) fs
    → All (λ (f : Affine). length f.normal ≡ function_dimension fs) fs
own_functions n [] d = λ k x h. absurd (omega arith)
own_functions n (f ∷ fs) d =
    subst (λ (m : ℕ). All (λ (g : Affine). length g.normal ≡ m) (f ∷ fs)) (sym (d 0 f (omega arith))) d

module _ (n : ℕ) (points : List (List ℤ)) (facets : List Affine) (vertices : List (List ℤ)) (p : ArePassed n points facets vertices)
    (least : 1 ≤ n) (most : n ≤ 6) where
  in_reach : (f : Affine) (v : List ℤ) → Contains facets f → Contains vertices v → AreInReach f v
  in_reach f v c d =
      let facet = (p.are_facets.members f).0 c in
      let vertex = (p.are_vertices.members v).0 d in
      let within = facets_bounded_lem n points p.solid f facet in
      let sum = All-contains (λ q. absolute_sum q ≤ size n points) points v (point_absolute_sum_lem n points p.solid.dimension) vertex.member in
      let wide = wide_serves n (size n points) least most p.sized f v within sum in
      let same = All-contains (λ q. length q ≡ n) points v p.solid.dimension vertex.member in
      record { one_dimension = facet.dimension ∙ sym same; constant = wide.constant; sum = wide.point }

  functions : AreFunctions facets
  functions =
      let facet = some_positive_constant_lem n points p.solid in
      record {
        some = some_member facet.0 facets ((p.are_facets.members facet.0).1 facet.1);
        one_dimension = own_functions n facets (All-weaker (Contains facets) (λ f. length f.normal ≡ n)
            (λ f c. ((p.are_facets.members f).0 c).dimension) facets (All-contains_itself facets));
      }

  pub paired : ArePaired facets vertices
  paired = record {
    are_functions = functions;
    are_points = (scanned_vertices n points facets vertices p).sized.are_points;
    reach = All-weaker (Contains facets) (λ f. All (AreInReach f) vertices)
        (λ f c. All-weaker (Contains vertices) (AreInReach f) (λ v d. in_reach f v c d) vertices (All-contains_itself vertices))
        facets (All-contains_itself facets);
  }

-- the lattice points are of one dimension, and there is one
pub lattice_are_points : (n : ℕ) (points lattice : List (List ℤ)) → AreSolid n points → 0 < length points
    → AreLatticePoints n points lattice → ArePoints lattice
lattice_are_points n points lattice solid some l =
    let point = first_point points some in
    let inside : IsLatticePoint n points point.0 = record {
      dimension = All-contains (λ q. length q ≡ n) points point.0 solid.dimension point.1;
      inside = λ f d h. All-contains (λ q. pos 0 ≤ℤ value f q) points point.0 h point.1;
    } in
    record {
      some = some_member point.0 lattice ((l.members point.0).1 inside);
      one_dimension = own_dimension n lattice (All-weaker (Contains lattice) (λ x. length x ≡ n)
          (λ x c. ((l.members x).0 c).dimension) lattice (All-contains_itself lattice));
    }

module _ (points : List (List ℤ)) (p : PolytopeState) (h : IsPolytopeOf points p) where
  -- the lists of a polytope, as steps on its points find them
  polytope_passed : ArePassed (dimension_of points) points p.facets p.vertices
  polytope_passed = record {
    solid = solid_of points h.least h.solid;
    sized = h.solid.sized.within;
    are_facets = h.facets_are;
    few_facets = h.few_facets;
    are_vertices = h.vertices_are;
    few_vertices = h.few_vertices;
  }

  pub polytope_paired : ArePaired p.facets p.vertices
  polytope_paired = paired (dimension_of points) points p.facets p.vertices polytope_passed h.least h.most

  pub polytope_points : ArePoints p.points
  polytope_points = lattice_are_points (dimension_of points) points p.points (solid_of points h.least h.solid)
      h.solid.sized.are_points.some h.points_are

-- what is kept of points that aren't refused
module _ (points : List (List ℤ)) (facets : List Affine) (vertices : List (List ℤ)) (p : ArePassed (dimension_of points) points facets vertices)
    (h : AreItemPoints points) (listed : Bool) (lattice : Lattice) (l : IsLattice (dimension_of points) points listed lattice) where
  abbrev lists : PolytopeState
  lists = record { vertices = vertices; facets = facets; points = l.list }

  are_lists : IsPolytopeOf points lists
  are_lists = record {
    least = h.least;
    most = h.most;
    solid = record { sized = h.sized; solid = p.solid.solid };
    vertices_are = p.are_vertices;
    facets_are = p.are_facets;
    points_are = l.are_lattice_points;
    few_vertices = p.few_vertices;
    few_facets = p.few_facets;
    few_points = l.few;
  }

  pub kept_polytope : (kept : Polytope) → kept.count ≡ lattice.count → kept.lattice.items ≡ lattice.points.items
      → kept.vertices.items ≡ vertices → kept.facets.items ≡ facets → IsKept points listed kept
  kept_polytope kept cs ls vs fs =
      let pairs = polytope_paired points lists are_lists in
      record {
        polytope = lists;
        is_polytope = are_lists;
        count_is = cs ∙ l.count_is;
        lattice_is = λ t. ls ∙ l.listed_is t;
        vertices_are = vs;
        facets_are = fs;
        printed = record {
          lattice = λ t. subst ArePoints (sym (ls ∙ l.listed_is t)) (polytope_points points lists are_lists);
          vertices = subst ArePoints (sym vs) pairs.are_points;
          facets = subst AreFunctions (sym fs) pairs.are_functions;
          paired = subst (λ (xs : List (List ℤ)). ArePaired kept.facets.items xs) (sym vs)
              (subst (λ (xs : List Affine). ArePaired xs vertices) (sym fs) pairs);
        };
      }
