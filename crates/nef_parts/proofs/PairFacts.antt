-- What a pair says of its lists.
use Rattle.std.specs.Prelude.{ℤ}
use Rattle.std.proofs.Common.{◌≡◌, ℕ, ◌≤◌, ◌^◌, List, length, get_or, sym, ◌∙◌, subst, arith}
use Rattle.std.proofs.lemmas.List.Elements.{All-weaker, Contains-get_or}
use Rattle.lattice_theory.specs.Vector.{HaveDimension}
use Rattle.lattice_theory.specs.Size.{absolute_sum}
use Rattle.lattice_core.specs.Dimensions.{dimension_of}
use Rattle.point_scan.proofs.BoundSteps.{vertices_small}
use Rattle.dual_pair.specs.Pairs.{PairState, IsPair}
use Rattle.dual_pair.proofs.DualSides.{lists, normals_have_dimension}
use Rattle.nef_theory.specs.Reflexive.{AreAtLeastMinusOne}
use Rattle.nef_theory.proofs.ReflexivePoints.{points_by_normals_lem}
use Rattle.nef_parts.specs.steps.Rows.{IsPairable}
use Rattle.nef_parts.specs.declared.masks.Table.{Table}
use Rattle.nef_parts.specs.steps.Tables.{AreMasks, AreTableLists, IsTable}

small_enough : (k : ℕ) → k ≤ 2 ^ 33 → k ≤ 2 ^ 60
small_enough k h = omega (arith, h)

module _ (pair : PairState) (is : IsPair pair) where
  abbrev n : ℕ
  n = dimension_of pair.m.vertices

  pub least : AreAtLeastMinusOne n pair.n.vertices pair.m.points
  least = points_by_normals_lem n pair.m.vertices pair.n.vertices pair.m.points (lists pair.m is.polytope is.reflexive).solid is.reflexive
      (record { facets = pair.m.facets; are_facets = is.polytope.facets_are.members; same = is.dual.vertices_are })
      is.polytope.points_are

  normals_dimension : HaveDimension n pair.n.vertices
  normals_dimension = subst (HaveDimension n) (sym is.dual.vertices_are) (normals_have_dimension pair.m is.polytope is.reflexive)

  pairable : (x : List ℤ) → length x ≡ n → IsPairable pair.n.vertices x
  pairable x e = record {
    dimension = All-weaker (λ v. length v ≡ n) (λ v. length v ≡ length x) (λ v h. h ∙ sym e) pair.n.vertices normals_dimension;
    small = All-weaker (λ v. absolute_sum v ≤ 2 ^ 33) (λ v. absolute_sum v ≤ 2 ^ 60) (λ v h. small_enough (absolute_sum v) h) pair.n.vertices
        (vertices_small pair.n.vertices is.dual.polytope.solid);
    few = is.dual.polytope.few_vertices;
  }

  pair_lists : AreTableLists pair.m.vertices pair.n.vertices pair.m.points
  pair_lists = record {
    least = least;
    few_normals = is.dual.polytope.few_vertices;
    few_points = is.polytope.few_points;
    of_vertices = All-weaker (λ v. length v ≡ n) (IsPairable pair.n.vertices) (λ v h. pairable v h) pair.m.vertices
        is.polytope.solid.sized.are_points.one_dimension;
    of_points = λ k d h. pairable (get_or pair.m.points k d) ((least (get_or pair.m.points k d)).0 (Contains-get_or pair.m.points k d h)).0;
  }

-- of lists that are those of a pair
pub lists_are : (pair : PairState) → IsPair pair → (vertices normals points : List (List ℤ)) → vertices ≡ pair.m.vertices
    → normals ≡ pair.n.vertices → points ≡ pair.m.points → AreTableLists vertices normals points
lists_are pair is vertices normals points e f g = rw (e, f, g) (pair_lists pair is)

-- and of what is made of such lists
pub table_is : (t : Table) (vertices normals points : List (List ℤ)) → t.vertices.items ≡ vertices → t.normals.items ≡ normals
    → t.points.items ≡ points → AreTableLists vertices normals points → AreMasks (length vertices) vertices normals points t.masks.items → IsTable t
table_is t vertices normals points e f g lists masks = record { lists = rw (e, f, g) lists; masks = rw (e, f, g) masks }
