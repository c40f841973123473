-- The laws on facets, vertices and points of the dual, and on the lists of both.
use Rattle.std.proofs.Common.{◌≡◌, ◌↔◌, ℕ, List, [], ◌∷◌, map, ℤ, pos, negsuc, ◌+ℤ◌, ◌≤ℤ◌, ◌<ℤ◌, inl, inr, refl, sym, ap, ap₂, ◌∙◌, subst, arith}
use Rattle.std.specs.List.{Contains}
use Rattle.lattice_theory.specs.Vector.{dot}
use Rattle.lattice_theory.specs.Affine.{Affine, value, VanishesWith}
use Rattle.lattice_theory.specs.Order.{Ascends, LexLess, FunctionLess}
use Rattle.lattice_theory.specs.Facet.{IsFacet}
use Rattle.lattice_theory.specs.Hull.{IsVertex}
use Rattle.lattice_theory.specs.Points.{IsLatticePoint}
use Rattle.lattice_theory.proofs.Integers.{linear}
use Rattle.lattice_theory.proofs.Members.{In, Each, more, each_from_all, all_from_each, each_from_in, each_in, each_map, each_tail, each_head, in_from_contains, contains_from_in}
use Rattle.lattice_theory.proofs.Sublists.{in_map, IsImage, from_map, ascends_map}
use Rattle.facet_theory.specs.Solid.{AreSolid}
use Rattle.facet_theory.proofs.Different.{facets_differ_lem}
use Rattle.facet_theory.proofs.Hull.{hull_by_facets_lem}
use Rattle.facet_theory.proofs.LeastVertex.{vertex_from_function}
use Rattle.facet_theory.proofs.Lifted.{value_at_one}
use Rattle.facet_theory.proofs.Signs.{positive_from}
use Rattle.facet_theory.proofs.ZeroSums.{IsSupporting, ZeroSum, sum_at}
use Rattle.duality_theory.specs.Reflexive.{IsReflexive, AreFacetNormals, IsDualPoint, normals_of, with_one}
use Rattle.duality_theory.specs.Lists.{ReflexiveLists, with_ones}
use Rattle.duality_theory.specs.Laws.{FacetsOfDual, DualIsReflexive, VerticesOfDual, PointsOfDual, ListsOfDual, PointListOfDual, DualOfDual}
use Rattle.duality_theory.proofs.FacetNormals.{NormalOf, normal_of, normal_in, normals_are_solid_lem}
use Rattle.duality_theory.proofs.DualFacets.{swapped_value, point_supports, dual_facet_is_vertex}
use Rattle.duality_theory.proofs.VertexFacets.{vertex_gives_facet}

-- the law on facets
pub facets_of_dual_lem : FacetsOfDual
facets_of_dual_lem n points normals solid reflexive has f = (
  (λ facet. dual_facet_is_vertex n points normals solid reflexive has f facet),
  (λ h. subst (IsFacet n normals) (with f h.1) (vertex_gives_facet n points normals solid reflexive has f.normal h.0)),
)
  where
    with : (g : Affine) → g.constant ≡ pos 1 → with_one g.normal ≡ g
    with g e = ap (λ (c : ℤ). record { normal = g.normal; constant = c }) (sym e)

-- so all constants are 1
pub dual_is_reflexive_lem : DualIsReflexive
dual_is_reflexive_lem n points normals solid reflexive has f facet = ((facets_of_dual_lem n points normals solid reflexive has f).0 facet).1

module _ (n : ℕ) (points normals : List (List ℤ)) (solid : AreSolid n points) (reflexive : IsReflexive n points)
    (has : AreFacetNormals n points normals) where
  -- the sum of the functions of the points on a facet is 0 at its normal, and positive at all others
  normal_is_vertex : (q : List ℤ) → NormalOf n points q → In q normals → IsVertex n normals q
  normal_is_vertex q s i = by (sum_at n normals (map with_one points) supporting q (pos 1))
    where
      supporting : Each (IsSupporting n normals) (map with_one points)
      supporting = each_map (IsSupporting n normals) with_one
          (each_from_in points (λ p j. point_supports n points normals solid reflexive has p j))

      by : ZeroSum n normals (map with_one points) q (pos 1) → IsVertex n normals q
      by t = vertex_from_function n normals q i t.function t.dimension (sym (value_at_one t.function q) ∙ t.zero_there)
          (λ r j n'. positive_from (value t.function r) (t.nonnegative r j) (λ z. n' (same r j z (normal_of n points normals has r j))))
        where
          along : (r : List ℤ) → In r normals → value t.function r ≡ pos 0 → (u : NormalOf n points r) → VanishesWith points s.function u.function
          along r j z u p c e = sym (swapped_value n points normals solid reflexive has p u.function u.facet) ∙ ap (value (with_one p)) (sym u.is)
              ∙ t.all r j z (with_one p) (in_map with_one (in_from_contains points c))
              (value_at_one (with_one p) q ∙ ap (value (with_one p)) s.is ∙ swapped_value n points normals solid reflexive has p s.function s.facet ∙ e)

          same : (r : List ℤ) → In r normals → value t.function r ≡ pos 0 → NormalOf n points r → r ≡ q
          same r j z u = u.is ∙ ap (λ (f : Affine). f.normal) (sym (facets_differ_lem n points solid s.function u.function s.facet u.facet
              (along r j z u))) ∙ sym s.is

-- the law on vertices
pub vertices_of_dual_lem : VerticesOfDual
vertices_of_dual_lem n points normals solid reflexive has q = (
  (λ vertex. vertex.member),
  (λ c. let i = in_from_contains normals c in normal_is_vertex n points normals solid reflexive has q (normal_of n points normals has q i) i),
)

-- a pairing of at least -1 with one that is taken with 1
at_least_minus : (a c : ℤ) → c ≡ pos 1 → pos 0 ≤ℤ (a +ℤ c) → negsuc 0 ≤ℤ a
at_least_minus a c e h = omega (arith, linear)

at_least_zero : (a c : ℤ) → c ≡ pos 1 → negsuc 0 ≤ℤ a → pos 0 ≤ℤ (a +ℤ c)
at_least_zero a c e h = omega (arith, linear)

-- the law on points
pub points_of_dual_lem : PointsOfDual
points_of_dual_lem n points normals solid reflexive has q = (
  (λ p. record {
    dimension = p.dimension;
    at_least = λ v vertex. at_least_minus (dot v q) (pos 1) refl ((hull_by_facets_lem n normals dual q p.dimension).0 p.inside (with_one v)
        ((facets (with_one v)).1 (vertex, refl)));
  }),
  (λ p. record {
    dimension = p.dimension;
    inside = (hull_by_facets_lem n normals dual q p.dimension).1
        (λ g facet. let v = (facets g).0 facet in at_least_zero (dot g.normal q) g.constant v.1 (p.at_least g.normal v.0));
  }),
)
  where
    dual : AreSolid n normals
    dual = normals_are_solid_lem n points normals solid has

    facets : (f : Affine) → IsFacet n normals f ↔ (IsVertex n points f.normal × (f.constant ≡ pos 1))
    facets = facets_of_dual_lem n points normals solid reflexive has

-- the normals of functions with equal constants are in order where the functions are
ascending_normals : (fs : List Affine) → Each (λ f. f.constant ≡ pos 1) fs → Ascends FunctionLess fs → Ascends LexLess (normals_of fs)
ascending_normals [] h a = tt
ascending_normals (f ∷ fs) h a = (
  all_from_each (each_map (LexLess f.normal) (λ (g : Affine). g.normal) (each_from_in fs (λ g i. before g (each_in (each_tail h) i)
      (each_in (each_from_all (FunctionLess f) fs a.0) i)))),
  ascending_normals fs (each_tail h) a.1,
)
  where
    clash : (c d : ℤ) → c ≡ pos 1 → d ≡ pos 1 → c <ℤ d → ⊥
    clash c d e e' k = absurd (omega (arith, linear))

    before : (g : Affine) → g.constant ≡ pos 1 → FunctionLess f g → LexLess f.normal g.normal
    before g e (inl k) = k
    before g e (inr k) = absurd (clash f.constant g.constant (each_head h) e k.1)

module _ (n : ℕ) (points vertices : List (List ℤ)) (facets : List Affine) (lists : ReflexiveLists n points vertices facets) where
  -- the normals of all facets
  pub has_normals : AreFacetNormals n points (normals_of facets)
  has_normals = record { facets = facets; are_facets = lists.facets_are.members; same = refl }

  ones : Each (λ f. f.constant ≡ pos 1) facets
  ones = each_from_in facets (λ f i. lists.reflexive f ((lists.facets_are.members f).0 (contains_from_in i)))

  -- the dual's lists
  dual_lists : ReflexiveLists n (normals_of facets) (normals_of facets) (with_ones vertices)
  dual_lists = record {
    solid = normals_are_solid_lem n points (normals_of facets) lists.solid has_normals;
    reflexive = dual_is_reflexive_lem n points (normals_of facets) lists.solid lists.reflexive has_normals;
    vertices_are = record {
      ascends = ascending_normals facets ones lists.facets_are.ascends;
      members = λ q. let l = vertices_of_dual_lem n points (normals_of facets) lists.solid lists.reflexive has_normals q in (l.1, l.0);
    };
    facets_are = record {
      ascends = ascends_map LexLess FunctionLess with_one (λ x y h. inl h) vertices lists.vertices_are.ascends;
      members = λ f. ((λ c. to f (from_map with_one vertices (in_from_contains (with_ones vertices) c))), from f);
    };
  }
    where
      law : (f : Affine) → IsFacet n (normals_of facets) f ↔ (IsVertex n points f.normal × (f.constant ≡ pos 1))
      law = facets_of_dual_lem n points (normals_of facets) lists.solid lists.reflexive has_normals

      to : (f : Affine) → IsImage with_one vertices f → IsFacet n (normals_of facets) f
      to f s = subst (IsFacet n (normals_of facets)) (sym s.is)
          ((law (with_one s.source)).1 ((lists.vertices_are.members s.source).0 (contains_from_in s.member), refl))

      is_one : (f : Affine) → f.constant ≡ pos 1 → with_one f.normal ≡ f
      is_one f e = ap (λ (c : ℤ). record { normal = f.normal; constant = c }) (sym e)

      from : (f : Affine) → IsFacet n (normals_of facets) f → Contains (with_ones vertices) f
      from f facet = let v = (law f).0 facet in
          subst (Contains (with_ones vertices)) (is_one f v.1)
          (contains_from_in (in_map with_one (in_from_contains vertices ((lists.vertices_are.members f.normal).1 v.0))))

-- the law on lists
pub lists_of_dual_lem : ListsOfDual
lists_of_dual_lem n points vertices facets lists = dual_lists n points vertices facets lists

-- the law on the list of points
pub point_list_of_dual_lem : PointListOfDual
point_list_of_dual_lem n points vertices facets qs lists = (
  (λ h. record {
    ascends = h.ascends;
    members = λ q. ((λ c. (law q).0 ((h.members q).0 c)), (λ p. (h.members q).1 ((law q).1 p)));
  }),
  (λ h. record {
    ascends = h.ascends;
    members = λ q. ((λ c. (law q).1 ((h.members q).0 c)), (λ p. (h.members q).1 ((law q).0 p)));
  }),
)
  where
    law : (q : List ℤ) → IsLatticePoint n (normals_of facets) q ↔ IsDualPoint n points q
    law = points_of_dual_lem n points (normals_of facets) lists.solid lists.reflexive (has_normals n points vertices facets lists)

-- the points' functions have the points as normals
normals_of_ones : (vs : List (List ℤ)) → normals_of (with_ones vs) ≡ vs
normals_of_ones [] = refl
normals_of_ones (v ∷ vs) = ap (λ (ws : List (List ℤ)). v ∷ ws) (normals_of_ones vs)

-- and functions with the constant 1 are those of their normals
ones_of_normals : (fs : List Affine) → Each (λ f. f.constant ≡ pos 1) fs → with_ones (normals_of fs) ≡ fs
ones_of_normals [] h = refl
ones_of_normals (f ∷ fs) (more e es) = ap₂ (λ (g : Affine) (gs : List Affine). g ∷ gs)
    (ap (λ (c : ℤ). record { normal = f.normal; constant = c }) (sym e)) (ones_of_normals fs es)

-- the law on the dual of the dual
pub dual_of_dual_lem : DualOfDual
dual_of_dual_lem n points vertices facets lists = (
  normals_of_ones vertices,
  ones_of_normals facets (ones n points vertices facets lists),
  λ x. (
    (λ p. record {
      dimension = p.dimension;
      inside = (hull_by_facets_lem n points lists.solid x p.dimension).1
          (λ f facet. at_least_zero (dot f.normal x) f.constant (lists.reflexive f facet) (p.at_least f.normal (vertex f facet)));
    }),
    (λ p. record {
      dimension = p.dimension;
      at_least = λ q v. at x p (normal_of n points (normals_of facets) has q (in_from_contains (normals_of facets) v.member));
    }),
  ),
)
  where
    has : AreFacetNormals n points (normals_of facets)
    has = has_normals n points vertices facets lists

    vertex : (f : Affine) → IsFacet n points f → IsVertex n (normals_of facets) f.normal
    vertex f facet = (vertices_of_dual_lem n points (normals_of facets) lists.solid lists.reflexive has f.normal).1
        (contains_from_in (normal_in n points (normals_of facets) has f facet))

    at : (x : List ℤ) → IsLatticePoint n points x → {q : List ℤ} → NormalOf n points q → negsuc 0 ≤ℤ dot q x
    at x p s = subst (λ (r : List ℤ). negsuc 0 ≤ℤ dot r x) (sym s.is)
        (at_least_minus (dot s.function.normal x) s.function.constant (lists.reflexive s.function s.facet)
        ((hull_by_facets_lem n points lists.solid x p.dimension).0 p.inside s.function s.facet))
