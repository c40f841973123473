-- The numbers of a pair with its sides exchanged.
use Rattle.std.proofs.Common.{◌≡◌, ◌↔◌, ℕ, ◌<◌, Bool, List, [], length, ℤ, pos, ◌-ℤ◌, ◌*ℤ◌, neg_ℤ, refl, sym, ap, ◌∙◌, subst, arith, All}
use Rattle.std.proofs.Math.Nat.{mul_comm}
use Rattle.std.proofs.lemmas.Int.{ints}
use Rattle.std.proofs.lemmas.List.{get_or-map}
use Rattle.lattice_theory.specs.Affine.{Affine, value}
use Rattle.lattice_theory.specs.Order.{LexLess}
use Rattle.lattice_theory.specs.Facet.{IsFacet}
use Rattle.lattice_theory.specs.Points.{IsLatticePoint}
use Rattle.lattice_theory.proofs.Members.{all_from_each, each_from_in, contains_from_in}
use Rattle.face_theory.specs.Faces.{TightRelation, IsFace, IsDualFace, IsRank, IsCorank}
use Rattle.face_theory.specs.Pairings.{valued, is_zero, function_at, vector_at}
use Rattle.face_theory.proofs.DualFaces.{dual_is_unique_lem}
use Rattle.duality_theory.specs.Reflexive.{IsDualPoint, normals_of, with_one}
use Rattle.duality_theory.specs.Lists.{ReflexiveLists, with_ones}
use Rattle.duality_theory.proofs.DualFacets.{swapped_value}
use Rattle.duality_theory.proofs.DualLists.{has_normals, points_of_dual_lem, dual_of_dual_lem}
use Rattle.batyrev_theory.specs.Interior.{IsInterior, IsDualInterior, IsCount, IsInteriorCount, IsDualInteriorCount, zeros_at}
use Rattle.batyrev_theory.specs.Numbers.{IsInteriorProduct, IsDivisorNumber, IsDeformationNumber}
use Rattle.batyrev_theory.proofs.SingleNumbers.{deformations_are_single}
use Rattle.lattice_core.specs.Dimensions.{dimension_of}
use Rattle.dual_pair.specs.Pairs.{PairState, IsPair, exchanged}
use Rattle.dual_pair.proofs.VertexLists.{same_list}
use Rattle.dual_pair.proofs.DualSides.{lists, dual_dimension, exchanged_pair, length-normals, length-with_ones}
use Rattle.batyrev.specs.Laws.{DivisorsAreDeformationsOfTheDual, ExchangedLines}
use Rattle.batyrev.specs.declared.line.HodgeLine.TheVariants as lines
use Rattle.batyrev.proofs.TurnedFaces.{IsTurned, dual_there, rank_there, rank_back, turned_sum}

-- what is counted of an equivalent property
same_count : (P Q : List ℤ → Type 0) → ((x : List ℤ) → P x ↔ Q x) → (k : ℕ) → IsCount P k → IsCount Q k
same_count P Q same k h = record { list = h.list; lists = same_list LexLess P Q h.list same h.lists; length_is = h.length_is }

module _ (n : ℕ) (vertices : List (List ℤ)) (facets : List Affine) (own : ReflexiveLists n vertices vertices facets) where
  abbrev R : TightRelation
  R = valued vertices facets

  abbrev Q : TightRelation
  Q = valued (normals_of facets) (with_ones vertices)

  are_facets : All (IsFacet n vertices) facets
  are_facets = all_from_each {P = IsFacet n vertices} (each_from_in facets (λ f i. (own.facets_are.members f).0 (contains_from_in i)))

  -- a vertex on a facet is a facet of the dual on a vertex of the dual
  turned : IsTurned R Q
  turned = record {
    members = length-normals facets;
    functions = length-with_ones vertices;
    tight = λ m f l k. ap is_zero (same m f l k);
  }
    where
      same : (m f : ℕ) → m < length vertices → f < length facets
          → value (function_at (with_ones vertices) m) (vector_at (normals_of facets) f) ≡ value (function_at facets f) (vector_at vertices m)
      same m f l k =
          ap (λ (g : Affine). value g (vector_at (normals_of facets) f))
          (get_or-map with_one vertices m [] (record { normal = []; constant = pos 0 }) l)
          ∙ ap (value (with_one (vector_at vertices m)))
          (get_or-map (λ (g : Affine). g.normal) facets f (record { normal = []; constant = pos 0 }) [] k)
          ∙ swapped_value n vertices (normals_of facets) own.solid own.reflexive (has_normals n vertices vertices facets own) (vector_at vertices m)
          (function_at facets f) (are_facets f (record { normal = []; constant = pos 0 }) k)

  -- the points of both sides
  points : (q : List ℤ) → IsDualPoint n vertices q ↔ IsLatticePoint n (normals_of facets) q
  points q = let p = points_of_dual_lem n vertices (normals_of facets) own.solid own.reflexive (has_normals n vertices vertices facets own) q in
      (p.1, p.0)

  back : (with_ones (normals_of facets) ≡ facets) × ((x : List ℤ) → IsDualPoint n (normals_of facets) x ↔ IsLatticePoint n vertices x)
  back = let b = dual_of_dual_lem n vertices vertices facets own in (b.1, b.2)

  module _ (face dual : List Bool) (is_face : IsFace R face) (is_dual : IsDualFace R face dual) where
    turned_dual : IsDualFace Q dual face
    turned_dual = dual_there R Q turned face dual is_face is_dual

    outer : (q : List ℤ) → IsDualInterior n vertices face q ↔ IsInterior n (normals_of facets) (with_ones vertices) dual q
    outer q = (
      (λ i. record { point = (points q).0 i.point; on = subst (IsDualFace Q dual) (sym i.on) turned_dual }),
      (λ i. record { point = (points q).1 i.point; on = dual_is_unique_lem Q dual (zeros_at (with_ones vertices) q) face i.on turned_dual }),
    )

    inner : (x : List ℤ) → IsInterior n vertices facets face x ↔ IsDualInterior n (normals_of facets) dual x
    inner x = let same = ap (λ (fs : List Affine). zeros_at fs x) back.0 in (
      (λ i. record { point = (back.1 x).1 i.point; on = same ∙ dual_is_unique_lem R face (zeros_at facets x) dual i.on is_dual }),
      (λ i. record { point = (back.1 x).0 i.point; on = subst (IsDualFace R face) (sym i.on ∙ same) is_dual }),
    )

    outer_count : (k : ℕ) → IsDualInteriorCount n vertices face k → IsInteriorCount n (normals_of facets) (with_ones vertices) dual k
    outer_count k h = same_count (IsDualInterior n vertices face) (IsInterior n (normals_of facets) (with_ones vertices) dual) outer k h

    inner_count : (k : ℕ) → IsInteriorCount n vertices facets face k → IsDualInteriorCount n (normals_of facets) dual k
    inner_count k h = same_count (IsInterior n vertices facets face) (IsDualInterior n (normals_of facets) dual) inner k h

    product : (k : ℕ) → IsInteriorProduct n vertices facets face k → IsInteriorProduct n (normals_of facets) (with_ones vertices) dual k
    product k p = record {
      inner = p.outer;
      outer = p.inner;
      inner_is = outer_count p.outer p.outer_is;
      outer_is = inner_count p.inner p.inner_is;
      product = p.product ∙ mul_comm p.inner p.outer;
    }

  -- the divisors are the dual's deformations
  pub deformations_of_dual : (a : ℤ) → IsDivisorNumber n vertices facets a → IsDeformationNumber n (normals_of facets) (with_ones vertices) a
  deformations_of_dual a h = record {
    points = h.points;
    inside_facets = h.inside_facets;
    products = h.products;
    points_are = same_count (IsDualPoint n vertices) (IsLatticePoint n (normals_of facets)) points h.points h.points_are;
    inside_facets_are = turned_sum R Q turned (λ x. IsRank R x 1) (λ x. IsCorank Q x 1) (IsDualInteriorCount n vertices)
        (IsInteriorCount n (normals_of facets) (with_ones vertices)) (λ face dual f d r. rank_there R Q turned face dual f d 1 r)
        (λ face dual f d r. rank_back R Q turned face dual f d 1 r) (λ face dual k f d c. outer_count face dual f d k c)
        h.inside_facets h.inside_facets_are;
    products_are = turned_sum R Q turned (λ x. IsRank R x 2) (λ x. IsCorank Q x 2) (IsInteriorProduct n vertices facets)
        (IsInteriorProduct n (normals_of facets) (with_ones vertices)) (λ face dual f d r. rank_there R Q turned face dual f d 2 r)
        (λ face dual f d r. rank_back R Q turned face dual f d 2 r) (λ face dual k f d c. product face dual f d k c)
        h.products h.products_are;
    is = h.is;
  }

-- so of the two sides of a pair
of_pair : (pair : PairState) → IsPair pair → (n : ℕ) → dimension_of pair.m.vertices ≡ n → (a : ℤ)
    → IsDivisorNumber n pair.m.vertices pair.m.facets a → IsDeformationNumber n pair.n.vertices pair.n.facets a
of_pair pair is n e a h =
    subst (λ (fs : List Affine). IsDeformationNumber n pair.n.vertices fs a) (sym is.dual.facets_are)
    (subst (λ (vs : List (List ℤ)). IsDeformationNumber n vs (with_ones pair.m.vertices) a) (sym is.dual.vertices_are)
    (deformations_of_dual n pair.m.vertices pair.m.facets
    (subst (λ (k : ℕ). ReflexiveLists k pair.m.vertices pair.m.vertices pair.m.facets) e (lists pair.m is.polytope is.reflexive)) a h))

same_dimension : (pair : PairState) → IsPair pair → dimension_of pair.n.vertices ≡ dimension_of pair.m.vertices
same_dimension pair is = ap dimension_of is.dual.vertices_are ∙ dual_dimension pair.m is.polytope is.reflexive

pub divisors_are_deformations_of_the_dual_lem : DivisorsAreDeformationsOfTheDual
divisors_are_deformations_of_the_dual_lem pair is a h = subst (λ (k : ℕ). IsDeformationNumber k pair.n.vertices pair.n.facets a)
    (sym (same_dimension pair is)) (of_pair pair is (dimension_of pair.m.vertices) refl a h)

-- the divisors of either side are the deformations of the other
module _ (pair : PairState) (is : IsPair pair) (n : ℕ) (e : dimension_of pair.m.vertices ≡ n) where
  to_dual : (a b : ℤ) → IsDivisorNumber n pair.m.vertices pair.m.facets a → IsDeformationNumber n pair.n.vertices pair.n.facets b → b ≡ a
  to_dual a b h g = deformations_are_single n pair.n.vertices pair.n.facets b a g (of_pair pair is n e a h)

  from_dual : (a b : ℤ) → IsDeformationNumber n pair.m.vertices pair.m.facets a → IsDivisorNumber n pair.n.vertices pair.n.facets b → b ≡ a
  from_dual a b h g = deformations_are_single n pair.m.vertices pair.m.facets b a
      (of_pair (exchanged pair) (exchanged_pair pair is) n (same_dimension pair is ∙ e) b g) h

-- the Euler number changes its sign
turned_euler : (a b c d e f : ℤ) → c ≡ b → d ≡ a → e ≡ pos 2 *ℤ (a -ℤ b) → f ≡ pos 2 *ℤ (c -ℤ d) → f ≡ neg_ℤ e
turned_euler a b c d e f s t h k = let p : pos 2 *ℤ (b -ℤ a) ≡ neg_ℤ (pos 2 *ℤ (a -ℤ b)) = omega (arith, ints) in
    k ∙ ap (λ (z : ℤ). pos 2 *ℤ (z -ℤ d)) s ∙ ap (λ (z : ℤ). pos 2 *ℤ (b -ℤ z)) t ∙ p ∙ ap neg_ℤ (sym h)

clash : (j k m n : ℕ) → k ≡ j → j ≡ m → k ≡ n → (m ≡ n → ⊥) → ⊥
clash j k m n e f g differs = differs (sym f ∙ sym e ∙ g)

pub exchanged_lines_lem : ExchangedLines
exchanged_lines_lem pair is lines.None lines.None h g = tt
exchanged_lines_lem pair is lines.None (lines.Pic pic cor) h g = h.0 (sym (same_dimension pair is) ∙ g.0)
exchanged_lines_lem pair is lines.None (lines.Three h11 h21 euler) h g = h.1 (sym (same_dimension pair is) ∙ g.0)
exchanged_lines_lem pair is lines.None (lines.Four h11 h21 h31 euler) h g = h.2 (sym (same_dimension pair is) ∙ g.0)
exchanged_lines_lem pair is (lines.Pic pic cor) lines.None h g = g.0 (same_dimension pair is ∙ h.0)
exchanged_lines_lem pair is (lines.Pic pic cor) (lines.Pic pic' cor') h g = tt
exchanged_lines_lem pair is (lines.Pic pic cor) (lines.Three h11 h21 euler) h g =
    clash (dimension_of pair.m.vertices) (dimension_of pair.n.vertices) 3 4 (same_dimension pair is) h.0 g.0 (λ e. omega arith)
exchanged_lines_lem pair is (lines.Pic pic cor) (lines.Four h11 h21 h31 euler) h g =
    clash (dimension_of pair.m.vertices) (dimension_of pair.n.vertices) 3 5 (same_dimension pair is) h.0 g.0 (λ e. omega arith)
exchanged_lines_lem pair is (lines.Three h11 h21 euler) lines.None h g = g.1 (same_dimension pair is ∙ h.0)
exchanged_lines_lem pair is (lines.Three h11 h21 euler) (lines.Pic pic cor) h g =
    clash (dimension_of pair.m.vertices) (dimension_of pair.n.vertices) 4 3 (same_dimension pair is) h.0 g.0 (λ e. omega arith)
exchanged_lines_lem pair is (lines.Three h11 h21 euler) (lines.Three g11 g21 other) (d, h) (k, g) = (
  first,
  second,
  turned_euler h11 h21 g11 g21 euler other first second h.euler_is g.euler_is,
)
  where
    first : g11 ≡ h21
    first = from_dual pair is 4 d h21 g11 h.h21_is g.h11_is

    second : g21 ≡ h11
    second = to_dual pair is 4 d h11 g21 h.h11_is g.h21_is
exchanged_lines_lem pair is (lines.Three h11 h21 euler) (lines.Four g11 g21 g31 other) h g =
    clash (dimension_of pair.m.vertices) (dimension_of pair.n.vertices) 4 5 (same_dimension pair is) h.0 g.0 (λ e. omega arith)
exchanged_lines_lem pair is (lines.Four h11 h21 h31 euler) lines.None h g = g.2 (same_dimension pair is ∙ h.0)
exchanged_lines_lem pair is (lines.Four h11 h21 h31 euler) (lines.Pic pic cor) h g =
    clash (dimension_of pair.m.vertices) (dimension_of pair.n.vertices) 5 3 (same_dimension pair is) h.0 g.0 (λ e. omega arith)
exchanged_lines_lem pair is (lines.Four h11 h21 h31 euler) (lines.Three g11 g21 other) h g =
    clash (dimension_of pair.m.vertices) (dimension_of pair.n.vertices) 5 4 (same_dimension pair is) h.0 g.0 (λ e. omega arith)
exchanged_lines_lem pair is (lines.Four h11 h21 h31 euler) (lines.Four g11 g21 g31 other) (d, h) (k, g) =
    (from_dual pair is 5 d h31 g11 h.h31_is g.h11_is, to_dual pair is 5 d h11 g31 h.h11_is g.h31_is)
