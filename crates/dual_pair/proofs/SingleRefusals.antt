-- Points and duals are refused for no two causes, and not where they aren't refused.
use Rattle.std.specs.List.{Contains}
use Rattle.std.proofs.Common.{◌≡◌, ℕ, ◌<◌, ◌≤◌, List, [], ◌∷◌, length, ℤ, refl, sym, ◌∙◌, ap, subst, arith}
use Rattle.lattice_theory.specs.Affine.{Affine}
use Rattle.lattice_theory.specs.Order.{LexLess, FunctionLess}
use Rattle.lattice_theory.specs.Size.{size}
use Rattle.lattice_theory.specs.Facet.{IsFlat, IsFlatFunction}
use Rattle.lattice_theory.proofs.Orders.{lex_asymmetric, function_asymmetric}
use Rattle.lattice_theory.proofs.Unique.{lists_unique}
use Rattle.lattice_theory.proofs.FlatUnique.{flat_function_unique}
use Rattle.duality_theory.specs.Reflexive.{normals_of}
use Rattle.lattice_core.specs.Dimensions.{dimension_of}
use Rattle.lattice_core.specs.Limits.{size_limit_of, IsSized}
use Rattle.lattice_core.specs.declared.faults.Refusal.{Refusal}
use Rattle.lattice_core.specs.declared.faults.Refusal.TheVariants.{Flat, Limit}
use Rattle.lattice_core.specs.declared.faults.LimitName.TheVariants.{Size, Facets, Vertices, Points, DualSize, DualPoints}
use Rattle.hull.specs.Faults.{HaveFewFacets, HasManyFacets, HasManyVertices}
use Rattle.dual_pair.specs.Polytopes.{PolytopeState, IsPolytopeOf, HasManyPoints, HasNoPolytope}
use Rattle.dual_pair.specs.Pairs.{PairState, IsPair, HasManyDualPoints, HasNoDual}
use Rattle.dual_pair.proofs.DualSides.{dual_dimension}
use Rattle.dual_pair.specs.Laws.{OnePolytopeRefusal, PolytopeOrRefusal, OneDualRefusal, DualOrRefusal}

above : (a b : ℕ) → a ≤ b → b < a → ⊥
above a b h k = omega arith

too_long : (a b most : ℕ) → a ≡ b → most < a → b ≤ most → ⊥
too_long a b most e h k = omega (arith, e, h, k)

-- points with a flat function are flat
flat_from_function : (n : ℕ) (points : List (List ℤ)) (f : Affine) → IsFlatFunction n points f → IsFlat n points
flat_from_function n points f h = record { function = f; dimension = h.dimension; nonconstant = (h.place, h.ends.nonzero); vanishes = h.vanishes }

-- the first of some points
first_point : (points : List (List ℤ)) → 0 < length points → (p : List ℤ) × Contains points p
first_point [] some = absurd (omega arith)
first_point (p ∷ points) some = (p, (0, omega arith, refl))

-- the steps at which points are refused, in order: each has passed the steps before
data Stopped (n : ℕ) (points : List (List ℤ)) : Refusal → Type 0 where
  large : {told : ℕ} → told ≡ size n points → size_limit_of n < size n points → Stopped n points (Limit Size told)
  flat : {f : Affine} → IsSized n points → IsFlatFunction n points f → Stopped n points (Flat f)
  facets : {told : ℕ} → IsSized n points → (IsFlat n points → ⊥) → HasManyFacets n points told → Stopped n points (Limit Facets told)
  vertices : {told : ℕ} → IsSized n points → HaveFewFacets n points → HasManyVertices n points told → Stopped n points (Limit Vertices told)
  points_of : {told : ℕ} → HasManyPoints n points told → Stopped n points (Limit Points told)

stopped : (points : List (List ℤ)) (cause : Refusal) → HasNoPolytope points cause → Stopped (dimension_of points) points cause
stopped points (Flat f) h = flat h.0 h.1
stopped points (Limit Size told) h = large h.0 h.1
stopped points (Limit Facets told) h = facets h.0 h.1 h.2
stopped points (Limit Vertices told) h = vertices h.0 h.1 h.2
stopped points (Limit Points told) h = points_of h
stopped points (Limit other told) h = absurd h

module _ (n : ℕ) (points : List (List ℤ)) where
  sized_or_large : IsSized n points → size_limit_of n < size n points → ⊥
  sized_or_large s h = above (size n points) (size_limit_of n) s h

  flat_or_solid : (f : Affine) → IsFlatFunction n points f → (IsFlat n points → ⊥) → ⊥
  flat_or_solid f h solid = solid (flat_from_function n points f h)

  many_or_few_facets : (told : ℕ) → HasManyFacets n points told → HaveFewFacets n points → ⊥
  many_or_few_facets told m f = too_long told (length f.facets) 128
      (m.count ∙ ap length (lists_unique FunctionLess function_asymmetric _ _ _ m.are_facets f.are_facets)) m.many f.few

  vertices_or_points : (told other : ℕ) → HasManyVertices n points told → HasManyPoints n points other → ⊥
  vertices_or_points told other m f = too_long told (length f.vertices) 128
      (m.count ∙ ap length (lists_unique LexLess lex_asymmetric _ _ _ m.are_vertices f.are_vertices)) m.many f.few_vertices

  same_facets : (told other : ℕ) → HasManyFacets n points told → HasManyFacets n points other → told ≡ other
  same_facets told other a b =
      a.count ∙ (ap length (lists_unique FunctionLess function_asymmetric _ _ _ a.are_facets b.are_facets) ∙ sym b.count)

  same_vertices : (told other : ℕ) → HasManyVertices n points told → HasManyVertices n points other → told ≡ other
  same_vertices told other a b =
      a.count ∙ (ap length (lists_unique LexLess lex_asymmetric _ _ _ a.are_vertices b.are_vertices) ∙ sym b.count)

  one_stop : (cause other : Refusal) → 0 < length points → Stopped n points cause → Stopped n points other → cause ≡ other
  one_stop _ _ some (large e h) (large f k) = ap (Limit Size) (e ∙ sym f)
  one_stop _ _ some (large e h) (flat s g) = absurd (sized_or_large s h)
  one_stop _ _ some (large e h) (facets s x m) = absurd (sized_or_large s h)
  one_stop _ _ some (large e h) (vertices s x m) = absurd (sized_or_large s h)
  one_stop _ _ some (large e h) (points_of m) = absurd (sized_or_large m.sized h)
  one_stop _ _ some (flat s g) (large f k) = absurd (sized_or_large s k)
  one_stop _ _ some (flat {f = f} s a) (flat {f = g} t b) = let p = first_point points some in
      ap Flat (flat_function_unique n points p.0 f g p.1 a b)
  one_stop _ _ some (flat {f = f} s a) (facets t x m) = absurd (flat_or_solid f a x)
  one_stop _ _ some (flat {f = f} s a) (vertices t x m) = absurd (flat_or_solid f a x.solid)
  one_stop _ _ some (flat {f = f} s a) (points_of m) = absurd (flat_or_solid f a m.faces.solid)
  one_stop _ _ some (facets s x m) (large f k) = absurd (sized_or_large s k)
  one_stop _ _ some (facets s x m) (flat {f = g} t b) = absurd (flat_or_solid g b x)
  one_stop _ _ some (facets {told = told} s x a) (facets {told = other} t y b) = ap (Limit Facets) (same_facets told other a b)
  one_stop _ _ some (facets {told = told} s x a) (vertices t y b) = absurd (many_or_few_facets told a y)
  one_stop _ _ some (facets {told = told} s x a) (points_of b) = absurd (many_or_few_facets told a b.faces)
  one_stop _ _ some (vertices s x a) (large f k) = absurd (sized_or_large s k)
  one_stop _ _ some (vertices s x a) (flat {f = g} t b) = absurd (flat_or_solid g b x.solid)
  one_stop _ _ some (vertices s x a) (facets {told = other} t y b) = absurd (many_or_few_facets other b x)
  one_stop _ _ some (vertices {told = told} s x a) (vertices {told = other} t y b) = ap (Limit Vertices) (same_vertices told other a b)
  one_stop _ _ some (vertices {told = told} s x a) (points_of {told = other} b) = absurd (vertices_or_points told other a b)
  one_stop _ _ some (points_of a) (large f k) = absurd (sized_or_large a.sized k)
  one_stop _ _ some (points_of a) (flat {f = g} t b) = absurd (flat_or_solid g b a.faces.solid)
  one_stop _ _ some (points_of a) (facets {told = other} t y b) = absurd (many_or_few_facets other b a.faces)
  one_stop _ _ some (points_of {told = told} a) (vertices {told = other} t y b) = absurd (vertices_or_points other told b a)
  one_stop _ _ some (points_of a) (points_of b) = ap (Limit Points) (a.told_is ∙ sym b.told_is)

pub one_polytope_refusal_lem : OnePolytopeRefusal
one_polytope_refusal_lem points cause other some a b =
    one_stop (dimension_of points) points cause other some (stopped points cause a) (stopped points other b)

module _ (points : List (List ℤ)) (p : PolytopeState) (is : IsPolytopeOf points p) where
  abbrev n : ℕ
  n = dimension_of points

  few_facets : HaveFewFacets n points
  few_facets = record { solid = is.solid.solid; facets = p.facets; are_facets = is.facets_are; few = is.few_facets }

  polytope_or_stop : (cause : Refusal) → Stopped n points cause → ⊥
  polytope_or_stop _ (large e h) = sized_or_large n points is.solid.sized.within h
  polytope_or_stop _ (flat {f = f} s a) = flat_or_solid n points f a is.solid.solid
  polytope_or_stop _ (facets {told = told} s x m) = many_or_few_facets n points told m few_facets
  polytope_or_stop _ (vertices {told = told} s x m) = too_long told (length p.vertices) 128
      (m.count ∙ ap length (lists_unique LexLess lex_asymmetric _ _ _ m.are_vertices is.vertices_are)) m.many is.few_vertices
  polytope_or_stop _ (points_of m) = too_long (length m.more.lattice) (length p.points) 16384
      (ap length (lists_unique LexLess lex_asymmetric _ _ _ m.more.are_lattice_points is.points_are)) m.more.more is.few_points

pub polytope_or_refusal_lem : PolytopeOrRefusal
polytope_or_refusal_lem points p cause is h = polytope_or_stop points p is cause (stopped points cause h)

-- the steps at which a dual is refused, in order
data Unpaired (p : PolytopeState) : Refusal → Type 0 where
  large_dual : {told : ℕ} → told ≡ size (dimension_of p.vertices) (normals_of p.facets)
      → size_limit_of (dimension_of p.vertices) < size (dimension_of p.vertices) (normals_of p.facets) → Unpaired p (Limit DualSize told)
  dual_points : {told : ℕ} → HasManyDualPoints p → told ≡ 16385 → Unpaired p (Limit DualPoints told)

unpaired : (p : PolytopeState) (cause : Refusal) → HasNoDual p cause → Unpaired p cause
unpaired p (Flat f) h = absurd h
unpaired p (Limit DualSize told) h = large_dual h.1.0 h.1.1
unpaired p (Limit DualPoints told) h = dual_points h.1.0 h.1.1
unpaired p (Limit other told) h = absurd h.1

one_dual_stop : (p : PolytopeState) (cause other : Refusal) → Unpaired p cause → Unpaired p other → cause ≡ other
one_dual_stop p _ _ (large_dual e h) (large_dual f k) = ap (Limit DualSize) (e ∙ sym f)
one_dual_stop p _ _ (large_dual e h) (dual_points m f) = absurd (sized_or_large (dimension_of p.vertices) (normals_of p.facets) m.sized h)
one_dual_stop p _ _ (dual_points m e) (large_dual f k) = absurd (sized_or_large (dimension_of p.vertices) (normals_of p.facets) m.sized k)
one_dual_stop p _ _ (dual_points m e) (dual_points l f) = ap (Limit DualPoints) (e ∙ sym f)

pub one_dual_refusal_lem : OneDualRefusal
one_dual_refusal_lem p cause other a b = one_dual_stop p cause other (unpaired p cause a) (unpaired p other b)

dual_sized : (pair : PairState) → IsPair pair → IsSized (dimension_of pair.m.vertices) (normals_of pair.m.facets)
dual_sized pair is = subst (λ (k : ℕ). IsSized k (normals_of pair.m.facets)) (dual_dimension pair.m is.polytope is.reflexive)
    (subst (λ (vs : List (List ℤ)). IsSized (dimension_of vs) vs) is.dual.vertices_are is.dual.polytope.solid.sized.within)

dual_or_stop : (pair : PairState) (cause : Refusal) → IsPair pair → Unpaired pair.m cause → ⊥
dual_or_stop pair _ is (large_dual e h) = sized_or_large (dimension_of pair.m.vertices) (normals_of pair.m.facets)
    (dual_sized pair is) h
dual_or_stop pair _ is (dual_points m e) = too_long (length m.points) (length pair.n.points) 16384
    (ap length (lists_unique LexLess lex_asymmetric _ _ _ m.are_points is.dual.points_are)) m.many is.dual.polytope.few_points

pub dual_or_refusal_lem : DualOrRefusal
dual_or_refusal_lem pair cause is h = dual_or_stop pair cause is (unpaired pair.m cause h)
