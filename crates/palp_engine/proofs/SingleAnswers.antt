-- Points have one list of each kind, or one refusal.
use Rattle.std.specs.Prelude.{ℤ}
use Rattle.std.specs.List.{Contains}
use Rattle.std.proofs.Common.{◌≡◌, ℕ, ◌<◌, List, [], ◌∷◌, length, refl, sym, ◌∙◌, ap, arith}
use Rattle.lattice_theory.specs.Affine.{Affine}
use Rattle.lattice_theory.specs.Order.{LexLess, FunctionLess}
use Rattle.lattice_theory.specs.Facet.{IsFlat, IsFlatFunction}
use Rattle.lattice_theory.proofs.Orders.{lex_asymmetric, function_asymmetric}
use Rattle.lattice_theory.proofs.Unique.{lists_unique}
use Rattle.lattice_theory.proofs.FlatUnique.{flat_function_unique}
use Rattle.lattice_core.specs.declared.faults.Refusal.TheVariants.{Flat, Limit}
use Rattle.lattice_core.specs.declared.faults.LimitName.TheVariants.{Facets, Vertices, Points}
use Rattle.hull.specs.Faults.{HaveFewFacets, HasManyFacets, HasManyVertices}
use Rattle.palp_engine.specs.Reports.{HaveFewVertices, flat, many_facets, many_vertices, many_points}
use Rattle.palp_engine.specs.Laws.{OnePolytope, OneRefusal, PolytopeOrRefusal}

-- lattice points, vertices and facets are listed in one way
pub one_polytope : OnePolytope
one_polytope n points few other = (
  lists_unique LexLess lex_asymmetric _ _ _ few.are_lattice_points other.are_lattice_points,
  lists_unique LexLess lex_asymmetric _ _ _ few.polytope.are_vertices other.polytope.are_vertices,
  lists_unique FunctionLess function_asymmetric _ _ _ few.polytope.faces.are_facets other.polytope.faces.are_facets,
)

-- points with a flat function are flat
flat_from_function : (n : ℕ) (points : List (List ℤ)) (f : Affine) → IsFlatFunction n points f → IsFlat n points
flat_from_function n points f h = record {
  function = f;
  dimension = h.dimension;
  nonconstant = (h.place, h.ends.nonzero);
  vanishes = h.vanishes;
}

-- what is refused at one step has passed the steps before
flat_or_solid : (n : ℕ) (points : List (List ℤ)) (f : Affine) → IsFlatFunction n points f → (IsFlat n points → ⊥) → ⊥
flat_or_solid n points f h solid = solid (flat_from_function n points f h)

many_or_few_facets : (n told : ℕ) (points : List (List ℤ)) → HasManyFacets n points told → HaveFewFacets n points → ⊥
many_or_few_facets n told points m f =
    let same = ap length (lists_unique FunctionLess function_asymmetric _ _ _ m.are_facets f.are_facets) in
    omega (arith, m.count, m.many, f.few, same)

many_or_few_vertices : (n told : ℕ) (points : List (List ℤ)) → HasManyVertices n points told → HaveFewVertices n points → ⊥
many_or_few_vertices n told points m f =
    let same = ap length (lists_unique LexLess lex_asymmetric _ _ _ m.are_vertices f.are_vertices) in
    omega (arith, m.count, m.many, f.few, same)

-- the first of some points
pub first_point : (points : List (List ℤ)) → 0 < length points → (p : List ℤ) × Contains points p
first_point [] some = absurd (omega arith)
first_point (p ∷ points) some = (p, (0, omega arith, refl))

-- two refusals of one kind tell the same
same_facets : (n told other : ℕ) (points : List (List ℤ)) → HasManyFacets n points told → HasManyFacets n points other → told ≡ other
same_facets n told other points a b =
    a.count ∙ (ap length (lists_unique FunctionLess function_asymmetric _ _ _ a.are_facets b.are_facets) ∙ sym b.count)

same_vertices : (n told other : ℕ) (points : List (List ℤ)) → HasManyVertices n points told → HasManyVertices n points other → told ≡ other
same_vertices n told other points a b =
    a.count ∙ (ap length (lists_unique LexLess lex_asymmetric _ _ _ a.are_vertices b.are_vertices) ∙ sym b.count)

pub one_refusal : OneRefusal
one_refusal n points _ _ some (flat {f = f} a) (flat {f = g} b) = let p = first_point points some in
    ap Flat (flat_function_unique n points p.0 f g p.1 a b)
one_refusal n points _ _ some (flat {f = f} a) (many_facets y b) = absurd (flat_or_solid n points f a y)
one_refusal n points _ _ some (flat {f = f} a) (many_vertices y b) = absurd (flat_or_solid n points f a y.solid)
one_refusal n points _ _ some (flat {f = f} a) (many_points b) = absurd (flat_or_solid n points f a b.polytope.faces.solid)
one_refusal n points _ _ some (many_facets x a) (flat {f = g} b) = absurd (flat_or_solid n points g b x)
one_refusal n points _ _ some (many_facets {told = told} x a) (many_facets {told = other} y b) =
    ap (Limit Facets) (same_facets n told other points a b)
one_refusal n points _ _ some (many_facets {told = told} x a) (many_vertices y b) = absurd (many_or_few_facets n told points a y)
one_refusal n points _ _ some (many_facets {told = told} x a) (many_points b) = absurd (many_or_few_facets n told points a b.polytope.faces)
one_refusal n points _ _ some (many_vertices x a) (flat {f = g} b) = absurd (flat_or_solid n points g b x.solid)
one_refusal n points _ _ some (many_vertices x a) (many_facets {told = other} y b) = absurd (many_or_few_facets n other points b x)
one_refusal n points _ _ some (many_vertices {told = told} x a) (many_vertices {told = other} y b) =
    ap (Limit Vertices) (same_vertices n told other points a b)
one_refusal n points _ _ some (many_vertices {told = told} x a) (many_points b) = absurd (many_or_few_vertices n told points a b.polytope)
one_refusal n points _ _ some (many_points a) (flat {f = g} b) = absurd (flat_or_solid n points g b a.polytope.faces.solid)
one_refusal n points _ _ some (many_points a) (many_facets {told = other} y b) =
    absurd (many_or_few_facets n other points b a.polytope.faces)
one_refusal n points _ _ some (many_points a) (many_vertices {told = other} y b) = absurd (many_or_few_vertices n other points b a.polytope)
one_refusal n points _ _ some (many_points a) (many_points b) = ap (Limit Points) (a.told_is ∙ sym b.told_is)

pub polytope_or_refusal : PolytopeOrRefusal
polytope_or_refusal n points _ l (flat {f = f} r) = flat_or_solid n points f r l.polytope.faces.solid
polytope_or_refusal n points _ l (many_facets {told = told} x r) = many_or_few_facets n told points r l.polytope.faces
polytope_or_refusal n points _ l (many_vertices {told = told} x r) = many_or_few_vertices n told points r l.polytope
polytope_or_refusal n points _ l (many_points r) =
    let lattice = ap length (lists_unique LexLess lex_asymmetric _ _ _ l.are_lattice_points r.are_lattice_points) in
    omega (arith, l.few, r.many, lattice)
