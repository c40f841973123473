-- The vertices of points that aren't flat: they aren't flat either, have no larger size, and the points' hull, lattice points and dilates.
use Rattle.std.proofs.Common.{◌≡◌, ℕ, ◌<◌, List, [], ◌∷◌, length, ℤ, pos, negsuc, ◌*ℤ◌, ◌≤ℤ◌, ◌∙◌, arith}
use Rattle.lattice_theory.specs.Vector.{HaveDimension}
use Rattle.lattice_theory.specs.Affine.{Affine, value, IsNonnegative, Vanishes}
use Rattle.lattice_theory.specs.Hull.{AreVerticesInAnyOrder}
use Rattle.lattice_theory.proofs.Integers.{minus_one-*ℤ, linear, products_out}
use Rattle.lattice_theory.proofs.Members.{In, each_from_all, all_from_each, each_from_in, each_in, in_from_contains}
use Rattle.lattice_theory.proofs.Sizes.{fewer_size}
use Rattle.facet_theory.specs.Solid.{AreSolid}
use Rattle.facet_theory.specs.Laws.{VerticesAreSolid, SomeVertex, VerticesAreSmall, HullOfVertices, LatticePointsOfVertices, DilatePointsOfVertices}
use Rattle.facet_theory.proofs.Lifted.{some_point}
use Rattle.lattice_theory.proofs.Functions.{mixed, length-mixed, value-mixed}
use Rattle.facet_theory.proofs.Signs.{nonnegative_same, nonnegative_at, nonnegative_from}
use Rattle.facet_theory.proofs.LeastVertex.{least_at_vertex_lem, vertex_inside, nonnegative_from_vertices, facets_of_vertices_lem}

-- there is a vertex: that of the least value of some function
pub some_vertex_lem : SomeVertex
some_vertex_lem n points vertices solid same = by (some_point n points solid)
  where
    filled : {v : List ℤ} (vs : List (List ℤ)) → In v vs → 0 < length vs
    filled [] i = elim i [ ]
    filled (v ∷ vs) i = omega arith

    by : (p : List ℤ) × In p points → 0 < length vertices
    by (p, i) =
        let l : length p ≡ n = each_in (each_from_all (λ q. length q ≡ n) points solid.dimension) i in
        let least = least_at_vertex_lem n points solid (record { normal = p; constant = pos 0 }) l in
        filled vertices (in_from_contains vertices ((same least.0).1 least.1))

-- the vertices have the points' dimension
pub vertices_dimension : (n : ℕ) (points vertices : List (List ℤ)) → HaveDimension n points → AreVerticesInAnyOrder n points vertices
    → HaveDimension n vertices
vertices_dimension n points vertices dims same =
    all_from_each (each_from_in vertices (λ v i. each_in (each_from_all (λ q. length q ≡ n) points dims)
    (vertex_inside n points vertices same v i)))

-- the law on their size
pub vertices_are_small_lem : VerticesAreSmall
vertices_are_small_lem n points vertices same = fewer_size n vertices points (vertex_inside n points vertices same)

module _ (n : ℕ) (points vertices : List (List ℤ)) (solid : AreSolid n points) (same : AreVerticesInAnyOrder n points vertices) where
  -- what is 0 on the vertices is nonnegative on the points
  nonnegative_where_zero : (f : Affine) → length f.normal ≡ n → ((v : List ℤ) → In v vertices → value f v ≡ pos 0) → (p : List ℤ)
      → In p points
      → pos 0 ≤ℤ value f p
  nonnegative_where_zero f l zeros =
      nonnegative_from_vertices n points vertices solid same f l (nonnegative_from vertices f (λ v i. at_least (value f v) (zeros v i)))
    where
      at_least : (a : ℤ) → a ≡ pos 0 → pos 0 ≤ℤ a
      at_least a e = omega (arith, linear)

  -- and so is its negative: it is 0 on the points
  vanishes_on_points : (g : Affine) → length g.normal ≡ n → Vanishes vertices g → (p : List ℤ) → In p points → value g p ≡ pos 0
  vanishes_on_points g l zeros p i = at_zero (value g p) (nonnegative_where_zero g l zero_at p i)
      (nonnegative_same (opposite_value p) (nonnegative_where_zero opposite (length-mixed n (pos 0) g (negsuc 0) g l l) opposite_zero p i))
    where
      zero_at : (v : List ℤ) → In v vertices → value g v ≡ pos 0
      zero_at v j = each_in (each_from_all (λ q. value g q ≡ pos 0) vertices zeros) j

      opposite : Affine
      opposite = mixed (pos 0) g (negsuc 0) g

      opposite_value : (x : List ℤ) → value opposite x ≡ negsuc 0 *ℤ value g x
      opposite_value x = value-mixed (pos 0) g (negsuc 0) g x ∙ (simp products_out (omega (arith, linear)))

      opposite_zero : (v : List ℤ) → In v vertices → value opposite v ≡ pos 0
      opposite_zero v j = opposite_value v ∙ minus (value g v) (zero_at v j)
        where
          minus : (a : ℤ) → a ≡ pos 0 → negsuc 0 *ℤ a ≡ pos 0
          minus a e = minus_one-*ℤ a ∙ (omega (arith, linear))

      at_zero : (a : ℤ) → pos 0 ≤ℤ a → pos 0 ≤ℤ (negsuc 0 *ℤ a) → a ≡ pos 0
      at_zero a h k = let k' = rw (minus_one-*ℤ a) at k in omega (arith, linear)

  -- the law on flatness
  vertices_are_solid_here : AreSolid n vertices
  vertices_are_solid_here = record {
    coordinates = solid.coordinates;
    dimension = vertices_dimension n points vertices solid.dimension same;
    solid = λ flat.
        solid.solid (record {
          function = flat.function;
          dimension = flat.dimension;
          nonconstant = flat.nonconstant;
          vanishes = all_from_each (each_from_in points (vanishes_on_points flat.function flat.dimension flat.vanishes));
        });
  }

  -- what is nonnegative on the points is nonnegative on the vertices
  on_vertices : (f : Affine) → IsNonnegative points f → IsNonnegative vertices f
  on_vertices f h = nonnegative_from vertices f (λ v i. nonnegative_at points f h (vertex_inside n points vertices same v i))

  -- and conversely
  on_points : (f : Affine) → length f.normal ≡ n → IsNonnegative vertices f → IsNonnegative points f
  on_points f l h = nonnegative_from points f (nonnegative_from_vertices n points vertices solid same f l h)

pub vertices_are_solid_lem : VerticesAreSolid
vertices_are_solid_lem n points vertices solid same = vertices_are_solid_here n points vertices solid same

-- the law on hulls
pub hull_of_vertices_lem : HullOfVertices
hull_of_vertices_lem n points vertices solid same x = (
  (λ h f l nonnegative. h f l (on_points n points vertices solid same f l nonnegative)),
  (λ h f l nonnegative. h f l (on_vertices n points vertices solid same f nonnegative)),
)

-- so on lattice points
pub lattice_points_of_vertices_lem : LatticePointsOfVertices
lattice_points_of_vertices_lem n points vertices solid same x =
    let hulls = hull_of_vertices_lem n points vertices solid same x in
    (λ p. record { dimension = p.dimension; inside = hulls.0 p.inside }, λ p. record { dimension = p.dimension; inside = hulls.1 p.inside })

-- and on dilates, by the facets
pub dilate_points_of_vertices_lem : DilatePointsOfVertices
dilate_points_of_vertices_lem n points vertices solid same j x =
    let facets = facets_of_vertices_lem n points vertices solid same in (
      (λ p. record { dimension = p.dimension; inside = λ f facet. p.inside f ((facets f).1 facet) }),
      (λ p. record { dimension = p.dimension; inside = λ f facet. p.inside f ((facets f).0 facet) }),
    )
