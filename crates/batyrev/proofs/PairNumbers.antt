-- The numbers of a pair, by sums over the faces of its table.
use Rattle.std.proofs.Common.{◌≡◌, ℕ, ◌+◌, ◌*◌, ◌<◌, List, length, get_or, refl, sym, subst}
use Rattle.std.specs.Prelude.{ℤ, pos, ◌+ℤ◌, ◌-ℤ◌, ◌*ℤ◌}
use Rattle.lattice_core.specs.Dimensions.{dimension_of}
use Rattle.face_poset.specs.Faces.{TableState, face_at}
use Rattle.batyrev_theory.specs.Interior.{IsInteriorCount, IsDualInteriorCount}
use Rattle.batyrev_theory.specs.Numbers.{IsInteriorProduct, IsProductSum, IsCorankProductSum, IsDivisorNumber, IsDeformationNumber, AreSurfaceNumbers, AreThreefoldNumbers, AreFourfoldNumbers}
use Rattle.dual_pair.specs.Polytopes.{PolytopeState, IsPolytope}
use Rattle.dual_pair.specs.Pairs.{IsDualOf}
use Rattle.dual_pair.specs.Faces.{AreFacesOf}
use Rattle.dual_pair.specs.Interiors.{set_in}
use Rattle.dual_pair.specs.declared.side.Side.TheVariants as sides
use Rattle.batyrev.specs.Levels.{IsLevelSum, AreInside}
use Rattle.batyrev.specs.declared.coranks.Level.TheVariants as levels
use Rattle.batyrev.proofs.LevelSums.{level_sum}

module _ (p : PolytopeState) (table : TableState) (t : AreFacesOf p table) (inner outer : List ℕ)
    (i : AreInside p sides.M table.faces inner) (o : AreInside p sides.N table.faces outer) where
  abbrev product_at : ℕ → ℕ
  product_at k = get_or inner k 0 * get_or outer k 0

  product : (k : ℕ) → k < length table.faces
      → IsInteriorProduct (dimension_of p.vertices) p.vertices p.facets (set_in p (face_at table.faces k)) (product_at k)
  product k l = record { inner = get_or inner k 0; outer = get_or outer k 0; inner_is = i.counted k l; outer_is = o.counted k l; product = refl }

  products : (r s : ℕ) → IsLevelSum p (levels.Rank r) table.faces product_at (length table.faces) s
      → IsProductSum (dimension_of p.vertices) p.vertices p.facets r s
  products r s h = level_sum p table t (levels.Rank r) (IsInteriorProduct (dimension_of p.vertices) p.vertices p.facets) product_at product s h

  ridge_products : (s : ℕ) → IsLevelSum p levels.Ridge table.faces product_at (length table.faces) s
      → IsCorankProductSum (dimension_of p.vertices) p.vertices p.facets 2 s
  ridge_products s h = level_sum p table t levels.Ridge (IsInteriorProduct (dimension_of p.vertices) p.vertices p.facets) product_at product s h

  pub products_in : (n r s : ℕ) → dimension_of p.vertices ≡ n
      → IsLevelSum p (levels.Rank r) table.faces product_at (length table.faces) s → IsProductSum n p.vertices p.facets r s
  products_in n r s e h = subst (λ (m : ℕ). IsProductSum m p.vertices p.facets r s) e (products r s h)

  pub divisor_number : (q : PolytopeState) → IsDualOf p q → (points dim inside sum : ℕ) (a : ℤ) → points ≡ length q.points
      → dim ≡ dimension_of p.vertices
      → IsLevelSum p (levels.Rank 1) table.faces (λ k. get_or outer k 0) (length table.faces) inside
      → IsLevelSum p (levels.Rank 2) table.faces product_at (length table.faces) sum
      → a ≡ pos points -ℤ pos (dim + 1) -ℤ pos inside +ℤ pos sum → IsDivisorNumber (dimension_of p.vertices) p.vertices p.facets a
  divisor_number q dual points dim inside sum a many same h g e = record {
    points = points;
    inside_facets = inside;
    products = sum;
    points_are = record { list = q.points; lists = dual.points_are; length_is = sym many };
    inside_facets_are = level_sum p table t (levels.Rank 1) (IsDualInteriorCount (dimension_of p.vertices) p.vertices) (λ k. get_or outer k 0)
        o.counted inside h;
    products_are = products 2 sum g;
    is = subst (λ (n : ℕ). a ≡ pos points -ℤ pos (n + 1) -ℤ pos inside +ℤ pos sum) same e;
  }

  pub deformation_number : IsPolytope p → (points dim inside sum : ℕ) (a : ℤ) → points ≡ length p.points
      → dim ≡ dimension_of p.vertices
      → IsLevelSum p levels.Facet table.faces (λ k. get_or inner k 0) (length table.faces) inside
      → IsLevelSum p levels.Ridge table.faces product_at (length table.faces) sum
      → a ≡ pos points -ℤ pos (dim + 1) -ℤ pos inside +ℤ pos sum → IsDeformationNumber (dimension_of p.vertices) p.vertices p.facets a
  deformation_number polytope points dim inside sum a many same h g e = record {
    points = points;
    inside_facets = inside;
    products = sum;
    points_are = record { list = p.points; lists = polytope.points_are; length_is = sym many };
    inside_facets_are = level_sum p table t levels.Facet (IsInteriorCount (dimension_of p.vertices) p.vertices p.facets)
        (λ k. get_or inner k 0) i.counted inside h;
    products_are = ridge_products sum g;
    is = subst (λ (n : ℕ). a ≡ pos points -ℤ pos (n + 1) -ℤ pos inside +ℤ pos sum) same e;
  }

  pub surface_numbers : (pic cor : ℤ) (s : ℕ) → dimension_of p.vertices ≡ 3 → IsDivisorNumber (dimension_of p.vertices) p.vertices p.facets pic
      → IsLevelSum p (levels.Rank 2) table.faces product_at (length table.faces) s → cor ≡ pos s
      → (dimension_of p.vertices ≡ 3) × AreSurfaceNumbers p.vertices p.facets pic cor
  surface_numbers pic cor s d h g e = (
    d,
    record {
      products = s;
      pic_is = subst (λ (n : ℕ). IsDivisorNumber n p.vertices p.facets pic) d h;
      products_are = products_in 3 2 s d g;
      cor_is = e;
    },
  )

  pub threefold_numbers : (h11 h21 euler : ℤ) → dimension_of p.vertices ≡ 4 → IsDivisorNumber (dimension_of p.vertices) p.vertices p.facets h11
      → IsDeformationNumber (dimension_of p.vertices) p.vertices p.facets h21 → euler ≡ pos 2 *ℤ (h11 -ℤ h21)
      → (dimension_of p.vertices ≡ 4) × AreThreefoldNumbers p.vertices p.facets h11 h21 euler
  threefold_numbers h11 h21 euler d h g e = (
    d,
    record {
      h11_is = subst (λ (n : ℕ). IsDivisorNumber n p.vertices p.facets h11) d h;
      h21_is = subst (λ (n : ℕ). IsDeformationNumber n p.vertices p.facets h21) d g;
      euler_is = e;
    },
  )

  pub fourfold_numbers : (h11 h21 h31 euler : ℤ) (s : ℕ) → dimension_of p.vertices ≡ 5
      → IsDivisorNumber (dimension_of p.vertices) p.vertices p.facets h11
      → IsDeformationNumber (dimension_of p.vertices) p.vertices p.facets h31
      → IsLevelSum p (levels.Rank 3) table.faces product_at (length table.faces) s → h21 ≡ pos s
      → euler ≡ pos 6 *ℤ (pos 8 +ℤ h11 +ℤ h31 -ℤ h21)
      → (dimension_of p.vertices ≡ 5) × AreFourfoldNumbers p.vertices p.facets h11 h21 h31 euler
  fourfold_numbers h11 h21 h31 euler s d h g k e f = (
    d,
    record {
      products = s;
      h11_is = subst (λ (n : ℕ). IsDivisorNumber n p.vertices p.facets h11) d h;
      h31_is = subst (λ (n : ℕ). IsDeformationNumber n p.vertices p.facets h31) d g;
      products_are = products_in 5 3 s d k;
      h21_is = e;
      euler_is = f;
    },
  )
