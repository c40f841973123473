-- Batyrev's numbers of a reflexive polytope of dimension n, which is told by its vertices and facets. For n = 4 the two Hodge numbers are those of
-- alg-geom/9310003; that the same formulas are taken for n = 3 and n = 5, with the further sum, is this project's own.
use Rattle.std.specs.Prelude.{◌≡◌, ℕ, ◌+◌, ◌*◌, Bool, List, ℤ, pos, ◌+ℤ◌, ◌-ℤ◌, ◌*ℤ◌}
use Rattle.lattice_theory.specs.Affine.{Affine}
use Rattle.lattice_theory.specs.Points.{IsLatticePoint}
use Rattle.face_theory.specs.Faces.{IsRank, IsCorank}
use Rattle.face_theory.specs.Pairings.{valued}
use Rattle.duality_theory.specs.Reflexive.{IsDualPoint}
use Rattle.batyrev_theory.specs.Interior.{IsCount, IsInteriorCount, IsDualInteriorCount}
use Rattle.batyrev_theory.specs.FaceSums.{IsFaceSum}

-- the number of lattice points in the interior of a face times that of points in the interior of its dual
pub record IsInteriorProduct (n : ℕ) (vertices : List (List ℤ)) (facets : List Affine) (face : List Bool) (k : ℕ) : Type 0 where
  pub inner : ℕ
  pub outer : ℕ
  pub inner_is : IsInteriorCount n vertices facets face inner
  pub outer_is : IsDualInteriorCount n vertices face outer
  pub product : k ≡ inner * outer

-- the sum of these products over the faces of a rank, and over those of a corank
abbrev pub IsProductSum : ℕ → List (List ℤ) → List Affine → ℕ → ℕ → Type 0
IsProductSum n vertices facets r s = IsFaceSum (valued vertices facets) (λ face. IsRank (valued vertices facets) face r)
    (IsInteriorProduct n vertices facets) s

abbrev pub IsCorankProductSum : ℕ → List (List ℤ) → List Affine → ℕ → ℕ → Type 0
IsCorankProductSum n vertices facets c s = IsFaceSum (valued vertices facets) (λ face. IsCorank (valued vertices facets) face c)
    (IsInteriorProduct n vertices facets) s

-- the points of the dual polytope, less n + 1, less those in the interior of the duals of faces of rank 1 (the facets of the dual), plus the
-- sum of products over rank 2 (faces of codimension 2 of the dual)
pub record IsDivisorNumber (n : ℕ) (vertices : List (List ℤ)) (facets : List Affine) (a : ℤ) : Type 0 where
  pub points : ℕ
  pub inside_facets : ℕ
  pub products : ℕ
  pub points_are : IsCount (IsDualPoint n vertices) points
  pub inside_facets_are : IsFaceSum (valued vertices facets) (λ face. IsRank (valued vertices facets) face 1) (IsDualInteriorCount n vertices)
      inside_facets
  pub products_are : IsProductSum n vertices facets 2 products
  pub is : a ≡ pos points -ℤ pos (n + 1) -ℤ pos inside_facets +ℤ pos products

-- the same with the polytope and its dual exchanged: the lattice points, less n + 1, less those in the interior of facets, plus the sum of products
-- over corank 2
pub record IsDeformationNumber (n : ℕ) (vertices : List (List ℤ)) (facets : List Affine) (a : ℤ) : Type 0 where
  pub points : ℕ
  pub inside_facets : ℕ
  pub products : ℕ
  pub points_are : IsCount (IsLatticePoint n vertices) points
  pub inside_facets_are : IsFaceSum (valued vertices facets) (λ face. IsCorank (valued vertices facets) face 1)
      (IsInteriorCount n vertices facets) inside_facets
  pub products_are : IsCorankProductSum n vertices facets 2 products
  pub is : a ≡ pos points -ℤ pos (n + 1) -ℤ pos inside_facets +ℤ pos products

-- dimension 3: the Picard number of the K3 surfaces, and its correction term
pub record AreSurfaceNumbers (vertices : List (List ℤ)) (facets : List Affine) (pic cor : ℤ) : Type 0 where
  pub products : ℕ
  pub pic_is : IsDivisorNumber 3 vertices facets pic
  pub products_are : IsProductSum 3 vertices facets 2 products
  pub cor_is : cor ≡ pos products

-- dimension 4: the Hodge numbers and the Euler number of the threefolds
pub record AreThreefoldNumbers (vertices : List (List ℤ)) (facets : List Affine) (h11 h21 euler : ℤ) : Type 0 where
  pub h11_is : IsDivisorNumber 4 vertices facets h11
  pub h21_is : IsDeformationNumber 4 vertices facets h21
  pub euler_is : euler ≡ pos 2 *ℤ (h11 -ℤ h21)

-- dimension 5: those of the fourfolds
pub record AreFourfoldNumbers (vertices : List (List ℤ)) (facets : List Affine) (h11 h21 h31 euler : ℤ) : Type 0 where
  pub products : ℕ
  pub h11_is : IsDivisorNumber 5 vertices facets h11
  pub h31_is : IsDeformationNumber 5 vertices facets h31
  pub products_are : IsProductSum 5 vertices facets 3 products
  pub h21_is : h21 ≡ pos products
  pub euler_is : euler ≡ pos 6 *ℤ (pos 8 +ℤ h11 +ℤ h31 -ℤ h21)
