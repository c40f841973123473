-- Batyrev's numbers are single.
use Rattle.std.proofs.Common.{◌≡◌, ℕ, ◌+◌, ◌*◌, Bool, List, ℤ, pos, ◌+ℤ◌, ◌-ℤ◌, ◌*ℤ◌, sym, ap, ap₂, ◌∙◌}
use Rattle.lattice_theory.specs.Affine.{Affine}
use Rattle.lattice_theory.specs.Points.{IsLatticePoint}
use Rattle.face_theory.specs.Faces.{IsRank, IsCorank}
use Rattle.face_theory.specs.Pairings.{valued}
use Rattle.duality_theory.specs.Reflexive.{IsDualPoint}
use Rattle.batyrev_theory.specs.Interior.{IsInteriorCount, IsDualInteriorCount}
use Rattle.batyrev_theory.specs.Numbers.{IsInteriorProduct, IsProductSum, IsDivisorNumber, IsDeformationNumber}
use Rattle.batyrev_theory.specs.Laws.{SurfaceNumbersAreSingle, ThreefoldNumbersAreSingle, FourfoldNumbersAreSingle}
use Rattle.batyrev_theory.proofs.InteriorLists.{count_is_single, interior_count_is_single_lem, dual_interior_count_is_single_lem}
use Rattle.batyrev_theory.proofs.SingleSums.{face_sum_is_single}

-- the numbers of the formula
same_number : (n p q r p' q' r' : ℕ) (a b : ℤ) → p ≡ p' → q ≡ q' → r ≡ r' → a ≡ pos p -ℤ pos (n + 1) -ℤ pos q +ℤ pos r
    → b ≡ pos p' -ℤ pos (n + 1) -ℤ pos q' +ℤ pos r' → a ≡ b
same_number n p q r p' q' r' a b e f g h k = h ∙ ap₂ (λ (x : ℤ) (z : ℤ). x +ℤ z)
    (ap₂ (λ (x y : ℕ). pos x -ℤ pos (n + 1) -ℤ pos y) e f) (ap pos g) ∙ sym k

module _ (n : ℕ) (vertices : List (List ℤ)) (facets : List Affine) where
  product_is_single : (face : List Bool) (j k : ℕ) → IsInteriorProduct n vertices facets face j → IsInteriorProduct n vertices facets face k → j ≡ k
  product_is_single face j k a b = a.product ∙ ap₂ (λ (x y : ℕ). x * y)
      (interior_count_is_single_lem n vertices facets face a.inner b.inner a.inner_is b.inner_is)
      (dual_interior_count_is_single_lem n vertices face a.outer b.outer a.outer_is b.outer_is) ∙ sym b.product

  pub product_sum_is_single : (r s t : ℕ) → IsProductSum n vertices facets r s → IsProductSum n vertices facets r t → s ≡ t
  product_sum_is_single r s t a b = face_sum_is_single (valued vertices facets) (λ face. IsRank (valued vertices facets) face r)
      (IsInteriorProduct n vertices facets) product_is_single s t a b

  pub divisors_are_single : (a b : ℤ) → IsDivisorNumber n vertices facets a → IsDivisorNumber n vertices facets b → a ≡ b
  divisors_are_single a b x y = same_number n x.points x.inside_facets x.products y.points y.inside_facets y.products a b
      (count_is_single (IsDualPoint n vertices) x.points y.points x.points_are y.points_are)
      (face_sum_is_single (valued vertices facets) (λ face. IsRank (valued vertices facets) face 1) (IsDualInteriorCount n vertices)
      (dual_interior_count_is_single_lem n vertices) x.inside_facets y.inside_facets x.inside_facets_are y.inside_facets_are)
      (product_sum_is_single 2 x.products y.products x.products_are y.products_are) x.is y.is

  pub deformations_are_single : (a b : ℤ) → IsDeformationNumber n vertices facets a → IsDeformationNumber n vertices facets b → a ≡ b
  deformations_are_single a b x y = same_number n x.points x.inside_facets x.products y.points y.inside_facets y.products a b
      (count_is_single (IsLatticePoint n vertices) x.points y.points x.points_are y.points_are)
      (face_sum_is_single (valued vertices facets) (λ face. IsCorank (valued vertices facets) face 1) (IsInteriorCount n vertices facets)
      (interior_count_is_single_lem n vertices facets) x.inside_facets y.inside_facets x.inside_facets_are y.inside_facets_are)
      (face_sum_is_single (valued vertices facets) (λ face. IsCorank (valued vertices facets) face 2) (IsInteriorProduct n vertices facets)
      product_is_single x.products y.products x.products_are y.products_are) x.is y.is

-- the laws
pub surface_numbers_are_single_lem : SurfaceNumbersAreSingle
surface_numbers_are_single_lem vertices facets pic cor pic' cor' a b = (
  divisors_are_single 3 vertices facets pic pic' a.pic_is b.pic_is,
  a.cor_is ∙ ap pos (product_sum_is_single 3 vertices facets 2 a.products b.products a.products_are b.products_are) ∙ sym b.cor_is,
)

pub threefold_numbers_are_single_lem : ThreefoldNumbersAreSingle
threefold_numbers_are_single_lem vertices facets h11 h21 euler h11' h21' euler' a b = (
  first,
  second,
  a.euler_is ∙ ap₂ (λ (x y : ℤ). pos 2 *ℤ (x -ℤ y)) first second ∙ sym b.euler_is,
)
  where
    first : h11 ≡ h11'
    first = divisors_are_single 4 vertices facets h11 h11' a.h11_is b.h11_is

    second : h21 ≡ h21'
    second = deformations_are_single 4 vertices facets h21 h21' a.h21_is b.h21_is

pub fourfold_numbers_are_single_lem : FourfoldNumbersAreSingle
fourfold_numbers_are_single_lem vertices facets h11 h21 h31 euler h11' h21' h31' euler' a b = (
  first,
  second,
  third,
  a.euler_is ∙ ap₂ (λ (x : ℤ) (z : ℤ). pos 6 *ℤ (x -ℤ z)) (ap₂ (λ (x y : ℤ). pos 8 +ℤ x +ℤ y) first third) second ∙ sym b.euler_is,
)
  where
    first : h11 ≡ h11'
    first = divisors_are_single 5 vertices facets h11 h11' a.h11_is b.h11_is

    second : h21 ≡ h21'
    second = a.h21_is ∙ ap pos (product_sum_is_single 5 vertices facets 3 a.products b.products a.products_are b.products_are) ∙ sym b.h21_is

    third : h31 ≡ h31'
    third = deformations_are_single 5 vertices facets h31 h31' a.h31_is b.h31_is
