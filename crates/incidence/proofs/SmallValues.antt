-- Numbers that are small enough for values in 64 bits.
use Rattle.std.specs.List.{All, Contains}
use Rattle.std.proofs.Common.{◌≡◌, ℕ, ◌+◌, ◌*◌, ◌/◌, ◌^◌, ◌<◌, ◌≤◌, List, length, get_or, ℤ, pos, arith, subst, sym, ap, ◌∙◌, ◌↔◌}
use Rattle.std.proofs.Math.Nat.{div-mul-le_self, mul-le-mul_left}
use Rattle.std.specs.Prelude.{IsTrue}
use Rattle.std.proofs.lemmas.List.{get_or_default}
use Rattle.std.proofs.lemmas.List.Elements.{All-contains, All-weaker}
use Rattle.lattice_theory.specs.Affine.{Affine, value}
use Rattle.lattice_theory.specs.Vector.{HaveDimension}
use Rattle.lattice_theory.specs.Size.{absolute_sum, size}
use Rattle.normal_bounds.proofs.Sizes.{point_absolute_sum_lem}
use Rattle.face_theory.specs.Pairings.{is_zero, vector_at, function_at}
use Rattle.face_theory.proofs.Climbs.{is_zero-true}
use Rattle.lattice_core.specs.ValueWidths.{IsNarrowAt}
use Rattle.incidence.specs.Incidences.{HaveValues}
use Rattle.incidence.specs.RowSteps.{IsSmall}

-- a bound of which so many are at most 2^62
within : (n size bound : ℕ) → bound ≡ n / (size + 1) → bound * size ≤ n
within n size bound e =
    let d = div-mul-le_self n (size + 1) in
    let m : bound * (size + 1) ≤ n = subst (λ (b : ℕ). b * (size + 1) ≤ n) (sym e) d in
    omega (arith, m)

-- all points have the dimension of one of the functions
pub have_dimension : (points : List (List ℤ)) (functions : List Affine) (f : Affine) (n : ℕ) → HaveValues points functions → Contains functions f
    → n ≡ length f.normal → HaveDimension n points
have_dimension points functions f n h m e = All-weaker (λ p. All (λ g. length g.normal ≡ length p) functions) (λ p. length p ≡ n)
    (λ p d. let s = All-contains (λ g. length g.normal ≡ length p) functions f d m in omega (arith, s, e)) points h.dimension

pub narrow : (points : List (List ℤ)) (functions : List Affine) (n bound : ℕ) → HaveDimension n points → bound ≡ 2 ^ 62 / (size n points + 1)
    → All (IsSmall bound) functions → (f : Affine) (p : List ℤ) → Contains functions f → Contains points p → IsNarrowAt f p
narrow points functions n bound d e small f p mf mp = record {
  bound = bound;
  entries = (All-contains (IsSmall bound) functions f small mf).1;
  sums =
      let constant = (All-contains (IsSmall bound) functions f small mf).0 in
      let sum = All-contains (λ q. absolute_sum q ≤ size n points) points p (point_absolute_sum_lem n points d) mp in
      let product : bound * absolute_sum p ≤ bound * size n points = mul-le-mul_left bound sum in
      let most = within (2 ^ 62) (size n points) bound e in
      omega arith;
}

-- the function, or the point, at a place of a list
pub function_is : (functions : List Affine) (f : ℕ) (g : Affine) → g ≡ get_or functions f g → f < length functions → g ≡ function_at functions f
function_is functions f g e l = e ∙ get_or_default functions f g _ l

pub vector_is : (points : List (List ℤ)) (m : ℕ) (q : List ℤ) → q ≡ get_or points m q → m < length points → q ≡ vector_at points m
vector_is points m q e l = e ∙ get_or_default points m q _ l

-- the test of 0 at a place of a list, and a value there
pub zero_at : (functions : List Affine) (f : ℕ) (g : Affine) (p : List ℤ) → g ≡ get_or functions f g → f < length functions
    → IsTrue (is_zero (value (function_at functions f) p)) ↔ (value g p ≡ pos 0)
zero_at functions f g p e l =
    let same = function_is functions f g e l in
    let values : value g p ≡ value (function_at functions f) p = ap (λ (h : Affine). value h p) same in
    (λ t. values ∙ is_zero-true _ t, λ z. ap is_zero (sym values ∙ z))

pub zero_of : (points : List (List ℤ)) (m : ℕ) (q : List ℤ) (f : Affine) → q ≡ get_or points m q → m < length points
    → IsTrue (is_zero (value f (vector_at points m))) ↔ (value f q ≡ pos 0)
zero_of points m q f e l =
    let same = vector_is points m q e l in
    let values : value f q ≡ value f (vector_at points m) = ap (value f) same in
    (λ t. values ∙ is_zero-true _ t, λ z. ap is_zero (sym values ∙ z))
