-- A worked example: the triangle with corners (0, 0), (1, 0) and (0, 1) has the facets x, y and 1 - x - y, and the constant 1 is their sum.
use Rattle.std.proofs.Common.{◌≡◌, ℕ, zero, suc, List, [], ◌∷◌, length, ℤ, pos, negsuc, ◌*ℤ◌, ◌≤ℤ◌, refl, ap₂, arith}
use Rattle.std.proofs.lemmas.Int.{ints}
use Rattle.std.specs.List.{All}
use Rattle.lattice_theory.specs.Vector.{entry}
use Rattle.lattice_theory.specs.Affine.{Affine, value, value_over, Vanishes, IsMultiple}
use Rattle.lattice_theory.specs.Facet.{IsFacet}
use Rattle.lattice_theory.proofs.Members.{here, there, Each, empty, more, all_from_each, contains_from_in}
use Rattle.lattice_theory.proofs.Divisibility.{primitive_from_combination}
use Rattle.lattice_theory.specs.Examples.{function as function_of}
use Rattle.facet_theory.specs.Sums.{total_over, IsSumOfFacets}
use Rattle.facet_theory.specs.Solid.{AreSolid}
use Rattle.facet_theory.specs.Examples.{corner}

-- a x + b y + c
abbrev function : ℤ → ℤ → ℤ → Affine
function a b c = function_of (a ∷ (b ∷ [])) c

-- the constant 1, and the three facets
abbrev one : Affine
one = function (pos 0) (pos 0) (pos 1)

abbrev facet_x : Affine
facet_x = function (pos 1) (pos 0) (pos 0)

abbrev facet_y : Affine
facet_y = function (pos 0) (pos 1) (pos 0)

abbrev facet_xy : Affine
facet_xy = function (negsuc 0) (negsuc 0) (pos 1)

-- what holds of three members holds of each
three : {X : Type 0} (P : X → Type 0) {x y z : X} → P x → P y → P z → All P (x ∷ (y ∷ (z ∷ [])))
three P p q r = all_from_each (each_three p q r)
  where
    each_three : {x y z : _} → P x → P y → P z → Each P (x ∷ (y ∷ (z ∷ [])))
    each_three p q r = more p (more q (more r empty))

-- equal entries give equal vectors
same_two : {a b c d : ℤ} → a ≡ c → b ≡ d → (a ∷ (b ∷ [])) ≡ (c ∷ (d ∷ []))
same_two e f = ap₂ (λ (x : ℤ) (y : ℤ). x ∷ (y ∷ [])) e f

-- a function that is 0 at two corners is a multiple of the facet through them
multiple_x : (normal : List ℤ) (c : ℤ) → length normal ≡ 2 → value (record { normal = normal; constant = c }) (pos 0 ∷ (pos 0 ∷ [])) ≡ pos 0
    → value
    (record { normal = normal; constant = c }) (pos 0 ∷ (pos 1 ∷ [])) ≡ pos 0
    → IsMultiple (record { normal = normal; constant = c }) facet_x
multiple_x [] c l e e' = absurd (omega arith)
multiple_x (a ∷ []) c l e e' = absurd (omega arith)
multiple_x (a ∷ (b ∷ [])) c l e e' = record {
  left = pos 1;
  right = a;
  nonzero = λ z. absurd (omega (arith, ints));
  normals = same_two (omega (arith, ints)) (omega (arith, ints));
  constants = omega (arith, ints);
}
multiple_x (a ∷ (b ∷ (d ∷ rest))) c l e e' = absurd (omega arith)

multiple_y : (normal : List ℤ) (c : ℤ) → length normal ≡ 2 → value (record { normal = normal; constant = c }) (pos 0 ∷ (pos 0 ∷ [])) ≡ pos 0
    → value
    (record { normal = normal; constant = c }) (pos 1 ∷ (pos 0 ∷ [])) ≡ pos 0
    → IsMultiple (record { normal = normal; constant = c }) facet_y
multiple_y [] c l e e' = absurd (omega arith)
multiple_y (a ∷ []) c l e e' = absurd (omega arith)
multiple_y (a ∷ (b ∷ [])) c l e e' = record {
  left = pos 1;
  right = b;
  nonzero = λ z. absurd (omega (arith, ints));
  normals = same_two (omega (arith, ints)) (omega (arith, ints));
  constants = omega (arith, ints);
}
multiple_y (a ∷ (b ∷ (d ∷ rest))) c l e e' = absurd (omega arith)

multiple_xy : (normal : List ℤ) (c : ℤ) → length normal ≡ 2 → value (record { normal = normal; constant = c }) (pos 1 ∷ (pos 0 ∷ []))
    ≡ pos 0 → value
    (record { normal = normal; constant = c }) (pos 0 ∷ (pos 1 ∷ [])) ≡ pos 0
    → IsMultiple (record { normal = normal; constant = c }) facet_xy
multiple_xy [] c l e e' = absurd (omega arith)
multiple_xy (a ∷ []) c l e e' = absurd (omega arith)
multiple_xy (a ∷ (b ∷ [])) c l e e' = record {
  left = pos 1;
  right = c;
  nonzero = λ z. absurd (omega (arith, ints));
  normals = same_two (omega (arith, ints)) (omega (arith, ints));
  constants = omega (arith, ints);
}
multiple_xy (a ∷ (b ∷ (d ∷ rest))) c l e e' = absurd (omega arith)

pub corner_x : IsFacet 2 corner facet_x
corner_x = record {
  dimension = refl;
  primitive = primitive_from_combination (pos 1 ∷ (pos 0 ∷ [])) (pos 1 ∷ (pos 0 ∷ [])) refl;
  nonnegative = three (λ p. pos 0 ≤ℤ value facet_x p) (omega (arith, ints)) (omega (arith, ints)) (omega (arith, ints));
  determined = λ g l v. multiple_x g.normal g.constant l (v (pos 0 ∷ (pos 0 ∷ [])) (contains_from_in {xs = corner} here) refl)
      (v (pos 0 ∷ (pos 1 ∷ [])) (contains_from_in {xs = corner} (there (there here))) refl);
}

pub corner_y : IsFacet 2 corner facet_y
corner_y = record {
  dimension = refl;
  primitive = primitive_from_combination (pos 0 ∷ (pos 1 ∷ [])) (pos 0 ∷ (pos 1 ∷ [])) refl;
  nonnegative = three (λ p. pos 0 ≤ℤ value facet_y p) (omega (arith, ints)) (omega (arith, ints)) (omega (arith, ints));
  determined = λ g l v. multiple_y g.normal g.constant l (v (pos 0 ∷ (pos 0 ∷ [])) (contains_from_in {xs = corner} here) refl)
      (v (pos 1 ∷ (pos 0 ∷ [])) (contains_from_in {xs = corner} (there here)) refl);
}

pub corner_xy : IsFacet 2 corner facet_xy
corner_xy = record {
  dimension = refl;
  primitive = primitive_from_combination (negsuc 0 ∷ (pos 0 ∷ [])) (negsuc 0 ∷ (negsuc 0 ∷ [])) refl;
  nonnegative = three (λ p. pos 0 ≤ℤ value facet_xy p) (omega (arith, ints)) (omega (arith, ints)) (omega (arith, ints));
  determined = λ g l v. multiple_xy g.normal g.constant l (v (pos 1 ∷ (pos 0 ∷ [])) (contains_from_in {xs = corner} (there here)) refl)
      (v (pos 0 ∷ (pos 1 ∷ [])) (contains_from_in {xs = corner} (there (there here))) refl);
}

-- x + y + (1 - x - y) = 1
one_sums : (x : List ℤ) (d : ℤ) → pos 1 *ℤ value_over one x d ≡ total_over (facet_x ∷ (facet_y ∷ (facet_xy ∷ []))) x d
one_sums [] d = omega (arith, ints)
one_sums (a ∷ []) d = omega (arith, ints)
one_sums (a ∷ (b ∷ rest)) d = omega (arith, ints)

pub corner_one : IsSumOfFacets 2 corner one
corner_one = record {
  multiplier = 1;
  positive = omega arith;
  summands = facet_x ∷ (facet_y ∷ (facet_xy ∷ []));
  are_facets = three (IsFacet 2 corner) corner_x corner_y corner_xy;
  sums = one_sums;
}

-- a function that vanishes at the corners is constant
entries_zero : (normal : List ℤ) (c : ℤ) → length normal ≡ 2 → Vanishes corner (function_of normal c) → (k : ℕ) → entry normal k ≡ pos 0
entries_zero [] c l v k = refl
entries_zero (a ∷ []) c l v k = absurd (omega arith)
entries_zero (a ∷ (b ∷ [])) c l v zero =
    let first = v 0 (pos 0 ∷ (pos 0 ∷ [])) (omega arith) in
    let second = v 1 (pos 0 ∷ (pos 0 ∷ [])) (omega arith) in
    omega (arith, ints)
entries_zero (a ∷ (b ∷ [])) c l v (suc zero) =
    let first = v 0 (pos 0 ∷ (pos 0 ∷ [])) (omega arith) in
    let second = v 2 (pos 0 ∷ (pos 0 ∷ [])) (omega arith) in
    omega (arith, ints)
entries_zero (a ∷ (b ∷ [])) c l v (suc (suc k)) = refl
entries_zero (a ∷ (b ∷ (d ∷ rest))) c l v k = absurd (omega arith)

-- so they aren't flat
pub corner_solid : AreSolid 2 corner
corner_solid = record {
  coordinates = omega arith;
  dimension = three (λ p. length p ≡ 2) refl refl refl;
  solid = λ flat. flat.nonconstant.1
      (entries_zero flat.function.normal flat.function.constant flat.dimension flat.vanishes flat.nonconstant.0);
}
