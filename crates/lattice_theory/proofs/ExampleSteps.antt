-- Steps that the worked examples share.
use Rattle.std.proofs.Common.{◌≡◌, ◌≢◌, Bool, true, false, cond, List, [], ◌∷◌, length, ℤ, pos, negsuc, ◌*ℤ◌, ◌≤ℤ◌, refl, sym, arith}
use Rattle.std.proofs.lemmas.Int.{ints}
use Rattle.std.proofs.lemmas.List.Elements.{All-nil, All-cons}
use Rattle.std.proofs.lemmas.Bool.{true≢false}
use Rattle.lattice_theory.specs.Vector.{IsPrimitive}
use Rattle.lattice_theory.specs.Affine.{Affine, value, IsNonnegative, VanishesWith, IsMultiple}
use Rattle.lattice_theory.specs.Facet.{IsFacet}
use Rattle.lattice_theory.specs.Examples.{on_line, in_plane, in_space, function}

-- a vector of 1, 2 or 3 entries
pub by_one : (P : List ℤ → Type 0) → ((a : ℤ) → P (a ∷ [])) → (x : List ℤ) → length x ≡ 1 → P x
by_one P h [] e = absurd (omega (arith, e))
by_one P h (a ∷ []) e = h a
by_one P h (a ∷ b ∷ x) e = absurd (omega (arith, e))

pub by_two : (P : List ℤ → Type 0) → ((a b : ℤ) → P (a ∷ b ∷ [])) → (x : List ℤ) → length x ≡ 2 → P x
by_two P h [] e = absurd (omega (arith, e))
by_two P h (a ∷ x) e = by_one (λ y. P (a ∷ y)) (h a) x (omega (arith, e))

pub by_three : (P : List ℤ → Type 0) → ((a b c : ℤ) → P (a ∷ b ∷ c ∷ [])) → (x : List ℤ) → length x ≡ 3 → P x
by_three P h [] e = absurd (omega (arith, e))
by_three P h (a ∷ x) e = by_two (λ y. P (a ∷ y)) (h a) x (omega (arith, e))

-- whether a number is 0 or more, and a function on each point
abbrev is_nonnegative : ℤ → Bool
is_nonnegative (pos n) = true
is_nonnegative (negsuc n) = false

abbrev pub passes : List (List ℤ) → Affine → Bool
passes [] f = true
passes (p ∷ points) f = cond (is_nonnegative (value f p)) (passes points f) false

nonnegative_number : (a : ℤ) → is_nonnegative a ≡ true → pos 0 ≤ℤ a
nonnegative_number (pos n) e = omega (arith, ints)
nonnegative_number (negsuc n) e = absurd (true≢false (sym e))

by_parts : (s t : Bool) → cond s t false ≡ true → (s ≡ true) × (t ≡ true)
by_parts true t h = (refl, h)
by_parts false t h = absurd (true≢false (sym h))

pub nonnegative_points : (points : List (List ℤ)) (f : Affine) → passes points f ≡ true → IsNonnegative points f
nonnegative_points [] f e = All-nil (λ p. pos 0 ≤ℤ value f p)
nonnegative_points (p ∷ points) f e =
    let both = by_parts (is_nonnegative (value f p)) (passes points f) e in
    All-cons (λ q. pos 0 ≤ℤ value f q) p points (nonnegative_number (value f p) both.0) (nonnegative_points points f both.1)

-- a facet of points on a line, in the plane and in space, from what it asks of functions with named entries
pub line_facet : (points : List (List ℤ)) (u k : ℤ) → IsPrimitive (on_line u) → passes points (function (on_line u) k) ≡ true
    → ((a c : ℤ) → VanishesWith points (function (on_line u) k) (function (on_line a) c)
    → IsMultiple (function (on_line a) c) (function (on_line u) k)) → IsFacet 1 points (function (on_line u) k)
line_facet points u k primitive test determined =
    let f : Affine = function (on_line u) k in
    record {
      dimension = refl;
      primitive = primitive;
      nonnegative = nonnegative_points points f test;
      determined = λ g e v. by_one (λ x. (c : ℤ) → VanishesWith points f (function x c)
          → IsMultiple (function x c) f) determined g.normal e g.constant v;
    }

pub plane_facet : (points : List (List ℤ)) (u v k : ℤ) → IsPrimitive (in_plane u v) → passes points (function (in_plane u v) k) ≡ true
    → ((a b c : ℤ) → VanishesWith points (function (in_plane u v) k) (function (in_plane a b) c)
    → IsMultiple (function (in_plane a b) c) (function (in_plane u v) k)) → IsFacet 2 points (function (in_plane u v) k)
plane_facet points u v k primitive test determined =
    let f : Affine = function (in_plane u v) k in
    record {
      dimension = refl;
      primitive = primitive;
      nonnegative = nonnegative_points points f test;
      determined = λ g e w. by_two (λ x. (c : ℤ) → VanishesWith points f (function x c)
          → IsMultiple (function x c) f) determined g.normal e g.constant w;
    }

pub space_facet : (points : List (List ℤ)) (u v w k : ℤ) → IsPrimitive (in_space u v w) → passes points (function (in_space u v w) k) ≡ true
    → ((a b c d : ℤ) → VanishesWith points (function (in_space u v w) k) (function (in_space a b c) d)
    → IsMultiple (function (in_space a b c) d) (function (in_space u v w) k)) → IsFacet 3 points (function (in_space u v w) k)
space_facet points u v w k primitive test determined =
    let f : Affine = function (in_space u v w) k in
    record {
      dimension = refl;
      primitive = primitive;
      nonnegative = nonnegative_points points f test;
      determined = λ g e z. by_three (λ x. (d : ℤ) → VanishesWith points f (function x d)
          → IsMultiple (function x d) f) determined g.normal e g.constant z;
    }

-- a multiple, by its entries
pub line_multiple : (q p a c u k : ℤ) → q ≢ pos 0 → q *ℤ a ≡ p *ℤ u → q *ℤ c ≡ p *ℤ k
    → IsMultiple (function (on_line a) c) (function (on_line u) k)
line_multiple q p a c u k nonzero first constants = record {
  left = q;
  right = p;
  nonzero = nonzero;
  normals = λ i. first i ∷ [];
  constants = constants;
}

pub plane_multiple : (q p a b c u v k : ℤ) → q ≢ pos 0 → q *ℤ a ≡ p *ℤ u → q *ℤ b ≡ p *ℤ v → q *ℤ c ≡ p *ℤ k
    → IsMultiple (function (in_plane a b) c) (function (in_plane u v) k)
plane_multiple q p a b c u v k nonzero first second constants = record {
  left = q;
  right = p;
  nonzero = nonzero;
  normals = λ i. first i ∷ second i ∷ [];
  constants = constants;
}

pub space_multiple : (q p a b c d u v w k : ℤ) → q ≢ pos 0 → q *ℤ a ≡ p *ℤ u → q *ℤ b ≡ p *ℤ v → q *ℤ c ≡ p *ℤ w → q *ℤ d ≡ p *ℤ k
    → IsMultiple (function (in_space a b c) d) (function (in_space u v w) k)
space_multiple q p a b c d u v w k nonzero first second third constants = record {
  left = q;
  right = p;
  nonzero = nonzero;
  normals = λ i. first i ∷ second i ∷ third i ∷ [];
  constants = constants;
}

-- 1 isn't 0
pub one_nonzero : pos 1 ≢ pos 0
one_nonzero e = omega (arith, ints)
