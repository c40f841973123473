-- Sums of nonnegative functions: the sum of those of a list that are 0 at a place is 0 there, and among the points only where all of them are.
use Rattle.std.proofs.Common.{◌≡◌, ◌≢◌, ℕ, List, [], ◌∷◌, length, ℤ, pos, ◌+ℤ◌, ◌*ℤ◌, ◌≤ℤ◌, ◌⊎◌, inl, inr, refl, sym, ◌∙◌, arith}
use Rattle.lattice_theory.specs.Vector.{dot}
use Rattle.lattice_theory.specs.Affine.{Affine, value, value_over, IsNonnegative}
use Rattle.lattice_theory.specs.Facet.{IsFacet}
use Rattle.lattice_theory.proofs.Integers.{linear, products_out, zero_or_not, one-*ℤ}
use Rattle.lattice_theory.proofs.Members.{In, here, there, Each, more, each_weaker}
use Rattle.lattice_theory.proofs.Vectors.{zeros, length-zeros, dot-zeros}
use Rattle.lattice_theory.proofs.Functions.{mixed, length-mixed, value-mixed, value_over-mixed}
use Rattle.facet_theory.proofs.Signs.{nonnegative_same, nonnegative_sum, zero_sum, terms_zero, nonnegative_at}

-- a function of n coordinates that is nonnegative on the points
pub record IsSupporting (n : ℕ) (points : List (List ℤ)) (f : Affine) : Type 0 where
  pub dimension : length f.normal ≡ n
  pub nonnegative : IsNonnegative points f

-- facets are such functions
pub facet_supports : (n : ℕ) (points : List (List ℤ)) (f : Affine) → IsFacet n points f → IsSupporting n points f
facet_supports n points f facet = record { dimension = facet.dimension; nonnegative = facet.nonnegative }

-- the sum of the functions of a list that are 0 at x/d
pub record ZeroSum (n : ℕ) (points : List (List ℤ)) (fs : List Affine) (x : List ℤ) (d : ℤ) : Type 0 where
  pub function : Affine
  pub dimension : length function.normal ≡ n
  pub zero_there : value_over function x d ≡ pos 0
  pub nonnegative : (q : List ℤ) → In q points → pos 0 ≤ℤ value function q
  pub all : (q : List ℤ) → In q points → value function q ≡ pos 0 → (f : Affine) → In f fs → value_over f x d ≡ pos 0
      → value f q ≡ pos 0

-- the empty sum
no_sum : (n : ℕ) (points : List (List ℤ)) (x : List ℤ) (d : ℤ) → ZeroSum n points [] x d
no_sum n points x d = record {
  function = record { normal = zeros n; constant = pos 0 };
  dimension = length-zeros n;
  zero_there = over (dot (zeros n) x) (dot-zeros n x);
  nonnegative = λ q i. at_least (dot (zeros n) q) (dot-zeros n q);
  all = λ q i z f j. elim j [ ];
}
  where
    over : (a : ℤ) → a ≡ pos 0 → a +ℤ d *ℤ pos 0 ≡ pos 0
    over a e = rw e (simp products_out)

    at_least : (a : ℤ) → a ≡ pos 0 → pos 0 ≤ℤ (a +ℤ pos 0)
    at_least a e = omega (arith, linear)

-- a function that isn't 0 at the place adds nothing
skip_summand : (n : ℕ) (points : List (List ℤ)) (f : Affine) (fs : List Affine) (x : List ℤ) (d : ℤ) → value_over f x d ≢ pos 0
    → ZeroSum n points fs x d → ZeroSum n points (f ∷ fs) x d
skip_summand n points f fs x d n' t = record {
  function = t.function;
  dimension = t.dimension;
  zero_there = t.zero_there;
  nonnegative = t.nonnegative;
  all = all;
}
  where
    all : (q : List ℤ) → In q points → value t.function q ≡ pos 0 → (g : Affine) → In g (f ∷ fs) → value_over g x d ≡ pos 0 → value g q ≡ pos 0
    all q i z g here e = absurd (n' e)
    all q i z g (there j) e = t.all q i z g j e

-- a function that is 0 there is added
add_summand : (n : ℕ) (points : List (List ℤ)) (f : Affine) (fs : List Affine) (x : List ℤ) (d : ℤ) → IsSupporting n points f
    → value_over f x d ≡ pos 0 → ZeroSum n points fs x d → ZeroSum n points (f ∷ fs) x d
add_summand n points f fs x d supports e t = record {
  function = g;
  dimension = length-mixed n (pos 1) f (pos 1) t.function supports.dimension t.dimension;
  zero_there = value_over-mixed (pos 1) f (pos 1) t.function x d ∙ plain (value_over f x d) (value_over t.function x d)
      ∙ zero_sum e t.zero_there;
  nonnegative = λ q i. nonnegative_same (sym (values q)) (nonnegative_sum (nonnegative_at points f supports.nonnegative i)
      (t.nonnegative q i));
  all = all;
}
  where
    g : Affine
    g = mixed (pos 1) f (pos 1) t.function

    plain : (a b : ℤ) → pos 1 *ℤ a +ℤ pos 1 *ℤ b ≡ a +ℤ b
    plain a b = rw (one-*ℤ a, one-*ℤ b) refl

    values : (q : List ℤ) → value g q ≡ value f q +ℤ value t.function q
    values q = value-mixed (pos 1) f (pos 1) t.function q ∙ plain (value f q) (value t.function q)

    parts : (q : List ℤ) → In q points → value g q ≡ pos 0 → (value f q ≡ pos 0) × (value t.function q ≡ pos 0)
    parts q i z = terms_zero (value f q) (value t.function q) (nonnegative_at points f supports.nonnegative i) (t.nonnegative q i)
        (sym (values q) ∙ z)

    all : (q : List ℤ) → In q points → value g q ≡ pos 0 → (h : Affine) → In h (f ∷ fs) → value_over h x d ≡ pos 0 → value h q ≡ pos 0
    all q i z h here e' = (parts q i z).0
    all q i z h (there j) e' = t.all q i (parts q i z).1 h j e'

-- the sum for each list of such functions
pub sum_at : (n : ℕ) (points : List (List ℤ)) (fs : List Affine) → Each (IsSupporting n points) fs → (x : List ℤ) (d : ℤ)
    → ZeroSum n points fs x d
sum_at n points [] h x d = no_sum n points x d
sum_at n points (f ∷ fs) (more supports rest) x d = by (zero_or_not (value_over f x d)) (sum_at n points fs rest x d)
  where
    by : (value_over f x d ≡ pos 0) ⊎ (value_over f x d ≢ pos 0) → ZeroSum n points fs x d → ZeroSum n points (f ∷ fs) x d
    by (inl e) t = add_summand n points f fs x d supports e t
    by (inr n') t = skip_summand n points f fs x d n' t

-- and of facets
pub facet_sum_at : (n : ℕ) (points : List (List ℤ)) (fs : List Affine) → Each (IsFacet n points) fs → (x : List ℤ) (d : ℤ)
    → ZeroSum n points fs x d
facet_sum_at n points fs facets x d = sum_at n points fs (each_weaker (facet_supports n points) facets) x d
