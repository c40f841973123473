-- Exponents as integers.
use Rattle.std.specs.List.{All}
use Rattle.std.specs.Prelude.{ℤ, pos, negsuc, ◌≤ℤ◌}
use Rattle.std.proofs.Common.{◌≡◌, ℕ, zero, suc, ◌<◌, List, [], ◌∷◌, length, map, refl, sym, ap, ◌∙◌, subst, arith}
use Rattle.std.proofs.lemmas.List.{length-map}
use Rattle.std.proofs.lemmas.Int.{ints}
use Rattle.std.proofs.lemmas.List.Elements.{All-nil, All-cons, All-head, All-tail}
use Rattle.lattice_theory.specs.Vector.{entry, dot}
use Rattle.lattice_theory.specs.Order.{LexLess}
use Rattle.lattice_theory.specs.Grid.{AgreesTo}
use Rattle.lattice_theory.proofs.Integers.{same_natural}
use Rattle.lattice_theory.proofs.LexPlaces.{first_difference, lex_at, same_agreeing}
use Rattle.lattice_core.specs.Weights.{Weighted, IsMonomial}
use Rattle.weight_points.specs.steps.Waits.{spent}
use Rattle.weight_points.specs.steps.Search.{Solves, exponent}

-- the entries
pub integral_entry : (a : List ℕ) (i : ℕ) → entry (map pos a) i ≡ pos (exponent a i)
integral_entry [] i = refl
integral_entry (n ∷ a) zero = refl
integral_entry (n ∷ a) (suc i) = integral_entry a i

-- vectors that begin alike
pub same_exponent : (a b : List ℕ) (k i : ℕ) → AgreesTo k (map pos a) (map pos b) → i < k → exponent b i ≡ exponent a i
same_exponent a b k i h l = same_natural _ _ (sym (integral_entry b i) ∙ (h i l ∙ integral_entry a i))

pub agree_from : (a b : List ℕ) (k : ℕ) → ((i : ℕ) → i < k → exponent b i ≡ exponent a i) → AgreesTo k (map pos a) (map pos b)
agree_from a b k h i l = integral_entry b i ∙ (ap (λ (n : ℕ). pos n) (h i l) ∙ sym (integral_entry a i))

-- a and b first differ at the place, where b has more
pub record DiffersAt (a b : List ℕ) (place : ℕ) : Type 0 where
  pub within : place < length a
  pub agrees : AgreesTo place (map pos a) (map pos b)
  pub less : exponent a place < exponent b place

-- vectors in order differ at some place
pub differs : (a b : List ℕ) → LexLess (map pos a) (map pos b) → (place : ℕ) × DiffersAt a b place
differs a b h =
    let d = first_difference (map pos a) (map pos b) h in
    let less = d.1.less in
    let within = d.1.within in
    let l = length-map a pos in
    let x = integral_entry a d.0 in
    let y = integral_entry b d.0 in
    (d.0, record { within = omega arith; agrees = d.1.agrees; less = omega (arith, ints) })

-- and back
pub comes_before : (a b : List ℕ) (place : ℕ) → length a ≡ length b → DiffersAt a b place → LexLess (map pos a) (map pos b)
comes_before a b place e d =
    let x = integral_entry a place in
    let y = integral_entry b place in
    let less = d.less in
    let l = length-map a pos in
    lex_at (map pos a) (map pos b) place (l ∙ (e ∙ sym (length-map b pos)))
    (record { within = let w = d.within in omega arith; agrees = d.agrees; less = omega (arith, ints) })

-- vectors that agree everywhere are the same
pub same_integral : (a b : List ℕ) → length a ≡ length b → AgreesTo (length a) (map pos a) (map pos b) → map pos a ≡ map pos b
same_integral a b e h =
    let l = length-map a pos in
    same_agreeing (map pos a) (map pos b) (l ∙ (e ∙ sym (length-map b pos))) (λ i k. h i (omega (arith, k)))

-- the weighted degree
pub degree_is : (weights a : List ℕ) → dot (map pos weights) (map pos a) ≡ pos (spent weights a)
degree_is [] a = refl
degree_is (w ∷ weights) [] = refl
degree_is (w ∷ weights) (x ∷ a) = let r = degree_is weights a in rw r (omega (arith, ints))

-- vectors without negative entries are exponents
pub record IsNatural (x : List ℤ) : Type 0 where
  pub exponents : List ℕ
  pub is : map pos exponents ≡ x

natural_entry : (e : ℤ) → pos 0 ≤ℤ e → (n : ℕ) × (pos n ≡ e)
natural_entry (pos n) h = (n, refl)
natural_entry (negsuc n) h = absurd (omega (arith, ints))

pub natural : (x : List ℤ) → All (λ e. pos 0 ≤ℤ e) x → IsNatural x
natural [] h = record { exponents = []; is = refl }
natural (e ∷ x) h =
    let first = natural_entry e (All-head (λ (e : ℤ). pos 0 ≤ℤ e) e x h) in
    let others = natural x (All-tail (λ (e : ℤ). pos 0 ≤ℤ e) e x h) in
    record { exponents = first.0 ∷ others.exponents; is = λ i. first.1 i ∷ others.is i }

nonnegative : (a : List ℕ) → All (λ e. pos 0 ≤ℤ e) (map pos a)
nonnegative [] = All-nil (λ (e : ℤ). pos 0 ≤ℤ e)
nonnegative (n ∷ a) = All-cons (λ (e : ℤ). pos 0 ≤ℤ e) (pos n) (map pos a) (omega (arith, ints)) (nonnegative a)

-- the solutions are the exponent vectors
pub monomial_from_solution : (systems : List Weighted) (a : List ℕ) → Solves systems a → IsMonomial systems (map pos a)
monomial_from_solution systems a s = record {
  columns = length-map a pos ∙ s.columns;
  nonnegative = nonnegative a;
  degrees = λ k d h. degree_is _ a ∙ ap (λ (n : ℕ). pos n) (s.degrees k d h);
}

pub solution_from_monomial : (systems : List Weighted) (a : List ℕ) → IsMonomial systems (map pos a) → Solves systems a
solution_from_monomial systems a m = record {
  columns = sym (length-map a pos) ∙ m.columns;
  degrees = λ k d h. same_natural _ _ (sym (degree_is _ a) ∙ m.degrees k d h);
}

-- an exponent vector is a solution
pub record IsSolution (systems : List Weighted) (x : List ℤ) : Type 0 where
  pub exponents : List ℕ
  pub is : map pos exponents ≡ x
  pub solves : Solves systems exponents

pub solution_of : (systems : List Weighted) (x : List ℤ) → IsMonomial systems x → IsSolution systems x
solution_of systems x m =
    let n = natural x m.nonnegative in
    record {
      exponents = n.exponents;
      is = n.is;
      solves = solution_from_monomial systems n.exponents (subst (IsMonomial systems) (sym n.is) m);
    }
