-- Numerators with the same coefficients tell the same numbers.
use Rattle.std.proofs.Common.{◌≡◌, ℕ, ◌+◌, ◌-◌, ◌==◌, List, [], ◌∷◌, ◌++◌, map, flat_map, ℤ, pos, ◌*ℤ◌, refl, sym, ap, ap₂, ◌∙◌, subst}
use Rattle.std.proofs.Math.Bool.{cond}
use Rattle.std.proofs.lemmas.List.Concat.{flat_map-cons}
use Rattle.std.specs.List.{range_with_len}
use Rattle.polynomial_theory.specs.Sums.{sign}
use Rattle.polynomial_theory.proofs.Sums.{sum_same}
use Rattle.small_poly.specs.Tables.{laurent_of}
use Rattle.stringy.specs.Numbers.{EState, number_at, hodge_at, line_sum, hodge_line, hodge_above}
use Rattle.nef_numbers.specs.Laws.{TellTheSame}

-- the same values
map_same : (f g : ℕ → ℤ) → ((x : ℕ) → f x ≡ g x) → (xs : List ℕ) → map f xs ≡ map g xs
map_same f g h [] = refl
map_same f g h (x ∷ xs) = ap₂ (λ (z : ℤ) (zs : List ℤ). z ∷ zs) (h x) (map_same f g h xs)

lists_same : (f g : ℕ → List ℤ) → ((x : ℕ) → f x ≡ g x) → (xs : List ℕ) → flat_map f xs ≡ flat_map g xs
lists_same f g h [] = refl
lists_same f g h (x ∷ xs) = flat_map-cons f x xs ∙ ap₂ (λ (y ys : List ℤ). y ++ ys) (h x) (lists_same f g h xs) ∙ sym (flat_map-cons g x xs)

abbrev told : ℕ → ℕ → List ℤ → EState
told dim codim numerator = record { dim = dim; codim = codim; numerator = numerator }

module _ (dim codim : ℕ) (xs ys : List ℤ) (h : (p : ℤ) (q : ℕ) → laurent_of xs p q ≡ laurent_of ys p q) where
  numbers_same : (p q : ℕ) → number_at (told dim codim xs) p q ≡ number_at (told dim codim ys) p q
  numbers_same p q = h (pos (p + codim)) (q + codim)

  hodge_same : (p q : ℕ) → hodge_at (told dim codim xs) p q ≡ hodge_at (told dim codim ys) p q
  hodge_same p q = ap (λ (z : ℤ). sign (p + q) *ℤ z) (numbers_same p q)

  line_same : (p : ℕ) → hodge_line (told dim codim xs) p ≡ hodge_line (told dim codim ys) p
  line_same p = map_same (hodge_at (told dim codim xs) p) (hodge_at (told dim codim ys) p) (hodge_same p) (range_with_len 0 (dim + 1))

  told_same : TellTheSame (told dim codim xs) (told dim codim ys)
  told_same = record {
    dim = refl;
    first = ap₂ (λ (zs us : List ℤ). cond (dim == 1) zs us) (ap (λ (z : ℤ). z ∷ []) (hodge_same 1 0))
        (map_same (hodge_above (told dim codim xs)) (hodge_above (told dim codim ys)) (λ p. hodge_same p 1) (range_with_len 1 (dim - 1)));
    lines = lists_same (hodge_line (told dim codim xs)) (hodge_line (told dim codim ys)) line_same (range_with_len 0 (dim + 1));
    euler = sum_same (range_with_len 0 (dim + 1)) (line_sum (told dim codim xs)) (line_sum (told dim codim ys))
        (λ p. sum_same (range_with_len 0 (dim + 1)) (number_at (told dim codim xs) p) (number_at (told dim codim ys) p) (numbers_same p));
  }

pub tell_the_same : (e f : EState) → e.dim ≡ f.dim → e.codim ≡ f.codim
    → ((p : ℤ) (q : ℕ) → laurent_of e.numerator p q ≡ laurent_of f.numerator p q) → TellTheSame e f
tell_the_same e f d c h = subst (TellTheSame e) (ap₂ (λ (m n : ℕ). told m n f.numerator) d c) (told_same e.dim e.codim e.numerator f.numerator h)
