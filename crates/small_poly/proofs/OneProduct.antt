-- One coefficient of c u^r A(v/u) B(uv), as the code makes it.
use Rattle.std.proofs.Common.{◌≡◌, ℕ, ◌+◌, ◌-◌, Bool, Some, List, ℤ, pos, ◌*ℤ◌, sym, ap, ◌∙◌, arith}
use Rattle.lattice_theory.specs.Vector.{entry}
use Rattle.polynomial_theory.proofs.Places.{place_found}
use Rattle.small_poly.specs.Tables.{unit_of, term}
use Rattle.small_poly.specs.TermSteps.{IsPlace}

-- the product at a place
pub term_from : (negative : Bool) (r p q a : ℕ) (x y : List ℤ) (l m n z : ℤ) → IsPlace r p q (Some a) → l ≡ entry x a → m ≡ entry y (q - a) → n ≡ l *ℤ m
    → z ≡ unit_of negative *ℤ n → z ≡ term (unit_of negative) r (entry x) (entry y) (pos p) q
term_from negative r p q a x y l m n z w el em en ez = ez ∙ ap (λ (t : ℤ). unit_of negative *ℤ t) (en ∙ ap (λ (t : ℤ). t *ℤ m) el
    ∙ ap (λ (t : ℤ). entry x a *ℤ t) (em ∙ ap (entry y) (rest q a w.0 w.1)))
    ∙ sym (place_found (unit_of negative) r p (entry x) (entry y) a w.0 w.2)
    ∙ ap (λ (t : ℕ). term (unit_of negative) r (entry x) (entry y) (pos p) t) w.1
  where
    rest : (q a b : ℕ) → a + b ≡ q → q - a ≡ b
    rest q a b e = omega arith
