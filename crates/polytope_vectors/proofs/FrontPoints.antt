-- The dimension of the points at the front of a list.
use Rattle.std.proofs.Common.{◌≡◌, ℕ, zero, suc, ◌<◌, ◌≤◌, List, [], ◌∷◌, length, take, get_or, ℤ, refl, sym, ap, ◌∙◌, arith}
use Rattle.lattice_theory.specs.Vector.{HaveDimension}
use Rattle.lattice_core.specs.Dimensions.{dimension_of}

front_dimension : (points : List (List ℤ)) (i : ℕ) → 1 ≤ i → dimension_of (take i points) ≡ dimension_of points
front_dimension points zero h = absurd (omega arith)
front_dimension [] (suc i) h = refl
front_dimension (p ∷ points) (suc i) h = refl

-- the next point has it, too
pub next_dimension : (points front : List (List ℤ)) (i : ℕ) (p : List ℤ) → HaveDimension (dimension_of points) points → 1 ≤ i → i < length points
    → p ≡ get_or points i p → front ≡ take i points → length p ≡ dimension_of front
next_dimension points front i p d some h is e = ap length is ∙ d i p h ∙ sym (front_dimension points i some) ∙ ap dimension_of (sym e)
