-- The dimension of points is that of the first one.
use Rattle.std.proofs.Common.{◌≡◌, ℕ, ◌<◌, List, [], ◌∷◌, length, get_or, ℤ, sym, ap, subst, arith}
use Rattle.lattice_theory.specs.Vector.{HaveDimension}
use Rattle.lattice_core.specs.Dimensions.{dimension_of}

-- by the first point
pub dimension_first : (points : List (List ℤ)) (p : List ℤ) → 0 < length points → p ≡ get_or points 0 p → length p ≡ dimension_of points
dimension_first [] p some is = absurd (omega arith)
dimension_first (q ∷ points) p some is = ap length is

-- points of one dimension have the first one's
pub dimension_is : (n : ℕ) (points : List (List ℤ)) → 0 < length points → HaveDimension n points → dimension_of points ≡ n
dimension_is n [] some d = absurd (omega arith)
dimension_is n (p ∷ points) some d = d 0 p some

-- which is that of all
pub own_dimension : (n : ℕ) (points : List (List ℤ)) → HaveDimension n points → HaveDimension (dimension_of points) points
own_dimension n [] d = λ k x h. absurd (omega arith)
own_dimension n (p ∷ points) d = subst (λ (m : ℕ). HaveDimension m (p ∷ points)) (sym (d 0 p (omega arith))) d
