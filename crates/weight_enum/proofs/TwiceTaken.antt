-- A system takes its degree with each of its weights twice.
use Rattle.std.proofs.Common.{◌≡◌, ℕ, ◌+◌, ◌*◌, ◌<◌, ◌≤◌, List, length, map, get_or, ℤ, pos, ◌+ℤ◌, ◌*ℤ◌, ◌≤ℤ◌, All, refl, subst, arith}
use Rattle.std.proofs.lemmas.Int.{ints}
use Rattle.lattice_theory.specs.Vector.{dot}
use Rattle.lattice_core.specs.Weights.{weighted_degree}
use Rattle.interior_point_theory.specs.Interior.{HasInteriorPoint, system_of}
use Rattle.interior_point_theory.proofs.ExponentsAboveOne.{taken_twice_lem}
use Rattle.weight_points.specs.steps.Waits.{spent}
use Rattle.weight_points.proofs.Integral.{natural, degree_is}
use Rattle.weight_tails.specs.steps.Levels.{TakesTwice}

whole : (s w d : ℕ) (x : ℤ) → x ≡ pos s → x +ℤ pos 2 *ℤ pos w ≡ pos d → s + 2 * w ≡ d
whole s w d x h e = let e' = rw h at e in omega (arith, ints, e')

pub none_twice : (degree : ℕ) (weights : List ℕ) (i : ℕ) → All (λ w. 1 ≤ w) weights → i < length weights → 1 < length weights
    → (TakesTwice degree weights i → ⊥) → HasInteriorPoint (system_of degree weights) → ⊥
none_twice degree weights i positive within some none interior = taken_twice_lem (system_of degree weights) i positive within some by interior
  where
    by : (b : List ℤ) → length b ≡ length weights → All (λ e. pos 0 ≤ℤ e) b
        → weighted_degree (system_of degree weights) b +ℤ pos 2 *ℤ pos (get_or weights i 0) ≡ pos degree → ⊥
    by b columns nonnegative e =
        let a = natural b nonnegative in
        let d : dot (map pos weights) b ≡ pos (spent weights a.exponents) =
        subst (λ (x : List ℤ). dot (map pos weights) x ≡ pos (spent weights a.exponents)) a.is (degree_is weights a.exponents) in
        none (spent weights a.exponents, (whole _ _ _ _ d e, (a.exponents, refl)))
