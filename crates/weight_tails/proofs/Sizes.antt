-- How large tails are.
use Rattle.std.proofs.Common.{◌≡◌, ℕ, ◌+◌, ◌*◌, ◌≤◌, List, [], ◌∷◌, length, map, drop, ℤ, pos, ◌-ℤ◌, nat_abs, sym, ap, ◌∙◌, subst, arith}
use Rattle.std.proofs.lemmas.Int.{ints}
use Rattle.std.proofs.lemmas.List.{length-map}
use Rattle.std.proofs.Math.Nat.{mul-le-mul_right}
use Rattle.lattice_theory.specs.Size.{absolute_sum}
use Rattle.lattice_theory.proofs.Members.{Each, more, each_from_all}
use Rattle.lattice_core.specs.Weights.{Weighted, monomial_point, total}
use Rattle.weight_points.specs.steps.Waits.{spent}
use Rattle.weight_points.proofs.Integral.{solution_of}
use Rattle.weight_tails.specs.steps.Listing.{lowered}
use Rattle.weight_tails.specs.Laws.{TailsAreSmall}
use Rattle.weight_tails.proofs.Monomials.{lowered_point}

-- exponents sum to at most what they take of positive weights
exponents_bound : (weights a : List ℕ) → Each (λ w. 1 ≤ w) weights → length a ≡ length weights → total a ≤ spent weights a
exponents_bound [] [] h e = omega arith
exponents_bound [] (x ∷ a) h e = absurd (omega (arith, e))
exponents_bound (w ∷ weights) [] h e = omega arith
exponents_bound (w ∷ weights) (x ∷ a) (more p rest) e =
    let step : 1 * x ≤ w * x = mul-le-mul_right x p in omega (arith, step, exponents_bound weights a rest (omega (arith, e)))

-- exponents less 1
lowered_entry : (e : ℕ) → nat_abs (pos e -ℤ pos 1) ≤ e + 1
lowered_entry e = omega (arith, ints)

lowered_small : (a : List ℕ) → absolute_sum (map lowered a) ≤ total a + length a
lowered_small [] = omega arith
lowered_small (e ∷ a) = omega (arith, lowered_entry e, lowered_small a)

small : (n : ℕ) (system : Weighted) (first : ℤ) (later y : List ℤ) (a : List ℕ) → Each (λ w. 1 ≤ w) system.weights
    → length system.weights ≡ n + 1 → map pos a ≡ first ∷ later → length a ≡ length system.weights → spent system.weights a ≡ system.degree
    → y ≡ monomial_point later → (length y ≡ n) × (absolute_sum y ≤ system.degree + n)
small n system first later y [] positive columns e c t s = absurd (omega (arith, c, columns))
small n system first later y (x ∷ a) positive columns e c t s =
    let is : y ≡ map lowered a = s ∙ (ap (λ (z : List ℤ). monomial_point (drop 1 z)) (sym e) ∙ sym (lowered_point a)) in
    let entries : length (map lowered a) ≡ n = let l = length-map a lowered in omega (arith, c, columns) in
    let bound : absolute_sum (map lowered a) ≤ system.degree + n =
    omega (arith, lowered_small a, exponents_bound system.weights (x ∷ a) positive c, t, c, columns) in
    (ap length is ∙ entries, subst (λ (z : List ℤ). absolute_sum z ≤ system.degree + n) (sym is) bound)

pub tails_are_small_lem : TailsAreSmall
tails_are_small_lem n system tails has y c =
    let tail = (has.members y).0 c in
    let s = solution_of (system ∷ []) (tail.first ∷ tail.later) tail.monomial in
    small n system tail.first tail.later y s.exponents (each_from_all _ system.weights has.positive) has.summed.columns s.is s.solves.columns
    (s.solves.degrees 0 system (omega arith)) tail.same
