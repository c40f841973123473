-- The entries of exponent vectors: none is negative, and none is above the greatest degree.
use Rattle.std.specs.List.{All}
use Rattle.std.specs.Prelude.{ℤ, pos, ◌≤ℤ◌}
use Rattle.std.proofs.Common.{ℕ, suc, ◌<◌, ◌≤◌, List, [], ◌∷◌, length, map, subst, arith}
use Rattle.std.proofs.lemmas.Int.{ints}
use Rattle.lattice_theory.proofs.Members.{Each, empty, more, all_from_each}
use Rattle.lattice_core.specs.Weights.{Weighted, AreWellFormed, AreWithinLimits, IsMonomial}
use Rattle.lattice_core.specs.declared.limits.TheConstants.{MOST_DEGREE}
use Rattle.weight_points.specs.steps.Search.{exponent}
use Rattle.weight_points.proofs.Weighing.{solution_small}
use Rattle.weight_points.proofs.Integral.{solution_of}

-- the entries of natural numbers up to a bound
each_small : (m : ℕ) (b : List ℕ) → ((i : ℕ) → i < length b → exponent b i ≤ m) → Each (λ e. (pos 0 ≤ℤ e) × (e ≤ℤ pos m)) (map pos b)
each_small m [] h = empty
each_small m (n ∷ b) h =
    more (omega (arith, ints), at n (h 0 (omega arith))) (each_small m b (λ i k. h (suc i) (omega (arith, k))))
  where
    at : (n : ℕ) → n ≤ m → pos n ≤ℤ pos m
    at n h = omega (arith, ints)

pub entries_small : (systems : List Weighted) (a : List ℤ) → AreWellFormed systems → All (λ s. s.degree ≤ MOST_DEGREE) systems
    → IsMonomial systems a
    → All (λ e. (pos 0 ≤ℤ e) × (e ≤ℤ pos MOST_DEGREE)) a
entries_small systems a formed small m =
    let s = solution_of systems a m in
    subst (All (λ e. (pos 0 ≤ℤ e) × (e ≤ℤ pos MOST_DEGREE))) s.is
    (all_from_each (each_small MOST_DEGREE s.exponents (solution_small systems s.exponents formed small s.solves)))

-- the law
pub exponents_small : (systems : List Weighted) (a : List ℤ) → AreWellFormed systems → AreWithinLimits systems → IsMonomial systems a
    → All (λ e. (pos 0 ≤ℤ e) × (e ≤ℤ pos MOST_DEGREE)) a
exponents_small systems a formed limits m = entries_small systems a formed limits.degrees m
