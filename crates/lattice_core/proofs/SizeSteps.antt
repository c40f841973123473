-- Steps of the loops that compute a size.
use Rattle.std.proofs.Common.{◌≡◌, ℕ, ◌+◌, ◌<◌, ◌≤◌, max, List, length, drop, ℤ, nat_abs, get_or, arith}
use Rattle.std.specs.Ordering.{ord_max, nat_cmp}
use Rattle.std.proofs.lemmas.Bool.Decides.{nat_tests}
use Rattle.std.proofs.lemmas.List.{drop_more, drop_all}
use Rattle.lattice_theory.specs.Vector.{entry}
use Rattle.lattice_theory.specs.Size.{reach}

-- the largest so far and the largest of what is left give the largest of all
pub reach_more : (points : List (List ℤ)) (i k so_far next : ℕ) (p : List ℤ) → k < length points → p ≡ get_or points k p
    → next ≡ max so_far (nat_abs (entry p i)) → max so_far (reach (drop k points) i) ≡ reach points i
    → max next (reach (drop (k + 1) points) i) ≡ reach points i
reach_more points i k so_far next p within is n e =
    let here : max so_far (max (nat_abs (entry p i)) (reach (drop (k + 1) points) i)) ≡ reach points i =
    rw (is) (rw (drop_more points k p within) at e) in
    omega arith

-- what `a.max(b)` gives
pub larger : (a b : ℕ) → ord_max nat_cmp a b ≡ max a b
larger a b = grind (arith, nat_tests)

-- at the end nothing is left
pub reach_all : (points : List (List ℤ)) (i k so_far : ℕ) → length points ≤ k → max so_far (reach (drop k points) i) ≡ reach points i
    → so_far ≡ reach points i
reach_all points i k so_far past e = let whole : max so_far 0 ≡ reach points i = rw (drop_all k points past) at e in omega arith
