-- The points of a run, one after the other.
use Rattle.std.specs.Prelude.{ℤ, pos, ◌+ℤ◌}
use Rattle.std.proofs.Common.{◌≡◌, ℕ, zero, suc, ◌+◌, ◌<◌, List, [], ◌∷◌, ◌++◌, length, refl, ap, ◌∙◌, arith}
use Rattle.std.proofs.lemmas.Int.{ints}
use Rattle.region_walk.specs.Walks.{run_from}
use Rattle.region_walk.proofs.Runs.{length-run_from}

run_push : (p : List ℤ) (v w : ℤ) (k : ℕ) → w ≡ v +ℤ pos k → run_from p v (suc k) ≡ run_from p v k ++ (p ++ w ∷ []) ∷ []
unfolding run_from
run_push p v w zero e = let same : v ≡ w = omega (arith, ints) in ap (λ (z : ℤ). (p ++ z ∷ []) ∷ []) same
run_push p v w (suc k) e = ap (λ (rest : List (List ℤ)). (p ++ v ∷ []) ∷ rest) (run_push p (v +ℤ pos 1) w k (omega (arith, ints)))

-- with one point more
pub run_more : (p : List ℤ) (v w : ℤ) (k : ℕ) → w ≡ v +ℤ pos k → run_from p v (k + 1) ≡ run_from p v k ++ (p ++ w ∷ []) ∷ []
run_more p v w k e = let one_more : k + 1 ≡ suc k = omega arith in ap (run_from p v) one_more ∙ run_push p v w k e

-- no point
pub run_none : (p : List ℤ) (v : ℤ) → run_from p v 0 ≡ []
unfolding run_from
run_none p v = refl

-- as many as there are
pub run_whole : (p : List ℤ) (v : ℤ) (k m : ℕ) → k ≡ length (run_from p v m) → run_from p v k ≡ run_from p v m
run_whole p v k m e = ap (run_from p v) (e ∙ length-run_from p v m)

-- a point of the run, with those before it and those behind it
pub run_split : (p : List ℤ) (v w : ℤ) (k m : ℕ) → w ≡ v +ℤ pos k → k < m
    → (rest : List (List ℤ)) × (run_from p v m ≡ run_from p v k ++ (p ++ w ∷ []) ∷ rest)
unfolding run_from
run_split p v w k zero e l = absurd (omega arith)
run_split p v w zero (suc m) e l = let same : v ≡ w = omega (arith, ints) in
    (run_from p (v +ℤ pos 1) m, ap (λ (z : ℤ). (p ++ z ∷ []) ∷ run_from p (v +ℤ pos 1) m) same)
run_split p v w (suc k) (suc m) e l =
    let s = run_split p (v +ℤ pos 1) w k m (omega (arith, ints)) (omega arith) in
    (s.0, ap (λ (rest : List (List ℤ)). (p ++ v ∷ []) ∷ rest) s.1)
