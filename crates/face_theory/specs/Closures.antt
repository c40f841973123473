-- A test of faces that computes. This project's own.
use Rattle.std.specs.Prelude.{ℕ, zero, suc, Bool, true, not, ◌&&◌, ◌||◌, List}
use Rattle.face_theory.specs.Sets.{in_set, numbers_with}
use Rattle.face_theory.specs.Faces.{TightRelation}

-- whether all numbers below n pass a test
abbrev pub all_below : ℕ → (ℕ → Bool) → Bool
all_below zero test = true
all_below (suc n) test = test 0 && all_below n (λ i. test (suc i))

-- whether every member of the set is tight on the function
abbrev pub are_tight : TightRelation → List Bool → ℕ → Bool
are_tight R set f = all_below R.members (λ m. not (in_set set m) || R.tight m f)

-- the members that are tight on each function on which all of the set are tight
abbrev pub closure : TightRelation → List Bool → List Bool
closure R set = numbers_with R.members (λ m. all_below R.functions (λ f. not (are_tight R set f) || R.tight m f))
