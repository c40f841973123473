-- The law of guided walks, as a statement.
use Rattle.std.specs.Prelude.{◌≡◌, ℕ, Bool, true, List, []}
use Rattle.lattice_theory.specs.Order.{Lists}
use Rattle.walk_theory.specs.Walks.{NumbersLess, Guide, walk, LosesNone, IsSought}

-- the walk of a guide that loses none lists all lists of n numbers that are sought, each once, in order
abbrev pub WalkListsSought : Type 0
WalkListsSought = (sought reached : List ℕ → Bool) (n : ℕ) (g : Guide)
    → LosesNone (λ x. sought x ≡ true) (λ b. reached b ≡ true) n g
    → Lists NumbersLess (IsSought (λ x. sought x ≡ true) n) (walk g n [])
