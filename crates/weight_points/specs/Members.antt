-- The exponent vectors of weight systems as one list (math/0204356: weight systems and their monomials), and what is given of it. This
-- project's own.
use Rattle.std.specs.Prelude.{◌≡◌, ℕ, ◌+◌, min, Bool, false, true, List, ◌∷◌, ◌++◌, length, ℤ}
use Rattle.lattice_theory.specs.Order.{Lists, LexLess}
use Rattle.lattice_core.specs.Weights.{Weighted, IsMonomial}

-- all exponent vectors of the systems, each once, in lexicographic order
abbrev pub AreMonomials : List Weighted → List (List ℤ) → Type 0
AreMonomials systems members = Lists LexLess (IsMonomial systems) members

-- what contracts see of a walk through the exponent vectors: the systems, and how many vectors were given
pub record Walked : Type 0 where
  pub systems : List Weighted
  pub given : ℕ

-- in the list of all exponent vectors, a is the one that has so many before it
pub record IsMonomialAt (systems : List Weighted) (place : ℕ) (a : List ℤ) : Type 0 where
  pub before : List (List ℤ)
  pub after : List (List ℤ)
  pub are_monomials : AreMonomials systems (before ++ a ∷ after)
  pub count : length before ≡ place

-- there are so many exponent vectors
pub record HasMonomials (systems : List Weighted) (count : ℕ) : Type 0 where
  pub members : List (List ℤ)
  pub are_monomials : AreMonomials systems members
  pub count_is : length members ≡ count

-- a step of the walk: with the answer true the next exponent vector is given, and with the answer false all were given and nothing changes
abbrev pub GivesNext : Walked → Walked → List ℤ → List ℤ → Bool → Type 0
GivesNext old new out_old out_new true = (new.systems ≡ old.systems) × (new.given ≡ old.given + 1)
    × IsMonomialAt old.systems old.given out_new
GivesNext old new out_old out_new false = (new ≡ old) × (out_new ≡ out_old) × HasMonomials old.systems old.given

-- the number of exponent vectors, or limit + 1 where there are more than `limit`
pub record CountsMonomials (systems : List Weighted) (limit counted : ℕ) : Type 0 where
  pub members : List (List ℤ)
  pub are_monomials : AreMonomials systems members
  pub counted_is : counted ≡ min (length members) (limit + 1)

-- the first so many exponent vectors, in order
pub record AreFirst (systems : List Weighted) (count : ℕ) (xs : List (List ℤ)) : Type 0 where
  pub later : List (List ℤ)
  pub are_monomials : AreMonomials systems (xs ++ later)
  pub count_is : length xs ≡ count
