-- Searches for the next list of numbers in lexicographic order. This project's own.
use Rattle.std.specs.Prelude.{◌≡◌, ℕ, ◌<◌, ◌≤◌, Bool, true, false, List, map, pos}
use Rattle.lattice_theory.specs.Grid.{LexAtMost}
use Rattle.walk_theory.specs.Walks.{NumbersLess}
use Rattle.nef_theory.specs.Nef.{part_at}

-- c begins with the same k numbers as a
abbrev pub AgreesOn : ℕ → List ℕ → List ℕ → Type 0
AgreesOn k a c = (e : ℕ) → e < k → part_at c e ≡ part_at a e

-- x comes before y, or is y
abbrev pub AtMost : List ℕ → List ℕ → Type 0
AtMost x y = LexAtMost (map pos x) (map pos y)

-- c is a list of which P holds; it begins like a up to the place, and has at least `from` there
pub record IsCompletion (P : List ℕ → Type 0) (place from : ℕ) (a c : List ℕ) : Type 0 where
  pub holds : P c
  pub agrees : AgreesOn place a c
  pub above : from ≤ part_at c place

-- with the answer true `new` is the first completion of `old`; with the answer false there is none, and `new` begins like `old`
abbrev pub Completes : (List ℕ → Type 0) → ℕ → ℕ → List ℕ → List ℕ → Bool → Type 0
Completes P place from old new true = IsCompletion P place from old new × ((c : List ℕ) → IsCompletion P place from old c → AtMost new c)
Completes P place from old new false = AgreesOn place old new × ((c : List ℕ) → IsCompletion P place from old c → ⊥)

-- of the lists of which P holds, y is the first that comes after x
pub record IsNextList (P : List ℕ → Type 0) (x y : List ℕ) : Type 0 where
  pub holds : P y
  pub later : NumbersLess x y
  pub first : (z : List ℕ) → P z → NumbersLess x z → AtMost y z

-- a step in order: with the answer true `new` is the next one, and with the answer false none comes after `old`
abbrev pub FollowsOn : (List ℕ → Type 0) → List ℕ → List ℕ → Bool → Type 0
FollowsOn P old new true = IsNextList P old new
FollowsOn P old new false = (z : List ℕ) → P z → NumbersLess old z → ⊥

-- with the answer true `new` is the first list of which P holds, and with the answer false there is none
abbrev pub Begins : (List ℕ → Type 0) → List ℕ → Bool → Type 0
Begins P new true = P new × ((c : List ℕ) → P c → AtMost new c)
Begins P new false = (c : List ℕ) → P c → ⊥

-- the first of these steps, or a further one
abbrev pub Steps : (List ℕ → Type 0) → Bool → List ℕ → List ℕ → Bool → Type 0
Steps P true old new found = FollowsOn P old new found
Steps P false old new found = Begins P new found
