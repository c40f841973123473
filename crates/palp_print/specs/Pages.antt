-- What a call does to a page. This project's own.
use Rattle.std.specs.Prelude.{◌≡◌, ℕ, List, ◌++◌, Result, Ok, Err}
use Rattle.lattice_core.specs.declared.faults.NoMemory.{NoMemory}

-- the text was appended, or the page stays as it was
abbrev pub Appends : List ℕ → List ℕ → List ℕ → Result (Unit {0}) NoMemory → Type 0
Appends text before now (Ok done) = now ≡ before ++ text
Appends text before now (Err fault) = now ≡ before
