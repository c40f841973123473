-- Numbers with spaces or commas between them, and what is made of them alone. This project's own.
use Rattle.std.specs.Prelude.{ℕ, List, [], ◌∷◌, ◌++◌, codes}
use Rattle.std.specs.Fmt.{decimal, signed_decimal}
use Rattle.std.specs.List.{flat_map}
use Rattle.lattice_theory.specs.Affine.{Affine}

-- the texts of some members, each with a space behind it
abbrev pub before_spaces : {X : Type 0} → (X → List ℕ) → List X → List ℕ
before_spaces text members = flat_map (λ x. text x ++ codes " ") members

-- each with a mark in front of it
abbrev pub behind : {X : Type 0} → List ℕ → (X → List ℕ) → List X → List ℕ
behind mark text members = flat_map (λ x. mark ++ text x) members

-- with a mark between each two
abbrev pub separated : {X : Type 0} → List ℕ → (X → List ℕ) → List X → List ℕ
separated mark text [] = []
separated mark text (x ∷ members) = text x ++ behind mark text members

-- each with a space in front of it
abbrev pub behind_spaces : {X : Type 0} → (X → List ℕ) → List X → List ℕ
behind_spaces text members = behind (codes " ") text members

-- with a space between each two, and with a comma between each two
abbrev pub spaced : {X : Type 0} → (X → List ℕ) → List X → List ℕ
spaced text members = separated (codes " ") text members

abbrev pub with_commas : {X : Type 0} → (X → List ℕ) → List X → List ℕ
with_commas text members = separated (codes ",") text members

-- a function: its normal's entries, each with a space behind it, and then its constant
abbrev pub function_text : Affine → List ℕ
function_text f = before_spaces signed_decimal f.normal ++ signed_decimal f.constant

-- a line of two numbers and a title
abbrev pub heading : ℕ → ℕ → List ℕ → List ℕ
heading first second title = decimal first ++ (codes " " ++ (decimal second ++ (codes " " ++ (title ++ codes "\n"))))

-- a line of a title and two numbers
abbrev pub titled : List ℕ → ℕ → ℕ → List ℕ
titled title first second = title ++ (codes " " ++ (decimal first ++ (codes " " ++ (decimal second ++ codes "\n"))))
