-- Orders, and lists that are told by what they contain. This project's own.
use Rattle.std.specs.Prelude.{◌≡◌, ◌⊎◌, ◌↔◌, List, [], ◌∷◌, ℤ, ◌<ℤ◌}
use Rattle.std.specs.List.{All, Contains}
use Rattle.lattice_theory.specs.Affine.{Affine}

-- x comes before y in lexicographic order: at the first place where they differ, x has the smaller entry
abbrev pub LexLess : List ℤ → List ℤ → Type 0
LexLess [] y = ⊥
LexLess (a ∷ x) [] = ⊥
LexLess (a ∷ x) (b ∷ y) = (a <ℤ b) ⊎ ((a ≡ b) × LexLess x y)

-- functions are ordered by their normals, then by their constants
abbrev pub FunctionLess : Affine → Affine → Type 0
FunctionLess f g = LexLess f.normal g.normal ⊎ ((f.normal ≡ g.normal) × (f.constant <ℤ g.constant))

-- each member comes before all that stand behind it
abbrev pub Ascends : {X : Type 0} → (X → X → Type 0) → List X → Type 0
Ascends less [] = Unit {0}
Ascends less (x ∷ xs) = All (less x) xs × Ascends less xs

-- the list has exactly the x of which P holds, each once, in order
pub record Lists {X : Type 0} (less : X → X → Type 0) (P : X → Type 0) (xs : List X) : Type 0 where
  pub ascends : Ascends less xs
  pub members : (x : X) → Contains xs x ↔ P x
