-- Chains in an order, and how long the longest one from an element on is. This project's own.
use Rattle.std.specs.Prelude.{◌≡◌, ℕ, ◌≤◌, List, [], ◌∷◌, length}

-- a chain that starts behind an element: each member is of the kind P, and less than the one before it, the first one than the element
abbrev pub IsChainFrom : {X : Type 0} → (X → Type 0) → (X → X → Type 0) → X → List X → Type 0
IsChainFrom P less top [] = Unit {0}
IsChainFrom P less top (x ∷ xs) = P x × less x top × IsChainFrom P less x xs

-- k is the length of the longest such chain
pub record IsHeight {X : Type 0} (P : X → Type 0) (less : X → X → Type 0) (top : X) (k : ℕ) : Type 0 where
  pub longest : List X
  pub length_is : length longest ≡ k
  pub is_chain : IsChainFrom P less top longest
  pub most : (other : List X) → IsChainFrom P less top other → length other ≤ k
