-- Integer vectors, the points of the lattice Z^n (math/0204356, section 2). A vector is the list of its entries; an entry that is
-- missing reads as 0. `IsPrimitive`, `IsUnitVector`, `IsVectorMultiple`, `EndsAt` and the tests of sameness are this project's own.
use Rattle.std.specs.Prelude.{◌≡◌, ◌≢◌, ℕ, ◌<◌, Bool, false, true, not, ◌&&◌, ◌==◌, List, [], ◌∷◌, length, map, ℤ, pos, negsuc, ◌+ℤ◌, ◌*ℤ◌, slice_index_or}
use Rattle.std.specs.List.{All, filter}

-- the entry at a place, counted from 0
abbrev pub entry : List ℤ → ℕ → ℤ
entry x i = slice_index_or x i (pos 0)

-- the pairing <x, y>: the sum of the products of the entries
abbrev pub dot : List ℤ → List ℤ → ℤ
dot [] y = pos 0
dot (a ∷ x) [] = pos 0
dot (a ∷ x) (b ∷ y) = a *ℤ b +ℤ dot x y

-- an integer times a vector
abbrev pub scaled : ℤ → List ℤ → List ℤ
scaled k x = map (λ a. k *ℤ a) x

-- x is the i-th unit vector of n entries: 1 at the place i, and 0 elsewhere
pub record IsUnitVector (n i : ℕ) (x : List ℤ) : Type 0 where
  pub dimension : length x ≡ n
  pub one : entry x i ≡ pos 1
  pub zeros : (j : ℕ) → j ≢ i → entry x j ≡ pos 0

-- the vector g is a rational multiple of f: q g = p f with integers p and q, and q isn't 0.
pub record IsVectorMultiple (g f : List ℤ) : Type 0 where
  pub left : ℤ
  pub right : ℤ
  pub nonzero : left ≢ pos 0
  pub same : scaled left g ≡ scaled right f

-- d divides a: some integer times d is a
abbrev pub DividesInteger : ℕ → ℤ → Type 0
DividesInteger d a = (k : ℤ) × (k *ℤ pos d ≡ a)

-- the greatest common divisor of the entries is 1: a number that divides them all is 1. No such vector is 0.
abbrev pub IsPrimitive : List ℤ → Type 0
IsPrimitive x = (d : ℕ) → All (DividesInteger d) x → d ≡ 1

-- the last entry that isn't 0 stands at the place k
pub record EndsAt (x : List ℤ) (k : ℕ) : Type 0 where
  pub nonzero : entry x k ≢ pos 0
  pub zeros : (j : ℕ) → k < j → entry x j ≡ pos 0

-- each point of a list has n entries
abbrev pub HaveDimension : ℕ → List (List ℤ) → Type 0
HaveDimension n points = All (λ p. length p ≡ n) points

-- whether two integers, or two vectors, are the same
abbrev pub int_eq : ℤ → ℤ → Bool
int_eq (pos a) (pos b) = a == b
int_eq (pos a) (negsuc b) = false
int_eq (negsuc a) (pos b) = false
int_eq (negsuc a) (negsuc b) = a == b

abbrev pub vector_eq : List ℤ → List ℤ → Bool
vector_eq [] [] = true
vector_eq [] (b ∷ y) = false
vector_eq (a ∷ x) [] = false
vector_eq (a ∷ x) (b ∷ y) = int_eq a b && vector_eq x y

-- the points of a list other than v
abbrev pub others : List (List ℤ) → List ℤ → List (List ℤ)
others points v = filter (λ p. not (vector_eq p v)) points
