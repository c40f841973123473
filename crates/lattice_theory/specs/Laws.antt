-- The laws of this crate: what its public functions without parameters state.
use Rattle.std.specs.Prelude.{◌≡◌, ◌≢◌, ◌⊎◌, ◌↔◌, ℕ, ◌<◌, List, ℤ, pos, negsuc, ◌*ℤ◌}
use Rattle.std.specs.List.{All, Contains}
use Rattle.lattice_theory.specs.Vector.{scaled, IsPrimitive}
use Rattle.lattice_theory.specs.Affine.{Affine}
use Rattle.lattice_theory.specs.Order.{Ascends, LexLess, FunctionLess}
use Rattle.lattice_theory.specs.Facet.{IsFlatFunction}

-- two lists of vectors that ascend and have the same members are equal
abbrev pub AscendingListOfVectorsIsUnique : Type 0
AscendingListOfVectorsIsUnique = (xs ys : List (List ℤ)) → Ascends LexLess xs → Ascends LexLess ys
    → ((x : List ℤ) → Contains xs x ↔ Contains ys x) → xs ≡ ys

-- two lists of functions that ascend and have the same members are equal
abbrev pub AscendingListOfFunctionsIsUnique : Type 0
AscendingListOfFunctionsIsUnique = (fs gs : List Affine) → Ascends FunctionLess fs → Ascends FunctionLess gs
    → ((f : Affine) → Contains fs f ↔ Contains gs f) → fs ≡ gs

-- an integer vector x with q x = p f, where f is primitive and q isn't 0, is an integer multiple k f, and p is q k
abbrev pub PrimitiveMultiple : Type 0
PrimitiveMultiple = (q p : ℤ) (x f : List ℤ) → q ≢ pos 0 → IsPrimitive f → scaled q x ≡ scaled p f
    → (k : ℤ) × (p ≡ q *ℤ k) × (x ≡ scaled k f)

-- each vector that isn't 0 is a positive multiple of a primitive vector
abbrev pub PrimitivePart : Type 0
PrimitivePart = (v : List ℤ) → (All (λ a. a ≡ pos 0) v → ⊥) → (d : ℕ) × (w : List ℤ) × (0 < d) × IsPrimitive w × (scaled (pos d) w ≡ v)

-- two primitive vectors on one line are equal or opposite
abbrev pub PrimitiveSame : Type 0
PrimitiveSame = (q p : ℤ) (x f : List ℤ) → q ≢ pos 0 → IsPrimitive x → IsPrimitive f → scaled q x ≡ scaled p f
    → (x ≡ f) ⊎ (x ≡ scaled (negsuc 0) f)

-- points, if there is one, have at most one flat function
abbrev pub FlatFunctionIsUnique : Type 0
FlatFunctionIsUnique = (n : ℕ) (points : List (List ℤ)) (p : List ℤ) (f g : Affine) → Contains points p
    → IsFlatFunction n points f → IsFlatFunction n points g → f ≡ g
