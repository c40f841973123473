-- What the bounds mean in numbers, up to the safe size: entries, values and products of members and of functions. This project's own.
use Rattle.std.specs.Prelude.{◌≡◌, ℕ, suc, ◌*◌, ◌^◌, ◌<◌, ◌≤◌, List, length, ℤ, ◌*ℤ◌, nat_abs}
use Rattle.std.specs.List.{All, Contains}
use Rattle.lattice_theory.specs.Vector.{dot, IsPrimitive, HaveDimension}
use Rattle.lattice_theory.specs.Affine.{Affine, value}
use Rattle.lattice_theory.specs.Size.{absolute_sum}
use Rattle.elimination.specs.Elimination.{Member, ArePivots}
use Rattle.normal_bounds.specs.Bounds.{EntriesWithin, IsFixedBy, safe_size}

-- at most n factors 2S
abbrev pub ValuesFit : Type 0
ValuesFit = (n j S : ℕ) → j ≤ n → S ≤ safe_size n → (2 * S) ^ j < 2 ^ 76

-- the primitive members of a kernel whose pivots are differences have entries below 2^63, and values at differences below 2^76
abbrev pub MembersFit : Type 0
MembersFit = (m S : ℕ) (vectors pivots : List (List ℤ)) (ks : List Member) → 1 ≤ S → S ≤ safe_size m → ArePivots m vectors pivots ks
    → All (λ v. absolute_sum v ≤ 2 * S) pivots → (k : Member) → Contains ks k → IsPrimitive k.vector
    → All (λ a. nat_abs a < 2 ^ 63) k.vector × ((v : List ℤ) → absolute_sum v ≤ 2 * S → nat_abs (dot k.vector v) < 2 ^ 76)

-- while there are two members, the value of one at a difference times an entry of another is below 2^126
abbrev pub StepProductsFit : Type 0
StepProductsFit = (m S : ℕ) (vectors pivots : List (List ℤ)) (ks : List Member) → 1 ≤ S → S ≤ safe_size m → ArePivots m vectors pivots ks
    → All (λ v. absolute_sum v ≤ 2 * S) pivots → 2 ≤ length ks → (k l : Member) → Contains ks k → Contains ks l → IsPrimitive k.vector
    → IsPrimitive l.vector
    → (v : List ℤ) → absolute_sum v ≤ 2 * S → All (λ a. nat_abs (dot k.vector v *ℤ a) < 2 ^ 126) l.vector

-- a function that is fixed by points has normal entries below 2^63, and a constant and values below 2^76
abbrev pub FunctionsFit : Type 0
FunctionsFit = (k S : ℕ) (points : List (List ℤ)) (f : Affine) → 1 ≤ S → S ≤ safe_size (suc k) → length points ≡ suc k
    → HaveDimension (suc k) points
    → All (λ p. absolute_sum p ≤ S) points → IsFixedBy (suc k) points f
    → All (λ a. nat_abs a < 2 ^ 63) f.normal × (nat_abs f.constant < 2 ^ 76) × ((q : List ℤ) → absolute_sum q ≤ S
    → nat_abs (value f q) < 2 ^ 76)

-- a number as large as a value, times an entry of a normal, is below 2^126
abbrev pub CombineProductsFit : Type 0
CombineProductsFit = (k S : ℕ) (b : ℤ) (x : List ℤ) → S ≤ safe_size (suc k) → nat_abs b ≤ (2 * S) ^ suc k → EntriesWithin ((2 * S) ^ k) x
    → All (λ a. nat_abs (b *ℤ a) < 2 ^ 126) x
