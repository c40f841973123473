-- The laws on the size of normals, as statements, for every dimension.
use Rattle.std.specs.Prelude.{◌≡◌, ℕ, suc, ◌+◌, ◌*◌, ◌^◌, ◌<◌, ◌≤◌, List, length, ℤ, pos, ◌-ℤ◌, nat_abs}
use Rattle.std.specs.List.{All, Contains}
use Rattle.lattice_theory.specs.Vector.{entry, dot, IsPrimitive, HaveDimension}
use Rattle.lattice_theory.specs.Affine.{Affine, value}
use Rattle.lattice_theory.specs.Size.{size, absolute_sum}
use Rattle.elimination.specs.Elimination.{Member, Annihilates, ArePivots}
use Rattle.normal_bounds.specs.Bounds.{EntriesWithin, IsFixedBy, safe_size}

-- k vectors of absolute sum at most T all pair to 0 with some vector of k + 1 entries that isn't 0 and has entries of at most T^k
abbrev pub CountingBound : Type 0
CountingBound = (k T : ℕ) (vectors : List (List ℤ)) → 1 ≤ T → length vectors ≡ k → All (λ w. absolute_sum w ≤ T) vectors
    → (x : List ℤ) × (length x ≡ suc k) × (All (λ a. a ≡ pos 0) x → ⊥) × Annihilates vectors x × EntriesWithin (T ^ k) x

-- a function of k + 1 coordinates that is fixed by k + 1 points of absolute sum at most S has normal entries of at
-- most (2S)^k, a constant of at most (2S)^k S, and values of at most (2S)^(k+1) at points of absolute sum at most S
abbrev pub NormalBound : Type 0
NormalBound = (k S : ℕ) (points : List (List ℤ)) (f : Affine) → 1 ≤ S → length points ≡ suc k → HaveDimension (suc k) points
    → All (λ p. absolute_sum p ≤ S) points → IsFixedBy (suc k) points f
    → EntriesWithin ((2 * S) ^ k) f.normal × (nat_abs f.constant ≤ (2 * S) ^ k * S)
    × ((q : List ℤ) → absolute_sum q ≤ S → nat_abs (value f q) ≤ (2 * S) ^ suc k)

-- a primitive member of a kernel whose j pivots have absolute sum at most T has entries of at most T^j, and pairs with vectors of absolute
-- sum at most T
-- to at most T^(j+1)
abbrev pub MemberBound : Type 0
MemberBound = (m T : ℕ) (vectors pivots : List (List ℤ)) (ks : List Member) → 1 ≤ T → ArePivots m vectors pivots ks
    → All (λ v. absolute_sum v ≤ T) pivots → (k : Member) → Contains ks k → IsPrimitive k.vector
    → EntriesWithin (T ^ length pivots) k.vector
    × ((v : List ℤ) → absolute_sum v ≤ T → nat_abs (dot k.vector v) ≤ T ^ (length pivots + 1))

-- a pairing is at most the bound of the one vector's entries times the other vector's absolute sum
abbrev pub PairingBound : Type 0
PairingBound = (bound : ℕ) (x y : List ℤ) → EntriesWithin bound x → nat_abs (dot x y) ≤ bound * absolute_sum y

-- no point of a list has a larger absolute sum than the list's size
abbrev pub PointAbsoluteSum : Type 0
PointAbsoluteSum = (n : ℕ) (points : List (List ℤ)) → HaveDimension n points → All (λ p. absolute_sum p ≤ size n points) points

-- a difference of two vectors has at most the sum of both absolute sums
abbrev pub DifferenceAbsoluteSum : Type 0
DifferenceAbsoluteSum = (p q w : List ℤ) → ((i : ℕ) → entry w i ≡ entry p i -ℤ entry q i) → absolute_sum w ≤ absolute_sum p + absolute_sum q

-- up to the safe size of n coordinates, at most n - 1 factors 2S are below 2^63. So after j pivots that are differences of
-- points, the entries of members are below 2^63 where j is less than n, and their values at differences where j + 1 is.
abbrev pub EntriesFit : Type 0
EntriesFit = (n j S : ℕ) → j + 1 ≤ n → S ≤ safe_size n → (2 * S) ^ j < 2 ^ 63

-- while two members are left, which is after at most n - 2 pivots, the two
-- products of a step, each of an entry and a value, together are below 2^127
abbrev pub StepFits : Type 0
StepFits = (n j S : ℕ) → j + 2 ≤ n → S ≤ safe_size n → 2 * ((2 * S) ^ j * (2 * S) ^ (j + 1)) < 2 ^ 127

-- so are two values at points, each times an entry of a normal
abbrev pub CombineFits : Type 0
CombineFits = (k S : ℕ) → S ≤ safe_size (suc k) → 2 * ((2 * S) ^ suc k * (2 * S) ^ k) < 2 ^ 127
