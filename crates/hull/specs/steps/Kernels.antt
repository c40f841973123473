-- The kernels that the program computes: with primitive members, in the order of their own places. This project's own.
use Rattle.std.specs.Prelude.{◌≡◌, ◌≢◌, ℕ, ◌*◌, ◌^◌, ◌<◌, ◌≤◌, List, ◌∷◌, ◌++◌, length, map, ℤ, pos, ◌*ℤ◌, ◌-ℤ◌, ◌<ℤ◌, nat_abs}
use Rattle.std.specs.List.{All, AllZip}
use Rattle.lattice_theory.specs.Vector.{entry, dot, IsPrimitive}
use Rattle.lattice_theory.specs.Size.{absolute_sum}
use Rattle.lattice_theory.specs.Order.{Ascends}
use Rattle.elimination.specs.Elimination.{Member, IsKernel, ArePivots, IsReduced}
use Rattle.lattice_core.specs.declared.limits.TheConstants.{MOST_COORDINATES}
use Rattle.lattice_core.specs.Limits.{size_limit_of}

-- ks is a kernel of vectors of length n, with primitive members whose own places ascend
pub record IsPrimitiveKernel (n : ℕ) (vectors : List (List ℤ)) (ks : List Member) : Type 0 where
  pub kernel : IsKernel n vectors ks
  pub pivots : List (List ℤ)
  pub are_pivots : ArePivots n vectors pivots ks
  pub primitive : All (λ k. IsPrimitive k.vector) ks
  pub ascends : Ascends (λ i j. i ≤ j) (map (λ k. k.own) ks)

-- and the vectors are as small as differences of points within the size limit
pub record IsSmallKernel (n : ℕ) (ks : List Member) : Type 0 where
  pub vectors : List (List ℤ)
  pub is_kernel : IsPrimitiveKernel n vectors ks
  pub small : All (λ v. absolute_sum v ≤ 2 * size_limit_of n) vectors

-- the member p at a place of ks is the first that doesn't pair to 0 with v
pub record IsPivotAt (ks : List Member) (v : List ℤ) (place : ℕ) : Type 0 where
  pub before : List Member
  pub pivot : Member
  pub after : List Member
  pub split : ks ≡ before ++ (pivot ∷ after)
  pub stands : length before ≡ place
  pub annihilated : All (λ k. dot k.vector v ≡ pos 0) before
  pub usable : dot pivot.vector v ≢ pos 0

-- the numbers of a step are small enough: the pivot p has the value a at the vector, and the member k the value b
pub record CanReduce (p : Member) (a : ℤ) (k : Member) (b : ℤ) : Type 0 where
  pub same : length k.vector ≡ length p.vector
  pub some : 1 ≤ length k.vector
  pub most : length k.vector ≤ MOST_COORDINATES
  pub usable : a ≢ pos 0
  pub apart : entry p.vector k.own ≡ pos 0
  pub positive : pos 0 <ℤ entry k.vector k.own
  pub small_a : nat_abs a < 2 ^ 126
  pub small_b : nat_abs b < 2 ^ 126
  pub small_own : All (λ x. nat_abs (a *ℤ x) < 2 ^ 126) k.vector
  pub small_pivot : All (λ x. nat_abs (b *ℤ x) < 2 ^ 126) p.vector

-- l is a primitive vector of which some multiple, by a factor other than 0, is a k - b p
pub record IsReducedBy (p : Member) (a : ℤ) (k : Member) (b : ℤ) (l : Member) : Type 0 where
  pub own : l.own ≡ k.own
  pub dimension : length l.vector ≡ length k.vector
  pub primitive : IsPrimitive l.vector
  pub positive : pos 0 <ℤ entry l.vector l.own
  pub factor : ℤ
  pub nonzero : factor ≢ pos 0
  pub entries : (j : ℕ) → factor *ℤ entry l.vector j ≡ a *ℤ entry k.vector j -ℤ b *ℤ entry p.vector j

-- the list has the members before the pivot, and then what the step makes of those behind it
pub record IsStepped (before : List Member) (p : Member) (after : List Member) (v : List ℤ) (new : List Member) : Type 0 where
  pub next : List Member
  pub whole : new ≡ before ++ next
  pub reduced : AllZip (IsReduced p v) after next
  pub primitive : All (λ k. IsPrimitive k.vector) next

-- the entries are a x_j - b y_j
pub record AreMultiplesApart (a : ℤ) (x : List ℤ) (b : ℤ) (y : List ℤ) (z : List ℤ) : Type 0 where
  pub dimension : length z ≡ length x
  pub entries : (j : ℕ) → entry z j ≡ a *ℤ entry x j -ℤ b *ℤ entry y j
  pub small : All (λ c. nat_abs c < 2 ^ 127) z
