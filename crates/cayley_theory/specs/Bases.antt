-- Counts in Cayley cones by base pairs. A point x has one list of least heights with which it is in the cone: its base. Above it the heights of a part
-- may rise freely, unless they have to stay 0 on a vector of the part. So the vectors of a degree are counted by sums of the numbers of points
-- whose base has a degree, taken as often as parts are free. This project's own.
use Rattle.std.specs.Prelude.{◌≡◌, ◌≢◌, ℕ, zero, suc, ◌+◌, ◌<◌, Bool, true, false, List, [], ◌∷◌, length, map, ℤ, pos, ◌+ℤ◌, ◌≤ℤ◌, nat_abs, IsTrue}
use Rattle.lattice_theory.specs.Vector.{entry, dot}
use Rattle.lattice_theory.specs.Affine.{Affine}
use Rattle.face_theory.specs.Sets.{in_set}
use Rattle.face_theory.specs.Pairings.{function_at}
use Rattle.cayley_theory.specs.Cones.{lifted}
use Rattle.cayley_theory.specs.Counts.{sum_of}

-- a vector with its part is kept as a function: the part is the constant's absolute value
abbrev pub part_in : Affine → ℕ
part_in f = nat_abs f.constant

-- the vector that is kept so, with the unit vector of its part behind it
abbrev pub lifted_one : ℕ → Affine → List ℤ
lifted_one r f = lifted r f.normal (part_in f)

abbrev pub lifted_all : ℕ → List Affine → List (List ℤ)
lifted_all r fs = map (lifted_one r) fs

-- all vectors have n entries and one of r parts
pub record HaveParts (n r : ℕ) (vs : List Affine) : Type 0 where
  pub dimension : (i : ℕ) → i < length vs → length (function_at vs i).normal ≡ n
  pub part : (i : ℕ) → i < length vs → part_in (function_at vs i) < r

-- each of r parts has a vector
abbrev pub HaveAllParts : ℕ → List Affine → Type 0
HaveAllParts r vs = (j : ℕ) → j < r → (i : ℕ) × (i < length vs) × (part_in (function_at vs i) ≡ j)

-- what the i-th vector pairs to with the point x and the heights a
abbrev pub pairing_with : List Affine → List ℤ → List ℤ → ℕ → ℤ
pairing_with vs x a i = dot (function_at vs i).normal x +ℤ entry a (part_in (function_at vs i))

-- b is the base of x: with it all vectors pair nonnegatively, and in each part one pairs to 0
pub record IsBase (r : ℕ) (vs : List Affine) (x b : List ℤ) : Type 0 where
  pub parts : length b ≡ r
  pub above : (i : ℕ) → i < length vs → pos 0 ≤ℤ pairing_with vs x b i
  pub reached : (j : ℕ) → j < r → (i : ℕ) × (i < length vs) × (part_in (function_at vs i) ≡ j) × (pairing_with vs x b i ≡ pos 0)

-- the vectors of the set pair to 0 with the base
abbrev pub IsZeroOn : List Affine → List Bool → List ℤ → List ℤ → Type 0
IsZeroOn vs set x b = (i : ℕ) → IsTrue (in_set set i) → pairing_with vs x b i ≡ pos 0

-- the base of x has degree l, and the vectors of the set pair to 0 with it
pub record HasBaseOf (r : ℕ) (vs : List Affine) (set : List Bool) (l : ℕ) (x : List ℤ) : Type 0 where
  pub base : List ℤ
  pub is_base : IsBase r vs x base
  pub zero_on : IsZeroOn vs set x base
  pub degree : sum_of base ≡ pos l

-- the parts that have no vector of the set
pub record AreFreeParts (r : ℕ) (vs : List Affine) (set free : List Bool) : Type 0 where
  pub width : length free ≡ r
  pub is_free : (j : ℕ) → j < r → in_set free j ≡ true → (i : ℕ) → IsTrue (in_set set i) → part_in (function_at vs i) ≢ j
  pub is_taken : (j : ℕ) → j < r → in_set free j ≡ false → (i : ℕ) × IsTrue (in_set set i) × (part_in (function_at vs i) ≡ j)

-- x has a base, whose degree isn't negative
pub record HasDegree (r : ℕ) (vs : List Affine) (x : List ℤ) : Type 0 where
  pub base : List ℤ
  pub is_base : IsBase r vs x base
  pub degree : ℕ
  pub degree_is : sum_of base ≡ pos degree

-- how many members of a list have a property
pub data Number {X : Type 0} (P : X → Type 0) : List X → ℕ → Type 0 where
  none : Number P [] 0
  counted : {x : X} {xs : List X} {k : ℕ} → P x → Number P xs k → Number P (x ∷ xs) (suc k)
  passed : {x : X} {xs : List X} {k : ℕ} → (P x → ⊥) → Number P xs k → Number P (x ∷ xs) k

-- the sums of numbers, taken so often: of the first s + 1 numbers, of these sums, and so on
unfoldable pub summed : ℕ → (ℕ → ℕ) → ℕ → ℕ
summed zero counts s = counts s
summed (suc k) counts zero = summed k counts zero
summed (suc k) counts (suc s) = summed (suc k) counts s + summed k counts (suc s)
