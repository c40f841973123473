-- Elimination over the integers, without fractions: the vectors that annihilate a list of vectors. This project's own.
use Rattle.std.specs.Prelude.{◌≡◌, ◌≢◌, ℕ, ◌+◌, ◌<◌, List, [], ◌∷◌, length, ℤ, pos, ◌+ℤ◌, ◌-ℤ◌, ◌*ℤ◌, ◌<ℤ◌}
use Rattle.std.specs.List.{All, Contains}
use Rattle.lattice_theory.specs.Vector.{entry, dot, EndsAt, IsUnitVector}

-- a vector of the kernel, with the place that it alone of the kernel's vectors uses
pub record Member : Type 0 where
  pub own : ℕ
  pub vector : List ℤ

-- k pairs to 0 with each vector of the list
abbrev pub Annihilates : List (List ℤ) → List ℤ → Type 0
Annihilates vectors k = All (λ v. dot k v ≡ pos 0) vectors

-- no member has an entry other than 0 at the own place of another
abbrev pub AreApart : List Member → Type 0
AreApart [] = Unit {0}
AreApart (k ∷ ks) = All (λ l. (entry k.vector l.own ≡ pos 0) × (entry l.vector k.own ≡ pos 0)) ks × AreApart ks

-- the sum of c_i <k_i, x>
abbrev pub pairings : List ℤ → List Member → List ℤ → ℤ
pairings [] ks x = pos 0
pairings (c ∷ cs) [] x = pos 0
pairings (c ∷ cs) (k ∷ ks) x = c *ℤ dot k.vector x +ℤ pairings cs ks x

-- some positive multiple of g is an integer combination of the members
pub record IsCombination (ks : List Member) (g : List ℤ) : Type 0 where
  pub multiplier : ℕ
  pub positive : 0 < multiplier
  pub coefficients : List ℤ
  pub as_many : length coefficients ≡ length ks
  pub sums : (x : List ℤ) → pos multiplier *ℤ dot g x ≡ pairings coefficients ks x

-- ks is a kernel of vectors of length m: independent vectors that annihilate them, of which every other such vector is,
-- up to a positive multiple, a combination
pub record IsKernel (m : ℕ) (vectors : List (List ℤ)) (ks : List Member) : Type 0 where
  pub lengths : All (λ k. length k.vector ≡ m) ks
  pub annihilate : All (λ k. Annihilates vectors k.vector) ks
  pub own_positive : All (λ k. pos 0 <ℤ entry k.vector k.own) ks
  pub apart : AreApart ks
  pub ends : All (λ k. EndsAt k.vector k.own) ks
  pub spans : (g : List ℤ) → length g ≡ m → Annihilates vectors g → IsCombination ks g

-- pivots are some of the vectors, as many as the kernel is smaller than m, that have the same kernel
pub record ArePivots (m : ℕ) (vectors pivots : List (List ℤ)) (ks : List Member) : Type 0 where
  pub chosen : (v : List ℤ) → Contains pivots v → Contains vectors v
  pub count : length pivots + length ks ≡ m
  pub kernel : IsKernel m pivots ks

-- v is told from the vectors: some vector of length m pairs to 0 with each of them and not with v
pub record IsSeparated (m : ℕ) (vectors : List (List ℤ)) (v : List ℤ) : Type 0 where
  pub separator : List ℤ
  pub dimension : length separator ≡ m
  pub annihilates : Annihilates vectors separator
  pub nonzero : dot separator v ≢ pos 0

-- each vector of the list is told from those behind it
abbrev pub AreSeparated : ℕ → List (List ℤ) → Type 0
AreSeparated m [] = Unit {0}
AreSeparated m (v ∷ vectors) = IsSeparated m vectors v × AreSeparated m vectors

-- the member e_i of the kernel of no vectors: the i-th unit vector, with its own place i
pub record IsUnitMember (m i : ℕ) (k : Member) : Type 0 where
  pub own : k.own ≡ i
  pub unit : IsUnitVector m i k.vector

-- l is what the vector v and the pivot p make of the member k: some multiple of it is <p,v> k - <k,v> p
pub record IsReduced (p : Member) (v : List ℤ) (k l : Member) : Type 0 where
  pub own : l.own ≡ k.own
  pub dimension : length l.vector ≡ length k.vector
  pub positive : pos 0 <ℤ entry l.vector l.own
  pub factor : ℤ
  pub nonzero : factor ≢ pos 0
  pub entries : (j : ℕ) → factor *ℤ entry l.vector j ≡ dot p.vector v *ℤ entry k.vector j -ℤ dot k.vector v *ℤ entry p.vector j
