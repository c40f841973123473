-- The laws of elimination, as statements.
use Rattle.std.specs.Prelude.{◌≡◌, ◌≢◌, ℕ, ◌+◌, ◌<◌, ◌≤◌, List, [], ◌∷◌, ◌++◌, length, ℤ, pos, slice_index_or}
use Rattle.std.specs.List.{All, AllZip, Contains}
use Rattle.lattice_theory.specs.Vector.{entry, EndsAt, dot, HaveDimension, IsVectorMultiple}
use Rattle.elimination.specs.Elimination.{Member, Annihilates, IsKernel, ArePivots, AreSeparated, IsUnitMember, IsReduced}

-- every list of vectors of length m has a kernel, with pivots
abbrev pub KernelExists : Type 0
KernelExists = (m : ℕ) (vectors : List (List ℤ)) → HaveDimension m vectors
    → (ks : List Member) × (pivots : List (List ℤ)) × IsKernel m vectors ks × ArePivots m vectors pivots ks

-- a kernel and its pivots have a successor for one more vector
abbrev pub KernelGrows : Type 0
KernelGrows = (m : ℕ) (vectors pivots : List (List ℤ)) (ks : List Member) (v : List ℤ) → length v ≡ m
    → IsKernel m vectors ks → ArePivots m vectors pivots ks
    → (next : List Member) × (more : List (List ℤ)) × IsKernel m (vectors ++ (v ∷ [])) next × ArePivots m (vectors ++ (v ∷ [])) more next

-- the unit members are the kernel of no vectors
abbrev pub KernelStarts : Type 0
KernelStarts = (m : ℕ) (ks : List Member) → length ks ≡ m → ((i : ℕ) (d : Member) → i < m → IsUnitMember m i (slice_index_or ks i d))
    → IsKernel m [] ks × ArePivots m [] [] ks

-- a vector that each member annihilates changes neither the kernel nor its pivots
abbrev pub KernelStays : Type 0
KernelStays = (m : ℕ) (vectors pivots : List (List ℤ)) (ks : List Member) (v : List ℤ) → IsKernel m vectors ks
    → ArePivots m vectors pivots ks
    → All (λ k. dot k.vector v ≡ pos 0) ks → IsKernel m (vectors ++ (v ∷ [])) ks × ArePivots m (vectors ++ (v ∷ [])) pivots ks

-- where v isn't annihilated by the member p, but by all before p, and all behind p have own places that aren't earlier than p's:
-- p leaves, those behind it are reduced, and v is one more pivot
abbrev pub KernelSteps : Type 0
KernelSteps = (m : ℕ) (vectors pivots : List (List ℤ)) (before : List Member) (p : Member) (after next : List Member) (v : List ℤ)
    → IsKernel m vectors (before ++ (p ∷ after)) → ArePivots m vectors pivots (before ++ (p ∷ after))
    → All (λ k. dot k.vector v ≡ pos 0) before → dot p.vector v ≢ pos 0 → All (λ k. p.own ≤ k.own) after → AllZip (IsReduced p v) after next
    → IsKernel m (vectors ++ (v ∷ [])) (before ++ next) × ArePivots m (vectors ++ (v ∷ [])) (pivots ++ (v ∷ [])) (before ++ next)

-- with an empty kernel only 0 annihilates the vectors
abbrev pub EmptyKernel : Type 0
EmptyKernel = (m : ℕ) (vectors : List (List ℤ)) → IsKernel m vectors []
    → (g : List ℤ) → length g ≡ m → Annihilates vectors g → All (λ a. a ≡ pos 0) g

-- with one member all vectors that annihilate are multiples of it
abbrev pub SingleKernel : Type 0
SingleKernel = (m : ℕ) (vectors : List (List ℤ)) (k : Member) → IsKernel m vectors (k ∷ [])
    → (g : List ℤ) → length g ≡ m → Annihilates vectors g → IsVectorMultiple g k.vector

-- with two members or more, no vector has both of the first two as multiples of it
abbrev pub LargeKernel : Type 0
LargeKernel = (m : ℕ) (vectors : List (List ℤ)) (k l : Member) (ks : List Member) → IsKernel m vectors (k ∷ (l ∷ ks))
    → (f : List ℤ) → IsVectorMultiple k.vector f → IsVectorMultiple l.vector f → ⊥

-- a vector that annihilates the vectors and is 0 at the own places of all members but one is a multiple of that member
abbrev pub KernelMember : Type 0
KernelMember = (m : ℕ) (vectors : List (List ℤ)) (before : List Member) (k : Member) (after : List Member)
    → IsKernel m vectors (before ++ (k ∷ after))
    → (g : List ℤ) → length g ≡ m → Annihilates vectors g → All (λ l. entry g l.own ≡ pos 0) (before ++ after) → IsVectorMultiple g k.vector

-- no vector that annihilates the vectors ends before the least own place k, and those that end there are multiples of its member
abbrev pub KernelEarliest : Type 0
KernelEarliest = (m : ℕ) (vectors : List (List ℤ)) (k : Member) (ks : List Member) → IsKernel m vectors (k ∷ ks)
    → All (λ l. k.own ≤ l.own) ks
    → (g : List ℤ) → length g ≡ m → Annihilates vectors g → (j : ℕ) → EndsAt g j → (k.own ≤ j) × (j ≡ k.own → IsVectorMultiple g k.vector)

-- where all vectors that annihilate are multiples of one that isn't 0, m - 1 of the vectors have the same annihilators
abbrev pub FewDetermine : Type 0
FewDetermine = (m : ℕ) (vectors : List (List ℤ)) → HaveDimension m vectors
    → (f : List ℤ) → length f ≡ m → (All (λ a. a ≡ pos 0) f → ⊥) → Annihilates vectors f
    → ((g : List ℤ) → length g ≡ m → Annihilates vectors g → IsVectorMultiple g f)
    → (pivots : List (List ℤ)) × (length pivots + 1 ≡ m) × ((v : List ℤ) → Contains pivots v → Contains vectors v)
    × ((g : List ℤ) → length g ≡ m → Annihilates pivots g → Annihilates vectors g)

-- vectors of which each is told from those behind it by a vector of length m are at most m
abbrev pub SeparatedAreFew : Type 0
SeparatedAreFew = (m : ℕ) (vectors : List (List ℤ)) → AreSeparated m vectors → length vectors ≤ m
