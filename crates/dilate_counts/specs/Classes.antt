-- Points that are counted by classes: those whose base has one degree and to which, with the base, the same vectors pair to 0. This project's own.
use Rattle.std.specs.Prelude.{◌≡◌, ◌⊎◌, ℕ, suc, ◌+◌, ◌*◌, ◌<◌, ◌≤◌, Option, None, Some, List, [], ◌∷◌, ◌++◌, length, slice_index_or}
use Rattle.std.specs.List.{All}
use Rattle.bit_pool.specs.Bits.{IsSubset}
use Rattle.base_counts.specs.Counting.{set_at, count_at}
use Rattle.base_counts.specs.declared.counts.TheConstants.{DEGREES}
use Rattle.dilate_counts.specs.declared.limits.TheConstants.{MOST_COUNTED}

-- the number of points of a degree in those of the first j classes that have all vectors of a set
pub data Gathered (set : List ℕ) (classes : List (List ℕ)) (seen : List ℕ) (l : ℕ) : ℕ → ℕ → Type 0 where
  none : Gathered set classes seen l 0 0
  inside : {j s t : ℕ} → Gathered set classes seen l j s → IsSubset set (set_at classes j) → t ≡ s + count_at seen j l
      → Gathered set classes seen l (suc j) t
  outside : {j s : ℕ} → Gathered set classes seen l j s → (IsSubset set (set_at classes j) → ⊥) → Gathered set classes seen l (suc j) s

-- the number of points that are counted for a set at a degree, directly or in the classes
pub record IsTotal (rows classes : List (List ℕ)) (seen counts : List ℕ) (k l v : ℕ) : Type 0 where
  pub sum : ℕ
  pub gathered : Gathered (set_at rows k) classes seen l (length classes) sum
  pub total : v ≡ count_at counts k l + sum

-- the class of these words was found, or made, or there is no room for it
abbrev pub IsClassOf : List (List ℕ) → List ℕ → List (List ℕ) → Option ℕ → Type 0
IsClassOf before words now None = now ≡ before
IsClassOf before words now (Some i) = (i < length now) × (set_at now i ≡ words) × ((now ≡ before) ⊎ (now ≡ before ++ words ∷ []))

-- nothing is counted behind the classes
abbrev pub IsClear : List (List ℕ) → List ℕ → Type 0
IsClear classes seen = (i : ℕ) → length classes * DEGREES ≤ i → slice_index_or seen i 0 ≡ 0

-- one more point may be counted for each set and in each class without passing the limit
abbrev pub StayLow : List ℕ → List ℕ → Type 0
StayLow before now = (left : ℕ) → All (λ count. count + suc left ≤ MOST_COUNTED) before → All (λ count. count + left ≤ MOST_COUNTED) now

-- the point is counted for the sets whose vectors are all among the words, at one degree
abbrev pub IsCountedAt : List (List ℕ) → List ℕ → ℕ → ℕ → ℕ → Type 0
IsCountedAt rows words degree k l = IsSubset (set_at rows k) words × (l ≡ degree)

-- so the numbers of all sets and degrees become one more, or stay
abbrev pub AreTotalsRaised : List (List ℕ) → List ℕ → ℕ → List (List ℕ) → List ℕ → List ℕ → List (List ℕ) → List ℕ → List ℕ → Type 0
AreTotalsRaised rows words degree classes seen counts classes' seen' counts' = (k l v : ℕ) → k < length rows → l < DEGREES
    → IsTotal rows classes seen counts k l v
    → (IsCountedAt rows words degree k l × IsTotal rows classes' seen' counts' k l (suc v))
    ⊎ ((IsCountedAt rows words degree k l → ⊥) × IsTotal rows classes' seen' counts' k l v)

-- the first `done` numbers of a class were added from a place on
pub record IsSummed (at : ℕ) (seen : List ℕ) (done : ℕ) (old new : List ℕ) : Type 0 where
  pub added : (l : ℕ) → l < done → slice_index_or new (at + l) 0 ≡ slice_index_or old (at + l) 0 + slice_index_or seen l 0
  pub others : (i : ℕ) → (i < at) ⊎ (at + done ≤ i) → slice_index_or new i 0 ≡ slice_index_or old i 0

-- the numbers of a class were added to those of the first `done` sets that are within its words
pub record IsShared (rows : List (List ℕ)) (words seen : List ℕ) (done : ℕ) (old new : List ℕ) : Type 0 where
  pub each : (k l : ℕ) → k < done → l < DEGREES → (IsSubset (set_at rows k) words × (count_at new k l ≡ count_at old k l + slice_index_or seen l 0))
      ⊎ ((IsSubset (set_at rows k) words → ⊥) × (count_at new k l ≡ count_at old k l))
  pub others : (k l : ℕ) → done ≤ k → l < DEGREES → count_at new k l ≡ count_at old k l

-- the numbers of the first `done` classes were added to those of the sets that are within their words
abbrev pub AreShared : List (List ℕ) → List (List ℕ) → List ℕ → ℕ → List ℕ → List ℕ → Type 0
AreShared rows classes seen done old new = (k l : ℕ) → k < length rows → l < DEGREES
    → (sum : ℕ) × Gathered (set_at rows k) classes seen l done sum × (count_at new k l ≡ count_at old k l + sum)

-- no number is above the limit
abbrev pub HaveFewTotals : List (List ℕ) → List (List ℕ) → List ℕ → List ℕ → Type 0
HaveFewTotals rows classes seen counts = (k l : ℕ) → k < length rows → l < DEGREES
    → (v : ℕ) × IsTotal rows classes seen counts k l v × (v ≤ MOST_COUNTED)
