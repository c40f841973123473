-- The laws of a search for nef partitions, as statements. This project's own.
use Rattle.std.specs.Prelude.{◌≡◌, ℕ, ◌+◌, ◌<◌, List, [], ◌∷◌, ◌++◌}
use Rattle.dual_pair.specs.Pairs.{PairState, IsPair}
use Rattle.nef_parts.specs.Lists.{PairLists, lists_of}
use Rattle.nef_parts.specs.Partitions.{vectors, AreNefPartitions, IsNefAt, HasNefPartitions, AreFirstPartitions}

-- at the start nothing is given
abbrev pub NoPartitionsAreFirst : Type 0
NoPartitionsAreFirst = (pair : PairState) (r : ℕ) → IsPair pair → AreFirstPartitions (lists_of pair) r 0 []

-- the first partitions and the next one are the first ones, with one more
abbrev pub FirstAndNextPartitionAreFirst : Type 0
FirstAndNextPartitionAreFirst = (l : PairLists) (r count : ℕ) (xs : List (List ℕ)) (parts : List ℕ) → AreFirstPartitions l r count xs
    → IsNefAt l r count parts → AreFirstPartitions l r (count + 1) (xs ++ parts ∷ [])

-- the first partitions, where there are no more, are all
abbrev pub FirstPartitionsAreAll : Type 0
FirstPartitionsAreAll = (l : PairLists) (r count : ℕ) (xs : List (List ℕ)) → AreFirstPartitions l r count xs → HasNefPartitions l r count
    → AreNefPartitions l r (vectors xs)

-- one partition has so many before it
abbrev pub OnePartitionAt : Type 0
OnePartitionAt = (l : PairLists) (r place : ℕ) (parts other : List ℕ) → IsNefAt l r place parts → IsNefAt l r place other → parts ≡ other

-- and fewer than there are
abbrev pub FewerThanAll : Type 0
FewerThanAll = (l : PairLists) (r place count : ℕ) (parts : List ℕ) → IsNefAt l r place parts → HasNefPartitions l r count → place < count

-- there is one number of partitions
abbrev pub OneNumberOfPartitions : Type 0
OneNumberOfPartitions = (l : PairLists) (r count other : ℕ) → HasNefPartitions l r count → HasNefPartitions l r other → count ≡ other
