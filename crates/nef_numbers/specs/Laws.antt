-- The laws of the numbers of nef partitions, as statements.
use Rattle.std.specs.Prelude.{◌≡◌, ℕ, List}
use Rattle.lattice_core.specs.Dimensions.{dimension_of}
use Rattle.lattice_core.specs.declared.faults.Refusal.{Refusal}
use Rattle.stringy.specs.Numbers.{EState, first_numbers, hodge_lines, euler_of}
use Rattle.dual_pair.specs.Pairs.{PairState, IsPair}
use Rattle.nef_parts.specs.Lists.{lists_of}
use Rattle.nef_parts.specs.Partitions.{IsNefAt, ArePointsOf}
use Rattle.cayley.specs.Limits.{IsWithinRank}
use Rattle.nef_numbers.specs.Numbers.{IsPartitionInto, HasNumbers, IsNumbersRefusal}

-- what a search for the nef partitions of a pair into r parts gives is one, with the places of its points
abbrev pub FoundHaveParts : Type 0
FoundHaveParts = (pair : PairState) (r place : ℕ) (part_of places : List ℕ) → IsNefAt (lists_of pair) r place part_of
    → ArePointsOf (lists_of pair) r part_of places → IsPartitionInto pair r part_of places

-- both tell the same: the same largest p and q, and the same numbers
pub record TellTheSame (e f : EState) : Type 0 where
  pub dim : e.dim ≡ f.dim
  pub first : first_numbers e ≡ first_numbers f
  pub lines : hodge_lines e ≡ hodge_lines f
  pub euler : euler_of e ≡ euler_of f

-- a nef partition has one list of numbers that are told
abbrev pub NumbersAreSingle : Type 0
NumbersAreSingle = (pair : PairState) (r : ℕ) (part_of : List ℕ) (e f : EState) → IsPair pair → IsWithinRank (dimension_of pair.m.vertices) r
    → HasNumbers pair r part_of e → HasNumbers pair r part_of f → TellTheSame e f

-- or one refusal, and not both
abbrev pub OneNumbersRefusal : Type 0
OneNumbersRefusal = (pair : PairState) (r : ℕ) (part_of : List ℕ) (cause other : Refusal)
    → IsNumbersRefusal pair r part_of cause → IsNumbersRefusal pair r part_of other → cause ≡ other

abbrev pub NumbersOrRefusal : Type 0
NumbersOrRefusal = (pair : PairState) (r : ℕ) (part_of : List ℕ) (e : EState) (cause : Refusal)
    → HasNumbers pair r part_of e → IsNumbersRefusal pair r part_of cause → ⊥
