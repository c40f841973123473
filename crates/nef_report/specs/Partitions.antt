-- What `nef` says of an item: its nef partitions, one after another, with their stringy numbers or without. This project's own.
use Rattle.std.specs.Prelude.{◌≡◌, ℕ, ◌+◌, ◌<◌, ◌≤◌, Bool, true, false, List, [], ◌++◌, length}
use Rattle.lattice_core.specs.declared.faults.Refusal.{Refusal}
use Rattle.lattice_core.specs.declared.faults.Refusal.TheVariants.{Limit}
use Rattle.lattice_core.specs.declared.faults.LimitName.TheVariants.{Partitions}
use Rattle.report_theory.specs.Report.{Whole, Ends, Step, Piece, Close}
use Rattle.palp_words.specs.declared.job.NefWords.{NefWords}
use Rattle.palp_input.specs.Grammar.{Listed}
use Rattle.palp_print.specs.Lists.{item_echo, body_line, nef_line, closing}
use Rattle.palp_print.specs.Partitions.{partition, partition_with, diamond}
use Rattle.palp_print.specs.declared.titles.CountTitle.TheVariants.{Nef}
use Rattle.dual_pair.specs.Polytopes.{PolytopeState}
use Rattle.dual_pair.specs.Pairs.{PairState}
use Rattle.stringy.specs.Numbers.{EState, first_numbers, hodge_lines, euler_of}
use Rattle.nef_parts.specs.Lists.{lists_of}
use Rattle.nef_parts.specs.Partitions.{IsNefAt, HasNefPartitions}
use Rattle.nef_numbers.specs.Numbers.{HasNumbers, IsNumbersRefusal}
use Rattle.item_polytopes.specs.Kinds.{IsOther}
use Rattle.nef_report.specs.Items.{IsListed, IsItemRefusal}
use Rattle.nef_report.specs.declared.listing.TheConstants.{MOST_PARTITIONS}

-- the line of an item whose polytope isn't reflexive
abbrev pub body_text : Listed → PolytopeState → List ℕ
body_text item p = item_echo item ++ body_line (length p.points) (length p.vertices) (length p.facets)

-- the first line of an item whose polytope is reflexive, with the number of parts
abbrev pub heading_text : ℕ → Listed → PairState → List ℕ
heading_text r item pair = item_echo item
    ++ nef_line (length pair.m.points) (length pair.m.vertices) (length pair.n.points) (length pair.n.vertices) r

-- what stands below the line of a partition with its numbers: all Hodge numbers, where they are asked
abbrev pub diamond_text : Bool → EState → List ℕ
diamond_text true e = diamond e.dim (hodge_lines e)
diamond_text false e = []

-- a partition with its number and its stringy numbers, those of one line and their Euler number
abbrev pub numbers_text : Bool → ℕ → List ℕ → EState → List ℕ
numbers_text full number parts e = partition_with number parts (first_numbers e) (euler_of e) ++ diamond_text full e

-- the piece tells the partition with its stringy numbers
pub record TellsNumbers (full : Bool) (pair : PairState) (r number : ℕ) (parts piece : List ℕ) : Type 0 where
  pub numbers : EState
  pub has_numbers : HasNumbers pair r parts numbers
  pub piece_is : piece ≡ numbers_text full number parts numbers

-- the piece of a partition of the pair into r parts: where partitions are only listed, its line, and otherwise its line with its numbers, with what
-- stands below it
abbrev pub TellsPartition : Bool → Bool → PairState → ℕ → ℕ → List ℕ → List ℕ → Type 0
TellsPartition true full pair r number parts piece = piece ≡ partition number parts
TellsPartition false full pair r number parts piece = TellsNumbers full pair r number parts piece

-- why it has no piece: its numbers are asked, but its cone exceeds a limit
abbrev pub IsPartitionRefused : Bool → PairState → ℕ → List ℕ → Refusal → Type 0
IsPartitionRefused true pair r parts cause = ⊥
IsPartitionRefused false pair r parts cause = IsNumbersRefusal pair r parts cause

-- both, as the words ask
abbrev pub IsPartPiece : NefWords → PairState → ℕ → List ℕ → List ℕ → Type 0
IsPartPiece words pair number parts piece = TellsPartition words.list_only words.full pair words.codim number parts piece

abbrev pub IsPartRefusal : NefWords → PairState → List ℕ → Refusal → Type 0
IsPartRefusal words pair parts cause = IsPartitionRefused words.list_only pair words.codim parts cause

-- What is said of a pair behind its first line, after so many pieces: its nef partitions in order, each with its number, up to the first one that is
-- refused, and then how many there are. The partition that exceeds the limit on their number is refused before its numbers are asked.
pub data PartsSay (words : NefWords) (pair : PairState) (k : ℕ) : Step Refusal → Type 0 where
  listed : {parts piece : List ℕ} → k < MOST_PARTITIONS → IsNefAt (lists_of pair) words.codim k parts → IsPartPiece words pair (k + 1) parts piece
      → PartsSay words pair k (Piece piece)
  not_numbered : {parts : List ℕ} {cause : Refusal} → k < MOST_PARTITIONS → IsNefAt (lists_of pair) words.codim k parts
      → IsPartRefusal words pair parts cause → PartsSay words pair k (Close (Ends cause))
  too_many : {parts : List ℕ} → k ≡ MOST_PARTITIONS → IsNefAt (lists_of pair) words.codim k parts
      → PartsSay words pair k (Close (Ends (Limit Partitions (MOST_PARTITIONS + 1))))
  counted : k ≤ MOST_PARTITIONS → HasNefPartitions (lists_of pair) words.codim k → PartsSay words pair k (Piece (closing Nef k))
  behind_count : {count : ℕ} → k ≡ count + 1 → count ≤ MOST_PARTITIONS → HasNefPartitions (lists_of pair) words.codim count
      → PartsSay words pair k (Close Whole)

-- What is said of an item: the line of a polytope that isn't reflexive, alone; or the first line of one that is, and then its nef partitions. An item
-- without a polytope or a dual, or with too many parts, is refused.
pub data PartitionsSay (words : NefWords) (item : Listed) (k : ℕ) : Step Refusal → Type 0 where
  refused : {cause : Refusal} → k ≡ 0 → IsItemRefusal words item cause → PartitionsSay words item k (Close (Ends cause))
  body : {p : PolytopeState} → k ≡ 0 → IsOther item p → PartitionsSay words item k (Piece (body_text item p))
  behind_body : {p : PolytopeState} → k ≡ 1 → IsOther item p → PartitionsSay words item k (Close Whole)
  heading : {pair : PairState} → k ≡ 0 → IsListed words item pair → PartitionsSay words item k (Piece (heading_text words.codim item pair))
  behind_heading : {pair : PairState} {later : ℕ} {step : Step Refusal} → k ≡ later + 1 → IsListed words item pair
      → PartsSay words pair later step → PartitionsSay words item k step
