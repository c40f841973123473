-- The items of which nef partitions are listed, or why they are refused (alg-geom/9310003: reflexive polytopes and their duals; the limits are this
-- project's own).
use Rattle.std.specs.Prelude.{◌⊎◌, ℕ, Bool, true, false}
use Rattle.lattice_core.specs.Dimensions.{dimension_of}
use Rattle.lattice_core.specs.declared.faults.Refusal.{Refusal}
use Rattle.palp_words.specs.declared.job.NefWords.{NefWords}
use Rattle.palp_input.specs.Grammar.{Listed}
use Rattle.dual_pair.specs.Pairs.{PairState}
use Rattle.item_polytopes.specs.Kinds.{HasPair, IsKindRefusal}
use Rattle.cayley.specs.Limits.{IsWithinRank, IsRankRefusal, IsWithinScans, IsScanRefusal}

-- r parts are within the limits: where partitions are only listed, those on the number of parts; and where their numbers are told, those on the lattice
-- points of a large dilate of the polytope and of its dual, too
abbrev pub AreFewParts : Bool → PairState → ℕ → Type 0
AreFewParts true pair r = IsWithinRank (dimension_of pair.m.vertices) r
AreFewParts false pair r = IsWithinScans pair r

-- or they aren't, for this cause
abbrev pub ArePartsRefused : Bool → PairState → ℕ → Refusal → Type 0
ArePartsRefused true pair r cause = IsRankRefusal (dimension_of pair.m.vertices) r cause
ArePartsRefused false pair r cause = IsScanRefusal pair r cause

-- the item has a pair whose nef partitions are listed, as the words ask: so many parts are within the limits
pub record IsListed (words : NefWords) (item : Listed) (pair : PairState) : Type 0 where
  pub has_pair : HasPair item pair
  pub within : AreFewParts words.list_only pair words.codim

-- the item has a pair, but so many parts aren't within the limits
pub record HasManyParts (words : NefWords) (item : Listed) (cause : Refusal) : Type 0 where
  pub pair : PairState
  pub has_pair : HasPair item pair
  pub refused : ArePartsRefused words.list_only pair words.codim cause

-- why the item is refused before anything is printed of it
abbrev pub IsItemRefusal : NefWords → Listed → Refusal → Type 0
IsItemRefusal words item cause = IsKindRefusal item cause ⊎ HasManyParts words item cause
