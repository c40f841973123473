-- An item is listed, isn't reflexive, or is refused, and that once.
use Rattle.std.proofs.Common.{◌≡◌, subst, inl, inr}
use Rattle.lattice_core.specs.declared.faults.Refusal.{Refusal}
use Rattle.palp_words.specs.declared.job.NefWords.{NefWords}
use Rattle.palp_input.specs.Grammar.{Listed}
use Rattle.dual_pair.specs.Polytopes.{PolytopeState}
use Rattle.dual_pair.specs.Pairs.{PairState}
use Rattle.item_polytopes.specs.Kinds.{IsOther, HasPair}
use Rattle.item_polytopes.proofs.SingleKinds.{one_pair, one_kind_refusal, pair_or_refusal, other_or_kind_refusal, other_or_pair}
use Rattle.nef_report.specs.Items.{ArePartsRefused, IsListed, HasManyParts, IsItemRefusal}
use Rattle.nef_report.proofs.SingleParts.{one_parts_refusal, few_or_refused}

module _ (item : Listed) (words : NefWords) where
  same_parts : (pair : PairState) (cause : Refusal) (b : HasManyParts words item cause) → HasPair item pair
      → ArePartsRefused words.list_only pair words.codim cause
  same_parts pair cause b a = subst (λ (q : PairState). ArePartsRefused words.list_only q words.codim cause) (one_pair item b.pair pair b.has_pair a) b.refused

  pub one_item_refusal : (cause other : Refusal) → IsItemRefusal words item cause → IsItemRefusal words item other → cause ≡ other
  one_item_refusal cause other (inl a) (inl b) = one_kind_refusal item cause other a b
  one_item_refusal cause other (inl a) (inr b) = absurd (pair_or_refusal item b.pair cause b.has_pair a)
  one_item_refusal cause other (inr a) (inl b) = absurd (pair_or_refusal item a.pair other a.has_pair b)
  one_item_refusal cause other (inr a) (inr b) =
      one_parts_refusal words.list_only a.pair words.codim cause other a.refused (same_parts a.pair other b a.has_pair)

  pub listed_or_refused : (pair : PairState) (cause : Refusal) → IsListed words item pair → IsItemRefusal words item cause → ⊥
  listed_or_refused pair cause a (inl b) = pair_or_refusal item pair cause a.has_pair b
  listed_or_refused pair cause a (inr b) =
      few_or_refused words.list_only pair words.codim cause a.within (same_parts pair cause b a.has_pair)

  pub other_or_refused : (p : PolytopeState) (cause : Refusal) → IsOther item p → IsItemRefusal words item cause → ⊥
  other_or_refused p cause a (inl b) = other_or_kind_refusal item p cause a b
  other_or_refused p cause a (inr b) = other_or_pair item p b.pair a b.has_pair

  pub other_or_listed : (p : PolytopeState) (pair : PairState) → IsOther item p → IsListed words item pair → ⊥
  other_or_listed p pair a b = other_or_pair item p pair a b.has_pair
