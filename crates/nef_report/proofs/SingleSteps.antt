-- What is said of an item next is one thing.
use Rattle.std.proofs.Common.{◌≡◌, ℕ, ◌+◌, ◌<◌, Bool, true, false, List, [], ◌++◌, refl, sym, ◌∙◌, ap, subst, arith}
use Rattle.lattice_core.specs.Dimensions.{dimension_of}
use Rattle.lattice_core.specs.declared.faults.Refusal.{Refusal}
use Rattle.report_theory.specs.Report.{Ends, Step, Piece, Close}
use Rattle.palp_words.specs.declared.job.NefWords.{NefWords}
use Rattle.palp_input.specs.Grammar.{Listed}
use Rattle.palp_print.specs.Partitions.{partition_with, diamond}
use Rattle.dual_pair.specs.Polytopes.{PolytopeState}
use Rattle.dual_pair.specs.Pairs.{PairState, IsPair}
use Rattle.stringy.specs.Numbers.{EState}
use Rattle.nef_parts.specs.Lists.{PairLists, lists_of}
use Rattle.nef_parts.specs.Partitions.{IsNefAt, HasNefPartitions}
use Rattle.nef_parts.proofs.FirstPartitions.{one_partition_at_lem, fewer_than_all_lem, one_number_lem}
use Rattle.cayley.specs.Limits.{IsWithinRank}
use Rattle.nef_numbers.specs.Laws.{TellTheSame}
use Rattle.nef_numbers.proofs.SingleNumbers.{numbers_are_single_lem, one_refusal_lem, numbers_or_refusal_lem}
use Rattle.item_polytopes.proofs.SingleKinds.{one_polytope, one_pair}
use Rattle.nef_report.specs.Items.{AreFewParts, IsListed}
use Rattle.nef_report.specs.Partitions.{body_text, heading_text, numbers_text, TellsPartition, IsPartitionRefused, IsPartPiece, IsPartRefusal}
use Rattle.nef_report.specs.Partitions.{PartsSay, listed, not_numbered, too_many, counted, behind_count}
use Rattle.nef_report.specs.Partitions.{PartitionsSay, refused, body, behind_body, heading, behind_heading}
use Rattle.nef_report.specs.Laws.{OneListingStep}
use Rattle.nef_report.proofs.SingleParts.{few_are_within}
use Rattle.nef_report.proofs.SingleListings.{one_item_refusal, listed_or_refused, other_or_refused, other_or_listed}

-- a partition has one piece, or one refusal
module _ (words : NefWords) (pair : PairState) (is : IsPair pair) (within : AreFewParts words.list_only pair words.codim) where
  in_rank : IsWithinRank (dimension_of pair.m.vertices) words.codim
  in_rank = few_are_within words.list_only pair words.codim within

  same_text : (full : Bool) (number : ℕ) (parts : List ℕ) (e f : EState) → TellTheSame e f → numbers_text full number parts e ≡ numbers_text full number parts f
  same_text true number parts e f t = (λ i. partition_with number parts (t.first i) (t.euler i) ++ diamond (t.dim i) (t.lines i))
  same_text false number parts e f t = (λ i. partition_with number parts (t.first i) (t.euler i) ++ [])

  one_piece_of : (only full : Bool) (number : ℕ) (parts piece other : List ℕ) → TellsPartition only full pair words.codim number parts piece
      → TellsPartition only full pair words.codim number parts other → piece ≡ other
  one_piece_of true full number parts piece other a b = a ∙ sym b
  one_piece_of false full number parts piece other a b = a.piece_is ∙ (same_text full number parts a.numbers b.numbers
      (numbers_are_single_lem pair words.codim parts a.numbers b.numbers is in_rank a.has_numbers b.has_numbers) ∙ sym b.piece_is)

  one_refusal_of : (only : Bool) (parts : List ℕ) (cause other : Refusal) → IsPartitionRefused only pair words.codim parts cause
      → IsPartitionRefused only pair words.codim parts other → cause ≡ other
  one_refusal_of true parts cause other a b = absurd a
  one_refusal_of false parts cause other a b = one_refusal_lem pair words.codim parts cause other a b

  piece_or_refusal : (only full : Bool) (number : ℕ) (parts piece : List ℕ) (cause : Refusal) → TellsPartition only full pair words.codim number parts piece
      → IsPartitionRefused only pair words.codim parts cause → ⊥
  piece_or_refusal true full number parts piece cause a b = b
  piece_or_refusal false full number parts piece cause a b = numbers_or_refusal_lem pair words.codim parts a.numbers cause a.has_numbers b

module _ (words : NefWords) (pair : PairState) (is : IsPair pair) (within : AreFewParts words.list_only pair words.codim) (k : ℕ) where
  abbrev l : PairLists
  l = lists_of pair

  abbrev r : ℕ
  r = words.codim

  -- the partition at a place, and as many or fewer partitions
  at_or_count : {Z : Type 0} (parts : List ℕ) → IsNefAt l r k parts → HasNefPartitions l r k → Z
  at_or_count parts at has = let h = fewer_than_all_lem l r k k parts at has in absurd (omega (arith, h))

  at_or_behind : {Z : Type 0} (parts : List ℕ) (count : ℕ) → IsNefAt l r k parts → k ≡ count + 1 → HasNefPartitions l r count → Z
  at_or_behind parts count at e has = let h = fewer_than_all_lem l r k count parts at has in absurd (omega (arith, h, e))

  count_or_behind : {Z : Type 0} (count : ℕ) → HasNefPartitions l r k → k ≡ count + 1 → HasNefPartitions l r count → Z
  count_or_behind count a e b = let h = one_number_lem l r k count a b in absurd (omega (arith, h, e))

  within_or_at : {Z : Type 0} (most : ℕ) → k < most → k ≡ most → Z
  within_or_at most h e = absurd (omega (arith, h, e))

  same_parts : (p q : List ℕ) → IsNefAt l r k p → IsNefAt l r k q → q ≡ p
  same_parts p q a b = one_partition_at_lem l r k q p b a

  one_piece : (p q piece other : List ℕ) → IsNefAt l r k p → IsNefAt l r k q → IsPartPiece words pair (k + 1) p piece
      → IsPartPiece words pair (k + 1) q other → piece ≡ other
  one_piece p q piece other a b s t = one_piece_of words pair is within words.list_only words.full (k + 1) p piece other s
      (subst (λ (x : List ℕ). IsPartPiece words pair (k + 1) x other) (same_parts p q a b) t)

  one_refusal : (p q : List ℕ) (cause other : Refusal) → IsNefAt l r k p → IsNefAt l r k q → IsPartRefusal words pair p cause
      → IsPartRefusal words pair q other → cause ≡ other
  one_refusal p q cause other a b s t = one_refusal_of words pair is within words.list_only p cause other s
      (subst (λ (x : List ℕ). IsPartRefusal words pair x other) (same_parts p q a b) t)

  piece_or_not : {Z : Type 0} (p q piece : List ℕ) (cause : Refusal) → IsNefAt l r k p → IsNefAt l r k q → IsPartPiece words pair (k + 1) p piece
      → IsPartRefusal words pair q cause → Z
  piece_or_not p q piece cause a b s t = absurd (piece_or_refusal words pair is within words.list_only words.full (k + 1) p piece cause s
      (subst (λ (x : List ℕ). IsPartRefusal words pair x cause) (same_parts p q a b) t))

  pub one_parts_step : (step other : Step Refusal) → PartsSay words pair k step → PartsSay words pair k other → step ≡ other
  one_parts_step _ _ (listed {parts = p} {piece = x} h a s) (listed {parts = q} {piece = y} i b t) = ap Piece (one_piece p q x y a b s t)
  one_parts_step _ _ (listed {parts = p} {piece = x} h a s) (not_numbered {parts = q} {cause = d} i b t) = piece_or_not p q x d a b s t
  one_parts_step _ _ (listed h a s) (too_many e b) = within_or_at 1048576 h e
  one_parts_step _ _ (listed {parts = p} h a s) (counted i b) = at_or_count p a b
  one_parts_step _ _ (listed {parts = p} h a s) (behind_count {count = c} e i b) = at_or_behind p c a e b
  one_parts_step _ _ (not_numbered {parts = p} {cause = c} h a s) (listed {parts = q} {piece = y} i b t) = piece_or_not q p y c b a t s
  one_parts_step _ _ (not_numbered {parts = p} {cause = c} h a s) (not_numbered {parts = q} {cause = d} i b t) =
      ap (λ (x : Refusal). Close (Ends x)) (one_refusal p q c d a b s t)
  one_parts_step _ _ (not_numbered h a s) (too_many e b) = within_or_at 1048576 h e
  one_parts_step _ _ (not_numbered {parts = p} h a s) (counted i b) = at_or_count p a b
  one_parts_step _ _ (not_numbered {parts = p} h a s) (behind_count {count = c} e i b) = at_or_behind p c a e b
  one_parts_step _ _ (too_many e a) (listed h b t) = within_or_at 1048576 h e
  one_parts_step _ _ (too_many e a) (not_numbered h b t) = within_or_at 1048576 h e
  one_parts_step _ _ (too_many e a) (too_many f b) = refl
  one_parts_step _ _ (too_many {parts = p} e a) (counted i b) = at_or_count p a b
  one_parts_step _ _ (too_many {parts = p} e a) (behind_count {count = c} f i b) = at_or_behind p c a f b
  one_parts_step _ _ (counted h a) (listed {parts = q} i b t) = at_or_count q b a
  one_parts_step _ _ (counted h a) (not_numbered {parts = q} i b t) = at_or_count q b a
  one_parts_step _ _ (counted h a) (too_many {parts = q} e b) = at_or_count q b a
  one_parts_step _ _ (counted h a) (counted i b) = refl
  one_parts_step _ _ (counted h a) (behind_count {count = c} e i b) = count_or_behind c a e b
  one_parts_step _ _ (behind_count {count = c} e h a) (listed {parts = q} i b t) = at_or_behind q c b e a
  one_parts_step _ _ (behind_count {count = c} e h a) (not_numbered {parts = q} i b t) = at_or_behind q c b e a
  one_parts_step _ _ (behind_count {count = c} e h a) (too_many {parts = q} f b) = at_or_behind q c b e a
  one_parts_step _ _ (behind_count {count = c} e h a) (counted i b) = count_or_behind c b e a
  one_parts_step _ _ (behind_count e h a) (behind_count f i b) = refl

same_place : (k later other : ℕ) → k ≡ later + 1 → k ≡ other + 1 → later ≡ other
same_place k later other e f = omega (arith, e, f)

module _ (words : NefWords) (item : Listed) (k : ℕ) where
  -- behind the first line there is another place
  first_or_later : {Z : Type 0} (later : ℕ) → k ≡ 0 → k ≡ later + 1 → Z
  first_or_later later e f = absurd (omega (arith, e, f))

  first_or_second : {Z : Type 0} → k ≡ 0 → k ≡ 1 → Z
  first_or_second e f = absurd (omega (arith, e, f))

  same_parts_say : (pair other : PairState) (later place : ℕ) (step : Step Refusal) → IsListed words item pair → IsListed words item other
      → later ≡ place → PartsSay words other place step → PartsSay words pair later step
  same_parts_say pair other later place step a b e s =
      subst (λ (q : PairState). PartsSay words q later step) (one_pair item other pair b.has_pair a.has_pair)
      (subst (λ (n : ℕ). PartsSay words other n step) (sym e) s)

  one_step : (step other : Step Refusal) → PartitionsSay words item k step → PartitionsSay words item k other → step ≡ other
  one_step _ _ (refused {cause = c} e a) (refused {cause = d} f b) = ap (λ (x : Refusal). Close (Ends x)) (one_item_refusal item words c d a b)
  one_step _ _ (refused {cause = c} e a) (body {p = q} f b) = absurd (other_or_refused item words q c b a)
  one_step _ _ (refused {cause = c} e a) (behind_body {p = q} f b) = absurd (other_or_refused item words q c b a)
  one_step _ _ (refused {cause = c} e a) (heading {pair = q} f b) = absurd (listed_or_refused item words q c b a)
  one_step _ _ (refused {cause = c} e a) (behind_heading {pair = q} f b s) = absurd (listed_or_refused item words q c b a)
  one_step _ _ (body {p = p} e a) (refused {cause = d} f b) = absurd (other_or_refused item words p d a b)
  one_step _ _ (body {p = p} e a) (body {p = q} f b) =
      ap (λ (x : PolytopeState). Piece (body_text item x)) (one_polytope item p q a.has_polytope b.has_polytope)
  one_step _ _ (body e a) (behind_body f b) = first_or_second e f
  one_step _ _ (body {p = p} e a) (heading {pair = q} f b) = absurd (other_or_listed item words p q a b)
  one_step _ _ (body {p = p} e a) (behind_heading {pair = q} f b s) = absurd (other_or_listed item words p q a b)
  one_step _ _ (behind_body {p = p} e a) (refused {cause = d} f b) = absurd (other_or_refused item words p d a b)
  one_step _ _ (behind_body e a) (body f b) = first_or_second f e
  one_step _ _ (behind_body e a) (behind_body f b) = refl
  one_step _ _ (behind_body {p = p} e a) (heading {pair = q} f b) = absurd (other_or_listed item words p q a b)
  one_step _ _ (behind_body {p = p} e a) (behind_heading {pair = q} f b s) = absurd (other_or_listed item words p q a b)
  one_step _ _ (heading {pair = p} e a) (refused {cause = d} f b) = absurd (listed_or_refused item words p d a b)
  one_step _ _ (heading {pair = p} e a) (body {p = q} f b) = absurd (other_or_listed item words q p b a)
  one_step _ _ (heading {pair = p} e a) (behind_body {p = q} f b) = absurd (other_or_listed item words q p b a)
  one_step _ _ (heading {pair = p} e a) (heading {pair = q} f b) =
      ap (λ (x : PairState). Piece (heading_text words.codim item x)) (one_pair item p q a.has_pair b.has_pair)
  one_step _ _ (heading e a) (behind_heading {later = l} f b s) = first_or_later l e f
  one_step _ _ (behind_heading {pair = p} e a s) (refused {cause = d} f b) = absurd (listed_or_refused item words p d a b)
  one_step _ _ (behind_heading {pair = p} e a s) (body {p = q} f b) = absurd (other_or_listed item words q p b a)
  one_step _ _ (behind_heading {pair = p} e a s) (behind_body {p = q} f b) = absurd (other_or_listed item words q p b a)
  one_step _ _ (behind_heading {later = l} e a s) (heading f b) = first_or_later l f e
  one_step _ _ (behind_heading {pair = p} {later = l} {step = x} e a s) (behind_heading {pair = q} {later = m} {step = y} f b t) =
      one_parts_step words p a.has_pair.is_pair a.within l x y s (same_parts_say p q l m y a b (same_place k l m e f) t)

pub one_listing_step : OneListingStep
one_listing_step words item k step other a b = one_step words item k step other a b
