-- Giving what is said of an item, one piece after another.
use Rattle.std.proofs.Common.{◌≡◌, ℕ, ◌+◌, ◌<◌, ◌≤◌, List, ◌∷◌, [], Result, Ok, Err, refl, sym, subst, inl, inr, arith}
use Rattle.lattice_core.specs.Stops.{Stops}
use Rattle.lattice_core.specs.declared.faults.Refusal.{Refusal}
use Rattle.lattice_core.specs.declared.faults.Refusal.TheVariants.{Limit}
use Rattle.lattice_core.specs.declared.faults.LimitName.TheVariants.{Partitions}
use Rattle.lattice_core.specs.declared.faults.Fault.{Fault}
use Rattle.lattice_core.specs.declared.faults.Fault.TheVariants as stops
use Rattle.palp_io.specs.Sink.{SinkState}
use Rattle.palp_io.proofs.FaultLemmas.{Rose-late}
use Rattle.report_theory.specs.Report.{Whole, Ends, Piece, Close}
use Rattle.report_theory.specs.Giving.{GivesItem, GivesFront}
use Rattle.report_theory.proofs.Givings.{ItemSoFar, item_nothing, item_piece, item_closed, item_front, item_part}
use Rattle.palp_words.specs.declared.job.NefWords.{NefWords}
use Rattle.palp_input.specs.Grammar.{Listed}
use Rattle.palp_print.specs.Lists.{closing}
use Rattle.palp_print.specs.declared.titles.CountTitle.TheVariants.{Nef}
use Rattle.dual_pair.specs.Polytopes.{PolytopeState}
use Rattle.dual_pair.specs.Pairs.{PairState}
use Rattle.nef_parts.specs.Lists.{lists_of}
use Rattle.nef_parts.specs.Partitions.{IsNefAt, HasNefPartitions}
use Rattle.item_polytopes.specs.Kinds.{IsOther, HasPair, IsKindRefusal}
use Rattle.nef_report.specs.Items.{ArePartsRefused, IsListed, IsItemRefusal}
use Rattle.nef_report.specs.Partitions.{body_text, heading_text, IsPartPiece, IsPartRefusal, listed, not_numbered, too_many, counted, behind_count}
use Rattle.nef_report.specs.Partitions.{PartitionsSay, refused, body, behind_body, heading, behind_heading}
use Rattle.nef_report.specs.Answers.{ListingMeans, LineMeans, IsStop}
use Rattle.nef_report.specs.declared.fault.NefFault.{NefFault}
use Rattle.nef_report.specs.declared.fault.NefFault.TheVariants as faults

module _ (words : NefWords) (item : Listed) (first mid : SinkState) (k : ℕ) (so_far : ItemSoFar (PartitionsSay words) item k first mid) where
  -- the report is left off between two pieces
  pub left_off : GivesFront (PartitionsSay words) (item ∷ []) first mid
  left_off = item_front (PartitionsSay words) first mid item k so_far

  module _ (last : SinkState) (line : List ℕ) (says : PartitionsSay words item k (Piece line)) where
    -- a line was given
    pub line_given : LineMeans line mid last (Ok tt) → ItemSoFar (PartitionsSay words) item (k + 1) first last
    line_given m = item_piece (PartitionsSay words) first mid item k so_far line last says m.answer m.later

    -- or not
    pub line_stopped : (fault : NefFault) → LineMeans line mid last (Err fault) → ListingMeans (Err fault) words item first last
    line_stopped (faults.Refused cause) m = absurd m.answer
    line_stopped faults.Write m = (
      Rose-late first.faults mid.faults last.faults so_far.gives.later m.answer.rose,
      item_part (PartitionsSay words) first mid item k so_far line last says m.answer.part m.later,
    )
    line_stopped faults.NoMemory m = subst (λ (s : SinkState). GivesFront (PartitionsSay words) (item ∷ []) first s) (sym m.answer) left_off

    -- the last line
    pub last_line : PartitionsSay words item (k + 1) (Close Whole) → (result : Result (Unit {0}) NefFault) → LineMeans line mid last result
        → ListingMeans result words item first last
    last_line end (Ok tt) m = item_closed (PartitionsSay words) first last item (k + 1) (line_given m) Whole end
    last_line end (Err fault) m = line_stopped fault m

module _ (words : NefWords) (item : Listed) (first : SinkState) where
  -- nothing was given yet
  refused_first : (cause : Refusal) → IsItemRefusal words item cause → GivesItem (PartitionsSay words) item (Ends cause) first first
  refused_first cause h = item_closed (PartitionsSay words) first first item 0 (item_nothing (PartitionsSay words) first item) (Ends cause) (refused refl h)

  nothing_given : GivesFront (PartitionsSay words) (item ∷ []) first first
  nothing_given = left_off words item first first 0 (item_nothing (PartitionsSay words) first item)

  pub no_memory : (told : NefFault) → told ≡ faults.NoMemory → ListingMeans (Err told) words item first first
  no_memory told e = subst (λ (t : NefFault). ListingMeans (Err t) words item first first) (sym e) nothing_given

  pub kind_stopped : (fault : Fault) (told : NefFault) → Stops (IsKindRefusal item) fault → IsStop fault told → ListingMeans (Err told) words item first first
  kind_stopped (stops.Refused cause) told s e =
      subst (λ (t : NefFault). ListingMeans (Err t) words item first first) (sym e) (refused_first cause (inl s))
  kind_stopped stops.NoMemory told s e = no_memory told e

  pub parts_stopped : (pair : PairState) → HasPair item pair → (fault : Fault) (told : NefFault)
      → Stops (ArePartsRefused words.list_only pair words.codim) fault → IsStop fault told → ListingMeans (Err told) words item first first
  parts_stopped pair has (stops.Refused cause) told s e = subst (λ (t : NefFault). ListingMeans (Err t) words item first first) (sym e)
      (refused_first cause (inr (record { pair = pair; has_pair = has; refused = s })))
  parts_stopped pair has stops.NoMemory told s e = no_memory told e

  -- the one line of a polytope that isn't reflexive
  pub body_told : (p : PolytopeState) (last : SinkState) (result : Result (Unit {0}) NefFault) → IsOther item p
      → LineMeans (body_text item p) first last result → ListingMeans result words item first last
  body_told p last result is m = last_line words item first first 0 (item_nothing (PartitionsSay words) first item) last (body_text item p) (body refl is)
      (behind_body refl is) result m

  module _ (pair : PairState) (is : IsListed words item pair) (last : SinkState) where
    pub heading_given : LineMeans (heading_text words.codim item pair) first last (Ok tt) → ItemSoFar (PartitionsSay words) item 1 first last
    heading_given m = line_given words item first first 0 (item_nothing (PartitionsSay words) first item) last (heading_text words.codim item pair) (heading refl is) m

    pub heading_stopped : (fault : NefFault) → LineMeans (heading_text words.codim item pair) first last (Err fault) → ListingMeans (Err fault) words item first last
    heading_stopped fault m = line_stopped words item first first 0 (item_nothing (PartitionsSay words) first item) last (heading_text words.codim item pair)
        (heading refl is) fault m

module _ (words : NefWords) (item : Listed) (pair : PairState) (is : IsListed words item pair) (first mid : SinkState) (k : ℕ)
    (so_far : ItemSoFar (PartitionsSay words) item (k + 1) first mid) where
  -- want of memory behind some lines
  pub stopped_behind : (told : NefFault) → told ≡ faults.NoMemory → ListingMeans (Err told) words item first mid
  stopped_behind told e = subst (λ (t : NefFault). ListingMeans (Err t) words item first mid) (sym e) (left_off words item first mid (k + 1) so_far)

  module _ (parts : List ℕ) (at : IsNefAt (lists_of pair) words.codim k parts) where
    -- one more partition
    module _ (within : k < 1048576) where
      module _ (piece : List ℕ) (tells : IsPartPiece words pair (k + 1) parts piece) (last : SinkState) where
        pub partition_given : LineMeans piece mid last (Ok tt) → ItemSoFar (PartitionsSay words) item (k + 1 + 1) first last
        partition_given m = line_given words item first mid (k + 1) so_far last piece (behind_heading refl is (listed within at tells)) m

        pub partition_stopped : (fault : NefFault) → LineMeans piece mid last (Err fault) → ListingMeans (Err fault) words item first last
        partition_stopped fault m = line_stopped words item first mid (k + 1) so_far last piece (behind_heading refl is (listed within at tells)) fault m

      -- or its numbers are refused
      pub partition_refused : (fault : Fault) (told : NefFault) → Stops (IsPartRefusal words pair parts) fault → IsStop fault told
          → ListingMeans (Err told) words item first mid
      partition_refused (stops.Refused cause) told s e = subst (λ (t : NefFault). ListingMeans (Err t) words item first mid) (sym e)
          (item_closed (PartitionsSay words) first mid item (k + 1) so_far (Ends cause) (behind_heading refl is (not_numbered within at s)))
      partition_refused stops.NoMemory told s e = stopped_behind told e

    -- one too many
    pub many_refused : k ≡ 1048576 → ListingMeans (Err (faults.Refused (Limit Partitions 1048577))) words item first mid
    many_refused e = item_closed (PartitionsSay words) first mid item (k + 1) so_far (Ends (Limit Partitions 1048577))
        (behind_heading refl is (too_many e at))

  -- how many there are
  pub count_told : k ≤ 1048576 → HasNefPartitions (lists_of pair) words.codim k → (last : SinkState) (result : Result (Unit {0}) NefFault)
      → LineMeans (closing Nef k) mid last result → ListingMeans result words item first last
  count_told most has last result m = last_line words item first mid (k + 1) so_far last (closing Nef k) (behind_heading refl is (counted most has))
      (behind_heading refl is (behind_count refl most has)) result m
