-- What is said of an item's nef partitions, as what `nef` says of an entry.
use Rattle.std.proofs.Common.{ℕ, ◌+◌, ◌≡◌, List, [], ◌∷◌, map, Result, Ok, Err, sym, subst}
use Rattle.lattice_core.specs.declared.faults.Refusal.{Refusal}
use Rattle.palp_io.specs.Sink.{SinkState}
use Rattle.report_theory.specs.Report.{Closing, Whole, Ends, Step, ArePieces, IsListFront}
use Rattle.report_theory.specs.Report.{one_more, no_more, nothing, front_part, front_piece, front_item}
use Rattle.report_theory.specs.Giving.{GivesItem, GivesFront}
use Rattle.palp_words.specs.declared.job.NefWords.{NefWords}
use Rattle.palp_words.specs.declared.job.Job.TheVariants.{Nef}
use Rattle.palp_input.specs.Grammar.{Listed}
use Rattle.nef_report.specs.Partitions.{PartitionsSay}
use Rattle.nef_report.specs.Answers.{ListingMeans}
use Rattle.nef_report.specs.declared.fault.NefFault.{NefFault}
use Rattle.nef_report.specs.declared.fault.NefFault.TheVariants as lists
use Rattle.palp_engine.specs.Entries.{Entry, TextItem}
use Rattle.palp_engine.specs.Commands.{Says}
use Rattle.palp_engine.specs.Sessions.{EntryMeans}
use Rattle.palp_engine.specs.RunSteps.{IsListStop}
use Rattle.palp_engine.specs.declared.session.ItemFault.{ItemFault}

-- what is said of items is said of others that stand for them
module _ {X Y R : Type 0} (says : X → ℕ → Step R → Type 0) (tells : Y → ℕ → Step R → Type 0) (stands : X → Y)
    (moves : (x : X) (k : ℕ) (step : Step R) → says x k step → tells (stands x) k step) where
  pub moved_pieces : (k : ℕ) (item : X) (pieces : List (List ℕ)) (closing : Closing R) → ArePieces says k item pieces closing
      → ArePieces tells k (stands item) pieces closing
  moved_pieces k item _ closing (one_more {later = later} a r) = one_more (moves item k _ a) (moved_pieces (k + 1) item later closing r)
  moved_pieces k item _ closing (no_more a) = no_more (moves item k _ a)

  pub moved_front : (k : ℕ) (items : List X) (front : List (List ℕ)) → IsListFront says k items front → IsListFront tells k (map stands items) front
  moved_front k items _ nothing = nothing
  moved_front _ _ _ (front_part {k = k} {item = item} a is) = front_part (moves item k _ a) is
  moved_front _ _ _ (front_piece {k = k} {item = item} {items = items} {later = later} a f) =
      front_piece (moves item k _ a) (moved_front (k + 1) (item ∷ items) later f)
  moved_front _ _ _ (front_item {k = k} {item = item} {items = items} {later = later} a on f) =
      front_item (moves item k _ a) on (moved_front 0 items later f)

  pub moved_item : (item : X) (closing : Closing R) (before now : SinkState) → GivesItem says item closing before now
      → GivesItem tells (stands item) closing before now
  moved_item item closing before now g =
      record { pieces = g.pieces; are_pieces = moved_pieces 0 item g.pieces closing g.are_pieces; gives = g.gives }

  pub moved_part : (item : X) (before now : SinkState) → GivesFront says (item ∷ []) before now → GivesFront tells (stands item ∷ []) before now
  moved_part item before now g = record { front = g.front; is_front = moved_front 0 (item ∷ []) g.front g.is_front; gives = g.gives }

module _ (words : NefWords) (item : Listed) (before now : SinkState) where
  says_it : (x : Listed) (k : ℕ) (step : Step Refusal) → PartitionsSay words x k step → Says (Nef words) (TextItem x) k step
  says_it x k step s = s

  as_item : (closing : Closing Refusal) → GivesItem (PartitionsSay words) item closing before now
      → GivesItem (Says (Nef words)) (TextItem item) closing before now
  as_item closing g = moved_item (PartitionsSay words) (Says (Nef words)) TextItem says_it item closing before now g

  as_part : GivesFront (PartitionsSay words) (item ∷ []) before now → GivesFront (Says (Nef words)) (TextItem item ∷ []) before now
  as_part g = moved_part (PartitionsSay words) (Says (Nef words)) TextItem says_it item before now g

  pub parts_given : ListingMeans (Ok tt) words item before now → EntryMeans (Ok tt) (Nef words) (TextItem item) before now
  parts_given g = as_item Whole g

  pub parts_stopped : (fault : NefFault) (told : ItemFault) → ListingMeans (Err fault) words item before now → IsListStop fault told
      → EntryMeans (Err told) (Nef words) (TextItem item) before now
  parts_stopped (lists.Refused cause) told g e =
      subst (λ (t : ItemFault). EntryMeans (Err t) (Nef words) (TextItem item) before now) (sym e) (as_item (Ends cause) g)
  parts_stopped lists.Write told g e =
      subst (λ (t : ItemFault). EntryMeans (Err t) (Nef words) (TextItem item) before now) (sym e) (g.0, as_part g.1)
  parts_stopped lists.NoMemory told g e =
      subst (λ (t : ItemFault). EntryMeans (Err t) (Nef words) (TextItem item) before now) (sym e) (as_part g)
