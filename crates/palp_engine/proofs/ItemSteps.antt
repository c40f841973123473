-- Giving the one piece of an item.
use Rattle.std.proofs.Common.{ℕ, ◌≤◌, Bool, true, false, List, [], ◌∷◌, Err, ◌≡◌, sym, subst}
use Rattle.lattice_core.specs.Stops.{Stops}
use Rattle.lattice_core.specs.declared.faults.Refusal.{Refusal}
use Rattle.lattice_core.specs.declared.faults.Fault.{Fault}
use Rattle.lattice_core.specs.declared.faults.Fault.TheVariants as faults
use Rattle.palp_io.specs.Sink.{SinkState, Gains, GainsFront}
use Rattle.report_theory.specs.Report.{Whole, Ends, Step}
use Rattle.report_theory.specs.Giving.{GivesItem, GivesFront}
use Rattle.report_theory.proofs.Givings.{item_nothing, item_piece, item_closed, item_front, item_part}
use Rattle.palp_words.specs.declared.job.Job.{Job}
use Rattle.palp_words.specs.declared.job.Job.TheVariants.{Poly}
use Rattle.palp_words.specs.declared.job.PolyFlags.{PolyFlags}
use Rattle.palp_input.specs.Grammar.{Listed}
use Rattle.palp_engine.specs.Items.{IsPiece, IsUnwanted, IsItemRefused}
use Rattle.palp_engine.specs.Entries.{Entry, TextItem}
use Rattle.palp_engine.specs.Commands.{BlocksSay, printed, whole, unwanted, refused, Says}
use Rattle.palp_engine.specs.Sessions.{EntryMeans}
use Rattle.palp_engine.specs.RunSteps.{IsItemStop}
use Rattle.palp_engine.specs.PieceSteps.{IsWritten}
use Rattle.palp_engine.specs.declared.session.ItemFault.{ItemFault}

-- the job says what its letters say
poly_says : (job : Job) (flags : PolyFlags) (item : Listed) (k : ℕ) (step : Step Refusal) → job ≡ Poly flags → BlocksSay flags item k step
    → Says job (TextItem item) k step
poly_says job flags item k step is a = subst (λ (j : Job). Says j (TextItem item) k step) (sym is) a

-- what was written, by the answer
module _ (flags : PolyFlags) (item : Listed) (page : List ℕ) where
  pub written : (wanted : Bool) → wanted ≡ true → IsWritten flags item page wanted → IsPiece flags item page
  written true e w = w
  written false e w = absurd (cc)

  pub unwritten : (wanted : Bool) → wanted ≡ false → IsWritten flags item page wanted → IsUnwanted flags item
  unwritten true e w = absurd (cc)
  unwritten false e w = w

module _ (job : Job) (flags : PolyFlags) (is : job ≡ Poly flags) (item : Listed) (out : SinkState) where
  abbrev entry : Entry
  entry = TextItem item

  pub refused_item : (cause : Refusal) → IsItemRefused flags item cause → GivesItem (Says job) entry (Ends cause) out out
  refused_item cause a = item_closed (Says job) out out entry 0 (item_nothing (Says job) out entry) (Ends cause)
      (poly_says job flags item 0 _ is (refused a))

  pub no_piece : GivesFront (Says job) (entry ∷ []) out out
  no_piece = item_front (Says job) out out entry 0 (item_nothing (Says job) out entry)

  -- an item that stops
  pub stopped_item : (fault : Fault) (told : ItemFault) → Stops (IsItemRefused flags item) fault → IsItemStop fault told
      → EntryMeans (Err told) job entry out out
  stopped_item (faults.Refused cause) told s e =
      subst (λ (t : ItemFault). EntryMeans (Err t) job entry out out) (sym e) (refused_item cause s)
  stopped_item faults.NoMemory told s e = subst (λ (t : ItemFault). EntryMeans (Err t) job entry out out) (sym e) no_piece

  -- an item without a piece
  pub unwanted_item : IsUnwanted flags item → GivesItem (Says job) entry Whole out out
  unwanted_item u = item_closed (Says job) out out entry 0 (item_nothing (Says job) out entry) Whole
      (poly_says job flags item 0 _ is (unwanted u))

  module _ (piece : List ℕ) (is_piece : IsPiece flags item piece) (last : SinkState) (later : out.faults ≤ last.faults) where
    pub whole_item : Gains out last piece → GivesItem (Says job) entry Whole out last
    whole_item g = item_closed (Says job) out last entry 1
        (item_piece (Says job) out out entry 0 (item_nothing (Says job) out entry) piece last (poly_says job flags item 0 _ is (printed is_piece))
        g later)
        Whole (poly_says job flags item 1 _ is whole)

    pub part_of_item : GainsFront out last piece → GivesFront (Says job) (entry ∷ []) out last
    part_of_item g = item_part (Says job) out out entry 0 (item_nothing (Says job) out entry) piece last
        (poly_says job flags item 0 _ is (printed is_piece)) g later
