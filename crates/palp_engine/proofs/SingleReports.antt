-- A job says of an item one thing; so words and a text have one report, which ends with one outcome, and fronts of it are its fronts.
use Rattle.std.proofs.Common.{◌≡◌, ℕ, List, [], map, Option, Ok, Err, refl, sym, ◌∙◌, ap, subst}
use Rattle.lattice_core.specs.declared.faults.Refusal.{Refusal}
use Rattle.palp_io.proofs.SinkLemmas.{IsPrefix-nothing}
use Rattle.std.specs.List.{concat}
use Rattle.palp_io.specs.Sink.{IsPrefix}
use Rattle.report_theory.specs.Report.{Ends, Step, Piece, Close, Stop, SaysOne, IsListReport}
use Rattle.report_theory.proofs.Reports as reports
use Rattle.palp_words.specs.Words.{words_of}
use Rattle.palp_words.specs.declared.fault.WordFault.{WordFault}
use Rattle.palp_words.specs.declared.job.Job.{Job}
use Rattle.palp_words.specs.declared.job.Job.TheVariants.{Poly, Nef, Cws, Sweep}
use Rattle.palp_words.specs.declared.job.PolyFlags.{PolyFlags}
use Rattle.palp_input.specs.Grammar.{Listed, TextEnd}
use Rattle.palp_engine.specs.Entries.{Entry, TextItem, OfList, AreRangeEntries, AreEntries}
use Rattle.weight_lists.proofs.Single.{one_list_of_entries_lem, one_cws_step_lem, one_sweep_step_lem}
use Rattle.nef_report.proofs.SingleSteps.{one_listing_step}
use Rattle.palp_engine.specs.Commands.{BlocksSay, printed, whole, unwanted, refused, Says, GiveJob}
use Rattle.palp_engine.specs.Texts.{outcome_with, HaveReport, of_entries, of_bad_words, IsFront, no_front, front_of_entries}
use Rattle.palp_engine.specs.Laws.{OneListOfEntries, OneList, OneReport, FrontsAreFronts, EmptyFront}
use Rattle.palp_engine.specs.declared.outcome.Outcome.{Outcome}
use Rattle.palp_engine.specs.declared.outcome.Outcome.TheVariants.{BadWords}
use Rattle.palp_engine.proofs.SingleItems.{one_piece, one_item_refusal, piece_or_refusal, piece_or_none, none_or_refusal}

says_one_piece : (flags : PolyFlags) (item : Listed) (k : ℕ) (step other : Step Refusal) → BlocksSay flags item k step
    → BlocksSay flags item k other → step ≡ other
says_one_piece flags item _ _ _ (printed {bytes = p} a) (printed {bytes = q} b) = ap Piece (one_piece flags item p q a b)
says_one_piece flags item _ _ _ (printed {bytes = p} a) (refused {cause = c} b) = absurd (piece_or_refusal flags item p c a b)
says_one_piece flags item _ _ _ (refused {cause = c} a) (printed {bytes = p} b) = absurd (piece_or_refusal flags item p c b a)
says_one_piece flags item _ _ _ (refused {cause = c} a) (refused {cause = d} b) =
    ap (λ (x : Refusal). Close (Ends x)) (one_item_refusal flags item c d a b)
says_one_piece flags item _ _ _ (printed {bytes = p} a) (unwanted b) = absurd (piece_or_none flags item p a b)
says_one_piece flags item _ _ _ (unwanted a) (printed {bytes = q} b) = absurd (piece_or_none flags item q b a)
says_one_piece flags item _ _ _ (unwanted a) (refused {cause = d} b) = absurd (none_or_refusal flags item d a b)
says_one_piece flags item _ _ _ (refused {cause = c} a) (unwanted b) = absurd (none_or_refusal flags item c b a)
says_one_piece flags item _ _ _ (unwanted a) (unwanted b) = refl
says_one_piece flags item _ _ _ whole whole = refl

pub says_one : (job : Job) → SaysOne (Says job)
says_one (Poly flags) (TextItem item) k step other a b = says_one_piece flags item k step other a b
says_one (Poly flags) (OfList entry) k step other a b = absurd a
says_one (Nef words) (TextItem item) k step other a b = one_listing_step words item k step other a b
says_one (Nef words) (OfList entry) k step other a b = absurd a
says_one (Cws words) (TextItem item) k step other a b = absurd a
says_one (Cws words) (OfList entry) k step other a b = one_cws_step_lem words.reflexive_only entry k step other a b
says_one (Sweep words) (TextItem item) k step other a b = absurd a
says_one (Sweep words) (OfList entry) k step other a b = one_sweep_step_lem entry k step other a b

-- a range has one list of entries
one_range : (dim low high : ℕ) (entries others : List Entry) (ending another : TextEnd) → AreRangeEntries dim low high entries ending
    → AreRangeEntries dim low high others another → (entries ≡ others) × (ending ≡ another)
one_range dim low high entries others ending another a b = (
  a.entries_are ∙ (ap (map OfList) (one_list_of_entries_lem dim low high a.listed b.listed a.are_listed b.are_listed) ∙ sym b.entries_are),
  a.ending_is ∙ sym b.ending_is,
)

pub one_list_of_entries : OneListOfEntries
one_list_of_entries (Poly flags) text entries others ending another a b =
    (a.entries_are ∙ sym b.entries_are, a.ending_is ∙ sym b.ending_is)
one_list_of_entries (Nef words) text entries others ending another a b =
    (a.entries_are ∙ sym b.entries_are, a.ending_is ∙ sym b.ending_is)
one_list_of_entries (Cws words) text entries others ending another a b =
    one_range words.dim words.low words.high entries others ending another a b
one_list_of_entries (Sweep words) text entries others ending another a b =
    one_range words.dim words.low words.high entries others ending another a b

pub one_list : OneList
one_list job entry pieces other closing another a b = reports.one_list (Says job) (says_one job) 0 entry pieces other closing another a b

-- words give one job, or have a fault
module _ (words : List (List ℕ)) where
  pub same_job : (job other : Job) → words_of words ≡ Ok job → words_of words ≡ Ok other → job ≡ other
  same_job job other e f = let d = sym e ∙ f in cc

  pub job_or_fault : {Z : Type 0} (job : Job) (fault : WordFault) → words_of words ≡ Ok job → words_of words ≡ Err fault → Z
  job_or_fault job fault e f = absurd (let d = sym e ∙ f in cc)

  same_fault : (fault other : WordFault) → words_of words ≡ Err fault → words_of words ≡ Err other → fault ≡ other
  same_fault fault other e f = let d = sym e ∙ f in cc

module _ (words : List (List ℕ)) (text : List ℕ) where
  -- words give one job, which reports on one list of entries
  same_entries : (b c : GiveJob words) (entries others : List Entry) (ending another : TextEnd) → AreEntries b.job text entries ending
      → AreEntries c.job text others another → (entries ≡ others) × (ending ≡ another)
  same_entries b c entries others ending another e f = one_list_of_entries b.job text entries others ending another e
      (subst (λ (j : Job). AreEntries j text others another) (same_job words c.job b.job c.gives b.gives) f)

  -- what is said of the same entries under one job is said under the other
  moved_report : (b c : GiveJob words) (entries others : List Entry) (report : List (List ℕ)) (stop : Option (Stop Refusal))
      → entries ≡ others → IsListReport (Says c.job) 1 0 others report stop → IsListReport (Says b.job) 1 0 entries report stop
  moved_report b c entries others report stop e r = subst (λ (xs : List Entry). IsListReport (Says b.job) 1 0 xs report stop) (sym e)
      (subst (λ (j : Job). IsListReport (Says j) 1 0 others report stop) (same_job words c.job b.job c.gives b.gives) r)

  -- the report's outcome, by the first refusal
  one_report_of : (report other : List (List ℕ)) (outcome another : Outcome)
      → HaveReport words text report outcome → HaveReport words text other another → (report ≡ other) × (outcome ≡ another)
  one_report_of _ _ _ _ (of_entries {entries = xs} {report = p} {stop = s} b x e r)
      (of_entries {entries = ys} {report = q} {stop = t} c y f u) =
      let same = same_entries b c xs ys x y e f in
      let one = reports.one_report (Says b.job) (says_one b.job) 1 0 xs p q s t r (moved_report b c xs ys q t same.0 u) in
      (one.0, ap (λ (z : TextEnd). outcome_with s z) same.1 ∙ ap (λ (z : Option (Stop Refusal)). outcome_with z y) one.1)
  one_report_of _ _ _ _ (of_entries b _ _ r) (of_bad_words {fault = f} e) = job_or_fault words b.job f b.gives e
  one_report_of _ _ _ _ (of_bad_words {fault = f} e) (of_entries b _ _ r) = job_or_fault words b.job f b.gives e
  one_report_of _ _ _ _ (of_bad_words {fault = f} e) (of_bad_words {fault = g} d) = (refl, ap BadWords (same_fault words f g e d))

  fronts_of : (front report : List (List ℕ)) (outcome : Outcome) → IsFront words text front → HaveReport words text report outcome
      → IsPrefix (concat front) (concat report)
  fronts_of _ report outcome no_front r = IsPrefix-nothing (concat report)
  fronts_of _ _ _ (front_of_entries {entries = xs} {front = f} b x e i)
      (of_entries {entries = ys} {report = q} {stop = t} c y g u) =
      reports.fronts_are_fronts (Says b.job) (says_one b.job) 0 1 xs f q t i
      (moved_report b c xs ys q t (same_entries b c xs ys x y e g).0 u)
  fronts_of _ _ _ (front_of_entries b _ _ i) (of_bad_words {fault = f} e) = job_or_fault words b.job f b.gives e

  empty_of : (front report : List (List ℕ)) (outcome : Outcome) → report ≡ [] → IsFront words text front
      → HaveReport words text report outcome
      → front ≡ []
  empty_of _ report outcome n no_front r = refl
  empty_of _ _ _ n (front_of_entries {entries = xs} {front = f} b x e i)
      (of_entries {entries = ys} {report = q} {stop = t} c y g u) =
      reports.empty_front (Says b.job) (says_one b.job) 0 1 xs f q t n i
      (moved_report b c xs ys q t (same_entries b c xs ys x y e g).0 u)
  empty_of _ _ _ n (front_of_entries b _ _ i) (of_bad_words {fault = f} e) = job_or_fault words b.job f b.gives e

pub one_report : OneReport
one_report words text report other outcome another a b = one_report_of words text report other outcome another a b

pub fronts_are_fronts : FrontsAreFronts
fronts_are_fronts words text front report f (outcome, r) = fronts_of words text front report outcome f r

pub empty_front : EmptyFront
empty_front words text front f (outcome, r) = empty_of words text front [] outcome refl f r
