-- The reports of lists of weight systems, as reports of runs.
use Rattle.std.proofs.Common.{◌≡◌, ℕ, ◌+◌, ◌≤◌, List, [], ◌∷◌, map, Option, None, Result, Ok, Err, refl, sym, ap, ◌∙◌, subst, arith}
use Rattle.lattice_core.specs.declared.faults.Refusal.{Refusal}
use Rattle.palp_io.specs.Source.{SourceState}
use Rattle.palp_io.specs.Sink.{SinkState}
use Rattle.palp_io.proofs.SourceLemmas.{Passes-none}
use Rattle.report_theory.specs.Report.{Step, Stop, stop_at, IsListReport, IsListFront}
use Rattle.report_theory.specs.Report.{no_item, next_piece, next_item, last_item, refused_item, nothing, front_part, front_piece, front_item}
use Rattle.report_theory.specs.Giving.{GivesReport, GivesFront}
use Rattle.palp_words.specs.declared.job.Job.{Job}
use Rattle.palp_words.specs.declared.job.Job.TheVariants.{Cws, Sweep}
use Rattle.palp_words.specs.declared.job.CwsWords.{CwsWords}
use Rattle.palp_words.specs.declared.job.SweepWords.{SweepWords}
use Rattle.palp_input.specs.Grammar.{End, most_bytes}
use Rattle.weight_lists.specs.Entries.{ListEntry, AreListEntries}
use Rattle.weight_lists.specs.Lists.{CwsSays}
use Rattle.weight_lists.specs.Sweeps.{SweepSays}
use Rattle.weight_lists.specs.Answers.{IsRange, ReportMeans, Reports}
use Rattle.weight_lists.specs.declared.fault.ListFault.{ListFault}
use Rattle.weight_lists.specs.declared.fault.ListFault.TheVariants as lists
use Rattle.palp_engine.specs.Entries.{OfList, AreEntries}
use Rattle.palp_engine.specs.Commands.{ReadsText, GiveJob, Says}
use Rattle.palp_engine.specs.Texts.{outcome_with, HaveReport, of_entries, front_of_entries}
use Rattle.palp_engine.specs.Runs.{HavePassed, text_of, IsText, IsReported, IsReportedInPart}
use Rattle.palp_engine.specs.RunSteps.{IsGiven, list_outcome, PerformedMeans, IsPerformed}
use Rattle.palp_engine.specs.declared.outcome.Outcome.{Outcome}
use Rattle.palp_engine.proofs.SingleReports.{same_job}
use Rattle.palp_engine.proofs.WordRanges.{cws_ranges, sweep_ranges}

-- a report of some items is the report of what they are taken for
module _ {X Y R : Type 0} (says : X → ℕ → Step R → Type 0) (other : Y → ℕ → Step R → Type 0) (f : X → Y)
    (moved : (x : X) (k : ℕ) (step : Step R) → says x k step → other (f x) k step) where
  moved_report : (number k : ℕ) (items : List X) (report : List (List ℕ)) (stop : Option (Stop R)) → IsListReport says number k items report stop
      → IsListReport other number k (map f items) report stop
  moved_report _ _ _ _ _ no_item = no_item
  moved_report _ _ _ _ _ (next_piece {number = n} {k = k} {item = item} {items = items} {later = l} {stop = s} a r) =
      next_piece (moved item k _ a) (moved_report n (k + 1) (item ∷ items) l s r)
  moved_report _ _ _ _ _ (next_item {number = n} {k = k} {item = item} {items = items} {later = l} {stop = s} a r) =
      next_item (moved item k _ a) (moved_report (n + 1) 0 items l s r)
  moved_report _ _ _ _ _ (last_item {k = k} {item = item} a) = last_item (moved item k _ a)
  moved_report _ _ _ _ _ (refused_item {number = n} {k = k} {item = item} {items = items} {later = l} {stop = s} a r) =
      refused_item (moved item k _ a) (moved_report (n + 1) 0 items l s r)

  moved_front : (k : ℕ) (items : List X) (front : List (List ℕ)) → IsListFront says k items front → IsListFront other k (map f items) front
  moved_front _ _ _ nothing = nothing
  moved_front _ _ _ (front_part {k = k} {item = item} a is) = front_part (moved item k _ a) is
  moved_front _ _ _ (front_piece {k = k} {item = item} {items = items} {later = l} a r) =
      front_piece (moved item k _ a) (moved_front (k + 1) (item ∷ items) l r)
  moved_front _ _ _ (front_item {k = k} {item = item} {items = items} {later = l} a on r) = front_item (moved item k _ a) on (moved_front 0 items l r)

none_within : 0 ≤ most_bytes + 1
none_within = omega arith

at_least : (n : ℕ) → n ≤ n
at_least n = omega arith

-- A job that reads no text, and whose report is that of a list.
module _ (job : Job) (unread : ReadsText job → ⊥) (says : ListEntry → ℕ → Step Refusal → Type 0)
    (moved : (entry : ListEntry) (k : ℕ) (step : Step Refusal) → says entry k step → Says job (OfList entry) k step) (dim low high : ℕ)
    (reports_on : (text : List ℕ) (listed : List ListEntry) → AreListEntries dim low high listed → AreEntries job text (map OfList listed) End)
    (source : SourceState) (out out_now : SinkState) where
  passed : HavePassed source source []
  passed = record { passes = Passes-none source; bound = none_within; later = at_least source.faults }

  text : List ℕ
  text = text_of source.left []

  is_text : IsText source source text
  unfolding text
  is_text = record { bytes = []; have_passed = passed; text_is = refl }

  module _ (words : List (List ℕ)) (asked : GiveJob words) (same : asked.job ≡ job) (listed : List ListEntry)
      (are : AreListEntries dim low high listed) where
    entries : AreEntries asked.job text (map OfList listed) End
    entries = subst (λ (j : Job). AreEntries j text (map OfList listed) End) (sym same) (reports_on text listed are)

    reported : (stop : Option (Stop Refusal)) → GivesReport says listed stop out out_now
        → IsReported words source source out out_now (outcome_with stop End)
    reported stop g =
        let have : HaveReport words text g.report (outcome_with stop End) = of_entries asked End entries
        (subst (λ (j : Job). IsListReport (Says j) 1 0 (map OfList listed) g.report stop) (sym same)
        (moved_report says (Says job) OfList moved 1 0 listed g.report stop g.is_report)) in
        record {
          text = text;
          is_text = is_text;
          report = g.report;
          is_report = (outcome_with stop End, have);
          ends = (g.report, have);
          gives = g.gives;
        }

    in_part : GivesFront says listed out out_now → IsReportedInPart words source source out out_now
    in_part g = record {
      text = text;
      is_text = is_text;
      front = g.front;
      is_front = front_of_entries asked End entries
          (subst (λ (j : Job). IsListFront (Says j) 0 (map OfList listed) g.front) (sym same)
          (moved_front says (Says job) OfList moved 0 listed g.front g.is_front));
      gives = g.gives;
    }

    means_of : (result : Result (Unit {0}) ListFault) → ReportMeans says listed out out_now result
        → PerformedMeans words source source out out_now (list_outcome result)
    means_of (Ok done) m = record {
      reported = reported None m;
      has_ended = λ other gives reads. absurd (unread
          (subst ReadsText (same_job words other asked.job gives asked.gives ∙ same) reads));
    }
    means_of (Err (lists.Refused number cause)) m = reported (stop_at number cause) m
    means_of (Err lists.Write) m = record { rose = m.0; in_part = in_part m.1 }
    means_of (Err lists.NoMemory) m = in_part m

  performed : (result : Result (Unit {0}) ListFault) (outcome : Outcome) → outcome ≡ list_outcome result
      → Reports says dim low high out out_now result → IsPerformed job source source out out_now outcome
  performed result outcome e r = subst (λ (o : Outcome). IsPerformed job source source out out_now o) (sym e) (record {
    taken = ([], passed);
    kept = λ none. refl;
    means = λ words asked same. means_of words asked same r.entries r.are_entries result r.means;
  })

-- the ranges of the words
pub cws_range : (job : Job) (w : CwsWords) → job ≡ Cws w → IsGiven job → IsRange w.dim w.low w.high
cws_range job w e g = cws_ranges g.0 w (g.1 ∙ ap (λ (j : Job). Ok j) e)

pub sweep_range : (job : Job) (w : SweepWords) → job ≡ Sweep w → IsGiven job → IsRange w.dim w.low w.high
sweep_range job w e g = sweep_ranges g.0 w (g.1 ∙ ap (λ (j : Job). Ok j) e)

pub cws_performed : (job : Job) (w : CwsWords) → job ≡ Cws w → (source : SourceState) (out out_now : SinkState)
    (result : Result (Unit {0}) ListFault) (outcome : Outcome) → outcome ≡ list_outcome result
    → Reports (CwsSays w.reflexive_only) w.dim w.low w.high out out_now result → IsPerformed job source source out out_now outcome
cws_performed job w same source out out_now result outcome e r =
    subst (λ (j : Job). IsPerformed j source source out out_now outcome) (sym same)
    (performed (Cws w) (λ reads. reads) (CwsSays w.reflexive_only) (λ entry k step a. a) w.dim w.low w.high
    (λ text listed are. record { listed = listed; are_listed = are; entries_are = refl; ending_is = refl }) source out out_now result outcome e r)

pub sweep_performed : (job : Job) (w : SweepWords) → job ≡ Sweep w → (source : SourceState) (out out_now : SinkState)
    (result : Result (Unit {0}) ListFault) (outcome : Outcome) → outcome ≡ list_outcome result
    → Reports SweepSays w.dim w.low w.high out out_now result → IsPerformed job source source out out_now outcome
sweep_performed job w same source out out_now result outcome e r =
    subst (λ (j : Job). IsPerformed j source source out out_now outcome) (sym same)
    (performed (Sweep w) (λ reads. reads) SweepSays (λ entry k step a. a) w.dim w.low w.high
    (λ text listed are. record { listed = listed; are_listed = are; entries_are = refl; ending_is = refl }) source out out_now result outcome e r)
