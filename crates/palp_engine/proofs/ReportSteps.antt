-- Reading and reporting items one after another, and what the outcomes of that mean.
use Rattle.std.proofs.Common.{◌≡◌, ℕ, ◌+◌, ◌≤◌, true, false, List, [], ◌∷◌, ◌++◌, map, length, Option, Some, None, Result, Ok, Err, refl}
use Rattle.std.proofs.Common.{sym, ap, subst, ◌∙◌, arith, append_assoc, length-append}
use Rattle.std.proofs.lemmas.List.{append-nil, map-append, length-map}
use Rattle.lattice_core.specs.declared.faults.Refusal.{Refusal}
use Rattle.palp_io.specs.Source.{SourceState}
use Rattle.palp_io.specs.Sink.{SinkState}
use Rattle.palp_io.proofs.SourceLemmas.{Passes-none}
use Rattle.palp_io.proofs.FaultLemmas.{Rose-late}
use Rattle.report_theory.specs.Report.{Whole, Stop, stop_at, IsListReport, IsListFront}
use Rattle.report_theory.specs.Giving.{GivesReport, GivesFront}
use Rattle.report_theory.proofs.Givings.{ReportedSoFar, gives_nothing, reported_nothing, reported_item, reported_end, reported_part, reported_front, reported_all}
use Rattle.palp_words.specs.declared.job.Job.{Job}
use Rattle.palp_words.specs.declared.job.Job.TheVariants.{Poly, Nef, Cws, Sweep}
use Rattle.palp_input.specs.Grammar.{Listed, listed, TextEnd, End, FaultEnd, TooLongEnd, TextRead, read_text, no_more, most_bytes}
use Rattle.palp_input.specs.Reading.{ReaderState, NextMeans}
use Rattle.palp_input.specs.Answers.{reading_of}
use Rattle.palp_input.specs.declared.fault.NextFault.{NextFault}
use Rattle.palp_input.specs.declared.fault.NextFault.TheVariants.{Text, TooLong, Read, NoMemory as NoReadingMemory}
use Rattle.palp_input.specs.declared.item.Item.{Item}
use Rattle.palp_input.specs.Items.{IsItem}
use Rattle.palp_input.proofs.Readings.{calls_read, calls_read_taken}
use Rattle.palp_input.proofs.ItemForms.{items_are_items}
use Rattle.palp_engine.specs.Entries.{Entry, TextItem, item_entry, AreTextEntries, AreEntries}
use Rattle.palp_engine.specs.Commands.{GiveJob, ReadsText, Says}
use Rattle.palp_engine.specs.Texts.{outcome_with, HaveReport, of_entries, no_front, front_of_entries}
use Rattle.palp_engine.specs.Sessions.{EntryMeans}
use Rattle.palp_engine.specs.Runs.{HavePassed, text_of, IsText, IsReported, IsReportedInPart, HasReadFault}
use Rattle.palp_engine.specs.RunSteps.{IsStopped, outcome_unread, PerformedMeans, IsPerformed}
use Rattle.palp_engine.specs.declared.outcome.Outcome.{Outcome}
use Rattle.palp_engine.specs.declared.outcome.Outcome.TheVariants.{Done, BadText, Refused, TextLimit, NoMemory}
use Rattle.palp_engine.specs.declared.session.ItemFault.{ItemFault}
use Rattle.palp_engine.specs.declared.session.ItemFault.TheVariants as faults
use Rattle.palp_engine.proofs.TextReadings.{with_items, ReadSoFar, read_nothing, all_bytes, all_passed, read_item, text_behind, text_reading, text_ends}
use Rattle.palp_engine.proofs.EndedItems.{ended_items}

at_least : (n : ℕ) → n ≤ n
at_least n = omega arith

none_within : 0 ≤ most_bytes + 1
none_within = omega arith

-- so many items were read, and reported
pub record RunSoFar (job : Job) (source source_now : SourceState) (reader : ReaderState) (out out_now : SinkState) (number : ℕ)
    : Type 0 where
  pub items : List Listed
  pub read : ReadSoFar source source_now reader items
  pub reported : ReportedSoFar (Says job) (map TextItem items) None out out_now
  pub number_is : number ≡ length items

pub run_nothing : (job : Job) (source : SourceState) (reader : ReaderState) (out : SinkState)
    → reader ≡ record { bytes = 0; lines = 0; held = []; live = true; ended = false } → RunSoFar job source source reader out out 0
run_nothing job source reader out r =
    record { items = []; read = read_nothing source reader r; reported = reported_nothing (Says job) out; number_is = refl }

-- the item that a reader gives is one of a text
pub next_is_item : (item : Item) (before now : ReaderState) (source source_now : SourceState)
    → NextMeans (Ok (Some item)) before now source source_now → IsItem (listed item)
next_is_item item before now source source_now m = items_are_items (before.held ++ m.bytes) (listed item) m.answer.end m.answer.is_first

-- a job that reads a text reports on its items
read_entries : (job : Job) (text : List ℕ) (entries : List Entry) (ending : TextEnd) → ReadsText job → AreTextEntries text entries ending
    → AreEntries job text entries ending
read_entries (Poly flags) text entries ending reads h = h
read_entries (Nef words) text entries ending reads h = h
read_entries (Cws words) text entries ending reads h = absurd reads
read_entries (Sweep words) text entries ending reads h = absurd reads

-- What is said of a run of which these bytes passed, by the reading of its text.
module _ (job : Job) (reads : ReadsText job) (source last : SourceState) (out out_now : SinkState) (bytes : List ℕ)
    (passed : HavePassed source last bytes) (items : List Listed) (ending : TextEnd)
    (items_are : (read_text (text_of source.left bytes)).items ≡ items)
    (ending_is : (read_text (text_of source.left bytes)).ending ≡ ending) where
  is_text : IsText source last (text_of source.left bytes)
  is_text = record { bytes = bytes; have_passed = passed; text_is = refl }

  module _ (words : List (List ℕ)) (asked : GiveJob words) (same : asked.job ≡ job) where
    are_entries : AreEntries asked.job (text_of source.left bytes) (map TextItem items) ending
    are_entries = read_entries asked.job (text_of source.left bytes) (map TextItem items) ending (subst ReadsText (sym same) reads)
        (record { entries_are = sym (ap (map TextItem) items_are); ending_is = sym ending_is })

    pub reported : (stop : Option (Stop Refusal)) (outcome : Outcome) → GivesReport (Says job) (map TextItem items) stop out out_now
        → outcome ≡ outcome_with stop ending → IsReported words source last out out_now outcome
    reported stop outcome g o =
        let have : HaveReport words (text_of source.left bytes) g.report outcome =
        subst (λ (x : Outcome). HaveReport words (text_of source.left bytes) g.report x) (sym o) (of_entries asked ending are_entries
        (subst (λ (j : Job). IsListReport (Says j) 1 0 (map TextItem items) g.report stop) (sym same) g.is_report)) in
        record {
          text = text_of source.left bytes;
          is_text = is_text;
          report = g.report;
          is_report = (outcome, have);
          ends = (g.report, have);
          gives = g.gives;
        }

    pub in_part : GivesFront (Says job) (map TextItem items) out out_now → IsReportedInPart words source last out out_now
    in_part g = record {
      text = text_of source.left bytes;
      is_text = is_text;
      front = g.front;
      is_front = front_of_entries asked ending are_entries
          (subst (λ (j : Job). IsListFront (Says j) 0 (map TextItem items) g.front) (sym same) g.is_front);
      gives = g.gives;
    }

-- the entries of some items
entries_more : (items more : List Listed) (item : Listed)
    → map TextItem (items ++ item ∷ more) ≡ map TextItem items ++ TextItem item ∷ map TextItem more
entries_more items more item = map-append TextItem items (item ∷ more)

module _ (job : Job) (reads : ReadsText job) (source middle last : SourceState) (before now : ReaderState) (out mid : SinkState)
    (number : ℕ) (so_far : RunSoFar job source middle before out mid number) where
  abbrev items : List Listed
  items = so_far.items

  abbrev Bytes : (result : Result (Option Item) NextFault) → NextMeans result before now middle last → List ℕ
  Bytes result m = all_bytes source middle last before now items so_far.read result m

  abbrev whole_passed : (result : Result (Option Item) NextFault) (m : NextMeans result before now middle last)
      → HavePassed source last (Bytes result m)
  whole_passed result m = all_passed source middle last before now items so_far.read result m

  -- the text ends behind the items read so far
  module _ (result : Result (Option Item) NextFault) (m : NextMeans result before now middle last) (ending : TextEnd)
      (of_taken : reading_of before m.bytes ≡ no_more ending)
      (of_told : (more : List ℕ) → middle.left ≡ Some more → reading_of before more ≡ no_more ending) where
    text_read : read_text (text_of source.left (Bytes result m)) ≡ with_items items so_far.read.ends (no_more ending)
    text_read = text_ends source middle before items so_far.read ending m.bytes
        (text_behind source middle before items so_far.read m.bytes (λ e. (m.untaken e).nothing)) of_taken of_told

    text_items : (read_text (text_of source.left (Bytes result m))).items ≡ items
    text_items = ap (λ (t : TextRead). t.items) text_read ∙ append-nil items

    text_ending : (read_text (text_of source.left (Bytes result m))).ending ≡ ending
    text_ending = ap (λ (t : TextRead). t.ending) text_read

    run_reported : (words : List (List ℕ)) (asked : GiveJob words) → asked.job ≡ job → (outcome : Outcome)
        → outcome ≡ outcome_with None ending → IsReported words source last out mid outcome
    run_reported words asked same outcome o = reported job reads source last out mid (Bytes result m) (whole_passed result m) items ending
        text_items text_ending words asked same None outcome
        (reported_all (Says job) out mid (map TextItem items) None so_far.reported) o

  pub run_done : NextMeans (Ok None) before now middle last → IsPerformed job source last out mid Done
  run_done m = record {
    taken = (Bytes (Ok None) m, whole_passed (Ok None) m);
    kept = λ none. absurd (none reads);
    means = λ words asked same. record {
      reported = run_reported (Ok None) m End (calls_read_taken (Ok None) before now middle last m)
          (λ more told. calls_read (Ok None) before now more middle last told m) words asked same Done refl;
      has_ended = λ given gives reads. m.handed m.answer.has_ended;
    };
  }

  -- want of memory, or a front of a report
  run_front : (result : Result (Option Item) NextFault) (m : NextMeans result before now middle last) (words : List (List ℕ))
      (asked : GiveJob words) → asked.job ≡ job → IsReportedInPart words source last out mid
  run_front result m words asked same =
      let behind = text_behind source middle before items so_far.read m.bytes (λ e. (m.untaken e).nothing) in
      let read = text_reading source middle before items so_far.read m.bytes behind in
      let more = reading_of before behind.more in
      in_part job reads source last out mid (Bytes result m) (whole_passed result m) (items ++ more.items) more.ending
      (ap (λ (t : TextRead). t.items) read) (ap (λ (t : TextRead). t.ending) read) words asked same
      (subst (λ (xs : List Entry). GivesFront (Says job) xs out mid) (sym (map-append TextItem items more.items))
      (reported_front (Says job) out mid (map TextItem items) None so_far.reported (map TextItem more.items)))

  run_read_fault : (m : NextMeans (Err Read) before now middle last) (words : List (List ℕ)) (asked : GiveJob words) → asked.job ≡ job
      → HasReadFault words source last out mid
  run_read_fault m words asked same =
      let report = reported_all (Says job) out mid (map TextItem items) None so_far.reported in
      record {
        rose = Rose-late source.faults middle.faults last.faults so_far.read.later m.answer.rose;
        bytes = Bytes (Err Read) m;
        have_passed = whole_passed (Err Read) m;
        report = report.report;
        is_ended = record {
          asked = asked;
          reads = subst ReadsText (sym same) reads;
          items = items;
          are_ended = ended_items source middle before items so_far.read m.bytes m.answer.unended m.answer.no_item;
          is_report = subst (λ (j : Job). IsListReport (Says j) 1 0 (map TextItem items) report.report None) (sym same) report.is_report;
        };
        gives = report.gives;
      }

  unread_means : (fault : NextFault) (m : NextMeans (Err fault) before now middle last) (words : List (List ℕ)) (asked : GiveJob words)
      → asked.job ≡ job → PerformedMeans words source last out mid (outcome_unread fault)
  unread_means (Text fault) m words asked same = run_reported (Err (Text fault)) m (FaultEnd fault)
      (calls_read_taken (Err (Text fault)) before now middle last m)
      (λ more told. calls_read (Err (Text fault)) before now more middle last told m) words asked same (BadText fault) refl
  unread_means TooLong m words asked same = run_reported (Err TooLong) m TooLongEnd
      (calls_read_taken (Err TooLong) before now middle last m)
      (λ more told. calls_read (Err TooLong) before now more middle last told m) words asked same TextLimit refl
  unread_means Read m words asked same = run_read_fault m words asked same
  unread_means NoReadingMemory m words asked same = run_front (Err NoReadingMemory) m words asked same

  -- there is no next item, and the text doesn't end
  pub run_unread : (fault : NextFault) (outcome : Outcome) → outcome ≡ outcome_unread fault
      → NextMeans (Err fault) before now middle last → IsPerformed job source last out mid outcome
  run_unread fault outcome o m = subst (λ (x : Outcome). IsPerformed job source last out mid x) (sym o) (record {
    taken = (Bytes (Err fault) m, whole_passed (Err fault) m);
    kept = λ none. absurd (none reads);
    means = λ words asked same. unread_means fault m words asked same;
  })

  module _ (item : Item) (m : NextMeans (Ok (Some item)) before now middle last) (end : SinkState) where
    abbrev read : ReadSoFar source last now (items ++ listed item ∷ [])
    read = read_item source middle last before now items so_far.read item m

    -- one more item
    pub run_next : EntryMeans (Ok tt) job (item_entry item) mid end → RunSoFar job source last now out end (number + 1)
    run_next g = record {
      items = items ++ listed item ∷ [];
      read = read;
      reported = subst (λ (xs : List Entry). ReportedSoFar (Says job) xs None out end) (sym (entries_more items [] (listed item)))
          (reported_item (Says job) out mid (map TextItem items) None so_far.reported (item_entry item) end Whole tt g);
      number_is = ap (λ (n : ℕ). n + 1) so_far.number_is ∙ sym (length-append items (listed item ∷ []));
    }

    -- an item whose report isn't given whole is the last one
    abbrev taken : List ℕ
    taken = read.passed ++ now.held

    taken_passed : HavePassed source last taken
    taken_passed = record { passes = read.passes; bound = read.bound; later = read.later }

    abbrev Behind : Type 0
    Behind = (more : TextRead) × ((read_text (text_of source.left taken)).items ≡ items ++ listed item ∷ more.items)
        × ((read_text (text_of source.left taken)).ending ≡ more.ending)

    behind : Behind
    behind =
        let t = text_behind source last now (items ++ listed item ∷ []) read [] (λ e. refl) in
        let more = reading_of now t.more in
        let same = text_reading source last now (items ++ listed item ∷ []) read [] t in
        let bytes = ap (λ (xs : List ℕ). read_text (text_of source.left xs)) (sym (append-nil taken)) in (
          more,
          ap (λ (r : TextRead). r.items) (bytes ∙ same) ∙ append_assoc items (listed item ∷ []) more.items,
          ap (λ (r : TextRead). r.ending) (bytes ∙ same),
        )

    last_part : GivesFront (Says job) (item_entry item ∷ []) mid end → (words : List (List ℕ)) (asked : GiveJob words) → asked.job ≡ job
        → IsReportedInPart words source last out end
    last_part g words asked same =
        in_part job reads source last out end taken taken_passed (items ++ listed item ∷ behind.0.items) behind.0.ending behind.1 behind.2
        words asked same
        (subst (λ (xs : List Entry). GivesFront (Says job) xs out end) (sym (entries_more items behind.0.items (listed item)))
        (reported_part (Says job) out mid (map TextItem items) None so_far.reported (item_entry item) end (map TextItem behind.0.items) g))

    last_refused : (cause : Refusal) → EntryMeans (Err (faults.Refused cause)) job (item_entry item) mid end → (words : List (List ℕ))
        (asked : GiveJob words) → asked.job ≡ job → IsReported words source last out end (Refused (number + 1) cause)
    last_refused cause g words asked same =
        let stop : Option (Stop Refusal) = stop_at (length (map TextItem items) + 1) cause in
        reported job reads source last out end taken taken_passed (items ++ listed item ∷ behind.0.items) behind.0.ending behind.1
        behind.2 words asked same stop (Refused (number + 1) cause)
        (subst (λ (xs : List Entry). GivesReport (Says job) xs stop out end) (sym (entries_more items behind.0.items (listed item)))
        (reported_end (Says job) out mid (map TextItem items) None so_far.reported (item_entry item) end (map TextItem behind.0.items)
        cause g))
        (ap (λ (n : ℕ). Refused (n + 1) cause) (so_far.number_is ∙ sym (length-map items TextItem)))

    stopped_means : (fault : ItemFault) (outcome : Outcome) → IsStopped (number + 1) fault outcome
        → EntryMeans (Err fault) job (item_entry item) mid end → (words : List (List ℕ)) (asked : GiveJob words) → asked.job ≡ job
        → PerformedMeans words source last out end outcome
    stopped_means (faults.Refused cause) outcome s g words asked same =
        subst (λ (x : Outcome). PerformedMeans words source last out end x) (sym s) (last_refused cause g words asked same)
    stopped_means faults.Write outcome s g words asked same =
        subst (λ (x : Outcome). PerformedMeans words source last out end x) (sym s)
        (record {
          rose = Rose-late out.faults mid.faults end.faults so_far.reported.gives.later g.0;
          in_part = last_part g.1 words asked same;
        })
    stopped_means faults.NoMemory outcome s g words asked same =
        subst (λ (x : Outcome). PerformedMeans words source last out end x) (sym s) (last_part g words asked same)

    pub run_stopped : (fault : ItemFault) (outcome : Outcome) → IsStopped (number + 1) fault outcome
        → EntryMeans (Err fault) job (item_entry item) mid end → IsPerformed job source last out end outcome
    run_stopped fault outcome s g =
        record { taken = (taken, taken_passed); kept = λ none. absurd (none reads); means = λ words asked same. stopped_means fault outcome s g words asked same }

-- no page was found
pub run_unopened : (job : Job) (source : SourceState) (out : SinkState) → IsPerformed job source source out out NoMemory
run_unopened job source out =
    let passed : HavePassed source source [] = record { passes = Passes-none source; bound = none_within; later = at_least source.faults } in
    record {
      taken = ([], passed);
      kept = λ none. refl;
      means = λ words asked same. record {
        text = text_of source.left [];
        is_text = record { bytes = []; have_passed = passed; text_is = refl };
        front = [];
        is_front = no_front;
        gives = gives_nothing out;
      };
    }
