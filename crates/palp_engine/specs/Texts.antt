-- The report of words and a text, and the outcome that it ends with. This project's own.
use Rattle.std.specs.Prelude.{◌≡◌, ℕ, List, [], Option, Some, None, Err}
use Rattle.lattice_core.specs.declared.faults.Refusal.{Refusal}
use Rattle.report_theory.specs.Report.{Stop, IsListReport, IsListFront}
use Rattle.palp_words.specs.Words.{words_of}
use Rattle.palp_words.specs.declared.fault.WordFault.{WordFault}
use Rattle.palp_input.specs.Grammar.{TextEnd, End, FaultEnd, TooLongEnd}
use Rattle.palp_engine.specs.Entries.{Entry, AreEntries}
use Rattle.palp_engine.specs.Commands.{GiveJob, Says}
use Rattle.palp_engine.specs.declared.outcome.Outcome.{Outcome}
use Rattle.palp_engine.specs.declared.outcome.Outcome.TheVariants.{Done, BadWords, BadText, Refused, TextLimit}

-- the outcome where no entry is refused
abbrev pub outcome_of : TextEnd → Outcome
outcome_of End = Done
outcome_of (FaultEnd fault) = BadText fault
outcome_of TooLongEnd = TextLimit

-- the outcome where this is the first refusal, if there is one
abbrev pub outcome_with : Option (Stop Refusal) → TextEnd → Outcome
outcome_with (Some stop) ending = Refused stop.number stop.cause
outcome_with None ending = outcome_of ending

-- Words and a text have this report, in pieces, which ends with this outcome. It is the report of the entries of the job that the words give,
-- as the job says it. Where the words have a fault, it is empty.
pub data HaveReport (words : List (List ℕ)) (text : List ℕ) : List (List ℕ) → Outcome → Type 0 where
  of_entries : {entries : List Entry} {report : List (List ℕ)} {stop : Option (Stop Refusal)} (asked : GiveJob words) (ending : TextEnd)
      → AreEntries asked.job text entries ending → IsListReport (Says asked.job) 1 0 entries report stop
      → HaveReport words text report (outcome_with stop ending)
  of_bad_words : {fault : WordFault} → words_of words ≡ Err fault → HaveReport words text [] (BadWords fault)

-- the report of words and a text, in pieces
abbrev pub IsReport : List (List ℕ) → List ℕ → List (List ℕ) → Type 0
IsReport words text report = (outcome : Outcome) × HaveReport words text report outcome

-- the outcome that it ends with
abbrev pub EndsWith : List (List ℕ) → List ℕ → Outcome → Type 0
EndsWith words text outcome = (report : List (List ℕ)) × HaveReport words text report outcome

-- a front of the report of words and a text: some pieces, and of the last one perhaps a front
pub data IsFront (words : List (List ℕ)) (text : List ℕ) : List (List ℕ) → Type 0 where
  no_front : IsFront words text []
  front_of_entries : {entries : List Entry} {front : List (List ℕ)} (asked : GiveJob words) (ending : TextEnd)
      → AreEntries asked.job text entries ending → IsListFront (Says asked.job) 0 entries front → IsFront words text front
