-- What a run does to its streams, and what its outcome means. This project's own.
use Rattle.std.specs.Prelude.{◌≡◌, ℕ, ◌+◌, ◌≤◌, ◌⊎◌, ◌↔◌, List, length, Option, Some, None, Ok, Err}
use Rattle.palp_io.specs.Faults.{Rose}
use Rattle.palp_io.specs.Source.{SourceState, HasEnded, Passes}
use Rattle.palp_io.specs.Sink.{SinkState}
use Rattle.report_theory.specs.Giving.{GivesPieces}
use Rattle.palp_words.specs.Words.{words_of}
use Rattle.palp_words.specs.declared.fault.WordFault.{WordFault}
use Rattle.palp_words.specs.declared.job.Job.{Job}
use Rattle.palp_input.specs.Grammar.{most_bytes}
use Rattle.palp_engine.specs.Commands.{ReadsText}
use Rattle.palp_engine.specs.Texts.{IsReport, EndsWith, IsFront}
use Rattle.palp_engine.specs.Ended.{IsEndedReport}
use Rattle.palp_engine.specs.declared.outcome.Outcome.{Outcome}
use Rattle.palp_engine.specs.declared.outcome.Outcome.TheVariants.{Done, BadWords, BadText, Refused, TextLimit, ReadFault, WriteFault, NoMemory}

-- these bytes passed from the source, no more than a run takes, and the count of faults didn't fall
pub record HavePassed (source source_now : SourceState) (bytes : List ℕ) : Type 0 where
  pub passes : Passes source source_now bytes
  pub bound : length bytes ≤ most_bytes + 1
  pub later : source.faults ≤ source_now.faults

-- some bytes did
abbrev pub HasTaken : SourceState → SourceState → Type 0
HasTaken source source_now = (bytes : List ℕ) × HavePassed source source_now bytes

-- the text of a run: what the source had left, where it tells that; where it tells nothing, as a real stream, the bytes that passed
abbrev pub text_of : Option (List ℕ) → List ℕ → List ℕ
text_of (Some left) bytes = left
text_of None bytes = bytes

pub record IsText (source source_now : SourceState) (text : List ℕ) : Type 0 where
  pub bytes : List ℕ
  pub have_passed : HavePassed source source_now bytes
  pub text_is : text ≡ text_of source.left bytes

-- the streams are as they were
abbrev pub AreUntouched : SourceState → SourceState → SinkState → SinkState → Type 0
AreUntouched source source_now out out_now = (source_now ≡ source) × (out_now ≡ out)

-- the report of the words and the text was appended, whole, and this is the outcome that it ends with
pub record IsReported (words : List (List ℕ)) (source source_now : SourceState) (out out_now : SinkState) (outcome : Outcome) : Type 0 where
  pub text : List ℕ
  pub is_text : IsText source source_now text
  pub report : List (List ℕ)
  pub is_report : IsReport words text report
  pub ends : EndsWith words text outcome
  pub gives : GivesPieces out out_now report

-- a front of the report of the words and the text was appended
pub record IsReportedInPart (words : List (List ℕ)) (source source_now : SourceState) (out out_now : SinkState) : Type 0 where
  pub text : List ℕ
  pub is_text : IsText source source_now text
  pub front : List (List ℕ)
  pub is_front : IsFront words text front
  pub gives : GivesPieces out out_now front

-- a job that reads no text leaves the source as it was
abbrev pub LeavesSource : List (List ℕ) → SourceState → SourceState → Type 0
LeavesSource words source source_now = (job : Job) → words_of words ≡ Ok job → (ReadsText job → ⊥) → source_now ≡ source

-- the outcome tells a fault of the words exactly where they have it, and then the streams are as they were
pub record TellsBadWords (words : List (List ℕ)) (outcome : Outcome) (source source_now : SourceState) (out out_now : SinkState)
    : Type 0 where
  pub exactly : (fault : WordFault) → (outcome ≡ BadWords fault) ↔ (words_of words ≡ Err fault)
  pub untouched : (fault : WordFault) → words_of words ≡ Err fault → AreUntouched source source_now out out_now

-- the whole report was appended, and where the job reads a text the source was read to its end
pub record IsDone (words : List (List ℕ)) (source source_now : SourceState) (out out_now : SinkState) : Type 0 where
  pub reported : IsReported words source source_now out out_now Done
  pub has_ended : (job : Job) → words_of words ≡ Ok job → ReadsText job → HasEnded source_now

-- the outcome refuses the text, an item of it, or its length
abbrev pub IsRefusal : Outcome → Type 0
IsRefusal (BadText fault) = Unit {0}
IsRefusal (Refused item cause) = Unit {0}
IsRefusal TextLimit = Unit {0}
IsRefusal Done = ⊥
IsRefusal (BadWords fault) = ⊥
IsRefusal ReadFault = ⊥
IsRefusal WriteFault = ⊥
IsRefusal NoMemory = ⊥

-- the source failed: its count of faults rose, and exactly the pieces of those items were appended, in order, whose last line end stands among
-- the bytes that passed
pub record HasReadFault (words : List (List ℕ)) (source source_now : SourceState) (out out_now : SinkState) : Type 0 where
  pub rose : Rose source.faults source_now.faults
  pub bytes : List ℕ
  pub have_passed : HavePassed source source_now bytes
  pub report : List (List ℕ)
  pub is_ended : IsEndedReport words bytes report
  pub gives : GivesPieces out out_now report

-- the sink of the report failed: its count of faults rose, and a front of the report was appended
pub record HasWriteFault (words : List (List ℕ)) (source source_now : SourceState) (out out_now : SinkState) : Type 0 where
  pub rose : Rose out.faults out_now.faults
  pub in_part : IsReportedInPart words source source_now out out_now

-- the outcome is that of the words and the text
pub record HasEnding (words : List (List ℕ)) (source source_now : SourceState) (outcome : Outcome) : Type 0 where
  pub text : List ℕ
  pub is_text : IsText source source_now text
  pub ends : EndsWith words text outcome

-- where no count of faults rose, the outcome is that of the words and the text, or want of memory
abbrev pub IsComplete : List (List ℕ) → Outcome → SourceState → SourceState → SinkState → SinkState → Type 0
IsComplete words outcome source source_now out out_now =
    (Rose source.faults source_now.faults → ⊥) → (Rose out.faults out_now.faults → ⊥)
    → HasEnding words source source_now outcome ⊎ (outcome ≡ NoMemory)
