-- What the answers of the steps mean for the whole run.
use Rattle.std.proofs.Common.{◌≡◌, ℕ, ◌+◌, ◌≤◌, inl, inr, List, [], Ok, Err, refl, sym, subst, ◌∙◌, arith}
use Rattle.palp_io.specs.Source.{SourceState}
use Rattle.palp_io.specs.Sink.{SinkState}
use Rattle.palp_io.proofs.SourceLemmas.{Passes-none}
use Rattle.palp_words.specs.Words.{words_of}
use Rattle.palp_words.specs.declared.fault.WordFault.{WordFault}
use Rattle.palp_words.specs.declared.job.Job.{Job}
use Rattle.palp_input.specs.Grammar.{most_bytes}
use Rattle.palp_engine.specs.Commands.{ReadsText, GiveJob}
use Rattle.palp_engine.specs.Texts.{HaveReport, of_bad_words}
use Rattle.palp_engine.specs.Runs.{HasTaken, IsText, AreUntouched, IsReported, IsReportedInPart, IsDone, IsRefusal, HasReadFault}
use Rattle.palp_engine.specs.Runs.{HasWriteFault, HasEnding, TellsBadWords, IsComplete}
use Rattle.palp_engine.specs.RunSteps.{PerformedMeans, IsPerformed, OutcomeMeans, IsAnswered}
use Rattle.palp_engine.specs.declared.outcome.Outcome.{Outcome}
use Rattle.palp_engine.specs.declared.outcome.Outcome.TheVariants.{Done, BadWords, BadText, Refused, TextLimit, ReadFault, WriteFault, NoMemory}
use Rattle.palp_engine.proofs.SingleReports.{same_job, job_or_fault}

-- the job's outcome is the run's
performed_means : (words : List (List ℕ)) (source source_now : SourceState) (out out_now : SinkState) (outcome : Outcome) → GiveJob words
    → PerformedMeans words source source_now out out_now outcome → OutcomeMeans words source source_now out out_now outcome
performed_means words source source_now out out_now Done b m = (b, m)
performed_means words source source_now out out_now (BadText fault) b m = (b, m)
performed_means words source source_now out out_now (Refused item cause) b m = (b, m)
performed_means words source source_now out out_now TextLimit b m = (b, m)
performed_means words source source_now out out_now ReadFault b m = (b, m)
performed_means words source source_now out out_now WriteFault b m = (b, m)
performed_means words source source_now out out_now NoMemory b m = (b, m)
performed_means words source source_now out out_now (BadWords fault) b m = absurd m

pub performed_answer : (words : List (List ℕ)) (job : Job) (source source_now : SourceState) (out out_now : SinkState) (outcome : Outcome)
    → Ok job ≡ words_of words → IsPerformed job source source_now out out_now outcome
    → IsAnswered words source source_now out out_now outcome
performed_answer words job source source_now out out_now outcome e p =
    let b : GiveJob words = record { job = job; gives = sym e } in
    record {
      taken = p.taken;
      kept = λ other gives none. p.kept (λ reads. none (subst ReadsText (same_job words job other (sym e) gives) reads));
      means = performed_means words source source_now out out_now outcome b (p.means words b refl);
    }

-- a run that read nothing and gave nothing
module _ (words : List (List ℕ)) (source : SourceState) (out : SinkState) where
  within : 0 ≤ most_bytes + 1
  within = omega arith

  at_least : (n : ℕ) → n ≤ n
  at_least n = omega arith

  nothing_taken : HasTaken source source
  nothing_taken = ([], record { passes = Passes-none source; bound = within; later = at_least source.faults })

  pub bad_words_answer : (fault : WordFault) → Err fault ≡ words_of words → IsAnswered words source source out out (BadWords fault)
  bad_words_answer fault e = record { taken = nothing_taken; kept = λ job gives none. refl; means = (sym e, (refl, refl)) }

-- The clauses one by one, from what each outcome means.
module _ (words : List (List ℕ)) (source source_now : SourceState) (out out_now : SinkState) where
  abbrev Means : Outcome → Type 0
  Means outcome = OutcomeMeans words source source_now out out_now outcome

  given_bad_words : {Z : Type 0} (fault : WordFault) → GiveJob words → words_of words ≡ Err fault → Z
  given_bad_words fault b e = job_or_fault words b.job fault b.gives e

  bad_words : (outcome : Outcome) → Means outcome → (fault : WordFault) → words_of words ≡ Err fault
      → (outcome ≡ BadWords fault) × AreUntouched source source_now out out_now
  bad_words (BadWords told) m fault e = (let d = sym m.0 ∙ e in cc, m.1)
  bad_words Done m fault e = given_bad_words fault m.0 e
  bad_words (BadText told) m fault e = given_bad_words fault m.0 e
  bad_words (Refused item cause) m fault e = given_bad_words fault m.0 e
  bad_words TextLimit m fault e = given_bad_words fault m.0 e
  bad_words ReadFault m fault e = given_bad_words fault m.0 e
  bad_words WriteFault m fault e = given_bad_words fault m.0 e
  bad_words NoMemory m fault e = given_bad_words fault m.0 e

  module _ (outcome : Outcome) (answer : IsAnswered words source source_now out out_now outcome) where
    at : (other : Outcome) → outcome ≡ other → Means other
    at other e = subst Means e answer.means

    pub tells_bad_words : TellsBadWords words outcome source source_now out out_now
    tells_bad_words = record {
      exactly = λ fault. (λ e. (at (BadWords fault) e).0, λ e. (bad_words outcome answer.means fault e).0);
      untouched = λ fault e. (bad_words outcome answer.means fault e).1;
    }

    pub is_done : outcome ≡ Done → IsDone words source source_now out out_now
    is_done e = (at Done e).1

    pub is_read_fault : outcome ≡ ReadFault → HasReadFault words source source_now out out_now
    is_read_fault e = (at ReadFault e).1

    pub is_write_fault : outcome ≡ WriteFault → HasWriteFault words source source_now out out_now
    is_write_fault e = (at WriteFault e).1

    pub is_no_memory : outcome ≡ NoMemory → IsReportedInPart words source source_now out out_now
    is_no_memory e = (at NoMemory e).1

    pub source_later : source.faults ≤ source_now.faults
    source_later = answer.taken.1.later

  refusal_of : (outcome : Outcome) → Means outcome → IsRefusal outcome → IsReported words source source_now out out_now outcome
  refusal_of (BadText fault) m r = m.1
  refusal_of (Refused item cause) m r = m.1
  refusal_of TextLimit m r = m.1
  refusal_of Done m r = absurd r
  refusal_of (BadWords fault) m r = absurd r
  refusal_of ReadFault m r = absurd r
  refusal_of WriteFault m r = absurd r
  refusal_of NoMemory m r = absurd r

  pub is_refusal : (outcome : Outcome) → IsAnswered words source source_now out out_now outcome → IsRefusal outcome
      → IsReported words source source_now out out_now outcome
  is_refusal outcome answer r = refusal_of outcome answer.means r

  -- the outcome that the words and the text have
  ends : (outcome : Outcome) → IsReported words source source_now out out_now outcome → HasEnding words source source_now outcome
  ends outcome r = record { text = r.text; is_text = r.is_text; ends = r.ends }

  idle_text : (taken : HasTaken source source_now) → (text : List ℕ) × IsText source source_now text
  idle_text taken = (_, record { bytes = taken.0; have_passed = taken.1; text_is = refl })

  ending_of : (outcome : Outcome) → HasTaken source source_now → ((text : List ℕ) → HaveReport words text [] outcome)
      → HasEnding words source source_now outcome
  ending_of outcome taken have =
      let text = idle_text taken in
      record { text = text.0; is_text = text.1; ends = ([], have text.0) }

  complete : (outcome : Outcome) → HasTaken source source_now → Means outcome → IsComplete words outcome source source_now out out_now
  complete Done taken m s o = inl (ends Done m.1.reported)
  complete (BadText fault) taken m s o = inl (ends (BadText fault) m.1)
  complete (Refused item cause) taken m s o = inl (ends (Refused item cause) m.1)
  complete TextLimit taken m s o = inl (ends TextLimit m.1)
  complete (BadWords fault) taken m s o = inl (ending_of (BadWords fault) taken (λ text. of_bad_words m.0))
  complete ReadFault taken m s o = absurd (s m.1.rose)
  complete WriteFault taken m s o = absurd (o m.1.rose)
  complete NoMemory taken m s o = inr refl

  pub is_complete : (outcome : Outcome) → IsAnswered words source source_now out out_now outcome
      → IsComplete words outcome source source_now out out_now
  is_complete outcome answer = complete outcome answer.taken answer.means

  stays : AreUntouched source source_now out out_now → out.faults ≤ out_now.faults
  stays u = subst (λ (s : SinkState). out.faults ≤ s.faults) (sym u.1) (omega arith)

  later_of : (outcome : Outcome) → Means outcome → out.faults ≤ out_now.faults
  later_of Done m = m.1.reported.gives.later
  later_of (BadText fault) m = m.1.gives.later
  later_of (Refused item cause) m = m.1.gives.later
  later_of TextLimit m = m.1.gives.later
  later_of (BadWords fault) m = stays m.1
  later_of ReadFault m = m.1.gives.later
  later_of WriteFault m = m.1.in_part.gives.later
  later_of NoMemory m = m.1.gives.later

  pub out_later : (outcome : Outcome) → IsAnswered words source source_now out out_now outcome → out.faults ≤ out_now.faults
  out_later outcome answer = later_of outcome answer.means
