use Rattle.std.proofs.Common.{map}
use Rattle.std.specs.String.{string_bytes}
use Rattle.palp_engine.proofs.RunMeanings.{tells_bad_words, is_done, is_refusal, is_read_fault, is_write_fault, is_no_memory, is_complete, source_later, out_later}
use Rattle.palp_engine.proofs.command.run.Goals as goal

pub returns-in-Some-clause-taken : goal.returns-in-Some-clause-taken
returns-in-Some-clause-taken g c = c.answer-outcome.ensures.taken

pub returns-in-Some-clause-bad_words : goal.returns-in-Some-clause-bad_words
returns-in-Some-clause-bad_words g c =
    tells_bad_words (map (λ w. string_bytes w) c.args.words.now) _ _ _ _ c.answer-outcome.result c.answer-outcome.ensures

pub returns-in-Some-clause-source_kept : goal.returns-in-Some-clause-source_kept
returns-in-Some-clause-source_kept g c = c.answer-outcome.ensures.kept

pub returns-in-Some-clause-done : goal.returns-in-Some-clause-done
returns-in-Some-clause-done g c =
    is_done (map (λ w. string_bytes w) c.args.words.now) _ _ _ _ c.answer-outcome.result c.answer-outcome.ensures

pub returns-in-Some-clause-refusals : goal.returns-in-Some-clause-refusals
returns-in-Some-clause-refusals g c =
    is_refusal (map (λ w. string_bytes w) c.args.words.now) _ _ _ _ c.answer-outcome.result c.answer-outcome.ensures

pub returns-in-Some-clause-read_fault : goal.returns-in-Some-clause-read_fault
returns-in-Some-clause-read_fault g c =
    is_read_fault (map (λ w. string_bytes w) c.args.words.now) _ _ _ _ c.answer-outcome.result c.answer-outcome.ensures

pub returns-in-Some-clause-write_fault : goal.returns-in-Some-clause-write_fault
returns-in-Some-clause-write_fault g c =
    is_write_fault (map (λ w. string_bytes w) c.args.words.now) _ _ _ _ c.answer-outcome.result c.answer-outcome.ensures

pub returns-in-Some-clause-no_memory : goal.returns-in-Some-clause-no_memory
returns-in-Some-clause-no_memory g c =
    is_no_memory (map (λ w. string_bytes w) c.args.words.now) _ _ _ _ c.answer-outcome.result c.answer-outcome.ensures

pub returns-in-Some-clause-completeness : goal.returns-in-Some-clause-completeness
returns-in-Some-clause-completeness g c =
    is_complete (map (λ w. string_bytes w) c.args.words.now) _ _ _ _ c.answer-outcome.result c.answer-outcome.ensures

pub returns-in-Some-clause-source_faults : goal.returns-in-Some-clause-source_faults
returns-in-Some-clause-source_faults g c =
    source_later (map (λ w. string_bytes w) c.args.words.now) _ _ _ _ c.answer-outcome.result c.answer-outcome.ensures

pub returns-in-Some-clause-out_faults : goal.returns-in-Some-clause-out_faults
returns-in-Some-clause-out_faults g c =
    out_later (map (λ w. string_bytes w) c.args.words.now) _ _ _ _ c.answer-outcome.result c.answer-outcome.ensures
