use Rattle.std.proofs.Common.{map, sym}
use Rattle.std.specs.String.{string_bytes}
use Rattle.palp_engine.proofs.RunMeanings.{performed_answer, bad_words_answer}
use Rattle.palp_engine.proofs.WordRanges.{given_some_parts}
use Rattle.palp_engine.proofs.command.answer.Goals as goal

pub perform-requires-clause-parts : goal.perform-requires-clause-parts
perform-requires-clause-parts g c = given_some_parts c.in-Ok.job (map (λ w. string_bytes w) c.args.words.now, sym c.in-Ok.ensures)

pub perform-requires-clause-given : goal.perform-requires-clause-given
perform-requires-clause-given g c = (map (λ w. string_bytes w) c.args.words.now, sym c.in-Ok.ensures)

pub returns-in-Ok : goal.returns-in-Ok
returns-in-Ok g c =
    performed_answer (map (λ w. string_bytes w) c.args.words.now) c.in-Ok.job _ _ _ _ c.perform.result c.in-Ok.ensures c.perform.ensures

pub returns-in-Err : goal.returns-in-Err
returns-in-Err g c = bad_words_answer (map (λ w. string_bytes w) c.args.words.now) _ _ c.in-Err.fault c.in-Err.ensures
