use Rattle.std.proofs.Common.{suc, drop, ap, ◌∙◌}
use Rattle.palp_input.specs.Pieces.{pieces_of}
use Rattle.palp_input.specs.Lines.{matrix_read}
use Rattle.palp_input.proofs.ReadSoFar.{matrix_read-line_ends, word_entry}
use Rattle.palp_input.proofs.matrices.next_entry.Goals as goal

pub returns-in-Nothing-clause-means : goal.returns-in-Nothing-clause-means
returns-in-Nothing-clause-means c = λ count after.
    let pieces = pieces_of c.args.place (drop c.args.place c.args.text.now) in
    matrix_read-line_ends c.args.text.now count after pieces ∙ ap (matrix_read c.args.text.now (suc count) after) c.in-Nothing.ensures.means

pub returns-in-BadByte-clause-means : goal.returns-in-BadByte-clause-means
returns-in-BadByte-clause-means c = λ count after.
    let pieces = pieces_of c.args.place (drop c.args.place c.args.text.now) in
    matrix_read-line_ends c.args.text.now count after pieces ∙ ap (matrix_read c.args.text.now (suc count) after) c.in-BadByte.ensures.means

pub returns-in-Word-clause-means : goal.returns-in-Word-clause-means
returns-in-Word-clause-means c =
    word_entry c.args.text.now c.args.place (pieces_of c.args.place (drop c.args.place c.args.text.now)) c.in-Word.token c.token_part.result
    c.in-Word.ensures.means c.in-Word.ensures.within c.token_part.ensures.means c.token_part.ensures.ends
