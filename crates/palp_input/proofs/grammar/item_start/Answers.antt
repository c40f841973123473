use Rattle.std.proofs.Common.{ap, ◌∙◌, arith}
use Rattle.palp_input.specs.Pieces.{pieces_of}
use Rattle.palp_input.specs.Grammar.{pieces_item}
use Rattle.palp_input.proofs.Starts.{pieces_item-line_ends, token_starts, byte_starts}
use Rattle.palp_input.proofs.grammar.item_start.Goals as goal

pub returns-in-Nothing : goal.returns-in-Nothing
returns-in-Nothing c =
    pieces_item-line_ends c.args.text.now (pieces_of 0 c.args.text.now) ∙ ap (pieces_item c.args.text.now) c.in-Nothing.ensures.means

pub returns-in-BadByte : goal.returns-in-BadByte
returns-in-BadByte c = record {
  within = omega (arith, c.in-BadByte.ensures.within.most, c.in-BadByte.ensures.within.some);
  is_next = byte_starts c.args.text.now c.in-BadByte.at _ (omega (arith, c.in-BadByte.ensures.within.most))
      c.in-BadByte.ensures.means c.in-BadByte.ensures.begins;
}

pub returns-in-Word : goal.returns-in-Word
returns-in-Word c = record {
  within = omega (arith, c.in-Word.ensures.within.most, c.in-Word.ensures.within.some);
  is_next = token_starts c.args.text.now c.in-Word.token _ (omega (arith, c.in-Word.ensures.within.most, c.in-Word.ensures.within.some))
      c.in-Word.ensures.means c.in-Word.ensures.begins;
}
