use Rattle.std.proofs.Common.{◌∙◌, sym, arith}
use Rattle.face_closing.proofs.SetWords.{meet_from}
use Rattle.face_closing.proofs.words.meet_into.Goals as goal

pub returns : goal.returns
returns c =
    let width = c.loop-i.invariant.width in
    meet_from c.loop-i.meet c.args.words.now c.args.others.now (c.requires.words ∙ sym width) (c.requires.others ∙ sym width)
    (λ k l. c.loop-i.invariant.entries k (let f = c.loop-i-test.false in omega arith))
