use Rattle.std.proofs.Common.{◌≡◌, List, ℕ, ◌++◌, ap, ◌∙◌}
use Rattle.nef_report.specs.Partitions.{numbers_text}
use Rattle.nef_report.proofs.PieceSteps.{numbers_written}
use Rattle.nef_report.proofs.pieces.write_piece.Goals as goal

pub returns : goal.returns
returns c =
    numbers_written c.args.words.now c.args.pair.now c.args.number c.args.partition.now.part_of.items c.put_numbers.new.page c.in_ok-numbers.numbers
    c.if-words.false c.in_ok-numbers.ensures
    (c.in_ok-put_numbers.ensures
    ∙ ap (λ (xs : List ℕ). xs ++ numbers_text c.args.words.now.full c.args.number c.deref-2.result.now c.in_ok-numbers.numbers) c.clear.ensures
    ∙ ap (λ (xs : List ℕ). numbers_text c.args.words.now.full c.args.number xs c.in_ok-numbers.numbers) c.deref-2.ensures.value)
