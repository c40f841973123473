use Rattle.bit_pool.proofs.Named.{named_row, has_word}
use Rattle.bit_pool.proofs.pool.RowPool.has.Goals as goal

pub has_bit-requires : goal.has_bit-requires
has_bit-requires c =
    let words = c.in_ok-row.field-0.now in
    has_word c.args.self.now.width c.args.bit words
    (named_row c.args.self.now c.args.id words c.row.ensures.pool c.in_ok-row.ensures.answer) c.requires
