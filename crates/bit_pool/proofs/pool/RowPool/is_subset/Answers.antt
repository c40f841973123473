use Rattle.std.proofs.Common.{sym, ◌∙◌}
use Rattle.bit_pool.proofs.Named.{named_row}
use Rattle.bit_pool.proofs.pool.RowPool.is_subset.Goals as goal

pub is_within-requires : goal.is_within-requires
is_within-requires c =
    let row = named_row c.args.self.now c.args.a c.in_ok-words.words.now c.row.ensures.pool c.in_ok-words.ensures.answer in
    let other = named_row c.args.self.now c.args.b c.in_ok-others.others.now c.row-2.ensures.pool c.in_ok-others.ensures.answer in
    row.count ∙ sym other.count
