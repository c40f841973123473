use Rattle.bit_pool.specs.Bits.{IsRow}
use Rattle.bit_pool.proofs.Named.{named_row, few_words}
use Rattle.bit_pool.proofs.pool.RowPool.count.Goals as goal
use Rattle.bit_pool.proofs.pool.RowPool.count.Goals.{In_ok-row}

is_row : (c : In_ok-row) → IsRow c.args.self.now.width c.in_ok-row.field-0.now
is_row c = named_row c.args.self.now c.args.id c.in_ok-row.field-0.now c.row.ensures.pool c.in_ok-row.ensures.answer

pub size_of_row-requires : goal.size_of_row-requires
size_of_row-requires c = few_words c.args.self.now.width c.in_ok-row.field-0.now (is_row c) c.row.ensures.pool.most

pub returns : goal.returns
returns c = record {
  words = c.in_ok-row.field-0.now;
  named = c.in_ok-row.ensures.answer;
  holds = c.size_of_row.ensures c.args.self.now.width (is_row c.before);
}
