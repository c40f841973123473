use Rattle.std.proofs.Common.{◌≤◌, length, refl, sym, ◌∙◌, arith}
use Rattle.bit_pool.specs.Bits.{IsRow}
use Rattle.bit_pool.proofs.Meets.{meets, met_row}
use Rattle.bit_pool.proofs.Named.{named_row, few_words}
use Rattle.bit_pool.proofs.pool.RowPool.met.Goals as goal
use Rattle.bit_pool.proofs.pool.RowPool.met.Goals.{In_ok-others}

is_row : (c : In_ok-others) → IsRow c.args.self.now.width c.in_ok-words.words.now
is_row c = named_row c.args.self.now c.args.a c.in_ok-words.words.now c.row.ensures.pool c.in_ok-words.ensures.answer

is_other : (c : In_ok-others) → IsRow c.args.self.now.width c.in_ok-others.others.now
is_other c = named_row c.args.self.now c.args.b c.in_ok-others.others.now c.row-2.ensures.pool c.in_ok-others.ensures.answer

pub meet_of-requires-clause-same : goal.meet_of-requires-clause-same
meet_of-requires-clause-same c = (is_row c).count ∙ sym (is_other c).count

pub meet_of-requires-clause-most : goal.meet_of-requires-clause-most
meet_of-requires-clause-most c = few_words c.args.self.now.width c.in_ok-words.words.now (is_row c) c.row.ensures.pool.most

pub returns : goal.returns
returns c =
    let width = c.args.self.now.width in
    let words = c.in_ok-words.words.now in
    let others = c.in_ok-others.others.now in
    let few = few_words width words (is_row c.before) c.row.ensures.pool.most in
    let whole = c.meet_of.ensures.whole in
    let within : length words ≤ length c.meet_of.result = omega arith in
    record {
      is_row = met_row width (length words) words others c.meet_of.result (is_row c.before)
          (is_other c.before) refl within c.meet_of.ensures.entries;
      within = within;
      is_meet = record {
        words = words;
        named = c.in_ok-words.ensures.answer;
        holds = record {
          words = others;
          named = c.in_ok-others.ensures.answer;
          holds = meets width (length words) words others c.meet_of.result (is_row c.before)
              (is_other c.before) refl within c.meet_of.ensures.entries;
        };
      };
    }
