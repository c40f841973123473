use Rattle.std.proofs.Common.{◌+◌, ◌/◌, ◌≤◌, length, ap, arith}
use Rattle.bit_pool.specs.Bits.{words_for}
use Rattle.incidence.proofs.Added.{front_row, front_same}
use Rattle.incidence.proofs.words.push_words.Goals as goal

pub push-requires : goal.push-requires
push-requires c =
    let v = c.width.ensures.value in
    let most = c.width.ensures.pool.most in
    let whole = c.requires.whole in
    front_row c.args.pool.now.width ((c.width.result + 63) / 64) c.args.words.now (ap words_for v) (omega arith) c.requires.below
    (λ i. omega (arith, c.type_inv.words i))

pub returns : goal.returns
returns c =
    let v = c.width.ensures.value in
    let most = c.width.ensures.pool.most in
    let whole = c.requires.whole in
    let fits : (c.width.result + 63) / 64 ≤ length c.args.words.now = omega arith in
    record {
      row = _;
      is_row = front_row c.args.pool.now.width ((c.width.result + 63) / 64) c.args.words.now (ap words_for v) fits c.requires.below
          (λ i. omega (arith, c.type_inv.words i));
      same = front_same c.args.pool.now.width ((c.width.result + 63) / 64) c.args.words.now (ap words_for v) fits c.requires.below;
      now_is = c.in-Ok.ensures.1;
    }
