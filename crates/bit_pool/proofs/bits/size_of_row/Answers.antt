use Rattle.std.proofs.Common.{get_or, ap, arith}
use Rattle.std.proofs.lemmas.List.{drop_more, drop_all}
use Rattle.std.proofs.lemmas.Nat.{ones-le}
use Rattle.bit_pool.proofs.Counts.{all_ones, row_size}
use Rattle.bit_pool.proofs.bits.size_of_row.Goals as goal

pub loop-word-init : goal.loop-word-init
loop-word-init c = record { sum = omega arith; bound = omega arith }

pub overflow_add-count : goal.overflow_add-count
overflow_add-count c =
    let few = ones-le 64 (get_or c.args.words.now c.loop-word.word-index 0) (omega (arith, c.type_inv.words c.loop-word.word-index)) in
    let bound = c.loop-word.invariant.bound in
    omega (arith, c.requires, c.loop-word-test.true)

pub loop-word-preserved : goal.loop-word-preserved
loop-word-preserved c =
    let words = c.args.words.now in
    let i = c.loop-word.word-index in
    let few = ones-le 64 (get_or words i 0) (omega (arith, c.type_inv.words i)) in
    let bound = c.loop-word.invariant.bound in
    let sum = c.loop-word.invariant.sum in
    let next = ap all_ones (drop_more words i 0 c.loop-word-test.true) in
    record { sum = omega arith; bound = omega arith }

pub returns : goal.returns
returns c = λ width row.
    let words = c.args.words.now in
    let sum = c.loop-word.invariant.sum in
    let count = row.count in
    let done = ap all_ones (drop_all c.loop-word.word-index words (omega arith)) in
    let size = row_size width words (omega arith) (λ i. omega (arith, c.type_inv.words i)) row.below in
    omega arith
