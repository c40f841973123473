use Rattle.std.proofs.Common.{arith}
use Rattle.incidence.proofs.Added.{adds_none, adds_one, exact_same, same_width, same_room, more_rows}
use Rattle.incidence.proofs.table.push_table.Goals as goal

pub loop-k-init : goal.loop-k-init
loop-k-init c = record { adds = adds_none c.args.pool.now _ }

pub push_words-requires-clause-room : goal.push_words-requires-clause-room
push_words-requires-clause-room c =
    let more = more_rows c.loop-k.invariant.adds in
    let room = same_room c.loop-k.invariant.adds in
    let old = c.requires.room in
    omega (arith, c.loop-k-test.true)

pub push_words-requires-clause-below : goal.push_words-requires-clause-below
push_words-requires-clause-below c =
    let width = same_width c.loop-k.invariant.adds in
    let old = c.requires.width in
    λ n b. let l = ((c.table_row.ensures.bits n).0 b).0 in omega arith

pub loop-k-preserved : goal.loop-k-preserved
loop-k-preserved c = record {
  adds = adds_one c.args.pool.now c.loop-k.pool c.push_words.new.pool c.loop-k.k _ c.table_row.result c.loop-k.invariant.adds c.push_words.ensures
      (λ row same. exact_same c.args.count _ c.table_row.result row c.table_row.ensures.bits same);
}
