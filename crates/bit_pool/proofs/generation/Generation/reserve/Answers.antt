use Rattle.std.proofs.Common.{◌-◌, length, ap, arith}
use Rattle.bit_pool.specs.steps.Stored.{Kept}
use Rattle.bit_pool.proofs.Rows.{used_is, room_in_all}
use Rattle.bit_pool.proofs.generation.Generation.reserve.Goals as goal

pub overflow_sub-more : goal.overflow_sub-more
overflow_sub-more c =
    let g = c.self.inside in
    let e = used_is g.row_words g.used g.words.items c.args.self.now.rows (ap (λ (k : Kept). k.rows) c.self.view_is) in
    let h = c.requires.more in
    omega arith

pub returns-clause-room : goal.returns-clause-room
returns-clause-room c =
    let g = c.self.inside in
    let e = used_is g.row_words g.used g.words.items c.args.self.now.rows (ap (λ (k : Kept). k.rows) c.self.view_is) in
    let h = c.requires.more in
    let ok = c.in_ok-try_reserve.ensures.ok in
    room_in_all g.row_words g.used (c.args.rows - g.used) c.args.rows (length g.words.items) c.try_reserve.new.self.cap
    (omega arith) c.self.invariant.0 (let len = c.in_ok-try_reserve.ensures.len in omega arith)
