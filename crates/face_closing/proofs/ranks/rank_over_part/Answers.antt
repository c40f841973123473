use Rattle.std.proofs.Common.{arith}
use Rattle.face_closing.proofs.ranks.rank_over_part.Goals as goal

pub overflow_add-result : goal.overflow_add-result
overflow_add-result c =
    let few = c.row.ensures.table.few in
    let many = c.requires.many in
    let within = c.in-Some.ensures.0 in
    let low = c.requires.low c.in-Some.found (omega arith) in
    omega arith
