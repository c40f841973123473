use Rattle.std.proofs.Common.{◌<◌, length, sym, ◌∙◌, arith}
use Rattle.poset_g.proofs.NumberedFaces.{told_below}
use Rattle.poset_g.proofs.tests.b_of_the_octahedron.Goals as goal

pub b-b-requires-clause-interval : goal.b-b-requires-clause-interval
b-b-requires-clause-interval g c =
    let first : 0 < length c.in_ok-table.table.faces = let v = c.len.ensures.value in let f = c.if-len-lt28.false in omega arith in
    let last : 27 < length c.in_ok-table.table.faces = let v = c.len.ensures.value in let f = c.if-len-lt28.false in omega arith in
    record {
      from = first;
      to = last;
      below = sym (told_below c.in_ok-table.table c.in_ok-table.ensures.faces 0 27 c.below.result first c.below.ensures) ∙ c.if-not-below.false;
    }
