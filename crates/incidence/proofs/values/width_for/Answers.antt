use Rattle.std.proofs.Common.{length, sym, rules, ap, ◌<◌, ◌+◌, ◌/◌, ◌^◌}
use Rattle.incidence.proofs.SmallValues.{have_dimension, narrow}
use Rattle.incidence.proofs.values.width_for.Goals as goal

pub size_of-size-requires-clause-dimension : goal.size_of-size-requires-clause-dimension
size_of-size-requires-clause-dimension c =
    let some : 0 < length c.args.functions.now = search rules in
    have_dimension c.args.points.now c.args.functions.now c.index-functions-0.result c.dim.result c.requires
    (0, some, sym c.index-functions-0.is) c.dim.ensures.value

pub returns-then-are_small : goal.returns-then-are_small
returns-then-are_small c =
    let some : 0 < length c.args.functions.now = search rules in
    narrow c.args.points.now c.args.functions.now c.dim.result _
    (have_dimension c.args.points.now c.args.functions.now c.index-functions-0.result c.dim.result c.requires
    (0, some, sym c.index-functions-0.is) c.dim.ensures.value)
    (ap (λ n. 2 ^ 62 / (n + 1)) c.size_of-size.ensures) (c.are_small.ensures.0 c.if-are_small.true)
