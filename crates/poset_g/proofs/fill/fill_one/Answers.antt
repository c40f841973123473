use Rattle.std.proofs.Common.{rules, SFits, ◌≡◌, ◌<◌, ◌≤◌, ◌+◌, ◌*◌, length, nat_abs, ap, ◌∙◌, arith}
use Rattle.std.specs.Int.{w64, w128}
use Rattle.std.proofs.lemmas.Int.{to_z-of_z}
use Rattle.poset_g.specs.FillSteps.{place_of}
use Rattle.poset_g.proofs.FilledPlaces.{told_filled, first_large}
use Rattle.poset_g.proofs.FilledRows.{can_fill_told}
use Rattle.poset_g.proofs.fill.fill_one.Goals as goal

pub returns-then-unsigned_abs-gt-MOST_COEFFICIENT-clause-fault : goal.returns-then-unsigned_abs-gt-MOST_COEFFICIENT-clause-fault
returns-then-unsigned_abs-gt-MOST_COEFFICIENT-clause-fault c =
    let fits : SFits w64 c.value_of-value.result = search rules in
    let wide : SFits w128 c.from.result = search rules in
    let is : c.from.result ≡ c.value_of-value.result = search rules in
    let u = simp to_z-of_z at c.unsigned_abs.ensures.value in
    let large : 4096 < nat_abs c.from.result = let e = ap nat_abs is in let t = c.if-unsigned_abs-gt-MOST_COEFFICIENT.true in omega arith in
    simp to_z-of_z (first_large c.args.table.now c.requires.ready.faces c.requires.ready.ranks c.args.places.now c.args.values.now.items (place_of c.args.wanted) c.from.result
    c.requires.interval c.requires.filled (is ∙ c.value_of-value.ensures.value) large)

pub returns-clause-filled : goal.returns-clause-filled
returns-clause-filled c =
    let fits : SFits w64 c.value_of-value.result = search rules in
    let u = simp to_z-of_z at c.unsigned_abs.ensures.value in
    let small : nat_abs c.value_of-value.result ≤ 4096 = let t = c.if-unsigned_abs-gt-MOST_COEFFICIENT.false in omega arith in
    let room : 8 * c.args.place + 7 < length c.args.values.now.items = let w = c.requires.within in let m = c.requires.ready.kept.many in omega arith in
    simp to_z-of_z (told_filled c.args.table.now c.args.places.now c.requires.ready.places c.args.values.now.items c.value_of-value.result
    (place_of c.args.wanted) c.args.place
    c.first_of.result c.first_of.ensures c.requires.found (let d = c.requires.degree in omega arith) room c.requires.filled c.value_of-value.ensures.value small)

pub returns-clause-ready : goal.returns-clause-ready
returns-clause-ready c =
    let fits : SFits w64 c.value_of-value.result = search rules in
    let u = simp to_z-of_z at c.unsigned_abs.ensures.value in
    let small : nat_abs c.value_of-value.result ≤ 4096 = let t = c.if-unsigned_abs-gt-MOST_COEFFICIENT.false in omega arith in
    simp to_z-of_z (can_fill_told c.args.table.now c.args.places.now c.args.values.now.items c.args.place c.first_of.result c.args.wanted.degree c.args.wanted.dual
    c.value_of-value.result c.requires.ready c.first_of.ensures c.requires.degree c.requires.within small)
