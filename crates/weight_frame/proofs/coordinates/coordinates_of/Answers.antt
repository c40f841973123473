use Rattle.std.proofs.Common.{◌≡◌, ◌∷◌, ◌++◌, [], ◌≤◌, ◌<◌, nat_abs, SFits, w64, rules, arith, ap, ◌∙◌}
use Rattle.std.specs.Int.{w128}
use Rattle.std.proofs.lemmas.Int.{to_z-of_z}
use Rattle.lattice_core.specs.declared.limits.TheConstants.{MOST_COORDINATE}
use Rattle.weight_frame.specs.steps.Places.{IsNextCoordinate}
use Rattle.weight_frame.proofs.Finding.{found_none, found_more, found_all, found_large}
use Rattle.weight_frame.proofs.coordinates.coordinates_of.Goals as goal

pub loop-place-init : goal.loop-place-init
loop-place-init c = found_none c.args.vectors.now c.args.x.now c.new-found.result.items c.new-found.ensures

pub returns-then-unsigned_abs-gt-MOST_COORDINATE : goal.returns-then-unsigned_abs-gt-MOST_COORDINATE
returns-then-unsigned_abs-gt-MOST_COORDINATE c =
    let fits : SFits w128 c.next_coordinate-next.result = search rules in
    let abs : c.unsigned_abs.result ≡ nat_abs c.next_coordinate-next.result = simp to_z-of_z at c.unsigned_abs.ensures.value in
    let large : MOST_COORDINATE < nat_abs c.next_coordinate-next.result = omega arith in
    let next : IsNextCoordinate c.args.vectors.now c.args.x.now c.loop-place.found.items c.next_coordinate-next.result =
    rw c.as_slice.ensures.value at c.next_coordinate-next.ensures in
    found_large c.args.vectors.now c.args.x.now c.loop-place.found.items c.loop-place._place c.next_coordinate-next.result
    c.loop-place.invariant next large

pub loop-place-preserved : goal.loop-place-preserved
loop-place-preserved c =
    let fits : SFits w128 c.next_coordinate-next.result = search rules in
    let narrow : SFits w64 c.narrowed_entry.result = search rules in
    let abs : c.unsigned_abs.result ≡ nat_abs c.next_coordinate-next.result = simp to_z-of_z at c.unsigned_abs.ensures.value in
    let small : nat_abs c.next_coordinate-next.result ≤ MOST_COORDINATE = omega arith in
    let next : IsNextCoordinate c.args.vectors.now c.args.x.now c.loop-place.found.items c.next_coordinate-next.result =
    rw c.as_slice.ensures.value at c.next_coordinate-next.ensures in
    let same : c.narrowed_entry.result ≡ c.next_coordinate-next.result = simp to_z-of_z at c.narrowed_entry.ensures in
    let pushed : c.push.new.self.items ≡ c.loop-place.found.items ++ (c.narrowed_entry.result ∷ []) =
    simp to_z-of_z at c.push.ensures.items in
    let items = pushed ∙ ap (λ a. c.loop-place.found.items ++ (a ∷ [])) same in
    found_more c.args.vectors.now c.args.x.now c.loop-place.found.items c.push.new.self.items c.loop-place._place
    c.next_coordinate-next.result (omega arith) c.loop-place.invariant next small items

pub returns : goal.returns
returns c = found_all c.args.vectors.now c.args.x.now c.loop-place.found.items c.loop-place._place (omega arith) c.loop-place.invariant
