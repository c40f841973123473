use Rattle.std.proofs.Common.{◌≡◌, ◌<◌, List, ℤ, length, true, rules, sym, subst, Contains}
use Rattle.std.specs.Prelude.{is_none}
use Rattle.std.proofs.lemmas.List.Elements.{All-contains}
use Rattle.hull.proofs.FewerPoints.{of_none, fewer_sized_points, fewer_solid}
use Rattle.hull.proofs.spread.are_spread_solid.Goals as goal
use Rattle.hull.proofs.spread.are_spread_solid.Goals.{After-deref}

-- there is one
some : (c : After-deref) → 0 < length c.deref.result.now
some c = subst (λ (ps : List (List ℤ)). 0 < length ps) (sym c.deref.ensures.value) c.in-Ok.ensures.some

-- they are points
among : (c : After-deref) (p : List ℤ) → Contains c.deref.result.now p → Contains c.args.points.now p
among c p m = All-contains (Contains c.args.points.now) c.in-Ok.spread.items p c.in-Ok.ensures.among
    (subst (λ (ps : List (List ℤ)). Contains ps p) c.deref.ensures.value m)

pub flat_function-requires : goal.flat_function-requires
flat_function-requires c =
    record { points = fewer_sized_points c.args.points.now c.deref.result.now c.requires.points (some c) (among c) }

pub returns-in-Ok : goal.returns-in-Ok
returns-in-Ok c =
    let at = (goal.at.returns-in-Ok c).After-deref in
    λ t. fewer_solid c.args.points.now c.deref.result.now c.requires.points (some at) (among at)
    (of_none c.flat_function.result _ _ (let e : is_none c.flat_function.result ≡ true = search rules in e) c.flat_function.ensures)
