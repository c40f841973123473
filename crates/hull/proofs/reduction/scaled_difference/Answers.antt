use Rattle.std.proofs.Common.{◌*ℤ◌, ◌-ℤ◌, SFits, rules}
use Rattle.std.specs.Int.{w128}
use Rattle.std.proofs.lemmas.Int.{to_z-of_z}
use Rattle.hull.proofs.Arithmetic.{difference_fits, difference_small}
use Rattle.hull.proofs.reduction.scaled_difference.Goals as goal
use Rattle.lattice_core.proofs.Widths.{small_fits}

pub overflow_sub-result : goal.overflow_sub-result
overflow_sub-result c =
    let a : SFits w128 c.args.a = search rules in
    let x : SFits w128 c.args.x = search rules in
    let b : SFits w128 c.args.b = search rules in
    let y : SFits w128 c.args.y = search rules in
    let left : SFits w128 (c.args.a *ℤ c.args.x) = small_fits _ c.requires.left in
    let right : SFits w128 (c.args.b *ℤ c.args.y) = small_fits _ c.requires.right in
    simp to_z-of_z (difference_fits (c.args.a *ℤ c.args.x) (c.args.b *ℤ c.args.y) c.requires.left c.requires.right)

pub returns-clause-value : goal.returns-clause-value
returns-clause-value c =
    let a : SFits w128 c.args.a = search rules in
    let x : SFits w128 c.args.x = search rules in
    let b : SFits w128 c.args.b = search rules in
    let y : SFits w128 c.args.y = search rules in
    let left : SFits w128 (c.args.a *ℤ c.args.x) = small_fits _ c.requires.left in
    let right : SFits w128 (c.args.b *ℤ c.args.y) = small_fits _ c.requires.right in
    let whole : SFits w128 (c.args.a *ℤ c.args.x -ℤ c.args.b *ℤ c.args.y) =
    difference_fits (c.args.a *ℤ c.args.x) (c.args.b *ℤ c.args.y) c.requires.left c.requires.right in
    simp to_z-of_z

pub returns-clause-small : goal.returns-clause-small
returns-clause-small c =
    let a : SFits w128 c.args.a = search rules in
    let x : SFits w128 c.args.x = search rules in
    let b : SFits w128 c.args.b = search rules in
    let y : SFits w128 c.args.y = search rules in
    let left : SFits w128 (c.args.a *ℤ c.args.x) = small_fits _ c.requires.left in
    let right : SFits w128 (c.args.b *ℤ c.args.y) = small_fits _ c.requires.right in
    let whole : SFits w128 (c.args.a *ℤ c.args.x -ℤ c.args.b *ℤ c.args.y) =
    difference_fits (c.args.a *ℤ c.args.x) (c.args.b *ℤ c.args.y) c.requires.left c.requires.right in
    simp to_z-of_z (difference_small (c.args.a *ℤ c.args.x) (c.args.b *ℤ c.args.y) c.requires.left c.requires.right)
