use Rattle.std.proofs.Common.{◌≡◌, ◌≤◌, ◌^◌, length, neg_ℤ, sym, ap, ◌∙◌, subst, arith}
use Rattle.std.proofs.lemmas.Bool.Decides.{nat_tests}
use Rattle.std.proofs.lemmas.List.Elements.{All-contains}
use Rattle.lattice_theory.specs.Vector.{dot}
use Rattle.lattice_theory.specs.Size.{absolute_sum}
use Rattle.lattice_core.specs.Dimensions.{dimension_of}
use Rattle.hull.specs.steps.Differences.{differences}
use Rattle.hull.specs.steps.Kernels.{IsPrimitiveKernel}
use Rattle.hull_growth.proofs.Small.{points_bound}
use Rattle.hull.proofs.AffineFunctions.{none_not_flat, first_flat, no_member, first_entries}
use Rattle.hull.proofs.flat.flat_function.Goals as goal

pub returns-then-is_empty : goal.returns-then-is_empty
returns-then-is_empty c =
    let n = dimension_of c.args.points.now in
    let empty : length c.as_slice-members.result.now ≡ 0 = grind (arith, nat_tests) in
    none_not_flat n c.args.points.now c.kernel_of-kernel.result.items c.requires.points.are_points.one_dimension
    c.kernel_of-kernel.ensures.kernel (sym c.as_slice-members.ensures.value ∙ no_member c.as_slice-members.result.now empty)

pub function_at-requires-clause-entries : goal.function_at-requires-clause-entries
function_at-requires-clause-entries c =
    first_entries c.kernel_of-kernel.result.items c.as_slice-members.result.now c.index-members-0.result c.vector.result.now
    c.as_slice-members.ensures.value (grind (arith, nat_tests)) c.index-members-0.is c.vector.ensures c.kernel_of-kernel.ensures.entries

pub function_at-requires-clause-small : goal.function_at-requires-clause-small
function_at-requires-clause-small c =
    All-contains (λ p. absolute_sum p ≤ 2 ^ 30) c.args.points.now c.index-points-0.result
    (points_bound (dimension_of c.args.points.now) c.args.points.now c.requires.points.are_points.one_dimension
    c.requires.points.within) (0, c.requires.points.are_points.some, sym c.index-points-0.is)

pub returns : goal.returns
returns c =
    let n = dimension_of c.args.points.now in
    let some : 1 ≤ length c.as_slice-members.result.now = grind (arith, nat_tests) in
    first_flat n c.args.points.now c.index-points-0.result c.as_slice-members.result.now c.index-members-0.result c.function_at.result
    c.requires.points.are_points.one_dimension c.index-points-0.is
    (subst (IsPrimitiveKernel n (differences c.args.points.now)) (sym c.as_slice-members.ensures.value) c.kernel_of-kernel.ensures.kernel)
    some c.index-members-0.is
    (c.function_at.ensures.normal ∙ c.vector.ensures) (c.function_at.ensures.constant
    ∙ ap (λ x. neg_ℤ (dot x c.index-points-0.result)) c.vector.ensures)
