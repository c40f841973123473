use Rattle.std.proofs.Common.{◌≤◌, ◌<◌, ◌^◌, length, neg_ℤ, sym, ap, ◌∙◌, subst, refl, arith}
use Rattle.std.specs.Prelude.{nat_abs}
use Rattle.std.specs.List.{All}
use Rattle.std.proofs.lemmas.Bool.{true≢false}
use Rattle.std.proofs.lemmas.List.Elements.{All-contains}
use Rattle.lattice_theory.specs.Vector.{dot}
use Rattle.lattice_theory.specs.Size.{absolute_sum}
use Rattle.normal_bounds.specs.Bounds.{IsFixedBy}
use Rattle.lattice_core.specs.Dimensions.{dimension_of}
use Rattle.hull.specs.Hyperplanes.{StartsPositive}
use Rattle.hull.specs.steps.Differences.{differences}
use Rattle.hull.specs.steps.Kernels.{IsPrimitiveKernel}
use Rattle.hull_growth.proofs.Small.{points_bound}
use Rattle.hull.proofs.AffineFunctions.{two_functions, single_fixed, not_several, opposite_fixed, opposite_starts, only_member, first_entries}
use Rattle.hull.proofs.planes.hyperplane.Goals as goal
use Rattle.hull.proofs.planes.hyperplane.Goals.{After-function_at-function, After-as_slice-members}

-- the kernel as a slice
kernel : (c : After-as_slice-members)
    → IsPrimitiveKernel (dimension_of c.args.points.now) (differences c.args.points.now) c.as_slice-members.result.now
kernel c = subst (IsPrimitiveKernel (dimension_of c.args.points.now) (differences c.args.points.now)) (sym c.as_slice-members.ensures.value)
    c.kernel_of-kernel.ensures.kernel

-- the function is fixed by the points
fixed : (c : After-function_at-function) → IsFixedBy (dimension_of c.args.points.now) c.args.points.now c.function_at-function.result
fixed c =
    let n = dimension_of c.args.points.now in
    single_fixed n c.args.points.now c.index-points-0.result c.as_slice-members.result.now c.index-members-0.result
    c.function_at-function.result c.requires.points.are_points.one_dimension c.requires.points.are_points.some c.index-points-0.is
    (subst (IsPrimitiveKernel n (differences c.args.points.now)) (sym c.as_slice-members.ensures.value) c.kernel_of-kernel.ensures.kernel)
    (only_member c.as_slice-members.result.now c.index-members-0.result c.if-members-ne1.false c.index-members-0.is)
    (c.function_at-function.ensures.normal ∙ c.vector.ensures) (c.function_at-function.ensures.constant
    ∙ ap (λ x. neg_ℤ (dot x c.index-points-0.result)) c.vector.ensures)

pub returns-then-members-ne1-clause-none : goal.returns-then-members-ne1-clause-none
returns-then-members-ne1-clause-none c =
    let n = dimension_of c.args.points.now in
    let other = c.if-members-ne1.true in
    let count = c.kernel_of-kernel.ensures.count in
    let same = ap length c.as_slice-members.ensures.value in
    let two : 2 ≤ length c.as_slice-members.result.now = omega arith in (
      λ e. two_functions n c.args.points.now c.as_slice-members.result.now c.requires.points.are_points.some
          c.requires.points.are_points.one_dimension (kernel ((goal.at.returns-then-members-ne1-clause-none c).After-as_slice-members)) two,
      λ h. refl,
    )

pub function_at-function-requires-clause-entries : goal.function_at-function-requires-clause-entries
function_at-function-requires-clause-entries c =
    first_entries c.kernel_of-kernel.result.items c.as_slice-members.result.now c.index-members-0.result c.vector.result.now
    c.as_slice-members.ensures.value (let one = c.if-members-ne1.false in
    omega arith) c.index-members-0.is c.vector.ensures c.kernel_of-kernel.ensures.entries

pub function_at-function-requires-clause-small : goal.function_at-function-requires-clause-small
function_at-function-requires-clause-small c =
    All-contains (λ p. absolute_sum p ≤ 2 ^ 30) c.args.points.now c.index-points-0.result
    (points_bound (dimension_of c.args.points.now) c.args.points.now c.requires.points.are_points.one_dimension
    c.requires.points.within) (0, c.requires.points.are_points.some, sym c.index-points-0.is)

pub opposite-requires-clause-entries : goal.opposite-requires-clause-entries
opposite-requires-clause-entries c =
    subst (All (λ a. nat_abs a < 2 ^ 63)) (sym c.function_at-function.ensures.normal)
    (first_entries c.kernel_of-kernel.result.items c.as_slice-members.result.now c.index-members-0.result c.vector.result.now
    c.as_slice-members.ensures.value (let one = c.if-members-ne1.false in
    omega arith) c.index-members-0.is c.vector.ensures c.kernel_of-kernel.ensures.entries)

pub returns-then-starts_positive-clause-none : goal.returns-then-starts_positive-clause-none
returns-then-starts_positive-clause-none c = (
  λ e. absurd (true≢false e),
  λ h.
      absurd (not_several _ _ _ (fixed ((goal.at.returns-then-starts_positive-clause-none c).After-function_at-function)) h),
)

pub returns-then-starts_positive-clause-function : goal.returns-then-starts_positive-clause-function
returns-then-starts_positive-clause-function c =
    let starts : StartsPositive c.normal.result.now = c.starts_positive.ensures.0 c.if-starts_positive.true in
    record {
      fixed = fixed ((goal.at.returns-then-starts_positive-clause-function c).After-function_at-function);
      starts = subst StartsPositive c.normal.ensures.value starts;
    }

pub returns-else-starts_positive-clause-none : goal.returns-else-starts_positive-clause-none
returns-else-starts_positive-clause-none c = (
  λ e. absurd (true≢false e),
  λ h.
      absurd (not_several _ _ _ (fixed ((goal.at.returns-else-starts_positive-clause-none c).After-function_at-function)) h),
)

pub returns-else-starts_positive-clause-function : goal.returns-else-starts_positive-clause-function
returns-else-starts_positive-clause-function c =
    let f = fixed ((goal.at.returns-else-starts_positive-clause-function c).After-function_at-function) in
    record {
      fixed = opposite_fixed (dimension_of c.args.points.now) c.args.points.now c.function_at-function.result c.opposite.result f
          c.opposite.ensures.normal c.opposite.ensures.constant;
      starts = opposite_starts c.function_at-function.result.normal c.opposite.result.normal f.primitive
          (λ s. true≢false (sym (c.starts_positive.ensures.1 (subst StartsPositive (sym c.normal.ensures.value) s))
          ∙ c.if-starts_positive.false)) c.opposite.ensures.normal;
    }
