use Rattle.std.proofs.Common.{◌≡◌, ◌+◌, ◌*◌, ◌≤◌, ◌^◌, length, take, refl, sym, ap, ◌∙◌, subst, rules, arith}
use Rattle.std.proofs.lemmas.List.Elements.{All-contains, All-take}
use Rattle.std.proofs.lemmas.List.{take_all}
use Rattle.lattice_theory.specs.Size.{absolute_sum}
use Rattle.lattice_core.specs.Limits.{size_limit_of}
use Rattle.lattice_core.specs.Dimensions.{dimension_of}
use Rattle.hull.specs.steps.Differences.{difference, differences}
use Rattle.hull.specs.steps.Kernels.{IsPrimitiveKernel, IsSmallKernel}
use Rattle.hull.proofs.Kernels.{members_entries}
use Rattle.hull.proofs.Pivots.{without_pivot}
use Rattle.hull_growth.proofs.Small.{points_small, points_bound}
use Rattle.hull.proofs.Vectors.{length-difference, absolute_sum-difference, others_of, others_all, others_length, differences_are, small_kernel, next_kernel, first_length, from}
use Rattle.hull.proofs.differences.kernel_of.Goals as goal
use Rattle.hull.proofs.differences.kernel_of.Goals.{After-dim, After-as_slice, After-loop-p, then-not-is_empty, else-not-is_empty}

-- the first point's length
first_dimension : (c : After-dim) → length c.index-points-0.result ≡ dimension_of c.args.points.now
first_dimension c = first_length (dimension_of c.args.points.now) c.args.points.now c.index-points-0.result
    c.requires.points.are_points.one_dimension c.requires.points.are_points.some c.index-points-0.is

pub point_difference-requires-clause-small_p : goal.point_difference-requires-clause-small_p
point_difference-requires-clause-small_p c =
    All-contains (λ p. absolute_sum p ≤ 2 ^ 30) (others_of c.args.points.now) c.p-item.result
    (others_all (λ p. absolute_sum p ≤ 2 ^ 30) c.args.points.now
    (points_bound (dimension_of c.args.points.now) c.args.points.now c.requires.points.are_points.one_dimension
    c.requires.points.within)) (c.loop-p.p-index, c.loop-p-test.true, sym c.p-item.is)

pub point_difference-requires-clause-small_q : goal.point_difference-requires-clause-small_q
point_difference-requires-clause-small_q c =
    All-contains (λ p. absolute_sum p ≤ 2 ^ 30) c.args.points.now c.index-points-0.result
    (points_bound (dimension_of c.args.points.now) c.args.points.now c.requires.points.are_points.one_dimension
    c.requires.points.within) (0, c.requires.points.are_points.some, sym c.index-points-0.is)

-- the length of this turn's point
point_dimension : (c : After-as_slice) → length c.p-item.result ≡ dimension_of c.args.points.now
point_dimension c =
    All-contains (λ p. length p ≡ dimension_of c.args.points.now) (others_of c.args.points.now) c.p-item.result
    (others_all (λ p. length p ≡ dimension_of c.args.points.now) c.args.points.now c.requires.points.are_points.one_dimension)
    (c.loop-p.p-index, c.loop-p-test.true, sym c.p-item.is)

-- its difference
turn_difference : (c : After-as_slice) → c.as_slice.result.now ≡ difference c.p-item.result c.index-points-0.result
turn_difference c = c.as_slice.ensures.value ∙ c.point_difference.ensures

-- the difference's length
turn_length : (c : After-as_slice) → length c.as_slice.result.now ≡ dimension_of c.args.points.now
turn_length c =
    let first = first_length (dimension_of c.args.points.now) c.args.points.now c.index-points-0.result
    c.requires.points.are_points.one_dimension c.requires.points.are_points.some c.index-points-0.is in
    ap length (turn_difference c) ∙ length-difference c.p-item.result c.index-points-0.result (point_dimension c ∙ sym first)
    ∙ point_dimension c

pub kernel_with-kernel-requires-clause-kernel : goal.kernel_with-kernel-requires-clause-kernel
kernel_with-kernel-requires-clause-kernel c =
    let n = dimension_of c.args.points.now in
    let first = first_length n c.args.points.now c.index-points-0.result c.requires.points.are_points.one_dimension
    c.requires.points.are_points.some c.index-points-0.is in
    let small = points_small n c.args.points.now c.requires.points.are_points.one_dimension c.requires.points.within in
    small_kernel n c.index-points-0.result (take c.loop-p.p-index (others_of c.args.points.now)) c.loop-p.kernel.items c.loop-p.kernel.items
    c.as_slice.result.now first
    (All-contains (λ p. absolute_sum p ≤ size_limit_of n) c.args.points.now c.index-points-0.result small (
      0,
      c.requires.points.are_points.some,
      sym c.index-points-0.is,
    ))
    (All-take (λ p. length p ≡ n) c.loop-p.p-index (others_of c.args.points.now)
    (others_all (λ p. length p ≡ n) c.args.points.now c.requires.points.are_points.one_dimension))
    (All-take (λ p. absolute_sum p ≤ size_limit_of n) c.loop-p.p-index (others_of c.args.points.now)
    (others_all (λ p. absolute_sum p ≤ size_limit_of n) c.args.points.now small))
    (subst (λ m. IsPrimitiveKernel m (from c.index-points-0.result (take c.loop-p.p-index (others_of c.args.points.now)))
    c.loop-p.kernel.items) first c.loop-p.invariant.kernel) refl (turn_length c)

pub kernel_with-kernel-requires-clause-some : goal.kernel_with-kernel-requires-clause-some
kernel_with-kernel-requires-clause-some c = let l = turn_length c in
    let f = first_dimension ((goal.at.kernel_with-kernel-requires-clause-some c).After-dim) in omega arith

pub kernel_with-kernel-requires-clause-small : goal.kernel_with-kernel-requires-clause-small
kernel_with-kernel-requires-clause-small c =
    let n = dimension_of c.args.points.now in
    let first = first_length n c.args.points.now c.index-points-0.result c.requires.points.are_points.one_dimension
    c.requires.points.are_points.some c.index-points-0.is in
    let small = points_small n c.args.points.now c.requires.points.are_points.one_dimension c.requires.points.within in
    subst (λ m. absolute_sum c.as_slice.result.now ≤ 2 * size_limit_of m) (sym (turn_length c))
    (rw (turn_difference c) (absolute_sum-difference c.p-item.result c.index-points-0.result (size_limit_of n)
    (point_dimension c ∙ sym first)
    (All-contains (λ p. absolute_sum p ≤ size_limit_of n) (others_of c.args.points.now) c.p-item.result
    (others_all (λ p. absolute_sum p ≤ size_limit_of n) c.args.points.now small) (
      c.loop-p.p-index,
      c.loop-p-test.true,
      sym c.p-item.is,
    ))
    (All-contains (λ p. absolute_sum p ≤ size_limit_of n) c.args.points.now c.index-points-0.result small (
      0,
      c.requires.points.are_points.some,
      sym c.index-points-0.is,
    ))))

pub loop-p-preserved : goal.loop-p-preserved
loop-p-preserved c =
    let n = dimension_of c.args.points.now in
    let others = others_of c.args.points.now in
    let i = c.loop-p.p-index in
    let p = c.p-item.result in
    let f = c.index-points-0.result in
    let ks = c.loop-p.kernel.items in
    let first = first_length n c.args.points.now f c.requires.points.are_points.one_dimension c.requires.points.are_points.some
    c.index-points-0.is in
    let long : length p ≡ n = All-contains (λ q. length q ≡ n) others p
    (others_all (λ q. length q ≡ n) c.args.points.now c.requires.points.are_points.one_dimension) (i, c.loop-p-test.true, sym c.p-item.is) in
    let own : length (difference p f) ≡ length f = length-difference p f (long ∙ sym first) ∙ long ∙ sym first in
    let so_far = c.loop-p.invariant.count in
    elim c.if-not-is_empty.branch [
      | then-not-is_empty w ↦
          let is = ap (λ k. k.items) w.kernel-is in
          let v_is = w.as_slice.ensures.value ∙ w.point_difference.ensures in
          let count = w.kernel_with-kernel.ensures.count in
          let same = ap length is in
          record {
            kernel = subst (IsPrimitiveKernel (length f) (from f (take (i + 1) others))) (sym is)
                (next_kernel (length f) f others i p w.as_slice.result.now ks ks w.kernel_with-kernel.result.items c.loop-p-test.true c.p-item.is
                v_is (ap length v_is ∙ own) refl w.kernel_with-kernel.ensures.kernel c.loop-p.invariant.kernel);
            count = omega (arith, count, same);
          }
      | else-not-is_empty w ↦
          let is = ap (λ k. k.items) w.kernel-is in
          let same = ap length is in
          let none : length ks ≡ 0 = search rules in
          record {
            kernel = subst (IsPrimitiveKernel (length f) (from f (take (i + 1) others))) (sym is)
                (next_kernel (length f) f others i p (difference p f) ks ks ks c.loop-p-test.true c.p-item.is refl own refl
                (without_pivot (length (difference p f)) ks (difference p f) ks refl (λ k d l. absurd (omega (arith, none))))
                c.loop-p.invariant.kernel);
            count = omega (arith, same);
          }
    ]

-- the kernel after the loop
whole : (c : After-loop-p) → IsPrimitiveKernel (dimension_of c.args.points.now) (differences c.args.points.now) c.loop-p.kernel.items
whole c =
    let first = first_length (dimension_of c.args.points.now) c.args.points.now c.index-points-0.result
    c.requires.points.are_points.one_dimension c.requires.points.are_points.some c.index-points-0.is in
    let all : take c.loop-p.p-index (others_of c.args.points.now) ≡ others_of c.args.points.now =
    take_all c.loop-p.p-index (others_of c.args.points.now) c.loop-p-test.false in
    subst (λ m. IsPrimitiveKernel m (differences c.args.points.now) c.loop-p.kernel.items) first
    (subst (λ vs. IsPrimitiveKernel (length c.index-points-0.result) vs c.loop-p.kernel.items) (ap (from c.index-points-0.result) all
    ∙ differences_are c.args.points.now c.index-points-0.result c.requires.points.are_points.some c.index-points-0.is)
    c.loop-p.invariant.kernel)

pub returns-clause-kernel : goal.returns-clause-kernel
returns-clause-kernel c = whole c

pub returns-clause-entries : goal.returns-clause-entries
returns-clause-entries c =
    let n = dimension_of c.args.points.now in
    let first = first_length n c.args.points.now c.index-points-0.result c.requires.points.are_points.one_dimension
    c.requires.points.are_points.some c.index-points-0.is in
    let small = points_small n c.args.points.now c.requires.points.are_points.one_dimension c.requires.points.within in
    let all : take c.loop-p.p-index (others_of c.args.points.now) ≡ others_of c.args.points.now =
    take_all c.loop-p.p-index (others_of c.args.points.now) c.loop-p-test.false in
    members_entries n c.loop-p.kernel.items (omega arith) (omega arith)
    (subst (λ m. IsSmallKernel m c.loop-p.kernel.items) first
    (small_kernel n c.index-points-0.result (take c.loop-p.p-index (others_of c.args.points.now)) c.loop-p.kernel.items
    c.loop-p.kernel.items c.index-points-0.result first
    (All-contains (λ p. absolute_sum p ≤ size_limit_of n) c.args.points.now c.index-points-0.result small (
      0,
      c.requires.points.are_points.some,
      sym c.index-points-0.is,
    ))
    (All-take (λ p. length p ≡ n) c.loop-p.p-index (others_of c.args.points.now)
    (others_all (λ p. length p ≡ n) c.args.points.now c.requires.points.are_points.one_dimension))
    (All-take (λ p. absolute_sum p ≤ size_limit_of n) c.loop-p.p-index (others_of c.args.points.now)
    (others_all (λ p. absolute_sum p ≤ size_limit_of n) c.args.points.now small))
    (subst (λ m. IsPrimitiveKernel m (from c.index-points-0.result (take c.loop-p.p-index (others_of c.args.points.now)))
    c.loop-p.kernel.items) first c.loop-p.invariant.kernel) (λ i. c.loop-p.kernel.items) first))

pub returns-clause-count : goal.returns-clause-count
returns-clause-count c =
    let first = first_length (dimension_of c.args.points.now) c.args.points.now c.index-points-0.result
    c.requires.points.are_points.one_dimension c.requires.points.are_points.some c.index-points-0.is in
    let others = others_length c.args.points.now c.requires.points.are_points.some in
    let count = c.loop-p.invariant.count in
    let end = c.loop-p.auto in
    omega arith
