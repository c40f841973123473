use Rattle.std.proofs.Common.{ℕ, ◌+◌, length, refl, sym, ap₂, arith}
use Rattle.face_theory.proofs.Sets.{true_false}
use Rattle.dual_pair.specs.declared.side.Side.TheVariants as sides
use Rattle.cone_counts.proofs.KeptCounts.{large_same, many_from, large_from, has_counts, kept_counts}
use Rattle.cone_counts.proofs.counts.FaceCounts.of.Goals as goal

pub overflow_add-sum_dim : goal.overflow_add-sum_dim
overflow_add-sum_dim c =
    let d = c.dim.ensures in let p = c.parts.ensures in let e = c.requires.cone.is_cone.dim_is in let w = c.requires.within.within.1 in
    omega (arith, d, p, e, w)

pub is_large-requires-clause-room : goal.is_large-requires-clause-room
is_large-requires-clause-room c =
    let w = c.in_ok-m.ensures.whole in let e = c.len-faces.ensures.value in omega (arith, w, e)

pub is_large-requires-clause-few : goal.is_large-requires-clause-few
is_large-requires-clause-few c =
    let d = c.dim.ensures in let p = c.parts.ensures in let e = c.requires.cone.is_cone.dim_is in let w = c.requires.within.within.1 in
    omega (arith, d, p, e, w)

pub returns-then-is_large : goal.returns-then-is_large
returns-then-is_large c = rw c.refused.ensures (
  many_from c.args.cone.now c.args.table.now sides.M c.in_ok-m.m.items c.in_ok-m.ensures
      (large_same _ _ _ (length c.args.table.now.faces) (c.args.cone.now.dim + c.args.cone.now.parts) c.in_ok-m.m.items c.len-faces.ensures.value
      (ap₂ (λ (a b : ℕ). a + b) c.dim.ensures c.parts.ensures) c.deref.ensures.value (c.is_large.ensures.0 c.if-is_large.true)),
  refl,
)

pub is_large-requires-2-clause-room : goal.is_large-requires-2-clause-room
is_large-requires-2-clause-room c =
    let w = c.in_ok-n.ensures.whole in let e = c.len-faces.ensures.value in omega (arith, w, e)

pub is_large-requires-2-clause-few : goal.is_large-requires-2-clause-few
is_large-requires-2-clause-few c =
    let d = c.dim.ensures in let p = c.parts.ensures in let e = c.requires.cone.is_cone.dim_is in let w = c.requires.within.within.1 in
    omega (arith, d, p, e, w)

pub returns-then-is_large-2 : goal.returns-then-is_large-2
returns-then-is_large-2 c = rw c.refused-then-is_large-2.ensures (
  λ h. true_false (c.is_large.ensures.1 (large_same _ _ _ _ _ _ (sym c.len-faces.ensures.value)
      (sym (ap₂ (λ (a b : ℕ). a + b) c.dim.ensures c.parts.ensures)) (sym c.deref.ensures.value)
      (large_from c.args.cone.now c.args.table.now sides.M c.in_ok-m.m.items c.in_ok-m.ensures h))) c.if-is_large.false,
  many_from c.args.cone.now c.args.table.now sides.N c.in_ok-n.n.items c.in_ok-n.ensures
      (large_same _ _ _ (length c.args.table.now.faces) (c.args.cone.now.dim + c.args.cone.now.parts) c.in_ok-n.n.items c.len-faces.ensures.value
      (ap₂ (λ (a b : ℕ). a + b) c.dim.ensures c.parts.ensures) c.deref-2.ensures.value (c.is_large-2.ensures.0 c.if-is_large-2.true)),
  refl,
)

pub overflow_cast-result : goal.overflow_cast-result
overflow_cast-result c =
    let d = c.dim.ensures in let p = c.parts.ensures in let e = c.requires.cone.is_cone.dim_is in let w = c.requires.within.within.1 in
    omega (arith, d, p, e, w)

pub invariant_of-result : goal.invariant_of-result
invariant_of-result c =
    kept_counts c.args.cone.now c.args.table.now c.requires.table c.in_ok-m.m.items c.in_ok-n.n.items c.in_ok-m.ensures c.in_ok-n.ensures _ _
    (ap₂ (λ (a b : ℕ). a + b) c.dim.ensures c.parts.ensures) c.len-faces.ensures.value
    (λ h. true_false (c.is_large.ensures.1 (large_same _ _ _ _ _ _ (sym c.len-faces.ensures.value)
    (sym (ap₂ (λ (a b : ℕ). a + b) c.dim.ensures c.parts.ensures)) (sym c.deref.ensures.value) h)) c.if-is_large.false)
    (λ h. true_false (c.is_large-2.ensures.1 (large_same _ _ _ _ _ _ (sym c.len-faces.ensures.value)
    (sym (ap₂ (λ (a b : ℕ). a + b) c.dim.ensures c.parts.ensures)) (sym c.deref-2.ensures.value) h)) c.if-is_large-2.false)
    (let d = c.dim.ensures in let e = c.requires.cone.is_cone.dim_is in let l = c.requires.within.within.0 in omega (arith, d, e, l))
    (let d = c.dim.ensures in let p = c.parts.ensures in let e = c.requires.cone.is_cone.dim_is in let w = c.requires.within.within.1 in
    omega (arith, d, p, e, w))

pub returns : goal.returns
returns c =
    has_counts c.args.cone.now c.args.table.now c.requires.table c.in_ok-m.m.items c.in_ok-n.n.items c.in_ok-m.ensures c.in_ok-n.ensures _ _
    (ap₂ (λ (a b : ℕ). a + b) c.dim.ensures c.parts.ensures) c.len-faces.ensures.value
    (λ h. true_false (c.is_large.ensures.1 (large_same _ _ _ _ _ _ (sym c.len-faces.ensures.value)
    (sym (ap₂ (λ (a b : ℕ). a + b) c.dim.ensures c.parts.ensures)) (sym c.deref.ensures.value) h)) c.if-is_large.false)
    (λ h. true_false (c.is_large-2.ensures.1 (large_same _ _ _ _ _ _ (sym c.len-faces.ensures.value)
    (sym (ap₂ (λ (a b : ℕ). a + b) c.dim.ensures c.parts.ensures)) (sym c.deref-2.ensures.value) h)) c.if-is_large-2.false)
