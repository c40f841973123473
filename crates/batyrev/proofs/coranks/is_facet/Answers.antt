use Rattle.std.proofs.Common.{◌≡◌, ⊎_elim, ℕ, ◌-◌, ◌<◌, ◌≤◌, subst, arith}
use Rattle.std.proofs.lemmas.Bool.{cases_lt}
use Rattle.bit_pool.specs.Bits.{IsSubset}
use Rattle.face_theory.proofs.Sets.{true_false}
use Rattle.face_poset.specs.Faces.{face_at}
use Rattle.batyrev.proofs.FacesBetween.{told_last, told_between, told_none}
use Rattle.batyrev.proofs.coranks.is_facet.Goals as goal

pub returns-then-face-whole : goal.returns-then-face-whole
returns-then-face-whole c = λ p t.
    let v = c.len-whole.ensures.value in let r = c.requires in
    told_last p c.args.table.now t (c.len-whole.result - 1) (omega arith) c.args.face c.if-face-whole.true

pub returns-then-below : goal.returns-then-below
returns-then-below c = λ p t.
    let v = c.len-whole.ensures.value in let r = c.requires in
    let a = c.loop-other.auto.other in let b = c.loop-other.auto.other-end in let m = c.loop-other-test.true in
    told_between p c.args.table.now t (c.len-whole.result - 1) (omega arith) c.args.face c.loop-other.other (omega arith) (omega arith)
    (c.below.ensures.0 c.if-below.true)

pub loop-other-preserved : goal.loop-other-preserved
loop-other-preserved c = λ k l m s. ⊎_elim
    (λ (h : k < c.loop-other.other). c.loop-other.invariant k l h s)
    (λ (h : c.loop-other.other ≤ k).
    let same : k ≡ c.loop-other.other = omega (arith, h, m) in
    true_false (c.below.ensures.1 (subst (λ (j : ℕ). IsSubset (face_at c.args.table.now.faces c.args.face).members
    (face_at c.args.table.now.faces j).members) same s)) c.if-below.false)
    (cases_lt k c.loop-other.other)

pub returns : goal.returns
returns c = λ p t.
    let v = c.len-whole.ensures.value in let r = c.requires in
    let n = c.if-face-whole.false in let b = c.loop-other.auto.other-end in let m = c.loop-other-test.false in
    told_none p c.args.table.now t (c.len-whole.result - 1) (omega arith) c.args.face (omega arith)
    (λ j l k s. c.loop-other.invariant j l (omega (arith, k, m)) s)
