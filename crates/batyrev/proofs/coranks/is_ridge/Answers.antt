use Rattle.std.proofs.Common.{◌≡◌, ⊎_elim, ℕ, ◌-◌, ◌<◌, ◌≤◌, sym, ◌∙◌, subst, arith}
use Rattle.std.proofs.lemmas.Bool.{cases_lt}
use Rattle.bit_pool.specs.Bits.{IsSubset}
use Rattle.face_theory.specs.Faces.{IsCorank}
use Rattle.face_theory.proofs.Sets.{true_false}
use Rattle.face_poset.specs.Faces.{face_at}
use Rattle.dual_pair.specs.Faces.{on_facets}
use Rattle.dual_pair.specs.Interiors.{set_in}
use Rattle.batyrev.proofs.FacesBetween.{told_other, told_all}
use Rattle.batyrev.proofs.coranks.is_ridge.Goals.{then-below+else-not-is_facet, else-below}
use Rattle.batyrev.proofs.coranks.is_ridge.Goals as goal

pub returns-then-not-is_facet : goal.returns-then-not-is_facet
returns-then-not-is_facet c = λ p t.
    let v = c.len-whole.ensures.value in let r = c.requires in
    let a = c.loop-other.auto.other in let b = c.loop-other.auto.other-end in let m = c.loop-other-test.true in
    told_other p c.args.table.now t (c.len-whole.result - 1) (omega arith) c.args.face c.loop-other.other (omega arith) (omega arith)
    (c.below.ensures.0 c.if-below.true) (λ q. true_false ((c.is_facet.ensures p t).1 q) c.if-not-is_facet.true)

pub loop-other-preserved : goal.loop-other-preserved
loop-other-preserved c =
    let v = c.len-whole.ensures.value in let r = c.requires in
    let a = c.loop-other.auto.other in let b = c.loop-other.auto.other-end in let m = c.loop-other-test.true in
    elim c.if-below.branch [
      | then-below+else-not-is_facet w ↦ record {
        found = λ h. (c.loop-other.other, omega arith, omega arith, c.below.ensures.0 w.if-below.true);
        none = λ h. absurd (true_false w.some-is h);
        facets = λ p t j l k s. ⊎_elim
            (λ (h : j < c.loop-other.other). c.loop-other.invariant.facets p t j l h s)
            (λ (h : c.loop-other.other ≤ j).
            let same : c.loop-other.other ≡ j = omega (arith, h, k) in
            subst (λ (i : ℕ). IsCorank (on_facets p) (set_in p (face_at c.args.table.now.faces i)) 1) same
            ((w.is_facet.ensures p t).0 w.if-not-is_facet.false))
            (cases_lt j c.loop-other.other);
      }
      | else-below w ↦ record {
        found = λ h. c.loop-other.invariant.found (sym w.some-is ∙ h);
        none = λ h j l k s. ⊎_elim
            (λ (g : j < c.loop-other.other). c.loop-other.invariant.none (sym w.some-is ∙ h) j l g s)
            (λ (g : c.loop-other.other ≤ j).
            let same : j ≡ c.loop-other.other = omega (arith, g, k) in
            true_false (c.below.ensures.1 (subst (λ (i : ℕ). IsSubset (face_at c.args.table.now.faces c.args.face).members
            (face_at c.args.table.now.faces i).members) same s)) w.if-below.false)
            (cases_lt j c.loop-other.other);
        facets = λ p t j l k s. ⊎_elim
            (λ (g : j < c.loop-other.other). c.loop-other.invariant.facets p t j l g s)
            (λ (g : c.loop-other.other ≤ j).
            let same : j ≡ c.loop-other.other = omega (arith, g, k) in
            absurd (true_false (c.below.ensures.1 (subst (λ (i : ℕ). IsSubset (face_at c.args.table.now.faces c.args.face).members
            (face_at c.args.table.now.faces i).members) same s)) w.if-below.false))
            (cases_lt j c.loop-other.other);
      }
    ]

pub returns : goal.returns
returns c = λ p t.
    let v = c.len-whole.ensures.value in let r = c.requires in
    let b = c.loop-other.auto.other-end in let m = c.loop-other-test.false in
    told_all p c.args.table.now t (c.len-whole.result - 1) (omega arith) c.args.face c.loop-other.some c.requires
    c.loop-other.invariant.found (λ h j l k s. c.loop-other.invariant.none h j l (omega (arith, k, m)) s)
    (λ j l k s. c.loop-other.invariant.facets p t j l (omega (arith, k, m)) s)
