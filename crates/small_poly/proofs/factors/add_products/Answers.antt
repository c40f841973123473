use Rattle.std.proofs.Common.{rules, SFits, refl, ◌<◌, ◌+ℤ◌, ◌*ℤ◌, ◌/◌, ◌%◌, pos, ℕ, arith, ap, ◌∙◌, ℤ}
use Rattle.std.specs.Int.{w128}
use Rattle.std.proofs.lemmas.Int.{to_z-of_z}
use Rattle.lattice_theory.specs.Vector.{entry}
use Rattle.small_poly.specs.Tables.{laurent_of, unit_of, times_both}
use Rattle.small_poly.proofs.AddedTerms.{more_added, total_fits}
use Rattle.small_poly.proofs.factors.add_products.Goals as goal

pub loop-k-preserved : goal.loop-k-preserved
loop-k-preserved c =
    let k = c.loop-k.k in
    let T = λ (j : ℕ). unit_of c.args.negative *ℤ times_both (entry c.args.left.now) (entry c.args.right.now) (laurent_of c.args.inner.now) (pos (j / 17)) (j % 17) in
    let within : c.loop-k.k < 289 = let h = c.loop-k-test.true in let e = c.loop-k.auto.k-end in let l = c.loop-k.invariant.long in let m = c.requires.long in omega arith in
    let entry_fits : SFits w128 (entry c.loop-k.sums c.loop-k.k) = search rules in
    let inner_fits : SFits w128 c.with_both.result = search rules in
    let term_fits : SFits w128 c.signed.result = search rules in
    let is = simp to_z-of_z at c.signed.ensures in
    let term_is = is ∙ ap (λ (z : ℤ). unit_of c.args.negative *ℤ z) c.with_both.ensures.value in
    let total : SFits w128 (entry c.loop-k.sums c.loop-k.k +ℤ c.signed.result) =
    total_fits c.loop-k.sums c.args.sums.now T k c.signed.result within c.loop-k.invariant.left term_is c.requires.small in
    let m = more_added c.loop-k.sums c.args.sums.now T k c.signed.result (entry c.loop-k.sums c.loop-k.k +ℤ c.signed.result)
    c.loop-k.invariant.long within c.loop-k.invariant.done c.loop-k.invariant.left term_is refl in
    simp to_z-of_z (record { long = m.0; done = m.1; left = m.2 })
