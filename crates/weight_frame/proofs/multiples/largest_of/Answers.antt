use Rattle.std.proofs.Common.{◌≡◌, max, nat_abs, SFits, rules, arith, ap, ◌∙◌}
use Rattle.std.specs.Int.{w128}
use Rattle.std.proofs.lemmas.Int.{to_z-of_z}
use Rattle.lattice_core.proofs.SizeSteps.{larger}
use Rattle.lattice_theory.specs.Vector.{entry}
use Rattle.weight_frame.proofs.Largest.{largest_more, largest_all}
use Rattle.weight_frame.proofs.multiples.largest_of.Goals as goal

pub loop-entry-preserved : goal.loop-entry-preserved
loop-entry-preserved c =
    let x = c.args.x.now in
    let i = c.loop-entry.entry-index in
    let fits : SFits w128 (entry x i) = search rules in
    let abs : c.unsigned_abs.result ≡ nat_abs (entry x i) = simp to_z-of_z at c.unsigned_abs.ensures.value in
    let next : c.max-most.result ≡ max c.loop-entry.most c.unsigned_abs.result =
    c.max-most.ensures ∙ larger c.loop-entry.most c.unsigned_abs.result in
    largest_more x i c.loop-entry.most c.max-most.result (omega arith) (next ∙ ap (λ n. max c.loop-entry.most n) abs) c.loop-entry.invariant

pub returns : goal.returns
returns c = largest_all c.args.x.now c.loop-entry.entry-index _ (omega arith) c.loop-entry.invariant
