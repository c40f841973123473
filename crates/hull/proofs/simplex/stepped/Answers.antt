use Rattle.std.proofs.Common.{◌+ℤ◌, ◌^◌, ap, ap₂, ◌∙◌, rules, SFits, w64}
use Rattle.std.proofs.lemmas.Int.{to_z-of_z, fits_signed_from_abs}
use Rattle.hull.specs.steps.Facing.{step_at}
use Rattle.hull.proofs.Vectors.{entry_small}
use Rattle.hull.proofs.Made.{made_more, sum_within}
use Rattle.hull.proofs.simplex.stepped.Goals as goal

pub loop-i-preserved : goal.loop-i-preserved
loop-i-preserved c =
    let first : SFits w64 c.entry.result = search rules in
    let second : SFits w64 c.entry-in-loop-i.result = search rules in
    let step : SFits w64 c.step_at.result = search rules in
    let taken = simp to_z-of_z at c.step_at.ensures.value in
    let small = entry_small c.args.first.now c.loop-i.i (2 ^ 30) c.requires.small in
    let sum : SFits w64 (c.entry.result +ℤ c.step_at.result) = fits_signed_from_abs w64 (c.entry.result +ℤ c.step_at.result)
    (sum_within c.entry.result c.step_at.result (rw c.entry.ensures small) c.step_at.ensures.bound) in
    made_more _ c.loop-i.i c.loop-i.entries.items c.push.new.self.items (c.entry.result +ℤ c.step_at.result)
    (ap₂ (λ a b. a +ℤ b) c.entry.ensures (taken ∙ ap (step_at c.args.axis c.loop-i.i) c.entry-in-loop-i.ensures))
    (simp to_z-of_z at c.push.ensures.items) c.loop-i.invariant
