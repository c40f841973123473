use Rattle.std.proofs.Common.{◌≤◌, pos, negsuc, ◌-ℤ◌, SFits, w64, rules, arith, ap, ◌∙◌, refl}
use Rattle.std.proofs.lemmas.Int.{to_z-of_z}
use Rattle.std.proofs.lemmas.List.{take_all}
use Rattle.lattice_theory.specs.Vector.{entry, scaled}
use Rattle.lattice_core.specs.declared.limits.TheConstants.{MOST_FRAME_ENTRY}
use Rattle.weight_frame.specs.Frame.{largest}
use Rattle.weight_frame.proofs.Largest.{largest_opposite, opposite_more, opposite_fits}
use Rattle.weight_frame.proofs.vector.opposite.Goals as goal

pub overflow_sub-entry : goal.overflow_sub-entry
overflow_sub-entry c =
    let x = c.entries-entry-items.result.now in
    let i = c.loop-entry.entry-index in
    let fits : SFits w64 (entry x i) = search rules in
    let small : largest x ≤ MOST_FRAME_ENTRY = rw c.entries-entry-items.ensures.value c.requires in
    simp to_z-of_z (opposite_fits x i small)

pub loop-entry-preserved : goal.loop-entry-preserved
loop-entry-preserved c =
    let x = c.entries-entry-items.result.now in
    let i = c.loop-entry.entry-index in
    let small : largest x ≤ MOST_FRAME_ENTRY = rw c.entries-entry-items.ensures.value c.requires in
    let fits : SFits w64 (entry x i) = search rules in
    let turned : SFits w64 (pos 0 -ℤ entry x i) = opposite_fits x i small in
    let items = simp to_z-of_z at c.push.ensures.items in
    record {
      length = omega arith;
      items = opposite_more x c.loop-entry.entries.items c.push.new.self.items i (pos 0 -ℤ entry x i)
          (omega arith) refl items c.loop-entry.invariant.items;
    }

pub returns : goal.returns
returns c =
    let x = c.entries-entry-items.result.now in
    let value = c.new.ensures ∙ c.loop-entry.invariant.items ∙ ap (λ y. scaled (negsuc 0) y)
    (take_all c.loop-entry.entry-index x (omega arith) ∙ c.entries-entry-items.ensures.value) in
    record { value = value; within = rw (value, largest_opposite c.args.x.now) c.requires }
