use Rattle.std.proofs.Common.{SFits, rules, arith}
use Rattle.std.specs.Int.{w128}
use Rattle.std.proofs.lemmas.Int.{to_z-of_z}
use Rattle.lattice_theory.specs.Vector.{entry}
use Rattle.weight_frame.proofs.Largest.{entry_at_most}
use Rattle.weight_frame.proofs.multiples.narrowed_entries.Goals as goal

pub narrowed_entry-requires : goal.narrowed_entry-requires
narrowed_entry-requires c =
    let x : SFits w128 (entry c.args.x.now c.loop-entry.entry-index) = search rules in
    let h = entry_at_most c.args.x.now c.loop-entry.entry-index in
    simp to_z-of_z (omega arith)
