use Rattle.std.proofs.Common.{◌≤◌, ◌^◌, ◌-ℤ◌, SFits, w64, ap₂, rules, arith}
use Rattle.std.specs.Prelude.{nat_abs}
use Rattle.std.proofs.lemmas.Int.{to_z-of_z}
use Rattle.lattice_theory.specs.Vector.{entry}
use Rattle.hull.proofs.Vectors.{entry_small, entries_fit, difference_more, difference_all}
use Rattle.hull.proofs.differences.point_difference.Goals as goal
use Rattle.hull.proofs.differences.point_difference.Goals.{After-entry-in-loop-i}

-- the difference of this turn fits
fits : (c : After-entry-in-loop-i) → SFits w64 (c.entry.result -ℤ c.entry-in-loop-i.result)
fits c =
    let first : nat_abs (entry c.args.p.now c.loop-i.i) ≤ 2 ^ 30 = entry_small c.args.p.now c.loop-i.i (2 ^ 30) c.requires.small_p in
    let second : nat_abs (entry c.args.q.now c.loop-i.i) ≤ 2 ^ 30 = entry_small c.args.q.now c.loop-i.i (2 ^ 30) c.requires.small_q in
    entries_fit c.entry.result c.entry-in-loop-i.result (rw c.entry.ensures first) (rw c.entry-in-loop-i.ensures second)

pub overflow_sub-entry : goal.overflow_sub-entry
overflow_sub-entry c =
    let p : SFits w64 c.entry.result = search rules in
    let q : SFits w64 c.entry-in-loop-i.result = search rules in
    simp to_z-of_z (fits c)

pub loop-i-preserved : goal.loop-i-preserved
loop-i-preserved c =
    let p : SFits w64 c.entry.result = search rules in
    let q : SFits w64 c.entry-in-loop-i.result = search rules in
    let whole : SFits w64 (c.entry.result -ℤ c.entry-in-loop-i.result) = fits ((goal.at.loop-i-preserved c).After-entry-in-loop-i) in
    let items = simp to_z-of_z at c.push.ensures.items in
    record {
      length = omega arith;
      items = difference_more c.args.p.now c.args.q.now c.loop-i.entries.items c.push.new.self.items c.loop-i.i _ c.requires.same
          (omega arith) c.loop-i.invariant.items (ap₂ (λ a b. a -ℤ b) c.entry.ensures c.entry-in-loop-i.ensures) items;
    }

pub returns : goal.returns
returns c = difference_all c.args.p.now c.args.q.now c.loop-i.entries.items c.loop-i.i c.requires.same
    (omega arith) c.loop-i.invariant.items
