use Rattle.std.proofs.Common.{rules, SFits, ◌≡◌, ◌+ℤ◌, to_z}
use Rattle.std.specs.Int.{w128}
use Rattle.std.proofs.lemmas.Int.{to_z-of_z}
use Rattle.lattice_theory.specs.Vector.{entry}
use Rattle.base_counts.proofs.Degrees.{sum_so_far, entry_small, small_so_far}
use Rattle.base_counts.proofs.base.degree_of.Goals as goal

pub loop-height-preserved : goal.loop-height-preserved
loop-height-preserved c =
    let fits : SFits w128 c.sum-degree.result = search rules in
    let height : SFits w128 (entry c.args.base.now c.loop-height.height-index) = search rules in
    let is : c.sum-degree.result ≡ to_z w128 c.loop-height.degree-bits +ℤ entry c.args.base.now c.loop-height.height-index =
    simp to_z-of_z at c.sum-degree.ensures in
    record {
      sum = simp to_z-of_z (sum_so_far c.args.base.now c.loop-height.height-index (to_z w128 c.loop-height.degree-bits) c.sum-degree.result
          c.loop-height-test.true is c.loop-height.invariant.sum);
      small = simp to_z-of_z (small_so_far (to_z w128 c.loop-height.degree-bits) (entry c.args.base.now c.loop-height.height-index) c.sum-degree.result
          c.loop-height.height-index (entry_small c.args.base.now c.loop-height.height-index c.requires.small c.loop-height-test.true) is
          c.loop-height.invariant.small);
    }
