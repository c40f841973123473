use Rattle.std.proofs.Common.{◌≡◌, ◌≤◌, ◌<◌, ◌*ℤ◌, length, nat_abs, to_z, SFits, w64, rules, arith, refl}
use Rattle.std.specs.Int.{w128}
use Rattle.std.proofs.lemmas.Int.{to_z-of_z}
use Rattle.lattice_theory.specs.Vector.{entry}
use Rattle.lattice_core.specs.declared.limits.TheConstants.{MOST_FRAME_ENTRY}
use Rattle.weight_frame.proofs.Largest.{entry_at_most}
use Rattle.weight_frame.proofs.Finding.{combined_more, combined_all, combined_bound, combined_fits, vector_small, vector_long}
use Rattle.weight_frame.proofs.coordinates.combined_entry.Goals as goal

pub product-sum-requires-clause-multiplier : goal.product-sum-requires-clause-multiplier
product-sum-requires-clause-multiplier c =
    let a : SFits w64 (entry c.args.coefficients.now c.loop-j.j) = search rules in
    let r : SFits w128 c.from.result = search rules in
    let value = simp to_z-of_z at c.from.ensures in
    let h = entry_at_most c.args.coefficients.now c.loop-j.j in
    let k = c.requires.coefficients in
    simp to_z-of_z (rw value (omega arith))

pub product-sum-requires-clause-entry : goal.product-sum-requires-clause-entry
product-sum-requires-clause-entry c =
    let small = vector_small c.args.vectors.now c.loop-j.j c.args.i c.index-vectors-j.result c.requires.entries
    (omega arith) c.index-vectors-j.is in
    let long = vector_long c.args.vectors.now c.loop-j.j c.args.i c.index-vectors-j.result c.requires.dimension
    (omega arith) c.index-vectors-j.is in
    let within : c.args.i < length c.entries.result.now = rw c.entries.ensures.value long in
    let fits : SFits w64 (entry c.entries.result.now c.args.i) = search rules in
    let here : nat_abs (entry c.entries.result.now c.args.i) ≤ MOST_FRAME_ENTRY = rw c.entries.ensures.value small in
    simp to_z-of_z here

pub overflow_add-sum : goal.overflow_add-sum
overflow_add-sum c =
    let p : SFits w128 c.product-sum.result = search rules in
    simp to_z-of_z (combined_fits (to_z w128 c.loop-j.sum-bits) c.product-sum.result c.loop-j.j (omega arith) c.loop-j.invariant.bound
    c.product-sum.ensures.bound)

pub loop-j-preserved : goal.loop-j-preserved
loop-j-preserved c =
    let j = c.loop-j.j in
    let b = c.index-vectors-j.result in
    let long = vector_long c.args.vectors.now j c.args.i b c.requires.dimension (omega arith) c.index-vectors-j.is in
    let within : c.args.i < length c.entries.result.now = rw c.entries.ensures.value long in
    let a : SFits w64 (entry c.args.coefficients.now j) = search rules in
    let d : SFits w64 (entry c.entries.result.now c.args.i) = search rules in
    let r : SFits w128 c.from.result = search rules in
    let p : SFits w128 c.product-sum.result = search rules in
    let multiplier : c.from.result ≡ entry c.args.coefficients.now j = simp to_z-of_z at c.from.ensures in
    let value : c.product-sum.result ≡ c.from.result *ℤ entry c.entries.result.now c.args.i =
    simp to_z-of_z at c.product-sum.ensures.value in
    let product : c.product-sum.result ≡ entry c.args.coefficients.now j *ℤ entry b c.args.i =
    rw (multiplier, c.entries.ensures.value) at value in
    let whole = simp to_z-of_z at (overflow_add-sum c) in
    record {
      sum = simp to_z-of_z (combined_more c.args.coefficients.now c.args.vectors.now j c.args.i b
          (to_z w128 c.loop-j.sum-bits) c.product-sum.result _ (omega arith) (omega arith) c.index-vectors-j.is product refl
          c.loop-j.invariant.sum);
      bound = simp to_z-of_z (combined_bound (to_z w128 c.loop-j.sum-bits) c.product-sum.result _ j refl c.loop-j.invariant.bound
          c.product-sum.ensures.bound);
    }

pub returns : goal.returns
returns c = record {
  value = combined_all c.args.coefficients.now c.args.vectors.now c.loop-j.j c.args.i _
      (omega arith) c.loop-j.invariant.sum;
  bound = omega arith;
}
