use Rattle.std.proofs.Common.{◌+ℤ◌, ◌*ℤ◌, rules, arith, refl, SFits, w64, to_z}
use Rattle.std.proofs.lemmas.Int.{ints, to_z-of_z}
use Rattle.lattice_theory.specs.Vector.{entry}
use Rattle.lattice_core.proofs.DotSteps.{sum_more, stays_within, narrow_fits, sum_all}
use Rattle.lattice_core.proofs.pairing.narrow_pair_of.Goals as goal

pub loop-i-init : goal.loop-i-init
loop-i-init c = record { sum = omega (arith, ints); small = λ bound h. omega arith }

pub overflow_mul-sum : goal.overflow_mul-sum
overflow_mul-sum c =
    let first : SFits w64 (entry c.args.a.now c.loop-i.i) = search rules in
    let second : SFits w64 (entry c.args.b.now c.loop-i.i) = search rules in
    let fits = narrow_fits c.args.a.now c.args.b.now c.loop-i.i (to_z w64 c.loop-i.sum-bits) c.requires.small (omega arith) (omega arith)
    c.loop-i.invariant.small in
    simp to_z-of_z fits.0

pub overflow_add-sum : goal.overflow_add-sum
overflow_add-sum c =
    let first : SFits w64 (entry c.args.a.now c.loop-i.i) = search rules in
    let second : SFits w64 (entry c.args.b.now c.loop-i.i) = search rules in
    let fits = narrow_fits c.args.a.now c.args.b.now c.loop-i.i (to_z w64 c.loop-i.sum-bits) c.requires.small (omega arith) (omega arith)
    c.loop-i.invariant.small in
    let product : SFits w64 (entry c.args.a.now c.loop-i.i *ℤ entry c.args.b.now c.loop-i.i) = fits.0 in
    simp to_z-of_z fits.1

pub loop-i-preserved : goal.loop-i-preserved
loop-i-preserved c =
    let first : SFits w64 (entry c.args.a.now c.loop-i.i) = search rules in
    let second : SFits w64 (entry c.args.b.now c.loop-i.i) = search rules in
    let fits = narrow_fits c.args.a.now c.args.b.now c.loop-i.i (to_z w64 c.loop-i.sum-bits) c.requires.small (omega arith) (omega arith)
    c.loop-i.invariant.small in
    let product : SFits w64 (entry c.args.a.now c.loop-i.i *ℤ entry c.args.b.now c.loop-i.i) = fits.0 in
    let sum : SFits w64 (to_z w64 c.loop-i.sum-bits +ℤ entry c.args.a.now c.loop-i.i *ℤ entry c.args.b.now c.loop-i.i) = fits.1 in
    record {
      sum = simp to_z-of_z (sum_more c.args.a.now c.args.b.now c.loop-i.i _ _ _ (omega arith) (omega arith) refl refl c.loop-i.invariant.sum);
      small = simp to_z-of_z (stays_within c.args.a.now c.args.b.now c.loop-i.i _ (omega arith) (omega arith) c.loop-i.invariant.small);
    }

pub returns : goal.returns
returns c = sum_all c.args.a.now c.args.b.now c.loop-i.i _ (omega arith) c.loop-i.invariant.sum
