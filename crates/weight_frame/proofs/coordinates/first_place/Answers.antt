use Rattle.std.proofs.Common.{SFits, w64, rules, arith}
use Rattle.lattice_theory.specs.Vector.{entry}
use Rattle.weight_frame.proofs.StepAnswers.{zero_from}
use Rattle.weight_frame.proofs.Finding.{zeros_more, zeros_all, nonzero_from}
use Rattle.weight_frame.proofs.coordinates.first_place.Goals as goal

pub loop-place-init : goal.loop-place-init
loop-place-init c = c.requires.zeros

pub returns-then-x-place-ne0 : goal.returns-then-x-place-ne0
returns-then-x-place-ne0 c = record {
  within = c.loop-place-test.true;
  before = c.loop-place.invariant;
  nonzero = nonzero_from (entry c.args.x.now c.loop-place.place) c.if-x-place-ne0.true;
}

pub loop-place-preserved : goal.loop-place-preserved
loop-place-preserved c =
    let fits : SFits w64 (entry c.args.x.now c.loop-place.place) = search rules in
    zeros_more c.args.x.now c.loop-place.place (zero_from (entry c.args.x.now c.loop-place.place) fits c.if-x-place-ne0.false)
    c.loop-place.invariant

pub returns : goal.returns
returns c = zeros_all c.args.x.now c.loop-place.place (omega arith) c.loop-place.invariant
