use Rattle.std.proofs.Common.{◌≡◌, ◌≤◌, length, arith}
use Rattle.lattice_core.specs.Weights.{weighted_all}
use Rattle.weight_frame.proofs.Frames.{not_exceeding, not_other_dimension}
use Rattle.weight_frame.proofs.frame.frame_of.Goals as goal

pub invariant_of-result : goal.invariant_of-result
invariant_of-result c =
    let e : weighted_all c.in_ok-systems.systems.items ≡ weighted_all c.args.systems.now = c.in_ok-systems.ensures.copies in
    record {
      formed = rw e c.requires.formed;
      limited = rw e c.requires.limited;
      is_frame = rw e c.in-Ok.ensures;
      least = omega arith;
      most = omega arith;
    }

pub returns : goal.returns
returns c =
    let systems = weighted_all c.args.systems.now in
    let vectors = c.in-Ok.vectors.items in
    let least : 1 ≤ length vectors = omega arith in
    let most : length vectors ≤ 6 = omega arith in
    record {
      systems = c.in_ok-systems.ensures.copies;
      frame = c.in-Ok.ensures;
      least = least;
      most = most;
      entries = λ told x. not_exceeding systems vectors told c.in-Ok.ensures x;
      dimension = λ n x. not_other_dimension systems vectors n c.in-Ok.ensures least most x;
      fault = tt;
    }
