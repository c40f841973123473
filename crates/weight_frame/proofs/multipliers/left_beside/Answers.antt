use Rattle.std.proofs.Common.{pos, SFits, w64, arith, rules}
use Rattle.std.specs.Int.{w128}
use Rattle.std.proofs.lemmas.Int.{to_z-of_z}
use Rattle.weight_frame.proofs.Bounds.{left_exact, left_small}
use Rattle.weight_frame.proofs.multipliers.left_beside.Goals as goal

pub returns : goal.returns
returns c =
    let v : SFits w64 c.args.value = c.ranges.value in
    let x : SFits w128 c.from.result = search rules in
    let y : SFits w128 c.from-2.result = search rules in
    let z : SFits w128 c.from-3.result = search rules in
    let left = left_exact (pos c.args.divisor) (pos c.args.first) c.args.value c.from.result c.from-2.result c.from-3.result
    c.from.ensures c.from-2.ensures (simp to_z-of_z at c.from-3.ensures) (omega arith) (omega arith) (omega arith) in
    record {
      left = simp to_z-of_z left;
      bound = simp to_z-of_z (rw left (left_small (pos c.args.divisor) (pos c.args.first) c.args.value (omega arith) (omega arith)
          (omega arith)));
    }
