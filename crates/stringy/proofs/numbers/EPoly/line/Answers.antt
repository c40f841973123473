use Rattle.std.proofs.Common.{rules, SFits, ◌≡◌, ap, ◌≤◌, ◌<◌, ◌+◌, ◌+ℤ◌, to_z, arith}
use Rattle.std.specs.Int.{w128}
use Rattle.std.proofs.lemmas.Int.{to_z-of_z}
use Rattle.stringy.specs.Numbers.{EState, number_at, line_sum}
use Rattle.stringy.proofs.RangeSums.{next_sum, next_of_line, line_fits}
use Rattle.stringy.proofs.numbers.EPoly.line.Goals as goal

pub loop-q-preserved : goal.loop-q-preserved
loop-q-preserved c =
    let fits : SFits w128 c.e-sum.result = search rules in
    let dim_is : c.self.inside.dim ≡ c.args.self.now.dim = ap (λ (s : EState). s.dim) c.self.view_is in
    let test = c.loop-q-test.true in
    let within : c.loop-q.q < c.args.self.now.dim + 1 = omega arith in
    let most = c.e-sum.ensures.few in
    let few : c.loop-q.q ≤ 6 = omega arith in
    let total : SFits w128 (to_z w128 c.loop-q.sum-bits +ℤ c.e-sum.result) =
    line_fits (to_z w128 c.loop-q.sum-bits) c.e-sum.result c.loop-q.q few c.e-sum.ensures.small c.loop-q.invariant.bound in
    record {
      sum = simp to_z-of_z (next_sum c.loop-q.q (c.args.self.now.dim + 1) (number_at c.args.self.now c.args.p) (to_z w128 c.loop-q.sum-bits) c.e-sum.result
          (line_sum c.args.self.now c.args.p) within c.e-sum.ensures.value c.loop-q.invariant.sum);
      bound = simp to_z-of_z (next_of_line (to_z w128 c.loop-q.sum-bits) c.e-sum.result c.loop-q.q c.e-sum.ensures.small c.loop-q.invariant.bound);
    }
