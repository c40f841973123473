use Rattle.std.proofs.Common.{rules, SFits, ◌≡◌, ap, ◌≤◌, ◌<◌, ◌+◌, ◌+ℤ◌, to_z, arith}
use Rattle.std.specs.Int.{w128}
use Rattle.std.proofs.lemmas.Int.{to_z-of_z}
use Rattle.stringy.specs.Numbers.{EState, line_sum, euler_of}
use Rattle.stringy.proofs.RangeSums.{next_sum, next_of_lines, lines_fit}
use Rattle.stringy.proofs.numbers.EPoly.euler.Goals as goal

pub loop-p-preserved : goal.loop-p-preserved
loop-p-preserved c =
    let fits : SFits w128 c.line-sum.result = search rules in
    let dim_is : c.self.inside.dim ≡ c.args.self.now.dim = ap (λ (s : EState). s.dim) c.self.view_is in
    let test = c.loop-p-test.true in
    let within : c.loop-p.p < c.args.self.now.dim + 1 = omega arith in
    let most = c.self.invariant.dim in
    let few : c.loop-p.p ≤ 6 = omega arith in
    let total : SFits w128 (to_z w128 c.loop-p.sum-bits +ℤ c.line-sum.result) =
    lines_fit (to_z w128 c.loop-p.sum-bits) c.line-sum.result c.loop-p.p few c.line-sum.ensures.small c.loop-p.invariant.bound in
    record {
      sum = simp to_z-of_z (next_sum c.loop-p.p (c.args.self.now.dim + 1) (line_sum c.args.self.now) (to_z w128 c.loop-p.sum-bits) c.line-sum.result
          (euler_of c.args.self.now) within c.line-sum.ensures.value c.loop-p.invariant.sum);
      bound = simp to_z-of_z (next_of_lines (to_z w128 c.loop-p.sum-bits) c.line-sum.result c.loop-p.p c.line-sum.ensures.small c.loop-p.invariant.bound);
    }
