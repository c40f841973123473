use Rattle.std.specs.Prelude.{ℤ}
use Rattle.std.proofs.Common.{◌≡◌, arith, ap, ◌∙◌, List, take, length}
use Rattle.std.proofs.lemmas.Int.{ints}
use Rattle.lattice_theory.specs.Vector.{dot}
use Rattle.region_walk.proofs.Values.{dot-take}
use Rattle.region_walk.proofs.spans.value_of_beginning.Goals as goal

pub returns-clause-value : goal.returns-clause-value
returns-clause-value c =
    let normal = c.args.function.now.normal in
    let beginning = c.args.beginning.now in
    let same : dot (take (length beginning) c.normal.result.now) beginning ≡ dot normal beginning =
    ap (λ (a : List ℤ). dot (take (length beginning) a) beginning) c.normal.ensures.value ∙ dot-take normal beginning in
    let pair_is : c.pair.result ≡ dot normal beginning = c.pair.ensures.value ∙ same in
    let constant_is = c.constant.ensures in
    let small = c.pair.ensures.right in
    omega (arith, ints)
