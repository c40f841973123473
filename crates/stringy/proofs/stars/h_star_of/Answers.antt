use Rattle.std.proofs.Common.{◌∙◌, ◌≤◌, max, arith}
use Rattle.std.proofs.Math.Nat.{max-le}
use Rattle.lattice_theory.specs.Vector.{entry}
use Rattle.stringy.specs.Numbers.{series_from}
use Rattle.stringy.proofs.MadeStars.{star_same}
use Rattle.stringy.proofs.stars.h_star_of.Goals as goal

pub returns : goal.returns
returns c k = c.polynomial_of.ensures k ∙ c.make_star.ensures.value k ∙ star_same c.args.rank (entry c.first_of-row.result) (series_from c.args.numbers.now) c.requires.rank
    (λ s l. c.first_of-row.ensures.value s (let m : max c.args.rank 1 ≤ 8 = max-le c.requires.rank (omega arith) in omega arith)) k
