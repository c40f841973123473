use Rattle.std.proofs.Common.{◌≡◌, ℕ}
use Rattle.lattice_theory.specs.Vector.{entry}
use Rattle.stringy_theory.specs.HStar.{h_star}
use Rattle.stringy.proofs.MadeStars.{star_value, star_bound}
use Rattle.stringy.proofs.stars.make_star.Goals as goal
use Rattle.stringy.proofs.stars.make_star.Goals.{After-clear_from}

value : (c : After-clear_from) → (k : ℕ) → entry c.clear_from.new.row k ≡ h_star c.args.rank (entry c.args.row.now) k
value c = star_value c.args.rank c.max.result c.args.row.now c.take_all_differences.new.row c.clear_from.new.row c.max.ensures c.requires.rank c.told-row
    c.take_all_differences.ensures.value c.clear_from.ensures.value

pub returns-clause-value : goal.returns-clause-value
returns-clause-value c = value c

pub returns-clause-small : goal.returns-clause-small
returns-clause-small c = star_bound c.args.rank c.args.row.now c.clear_from.new.row c.requires.rank c.requires.counts c.requires.small (value c)
