use Rattle.std.specs.Prelude.{◌-ℤ◌, nat_abs}
use Rattle.std.proofs.Common.{◌≡◌, arith}
use Rattle.std.proofs.lemmas.Int.{ints}
use Rattle.region_walk.specs.Regions.{levels_of}
use Rattle.region_walk.proofs.Runs.{least_small, most_small, run_count}
use Rattle.region_walk.proofs.walk.RegionWalk.count.Goals as goal

pub overflow_sub-self : goal.overflow_sub-self
overflow_sub-self c =
    let w = c.args.self.now in
    let r = w.region in
    let low = least_small r.low r.high (levels_of r) c.requires.sound w.beginning.entries.items w.run.low w.run.high c.requires.run in
    let high = most_small r.low r.high (levels_of r) c.requires.sound w.beginning.entries.items w.run.low w.run.high c.requires.run in
    omega (arith, ints)

pub returns-clause-points : goal.returns-clause-points
returns-clause-points c =
    let w = c.args.self.now in
    let r = w.region in
    let low = least_small r.low r.high (levels_of r) c.requires.sound w.beginning.entries.items w.run.low w.run.high c.requires.run in
    let high = most_small r.low r.high (levels_of r) c.requires.sound w.beginning.entries.items w.run.low w.run.high c.requires.run in
    let count = run_count r.low r.high (levels_of r) c.requires.sound w.beginning.entries.items w.run.low w.run.high c.requires.run in
    let difference = c.unsigned_abs.ensures.value in
    let absolute : c.unsigned_abs.result ≡ nat_abs (w.run.high -ℤ w.run.low) = omega (arith, ints) in
    omega (arith, absolute, count)

pub returns-clause-bound : goal.returns-clause-bound
returns-clause-bound c =
    let w = c.args.self.now in
    let r = w.region in
    let low = least_small r.low r.high (levels_of r) c.requires.sound w.beginning.entries.items w.run.low w.run.high c.requires.run in
    let high = most_small r.low r.high (levels_of r) c.requires.sound w.beginning.entries.items w.run.low w.run.high c.requires.run in
    let difference = c.unsigned_abs.ensures.value in
    omega (arith, ints)
