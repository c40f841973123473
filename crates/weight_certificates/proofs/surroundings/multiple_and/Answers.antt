use Rattle.std.proofs.Common.{◌≡◌, ◌^◌, ◌<◌, ◌*ℤ◌, ◌+ℤ◌, pos, rules, arith, refl, ap₂, SFits, w64}
use Rattle.std.specs.Int.{w128}
use Rattle.std.proofs.lemmas.Int.{to_z-of_z}
use Rattle.weight_certificates.proofs.Sums.{product_fits, multiple_fits}
use Rattle.weight_certificates.proofs.surroundings.multiple_and.Goals as goal
use Rattle.weight_certificates.proofs.surroundings.multiple_and.Goals.{After-from-2}

-- the two factors
number_is : (c : After-from-2) → c.from-2.result ≡ c.args.a
number_is c = let small : SFits w64 c.args.a = c.ranges.a in simp to_z-of_z at c.from-2.ensures

times_small : (c : After-from-2) → c.args.times < 2 ^ 64
times_small c = let range = c.ranges.times in omega arith

-- the product and the sum
product : (c : After-from-2) → SFits w128 (c.from.result *ℤ c.from-2.result)
product c = rw (c.from.ensures, number_is c) (product_fits c.args.times c.args.a (times_small c) c.requires.number)

sum : (c : After-from-2) → SFits w128 (c.from.result *ℤ c.from-2.result +ℤ c.args.more)
sum c = rw (c.from.ensures, number_is c) (multiple_fits c.args.times c.args.a c.args.more (times_small c) c.requires.number c.requires.small)

pub overflow_add-result : goal.overflow_add-result
overflow_add-result c =
    let first : SFits w128 c.from.result = search rules in
    let second : SFits w128 c.from-2.result = search rules in
    let more : SFits w128 c.args.more = c.ranges.more in
    let factors : SFits w128 (c.from.result *ℤ c.from-2.result) = product c in
    simp to_z-of_z (sum c)

pub returns : goal.returns
returns c =
    let first : SFits w128 c.from.result = search rules in
    let second : SFits w128 c.from-2.result = search rules in
    let more : SFits w128 c.args.more = c.ranges.more in
    let factors : SFits w128 (c.from.result *ℤ c.from-2.result) = product c in
    let whole : SFits w128 (c.from.result *ℤ c.from-2.result +ℤ c.args.more) = sum c in
    simp to_z-of_z (rw (c.from.ensures, number_is c) refl)
