use Rattle.std.proofs.Common.{◌≡◌, ℕ, [], length, map}
use Rattle.region_walk.specs.Regions.{level}
use Rattle.region_walk.proofs.region.Region.new.Given as goal

abbrev pub invariant-loop : goal.invariant-loop
invariant-loop l = record {
  one_each : length l.levels.items ≡ l.counter;
  empty : (k : ℕ) → level (map (λ functions. functions.items) l.levels.items) k ≡ [];
}
