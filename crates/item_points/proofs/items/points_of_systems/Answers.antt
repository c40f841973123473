use Rattle.std.proofs.Common.{refl, inr}
use Rattle.lattice_core.specs.Weights.{weighted_all}
use Rattle.palp_input.specs.Grammar.{ListedWeights}
use Rattle.item_points.specs.Points.{large_size}
use Rattle.item_points.proofs.SingleItems.{some_points}
use Rattle.item_points.proofs.items.points_of_systems.Goals as goal

pub size_above_limit-requires : goal.size_above_limit-requires
size_above_limit-requires c =
    rw c.deref.ensures.value
    (some_points (ListedWeights (weighted_all c.args.systems.now)) c.in_ok-points.points.items c.in_ok-points.ensures.are_points).are_points

pub returns-in-Some-clause-points : goal.returns-in-Some-clause-points
returns-in-Some-clause-points c =
    large_size (record {
      points = c.in_ok-points.points.items;
      are_points = c.in_ok-points.ensures.are_points;
      large = rw c.deref.ensures.value at c.in-Some.ensures.large;
      is_told = inr (c.in_ok-points.ensures.small, rw c.deref.ensures.value at c.in-Some.ensures.told);
    })

pub returns-clause-premises : goal.returns-clause-premises
returns-clause-premises c =
    let some = some_points (ListedWeights (weighted_all c.args.systems.now)) c.in_ok-points.points.items
    c.in_ok-points.ensures.are_points in
    record {
      sized = record { are_points = some.are_points; within = rw c.deref.ensures.value at c.in_default.ensures.within refl };
      least = some.least;
      most = some.most;
    }
