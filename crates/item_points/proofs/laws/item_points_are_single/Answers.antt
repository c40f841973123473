use Rattle.item_points.proofs.SingleItems.{one_list_of_points, one_points_refusal, points_or_refusal, points_are_item_points}
use Rattle.item_points.proofs.laws.item_points_are_single.Goals as goal

pub returns : goal.returns
returns c = record {
  points = one_list_of_points;
  refusal = one_points_refusal;
  apart = points_or_refusal;
  premises = points_are_item_points;
}
