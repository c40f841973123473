use Rattle.std.proofs.Common.{sym}
use Rattle.item_points.specs.WeightLines.{number}
use Rattle.item_points.specs.Points.{input}
use Rattle.item_points.proofs.weights.weight_points.Goals as goal

pub returns-in-Some : goal.returns-in-Some
returns-in-Some c = input (number (sym c.in-Some.ensures))
