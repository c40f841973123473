use Rattle.item_polytopes.proofs.ItemSteps.{few_line_points}
use Rattle.item_polytopes.proofs.laws.weight_lines_have_few_points.Goals as goal

pub returns : goal.returns
returns c = few_line_points
