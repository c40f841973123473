use Rattle.interior_point_theory.proofs.Around.{around_by_functions_lem}
use Rattle.interior_point_theory.proofs.interior.around_by_functions.Goals as goal

pub returns : goal.returns
returns c = around_by_functions_lem
