use Rattle.ridge_theory.proofs.OneMore.{more_are_solid_lem}
use Rattle.ridge_theory.proofs.facets.more_are_solid.Goals as goal

pub returns : goal.returns
returns c = more_are_solid_lem
