use Rattle.duality_theory.proofs.FacetNormals.{normals_are_solid_lem}
use Rattle.duality_theory.proofs.normals.normals_are_solid.Goals as goal

pub returns : goal.returns
returns c = normals_are_solid_lem
