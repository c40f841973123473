use Rattle.duality_theory.proofs.FacetNormals.{normals_surround_lem}
use Rattle.duality_theory.proofs.normals.normals_surround.Goals as goal

pub returns : goal.returns
returns c = normals_surround_lem
