use Rattle.weight_certificates.proofs.Surrounding.{surroundings_surround_lem}
use Rattle.weight_certificates.proofs.laws.surroundings_surround.Goals as goal

pub returns : goal.returns
returns c = surroundings_surround_lem
