use Rattle.nef_numbers.proofs.FoundParts.{found_have_parts_lem}
use Rattle.nef_numbers.proofs.laws.found_have_parts.Goals as goal

pub returns : goal.returns
returns c = found_have_parts_lem
