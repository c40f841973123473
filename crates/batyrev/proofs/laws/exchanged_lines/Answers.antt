use Rattle.batyrev.proofs.ExchangedNumbers.{exchanged_lines_lem}
use Rattle.batyrev.proofs.laws.exchanged_lines.Goals as goal

pub returns : goal.returns
returns c = exchanged_lines_lem
