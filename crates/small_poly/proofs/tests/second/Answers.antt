use Rattle.std.proofs.Common.{pos, negsuc, arith}
use Rattle.small_poly.proofs.Lines.{line_size, line_degree}
use Rattle.small_poly.proofs.tests.second.Goals as goal

pub returns-clause-size : goal.returns-clause-size
returns-clause-size c = line_size c.zero-p.result c.set.new.self c.set-2.new.self (pos 3) (negsuc 0) c.zero-p.ensures c.set.ensures c.set-2.ensures (omega arith) (omega arith)

pub returns-clause-degree : goal.returns-clause-degree
returns-clause-degree c = line_degree c.zero-p.result c.set.new.self c.set-2.new.self (pos 3) (negsuc 0) c.zero-p.ensures c.set.ensures c.set-2.ensures
