use Rattle.lattice_theory.specs.Order.{LexLess, FunctionLess}
use Rattle.lattice_theory.proofs.Orders.{lex_asymmetric, function_asymmetric}
use Rattle.lattice_theory.proofs.Unique.{ascending_unique}
use Rattle.lattice_theory.proofs.ascending_list_is_unique.Goals as goal

pub returns : goal.returns
returns c = record { vectors = ascending_unique LexLess lex_asymmetric; functions = ascending_unique FunctionLess function_asymmetric }
