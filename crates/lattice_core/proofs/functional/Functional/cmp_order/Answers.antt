use Rattle.std.proofs.Common.{◌∙◌}
use Rattle.lattice_theory.specs.Order.{FunctionLess}
use Rattle.lattice_theory.proofs.Orders.{function_irreflexive, function_asymmetric}
use Rattle.lattice_core.proofs.Comparisons.{compares_functions, is_less, is_equal, is_greater}
use Rattle.lattice_core.proofs.functional.Functional.cmp_order.Goals as goal

pub returns : goal.returns
returns c =
    let cases = compares_functions c.args.self.now c.args.other.now c.requires in
    record {
      cases = rw c.cmp.ensures cases;
      less = λ h. c.cmp.ensures ∙ is_less FunctionLess function_irreflexive function_asymmetric _ _ _ cases h;
      equal = λ e. c.cmp.ensures ∙ is_equal FunctionLess function_irreflexive function_asymmetric _ _ _ cases e;
      greater = λ h. c.cmp.ensures ∙ is_greater FunctionLess function_irreflexive function_asymmetric _ _ _ cases h;
    }
