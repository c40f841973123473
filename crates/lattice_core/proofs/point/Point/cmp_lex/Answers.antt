use Rattle.std.proofs.Common.{◌∙◌}
use Rattle.lattice_theory.specs.Order.{LexLess}
use Rattle.lattice_theory.proofs.Orders.{lex_irreflexive, lex_asymmetric}
use Rattle.lattice_core.proofs.Comparisons.{compares_lex, is_less, is_equal, is_greater}
use Rattle.lattice_core.proofs.point.Point.cmp_lex.Goals as goal

pub returns : goal.returns
returns c =
    let cases = compares_lex c.args.self.now c.args.other.now c.requires in
    record {
      cases = rw c.cmp.ensures cases;
      less = λ h. c.cmp.ensures ∙ is_less LexLess lex_irreflexive lex_asymmetric _ _ _ cases h;
      equal = λ e. c.cmp.ensures ∙ is_equal LexLess lex_irreflexive lex_asymmetric _ _ _ cases e;
      greater = λ h. c.cmp.ensures ∙ is_greater LexLess lex_irreflexive lex_asymmetric _ _ _ cases h;
    }
