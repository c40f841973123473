use Rattle.std.proofs.Common.{◌≡◌, length, refl, sym, ◌∙◌, arith}
use Rattle.std.specs.Ordering.{int_cmp, int_eq}
use Rattle.std.specs.Cmp.{int_cmp_total, signed_Decides}
use Rattle.std.specs.Cmp.Lexicographic.{slice_cmp, pointwise, pointwise_decides, lists_total, lists_equiv, lists_ties}
use Rattle.std.proofs.lemmas.Cmp.{int_eq_equiv}
use Rattle.lattice_theory.specs.Order.{LexLess}
use Rattle.lattice_core.proofs.Comparisons.{compares_lex}
use Rattle.lattice_core.proofs.Sorting.{sorted_out}
use Rattle.lattice_core.proofs.ascending.ascending_points.Goals as goal

pub returns : goal.returns
returns c =
    let out = sorted_out LexLess (λ p. length p ≡ c.requires.0) (slice_cmp int_cmp) (pointwise int_eq)
    (λ x y p q. compares_lex x y (p ∙ sym q)) (lists_total int_cmp_total) (lists_ties int_cmp (λ x y. refl)) (lists_equiv int_eq_equiv)
    (λ x y. (pointwise_decides signed_Decides x y).0) _ _ _ c.requires.1 c.sort_unstable.ensures.permutation
    c.sort_unstable.ensures.sorted c.dedup.ensures.filtered in
    record {
      ascends = out.ascends;
      members = out.members;
      length = omega arith;
    }
