use Rattle.std.proofs.Common.{◌≡◌, ◌≤◌, length, refl, sym, ◌∙◌, arith}
use Rattle.std.specs.Ordering.{int_cmp, int_eq}
use Rattle.std.specs.Cmp.{int_cmp_total, on_total, then_total, both_tied, on_equiv, and_equiv}
use Rattle.std.specs.Cmp.Lexicographic.{slice_cmp, pointwise, lists_total, lists_equiv, lists_ties}
use Rattle.std.proofs.lemmas.Cmp.{int_eq_equiv}
use Rattle.lattice_theory.specs.Affine.{Affine}
use Rattle.lattice_theory.specs.Order.{FunctionLess}
use Rattle.lattice_core.proofs.Comparisons.{compares_functions, same_functions}
use Rattle.lattice_core.proofs.Sorting.{sorted_out}
use Rattle.lattice_core.proofs.ascending.ascending_functions.Goals as goal

pub returns : goal.returns
returns c =
    let shorter : length c.dedup.new.self.items ≤ length c.args.functions.now.items = omega arith in
    let total = then_total {R = λ f g. slice_cmp int_cmp f.normal g.normal} {S = λ f g. int_cmp f.constant g.constant}
    (on_total (λ f. f.normal) (lists_total int_cmp_total)) (on_total (λ f. f.constant) int_cmp_total) in
    let ties = λ (f g : Affine). both_tied _ _ (slice_cmp int_cmp f.normal g.normal) (int_cmp f.constant g.constant)
    (lists_ties int_cmp (λ x y. refl) f.normal g.normal) refl in
    let equivalence = and_equiv {E = λ f g. pointwise int_eq f.normal g.normal} {F = λ f g. int_eq f.constant g.constant}
    (on_equiv (λ f. f.normal) (lists_equiv int_eq_equiv)) (on_equiv (λ f. f.constant) int_eq_equiv) in
    let out = sorted_out FunctionLess (λ f. length f.normal ≡ c.requires.0) _ _ (λ f g p q. compares_functions f g (p ∙ sym q)) total ties
    equivalence (λ f g. (same_functions f g).0) _ _ _ c.requires.1 c.sort_unstable.ensures.permutation c.sort_unstable.ensures.sorted
    c.dedup.ensures.filtered in
    record {
      ascends = out.ascends;
      members = out.members;
      length = shorter;
    }
