-- That the lists of a cone, and the numbers of vectors on its faces, are single.
use Rattle.std.proofs.Common.{◌≡◌, List, length, ℤ, Bool, sym, ap, ◌∙◌, subst}
use Rattle.lattice_theory.specs.Order.{Lists, LexLess}
use Rattle.lattice_theory.proofs.Orders.{lex_asymmetric}
use Rattle.lattice_theory.proofs.Unique.{ascending_unique}
use Rattle.face_theory.specs.Pairings.{paired}
use Rattle.face_theory.proofs.DualFaces.{dual_is_unique_lem}
use Rattle.cayley_theory.specs.Cones.{IsConeMember, IsConeFunction}
use Rattle.cayley_theory.specs.Counts.{IsConePair}
use Rattle.cayley_theory.specs.Laws.{ConesAreSingle, CountsAreSingle, DualCountsAreSingle}

-- a list in lexicographic order is told by what it lists
pub single : (P : List ℤ → Type 0) (xs ys : List (List ℤ)) → Lists LexLess P xs → Lists LexLess P ys → xs ≡ ys
single P xs ys h k = ascending_unique LexLess lex_asymmetric xs ys h.ascends k.ascends
    (λ x. ((λ c. (k.members x).1 ((h.members x).0 c)), (λ c. (h.members x).1 ((k.members x).0 c))))

pub cones_are_single_lem : ConesAreSingle
cones_are_single_lem n vertices normals r parts xs ys fs gs hx hy hf hg = (
  single (IsConeMember n vertices normals r parts) xs ys hx hy,
  single (IsConeFunction n normals r parts) fs gs hf hg,
)

pub counts_are_single_lem : CountsAreSingle
counts_are_single_lem n r members functions face s j k hj hk =
    let e = dual_is_unique_lem (paired members functions) face hj.dual hk.dual hj.is_dual hk.is_dual in
    let same = single (IsConePair n r functions hk.dual s) hj.pairs hk.pairs
    (subst (λ (d : List Bool). Lists LexLess (IsConePair n r functions d s) hj.pairs) e hj.are_pairs) hk.are_pairs in
    hj.count_is ∙ ap length same ∙ sym hk.count_is

pub dual_counts_are_single_lem : DualCountsAreSingle
dual_counts_are_single_lem n r members face s j k hj hk =
    hj.count_is ∙ ap length (single (IsConePair n r members face s) hj.pairs hk.pairs hj.are_pairs hk.are_pairs) ∙ sym hk.count_is
