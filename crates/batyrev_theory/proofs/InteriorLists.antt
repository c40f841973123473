-- The points in the interior of a face, and of its dual, are counted in lists.
use Rattle.std.proofs.Common.{◌≡◌, ℕ, Bool, true, List, length, ℤ, ◌↔◌, refl, sym, ap, ◌∙◌, subst, filter}
use Rattle.lattice_theory.specs.Order.{Lists, LexLess}
use Rattle.lattice_theory.proofs.Members.{in_from_contains, contains_from_in}
use Rattle.lattice_theory.proofs.Orders.{lex_asymmetric}
use Rattle.lattice_theory.proofs.Sublists.{IsKept, in_filter, from_filter, ascends_filter}
use Rattle.lattice_theory.proofs.Unique.{lists_unique}
use Rattle.face_theory.specs.Sets.{is_same}
use Rattle.face_theory.specs.Faces.{IsDualFace}
use Rattle.face_theory.specs.Pairings.{valued}
use Rattle.face_theory.proofs.Sets.{is_same-true, is_same_refl}
use Rattle.face_theory.proofs.DualFaces.{dual_is_unique_lem}
use Rattle.duality_theory.specs.Lists.{with_ones}
use Rattle.batyrev_theory.specs.Interior.{zeros_at, IsInterior, IsDualInterior, IsCount}
use Rattle.batyrev_theory.specs.Laws.{InteriorByList, DualInteriorByList, InteriorCountIsSingle, DualInteriorCountIsSingle}

-- a list has one length
pub count_is_single : (P : List ℤ → Type 0) (j k : ℕ) → IsCount P j → IsCount P k → j ≡ k
count_is_single P j k a b = sym a.length_is ∙ ap (λ (l : List (List ℤ)). length l)
    (lists_unique LexLess lex_asymmetric P a.list b.list a.lists b.lists) ∙ b.length_is

-- what a test keeps of the list of all vectors of which Q holds, where of these the test tells P
pub count_by_test : (P Q : List ℤ → Type 0) (test : List ℤ → Bool) (xs : List (List ℤ)) → Lists LexLess Q xs
    → ((x : List ℤ) → P x → Q x) → ((x : List ℤ) → Q x → (test x ≡ true) ↔ P x) → IsCount P (length (filter test xs))
count_by_test P Q test xs all weaker tells = record {
  list = filter test xs;
  lists = record {
    ascends = ascends_filter LexLess test xs all.ascends;
    members = λ x. (
      (λ c. kept x (from_filter test xs (in_from_contains (filter test xs) c))),
      (λ p. contains_from_in (in_filter test xs (in_from_contains xs ((all.members x).1 (weaker x p))) ((tells x (weaker x p)).1 p))),
    );
  };
  length_is = refl;
}
  where
    kept : (x : List ℤ) → IsKept test x xs → P x
    kept x k = (tells x ((all.members x).0 (contains_from_in k.member))).0 k.passes

-- the law on faces
pub interior_by_list_lem : InteriorByList
interior_by_list_lem n vertices facets points face dual lists is = count_by_test (IsInterior n vertices facets face) _
    (λ x. is_same (zeros_at facets x) dual) points lists (λ x i. i.point) (λ x p. (
      (λ e. record { point = p; on = subst (IsDualFace (valued vertices facets) face) (sym (is_same-true (zeros_at facets x) dual e)) is }),
      (λ i. subst (λ (set : List Bool). is_same (zeros_at facets x) set ≡ true)
          (dual_is_unique_lem (valued vertices facets) face (zeros_at facets x) dual i.on is) (is_same_refl (zeros_at facets x))),
    ))

-- the law on dual faces
pub dual_interior_by_list_lem : DualInteriorByList
dual_interior_by_list_lem n vertices dual_points face lists = count_by_test (IsDualInterior n vertices face) _
    (λ q. is_same (zeros_at (with_ones vertices) q) face) dual_points lists (λ q i. i.point) (λ q p. (
      (λ e. record { point = p; on = is_same-true (zeros_at (with_ones vertices) q) face e }),
      (λ i. subst (λ (set : List Bool). is_same (zeros_at (with_ones vertices) q) set ≡ true) i.on (is_same_refl (zeros_at (with_ones vertices) q))),
    ))

-- the laws on single numbers
pub interior_count_is_single_lem : InteriorCountIsSingle
interior_count_is_single_lem n vertices facets face j k a b = count_is_single (IsInterior n vertices facets face) j k a b

pub dual_interior_count_is_single_lem : DualInteriorCountIsSingle
dual_interior_count_is_single_lem n vertices face j k a b = count_is_single (IsDualInterior n vertices face) j k a b
