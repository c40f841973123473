-- What a sort and then a `dedup` leave is strictly ascending, and has the same members.
use Rattle.std.proofs.Common.{◌≡◌, ◌↔◌, Bool, true, List, [], ◌∷◌, get_or, subst}
use Rattle.std.specs.declared.cmp.Ordering.{Ordering}
use Rattle.std.specs.declared.cmp.Ordering.TheVariants.{Less}
use Rattle.std.specs.Ordering.{eq_by_cmp}
use Rattle.std.specs.Cmp.{IsTotalOrder, IsEquivalence}
use Rattle.std.specs.List.{All, Contains, dedup}
use Rattle.std.specs.List.Retain.{IsFiltered, DiffersFromLast}
use Rattle.std.specs.List.Sorted.{IsSorted, IsPermutation, IsStrictlySortedBy}
use Rattle.std.proofs.lemmas.List.Elements.{All-from_recursion, All-head, All-tail}
use Rattle.std.proofs.lemmas.List.Filters.{All-dedup, dedup_is}
use Rattle.std.proofs.lemmas.List.Kept.{Contains-dedup, Contains-from_dedup, IsStrictlySortedBy-dedup}
use Rattle.std.proofs.lemmas.List.Sorted.{All-permutation, Contains-permutation, IsPermutation-sym}
use Rattle.lattice_theory.specs.Order.{Ascends}
use Rattle.lattice_core.specs.Compare.{Compares}

-- zs ascends, and has the members of xs
pub record IsSortedOut {X : Type 0} (less : X → X → Type 0) (xs zs : List X) : Type 0 where
  pub ascends : Ascends less zs
  pub members : (x : X) → Contains zs x ↔ Contains xs x

-- R answers by the order on values of which P holds, and E is equality
module _ {X : Type 0} (less : X → X → Type 0) (P : X → Type 0) (R : X → X → Ordering) (E : X → X → Bool) (compares : (x y : X) → P x → P y
    → Compares less x y (R x y)) where
  -- a strictly sorted list ascends
  ascends : (xs : List X) → All P xs → IsStrictlySortedBy R xs → Ascends less xs
  unfolding IsStrictlySortedBy
  ascends [] h s = tt
  ascends (x ∷ xs) h s =
      let above = All-from_recursion (λ y. R x y ≡ Less) xs s.0 in (
        λ k d within. subst (Compares less x (get_or xs k d)) (above k d within)
            (compares x (get_or xs k d) (All-head P x xs h) (All-tail P x xs h k d within)),
        ascends xs (All-tail P x xs h) s.1,
      )

  pub sorted_out : IsTotalOrder R → ((x y : X) → E x y ≡ eq_by_cmp R x y) → IsEquivalence E → ((x y : X) → E x y ≡ true → x ≡ y)
      → (xs ys zs : List X) → All P xs → IsPermutation xs ys → IsSorted R ys → IsFiltered (DiffersFromLast E) [] ys zs
      → IsSortedOut less xs zs
  sorted_out total ties equivalence same xs ys zs all moved sorted filtered =
      let all_sorted = All-permutation P xs ys moved all in
      rw (dedup_is E ys zs filtered) (record {
        ascends = ascends (dedup E ys) (All-dedup E P ys all_sorted) (IsStrictlySortedBy-dedup total ties ys sorted);
        members = λ x. (
          λ c. Contains-permutation ys xs x (IsPermutation-sym xs ys moved) (Contains-from_dedup E ys x c),
          λ c. Contains-dedup equivalence same ys x (Contains-permutation xs ys x moved c),
        );
      })
