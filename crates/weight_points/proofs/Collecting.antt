-- The vectors that were given, kept in a list.
use Rattle.std.specs.Prelude.{ℤ}
use Rattle.std.proofs.Common.{◌≡◌, ℕ, ◌+◌, List, [], ◌∷◌, ◌++◌, length, take, refl, sym, ap, ◌∙◌, subst, arith, append_assoc, append-nil, length-append}
use Rattle.std.proofs.lemmas.List.{take_at}
use Rattle.lattice_theory.specs.Order.{LexLess}
use Rattle.lattice_theory.proofs.Orders.{lex_asymmetric}
use Rattle.lattice_theory.proofs.Unique.{lists_unique}
use Rattle.lattice_core.specs.Weights.{Weighted, AreWellFormed, AreWithinLimits, IsMonomial}
use Rattle.weight_points.specs.Members.{AreMonomials, IsMonomialAt, HasMonomials, AreFirst}
use Rattle.weight_points.specs.Listing.{solutions}
use Rattle.weight_points.proofs.Solutions.{are_monomials}

-- the list of all is the only one
pub same_monomials : (systems : List Weighted) (xs ys : List (List ℤ)) → AreMonomials systems xs → AreMonomials systems ys → xs ≡ ys
same_monomials systems xs ys h k = lists_unique LexLess lex_asymmetric (IsMonomial systems) xs ys h k

-- two beginnings of one list with the same length
same_front : (xs ys us vs : List (List ℤ)) (n : ℕ) → length xs ≡ n → length us ≡ n → xs ++ ys ≡ us ++ vs → us ≡ xs
same_front xs ys us vs n e f same = sym (take_at us vs n f) ∙ (ap (λ (zs : List (List ℤ)). take n zs) (sym same) ∙ take_at xs ys n e)

pub none_are_first : (systems : List Weighted) → AreWellFormed systems → AreWithinLimits systems → AreFirst systems 0 []
none_are_first systems formed limits = record {
  later = solutions systems;
  are_monomials = are_monomials systems formed limits.degrees;
  count_is = refl;
}

pub first_and_next : (systems : List Weighted) (count : ℕ) (xs : List (List ℤ)) (a : List ℤ) → AreFirst systems count xs
    → IsMonomialAt systems count a → AreFirst systems (count + 1) (xs ++ a ∷ [])
first_and_next systems count xs a f n =
    let same = same_monomials systems (xs ++ f.later) (n.before ++ a ∷ n.after) f.are_monomials n.are_monomials in
    let front = same_front xs f.later n.before (a ∷ n.after) count f.count_is n.count same in
    let all : AreMonomials systems (xs ++ a ∷ n.after) = subst (λ zs. AreMonomials systems (zs ++ a ∷ n.after)) front n.are_monomials in
    record {
      later = n.after;
      are_monomials = subst (AreMonomials systems) (sym (append_assoc xs (a ∷ []) n.after)) all;
      count_is = let e = f.count_is in let l = length-append xs (a ∷ []) in omega arith;
    }

-- a list without members
empty : (xs : List (List ℤ)) → length xs ≡ 0 → xs ≡ []
empty [] e = refl
empty (x ∷ xs) e = absurd (omega arith)

pub first_are_all : (systems : List Weighted) (count : ℕ) (xs : List (List ℤ)) → AreFirst systems count xs → HasMonomials systems count
    → AreMonomials systems xs
first_are_all systems count xs f h =
    let same = same_monomials systems (xs ++ f.later) h.members f.are_monomials h.are_monomials in
    let l = sym (length-append xs f.later) ∙ ap length same in
    let none = empty f.later (let e = f.count_is in let k = h.count_is in omega arith) in
    let whole : xs ++ f.later ≡ xs = ap (λ (zs : List (List ℤ)). xs ++ zs) none ∙ append-nil xs in
    subst (AreMonomials systems) whole f.are_monomials
