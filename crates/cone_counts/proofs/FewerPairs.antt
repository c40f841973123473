-- An ascending list whose members are in another is no longer than it.
use Rattle.std.proofs.Common.{ℕ, ◌≤◌, Bool, List, [], ◌∷◌, length, arith, ℤ}
use Rattle.lattice_theory.specs.Order.{Ascends, LexLess}
use Rattle.lattice_theory.proofs.Members.{In, here, there, Each, each_from_all, each_in, in_from_contains, contains_from_in}
use Rattle.lattice_theory.proofs.Orders.{lex_irreflexive, lex_transitive}
use Rattle.cayley_theory.specs.Counts.{CountsOnDualFace}
use Rattle.cone_counts.proofs.SideSets.{some_of_all}

-- those behind the first are in what is behind the first
behind : (x y : List ℤ) (ys : List (List ℤ)) → Each (LexLess y) ys → In x (y ∷ ys) → (z : List ℤ) → LexLess x z → In z (y ∷ ys) → In z ys
behind x y ys up here z l here = absurd (lex_irreflexive x l)
behind x y ys up (there i) z l here = absurd (lex_irreflexive x (lex_transitive x y x l (each_in up i)))
behind x y ys up here z l (there j) = j
behind x y ys up (there i) z l (there j) = j

fewer : (xs ys : List (List ℤ)) → Ascends LexLess xs → Ascends LexLess ys → ((x : List ℤ) → In x xs → In x ys) → length xs ≤ length ys
fewer [] ys a b h = omega arith
fewer (x ∷ xs) [] a b h = absurd (elim (h x here) [ ])
fewer (x ∷ xs) (y ∷ ys) a b h =
    let r = fewer xs ys a.1 b.1 (λ z i. behind x y ys (each_from_all (LexLess y) ys b.0) (h x here) z (each_in (each_from_all (LexLess x) xs a.0) i) (h z (there i))) in
    omega (arith, r)

-- so a face has no more vectors of a degree than the cone
pub no_more : (n r : ℕ) (vectors : List (List ℤ)) (set : List Bool) (s some all : ℕ) → CountsOnDualFace n r vectors set s some
    → CountsOnDualFace n r vectors [] s all → some ≤ all
no_more n r vectors set s some all a b =
    let f = fewer a.pairs b.pairs a.are_pairs.ascends b.are_pairs.ascends (λ x i. in_from_contains b.pairs ((b.are_pairs.members x).1
    (some_of_all n r vectors set s x ((a.are_pairs.members x).0 (contains_from_in i))))) in
    let e = a.count_is in let k = b.count_is in omega (arith, f, e, k)
