-- What a search in lexicographic order has found so far: all vectors of which P holds before the place where it stands, or up to it.
use Rattle.std.specs.Prelude.{int_lt, not}
use Rattle.std.specs.List.{Contains, filter}
use Rattle.std.proofs.Common.{◌≡◌, ◌⊎◌, inl, inr, ℕ, ◌<◌, ◌≤◌, Bool, true, false, cond, List, [], ◌∷◌, ◌++◌, length, ℤ, ◌<ℤ◌}
use Rattle.std.proofs.Common.{refl, sym, subst, ◌∙◌, arith}
use Rattle.std.proofs.lemmas.Int.{ints}
use Rattle.lattice_theory.specs.Order.{LexLess, Lists}
use Rattle.lattice_theory.specs.Grid.{LexAtMost, IsNext, comes_before, behind, up_to}
use Rattle.lattice_theory.proofs.Orders.{lex_irreflexive, lex_asymmetric, lex_transitive}
use Rattle.lattice_theory.proofs.LexPlaces.{lex_total, less_at_most, at_most_less, not_at_most}
use Rattle.lattice_theory.proofs.Members.{In, here, there, empty, all_from_each, in_append_left, in_append_right, in_append_cases, in_push}
use Rattle.lattice_theory.proofs.Members.{in_from_contains, contains_from_in}
use Rattle.lattice_theory.proofs.Sublists.{ascends_append, ascends_filter, in_filter, from_filter}
use Rattle.lattice_theory.proofs.Unique.{lists_unique, no_member}

-- the test of order
tested_less : (a b : ℤ) (c : Bool) → a <ℤ b → cond (int_lt a b) true (cond (int_lt b a) false c) ≡ true
tested_less a b c h = grind (arith, ints)

tested_same : (a b : ℤ) (c : Bool) → a ≡ b → c ≡ true → cond (int_lt a b) true (cond (int_lt b a) false c) ≡ true
tested_same a b c h e = grind (arith, ints)

tested_cases : (a b : ℤ) (c : Bool) → cond (int_lt a b) true (cond (int_lt b a) false c) ≡ true → (a <ℤ b) ⊎ ((a ≡ b) × (c ≡ true))
tested_cases a b c e = grind (arith, ints)

pub before_is_true : (x y : List ℤ) → LexLess x y → comes_before x y ≡ true
unfolding comes_before
before_is_true [] y h = absurd h
before_is_true (a ∷ x) [] h = absurd h
before_is_true (a ∷ x) (b ∷ y) (inl h) = tested_less a b (comes_before x y) h
before_is_true (a ∷ x) (b ∷ y) (inr h) = tested_same a b (comes_before x y) h.0 (before_is_true x y h.1)

pub true_is_before : (x y : List ℤ) → comes_before x y ≡ true → LexLess x y
unfolding comes_before
true_is_before [] y e = cc
true_is_before (a ∷ x) [] e = cc
true_is_before (a ∷ x) (b ∷ y) e = by (tested_cases a b (comes_before x y) e) (true_is_before x y)
  where
    by : (a <ℤ b) ⊎ ((a ≡ b) × (comes_before x y ≡ true)) → (comes_before x y ≡ true → LexLess x y) → (a <ℤ b) ⊎ ((a ≡ b) × LexLess x y)
    by (inl h) below = inl h
    by (inr h) below = inr (h.0, below h.1)

-- all vectors of which P holds that come before x, and those up to x
abbrev pub AreBefore : (List ℤ → Type 0) → List ℤ → List (List ℤ) → Type 0
AreBefore P x found = Lists LexLess (λ y. P y × LexLess y x) found

abbrev pub AreUpTo : (List ℤ → Type 0) → List ℤ → List (List ℤ) → Type 0
AreUpTo P x found = Lists LexLess (λ y. P y × LexAtMost y x) found

-- nothing stands before the first
pub none_before : (P : List ℤ → Type 0) (x : List ℤ) → ((y : List ℤ) → P y → LexLess y x → ⊥) → AreBefore P x []
none_before P x none = record { ascends = tt; members = λ y. (λ c. absurd (no_member y c), λ h. absurd (none y h.0 h.1)) }

pub none_up_to : (P : List ℤ → Type 0) (x : List ℤ) → ((y : List ℤ) → P y → LexAtMost y x → ⊥) → AreUpTo P x []
none_up_to P x none = record { ascends = tt; members = λ y. (λ c. absurd (no_member y c), λ h. absurd (none y h.0 h.1)) }

-- the vector where it stands is one more
pub one_more : (P : List ℤ → Type 0) (x : List ℤ) (found : List (List ℤ)) → AreBefore P x found → P x → AreUpTo P x (found ++ x ∷ [])
one_more P x found are holds = record {
  ascends = ascends_append LexLess found (x ∷ []) are.ascends (all_from_each empty, tt) (λ y z i j. last y z i j);
  members = λ y. (λ c. from y (in_append_cases found (x ∷ []) (in_from_contains _ c)), λ h. contains_from_in (to y h.0 h.1));
}
  where
    last : (y z : List ℤ) → In y found → In z (x ∷ []) → LexLess y z
    last y z i here = ((are.members y).0 (contains_from_in i)).1
    last y z i (there j) = elim j [ ]

    from : (y : List ℤ) → In y found ⊎ In y (x ∷ []) → P y × LexAtMost y x
    from y (inl i) = let m = (are.members y).0 (contains_from_in i) in (m.0, inl m.1)
    from y (inr here) = (holds, inr refl)
    from y (inr (there j)) = elim j [ ]

    to : (y : List ℤ) → P y → LexAtMost y x → In y (found ++ x ∷ [])
    to y h (inl l) = in_append_left (x ∷ []) (in_from_contains found ((are.members y).1 (h, l)))
    to y h (inr e) = subst (λ z. In z (found ++ x ∷ [])) (sym e) (in_push found)

module _ (P : List ℤ → Type 0) (n : ℕ) (columns : (y : List ℤ) → P y → length y ≡ n) where
  -- no vector from x to y is one
  pub passed_over : (x y : List ℤ) (found : List (List ℤ)) → length x ≡ n → AreBefore P x found → LexAtMost x y
      → ((z : List ℤ) → P z → LexAtMost x z → LexAtMost z y → ⊥) → AreUpTo P y found
  passed_over x y found e are later none = record {
    ascends = are.ascends;
    members = λ z. (
      λ c. let m = (are.members z).0 c in (m.0, inl (less_at_most z x y m.1 later)),
      λ h. by z h.0 h.1 (lex_total z x (columns z h.0 ∙ sym e)),
    );
  }
    where
      by : (z : List ℤ) → P z → LexAtMost z y → LexLess z x ⊎ LexAtMost x z → Contains found z
      by z h l (inl before) = (are.members z).1 (h, before)
      by z h l (inr behind) = absurd (none z h behind l)

  -- a step to the next vector of a larger set
  pub moved_on : (Q : List ℤ → Type 0) → ((z : List ℤ) → P z → Q z) → (x y : List ℤ) (found : List (List ℤ)) → length x ≡ n
      → AreUpTo P x found → IsNext Q x y → AreBefore P y found
  moved_on Q inside x y found e are next = record {
    ascends = are.ascends;
    members = λ z. (
      λ c. let m = (are.members z).0 c in (m.0, at_most_less z x y m.1 next.later),
      λ h. (are.members z).1 (h.0, by z h.0 h.1 (lex_total x z (e ∙ sym (columns z h.0)))),
    );
  }
    where
      by : (z : List ℤ) → P z → LexLess z y → LexLess x z ⊎ LexAtMost z x → LexAtMost z x
      by z h l (inl behind) = absurd (not_at_most z y l (next.first z (inside z h) behind))
      by z h l (inr before) = before

  -- where none comes after x, all are found
  pub all_found : (x : List ℤ) (found : List (List ℤ)) → length x ≡ n → AreUpTo P x found → ((z : List ℤ) → P z → LexLess x z → ⊥)
      → Lists LexLess P found
  all_found x found e are none = record {
    ascends = are.ascends;
    members = λ z. (λ c. ((are.members z).0 c).0, λ h. (are.members z).1 (h, by z h (lex_total x z (e ∙ sym (columns z h)))));
  }
    where
      by : (z : List ℤ) → P z → LexLess x z ⊎ LexAtMost z x → LexAtMost z x
      by z h (inl behind) = absurd (none z h behind)
      by z h (inr before) = before

  -- a step to the next one
  pub next_found : (x y : List ℤ) (found : List (List ℤ)) → length x ≡ n → AreUpTo P x found → IsNext P x y → AreUpTo P y (found ++ y ∷ [])
  next_found x y found e are next = one_more P y found (moved_on P (λ z h. h) x y found e are next) next.holds

  -- what is found is a beginning of the list of all
  pub found_first : (x : List ℤ) (found all : List (List ℤ)) → length x ≡ n → AreUpTo P x found → Lists LexLess P all
      → all ≡ found ++ behind x all
  unfolding behind
  found_first x found all e are lists = lists_unique LexLess lex_asymmetric P all (found ++ behind x all) lists (record {
    ascends = ascends_append LexLess found (behind x all) are.ascends (ascends_filter LexLess (comes_before x) all lists.ascends) cross;
    members = λ z. (
      λ c. from z (in_append_cases found (behind x all) (in_from_contains _ c)),
      λ h. contains_from_in (to z h (lex_total x z (e ∙ sym (columns z h)))),
    );
  })
    where
      cross : (y z : List ℤ) → In y found → In z (filter (comes_before x) all) → LexLess y z
      cross y z i j =
          at_most_less y x z ((are.members y).0 (contains_from_in i)).1 (true_is_before x z (from_filter (comes_before x) all j).passes)

      from : (z : List ℤ) → In z found ⊎ In z (filter (comes_before x) all) → P z
      from z (inl i) = ((are.members z).0 (contains_from_in i)).0
      from z (inr j) = (lists.members z).0 (contains_from_in (from_filter (comes_before x) all j).member)

      to : (z : List ℤ) → P z → LexLess x z ⊎ LexAtMost z x → In z (found ++ filter (comes_before x) all)
      to z h (inl l) = in_append_right found (in_filter (comes_before x) all (in_from_contains all ((lists.members z).1 h))
          (before_is_true x z l))
      to z h (inr m) = in_append_left (filter (comes_before x) all) (in_from_contains found ((are.members z).1 (h, m)))

  -- of the list of all, the members up to x
  pub up_to_lists : (x : List ℤ) (all : List (List ℤ)) → length x ≡ n → Lists LexLess P all → AreUpTo P x (up_to x all)
  unfolding up_to
  up_to_lists x all e lists = record {
    ascends = ascends_filter LexLess (λ y. not (comes_before x y)) all lists.ascends;
    members = λ z. (λ c. from z (in_from_contains _ c), λ h. contains_from_in (to z h.0 h.1));
  }
    where
      turned : (b : Bool) → not b ≡ true → b ≡ true → ⊥
      turned true f g = let h : false ≡ true = f in cc
      turned false f g = cc

      test : (z : List ℤ) (b : Bool) → comes_before x z ≡ b → LexAtMost z x → not b ≡ true
      test z true f m = absurd (not_at_most x z (true_is_before x z f) m)
      test z false f m = refl

      from : (z : List ℤ) → In z (filter (λ y. not (comes_before x y)) all) → P z × LexAtMost z x
      from z i = by (lex_total x z (e ∙ sym (columns z holds)))
        where
          kept : not (comes_before x z) ≡ true
          kept = (from_filter (λ y. not (comes_before x y)) all i).passes

          holds : P z
          holds = (lists.members z).0 (contains_from_in (from_filter (λ y. not (comes_before x y)) all i).member)

          by : LexLess x z ⊎ LexAtMost z x → P z × LexAtMost z x
          by (inl l) = absurd (turned (comes_before x z) kept (before_is_true x z l))
          by (inr m) = (holds, m)

      to : (z : List ℤ) → P z → LexAtMost z x → In z (filter (λ y. not (comes_before x y)) all)
      to z h m = in_filter (λ y. not (comes_before x y)) all (in_from_contains all ((lists.members z).1 h))
          (test z (comes_before x z) refl m)

-- the list of all vectors up to x is the only one
pub up_to_unique : (P : List ℤ → Type 0) (x : List ℤ) (xs ys : List (List ℤ)) → AreUpTo P x xs → AreUpTo P x ys → xs ≡ ys
up_to_unique P x xs ys h k = lists_unique LexLess lex_asymmetric (λ y. P y × LexAtMost y x) xs ys h k

-- a step leaves fewer behind
fewer : (s t : Bool) (m n : ℕ) (x : List ℤ) (xs ys : List (List ℤ)) → length xs ≡ m → length ys ≡ n → (s ≡ true → t ≡ true) → m ≤ n
    → length (cond s (x ∷ xs) xs) ≤ length (cond t (x ∷ ys) ys)
fewer true true m n x xs ys e f h k = omega arith
fewer true false m n x xs ys e f h k = absurd (let g : false ≡ true = h refl in cc)
fewer false true m n x xs ys e f h k = omega arith
fewer false false m n x xs ys e f h k = omega arith

behind_fewer : (x y : List ℤ) (all : List (List ℤ)) → LexAtMost x y → length (behind y all) ≤ length (behind x all)
unfolding behind
behind_fewer x y [] h = omega arith
behind_fewer x y (z ∷ all) h =
    fewer (comes_before y z) (comes_before x z) _ _ z (behind y all) (behind x all) refl refl
    (λ e. before_is_true x z (at_most_less x y z h (true_is_before y z e))) (behind_fewer x y all h)

one_fewer : (s t : Bool) (x : List ℤ) (xs ys : List (List ℤ)) → s ≡ false → t ≡ true → length xs ≤ length ys
    → length (cond s (x ∷ xs) xs) < length (cond t (x ∷ ys) ys)
one_fewer s t x xs ys e f h = rw (e, f) (omega (arith, h))

still_fewer : (s t : Bool) (x : List ℤ) (xs ys : List (List ℤ)) → (s ≡ true → t ≡ true) → length xs < length ys
    → length (cond s (x ∷ xs) xs) < length (cond t (x ∷ ys) ys)
still_fewer true true x xs ys h k = omega (arith, k)
still_fewer true false x xs ys h k = absurd (let g : false ≡ true = h refl in cc)
still_fewer false true x xs ys h k = omega (arith, k)
still_fewer false false x xs ys h k = omega (arith, k)

not_before_itself : (y : List ℤ) (b : Bool) → comes_before y y ≡ b → b ≡ false
not_before_itself y true e = absurd (lex_irreflexive y (true_is_before y y e))
not_before_itself y false e = refl

pub behind_less : (x y : List ℤ) (all : List (List ℤ)) → LexLess x y → In y all → length (behind y all) < length (behind x all)
unfolding behind
behind_less x y [] h i = elim i [ ]
behind_less x y (_ ∷ all) h here =
    one_fewer (comes_before y y) (comes_before x y) y (behind y all) (behind x all) (not_before_itself y (comes_before y y) refl)
    (before_is_true x y h)
    (behind_fewer x y all (inl h))
behind_less x y (z ∷ all) h (there i) =
    still_fewer (comes_before y z) (comes_before x z) z (behind y all) (behind x all)
    (λ e. before_is_true x z (lex_transitive x y z h (true_is_before y z e))) (behind_less x y all h i)
