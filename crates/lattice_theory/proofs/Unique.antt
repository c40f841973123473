-- A list that ascends by a strict order is told by its members.
use Rattle.std.proofs.Common.{◌≡◌, ◌⊎◌, ◌↔◌, zero, suc, List, [], ◌∷◌, sym, refl, subst, inl, inr, arith}
use Rattle.std.specs.List.{All, Contains}
use Rattle.std.proofs.lemmas.List.Elements.{All-contains}
use Rattle.lattice_theory.specs.Order.{Ascends, Lists}

-- members of a list with one more at its front
pub first_member : {X : Type 0} (x : X) (xs : List X) → Contains (x ∷ xs) x
first_member x xs = (0, omega arith, refl)

pub later_member : {X : Type 0} (x y : X) (xs : List X) → Contains xs y → Contains (x ∷ xs) y
later_member x y xs (k, within, is) = (suc k, omega (arith, within), is)

pub member_cases : {X : Type 0} (x y : X) (xs : List X) → Contains (x ∷ xs) y → (x ≡ y) ⊎ Contains xs y
member_cases x y xs (zero, within, is) = inl is
member_cases x y xs (suc k, within, is) = inr (k, omega (arith, within), is)

pub no_member : {X : Type 0} (x : X) → Contains [] x → ⊥
no_member x (k, within, is) = omega (arith, within)

module _ {X : Type 0} (less : X → X → Type 0) (asymmetric : (x y : X) → less x y → less y x → ⊥) where
  -- each of two first members is the other, since neither comes before the other
  same_first : (x y : X) (xs ys : List X) → All (less x) xs → All (less y) ys → Contains (y ∷ ys) x → Contains (x ∷ xs) y → x ≡ y
  same_first x y xs ys above_x above_y c d = by (member_cases y x ys c) (member_cases x y xs d)
    where
      by : (y ≡ x) ⊎ Contains ys x → (x ≡ y) ⊎ Contains xs y → x ≡ y
      by (inl e) r = sym e
      by (inr h) (inl e) = e
      by (inr h) (inr k) = absurd (asymmetric x y (All-contains (less x) xs y above_x k) (All-contains (less y) ys x above_y h))

  -- a member of the rest is a member of the other rest
  rest_member : (x z : X) (xs ys : List X) → All (less x) xs → Contains xs z → Contains (x ∷ ys) z → Contains ys z
  rest_member x z xs ys above c d = by (member_cases x z ys d)
    where
      by : (x ≡ z) ⊎ Contains ys z → Contains ys z
      by (inl e) = let below = All-contains (less x) xs z above c in
          absurd (asymmetric z z (subst (λ w. less w z) e below) (subst (λ w. less w z) e below))
      by (inr h) = h

  pub ascending_unique : (xs ys : List X) → Ascends less xs → Ascends less ys → ((x : X) → Contains xs x ↔ Contains ys x) → xs ≡ ys
  ascending_unique [] [] up_x up_y same = refl
  ascending_unique [] (y ∷ ys) up_x up_y same = absurd (no_member y ((same y).1 (first_member y ys)))
  ascending_unique (x ∷ xs) [] up_x up_y same = absurd (no_member x ((same x).0 (first_member x xs)))
  ascending_unique (x ∷ xs) (y ∷ ys) up_x up_y same =
      let first = same_first x y xs ys up_x.0 up_y.0 ((same x).0 (first_member x xs)) ((same y).1 (first_member y ys)) in
      let rest = ascending_unique xs ys up_x.1 up_y.1 (λ z. (
        λ c. rest_member x z xs ys up_x.0 c (subst (λ w. Contains (w ∷ ys) z) (sym first) ((same z).0 (later_member x z xs c))),
        λ c. rest_member y z ys xs up_y.0 c (subst (λ w. Contains (w ∷ xs) z) first ((same z).1 (later_member y z ys c))),
      )) in
      λ i. first i ∷ rest i

-- the list that a property and an order tell is the only one
pub lists_unique : {X : Type 0} (less : X → X → Type 0) (asymmetric : (x y : X) → less x y → less y x → ⊥) (P : X → Type 0) (xs ys : List X)
    → Lists less P xs → Lists less P ys → xs ≡ ys
lists_unique less asymmetric P xs ys h k =
    ascending_unique less asymmetric xs ys h.ascends k.ascends
    (λ x. (λ c. (k.members x).1 ((h.members x).0 c), λ c. (h.members x).1 ((k.members x).0 c)))
