-- Members of lists in inductive form, which a proof can match on, and what connects them with the library's `Contains` and `All`.
use Rattle.std.proofs.Common.{ℕ, zero, suc, ◌<◌, List, [], ◌∷◌, ◌++◌, length, map, get_or, ◌⊎◌, inl, inr, refl, subst, All, Contains, zero-lt-suc, suc-le-suc, le_of_suc-le-suc, not-suc-le-zero}
use Rattle.std.proofs.lemmas.List.Elements.{All-nil, All-cons, All-head, All-tail}

-- P holds of each member
pub data Each {X : Type 0} (P : X → Type 0) : List X → Type 0 where
  empty : Each P []
  more : {x : X} {xs : List X} → P x → Each P xs → Each P (x ∷ xs)

-- x is a member
pub data In {X : Type 0} (x : X) : List X → Type 0 where
  here : {xs : List X} → In x (x ∷ xs)
  there : {y : X} {xs : List X} → In x xs → In x (y ∷ xs)

-- from the form of the library
pub each_from_all : {X : Type 0} (P : X → Type 0) (xs : List X) → All P xs → Each P xs
each_from_all P [] h = empty
each_from_all P (x ∷ xs) h = more (All-head P x xs h) (each_from_all P xs (All-tail P x xs h))

-- and back
pub all_from_each : {X : Type 0} {P : X → Type 0} {xs : List X} → Each P xs → All P xs
all_from_each {P = P} empty = All-nil P
all_from_each {P = P} (more {x = x} {xs = xs} p ps) = All-cons P x xs p (all_from_each ps)

-- of the first
pub each_head : {X : Type 0} {P : X → Type 0} {x : X} {xs : List X} → Each P (x ∷ xs) → P x
each_head (more p ps) = p

-- of the others
pub each_tail : {X : Type 0} {P : X → Type 0} {x : X} {xs : List X} → Each P (x ∷ xs) → Each P xs
each_tail (more p ps) = ps

-- what follows from P
pub each_weaker : {X : Type 0} {P Q : X → Type 0} {xs : List X} → ((x : X) → P x → Q x) → Each P xs → Each Q xs
each_weaker f empty = empty
each_weaker f (more {x = x} p ps) = more (f x p) (each_weaker f ps)

-- two lists end to end
pub each_append : {X : Type 0} {P : X → Type 0} {xs ys : List X} → Each P xs → Each P ys → Each P (xs ++ ys)
each_append empty qs = qs
each_append (more p ps) qs = more p (each_append ps qs)

-- one more at the end
pub each_push : {X : Type 0} {P : X → Type 0} {xs : List X} {y : X} → Each P xs → P y → Each P (xs ++ (y ∷ []))
each_push ps q = each_append ps (more q empty)

-- the front of a list
pub each_left : {X : Type 0} {P : X → Type 0} (xs ys : List X) → Each P (xs ++ ys) → Each P xs
each_left [] ys h = empty
each_left (x ∷ xs) ys h = more (each_head h) (each_left xs ys (each_tail h))

-- the rest of a list
pub each_right : {X : Type 0} {P : X → Type 0} (xs ys : List X) → Each P (xs ++ ys) → Each P ys
each_right [] ys h = h
each_right (x ∷ xs) ys h = each_right xs ys (each_tail h)

-- the members of a map
pub each_map : {X Y : Type 0} (P : Y → Type 0) (f : X → Y) {xs : List X} → Each (λ x. P (f x)) xs → Each P (map f xs)
each_map P f empty = empty
each_map P f (more p ps) = more p (each_map P f ps)

-- at a member
pub each_in : {X : Type 0} {P : X → Type 0} {x : X} {xs : List X} → Each P xs → In x xs → P x
each_in ps here = each_head ps
each_in ps (there i) = each_in (each_tail ps) i

-- from what holds at every member
pub each_from_in : {X : Type 0} {P : X → Type 0} (xs : List X) → ((x : X) → In x xs → P x) → Each P xs
each_from_in [] f = empty
each_from_in (x ∷ xs) f = more (f x here) (each_from_in xs (λ y i. f y (there i)))

-- in the front
pub in_append_left : {X : Type 0} {x : X} {xs : List X} (ys : List X) → In x xs → In x (xs ++ ys)
in_append_left ys here = here
in_append_left ys (there i) = there (in_append_left ys i)

-- in the rest
pub in_append_right : {X : Type 0} {x : X} (xs : List X) {ys : List X} → In x ys → In x (xs ++ ys)
in_append_right [] i = i
in_append_right (y ∷ xs) i = there (in_append_right xs i)

-- the last one
pub in_push : {X : Type 0} {x : X} (xs : List X) → In x (xs ++ (x ∷ []))
in_push xs = in_append_right xs here

-- one place further on
in_deeper : {X : Type 0} {x : X} {xs ys : List X} (y : X) → In x xs ⊎ In x ys → In x (y ∷ xs) ⊎ In x ys
in_deeper y (inl j) = inl (there j)
in_deeper y (inr j) = inr j

-- in the front or in the rest
pub in_append_cases : {X : Type 0} {x : X} (xs ys : List X) → In x (xs ++ ys) → In x xs ⊎ In x ys
in_append_cases [] ys i = inr i
in_append_cases (y ∷ xs) ys here = inl here
in_append_cases (y ∷ xs) ys (there i) = in_deeper y (in_append_cases xs ys i)

-- the member at a place
in_at : {X : Type 0} (x : X) (ys : List X) (k : ℕ) → k < length ys → In (get_or ys k x) ys
in_at x [] k h = absurd (not-suc-le-zero h)
in_at x (y ∷ ys) zero h = here
in_at x (y ∷ ys) (suc k) h = there (in_at x ys k (le_of_suc-le-suc h))

-- from the form of the library
pub in_from_contains : {X : Type 0} {x : X} (xs : List X) → Contains xs x → In x xs
in_from_contains {x = x} xs (k, h, e) = subst (λ y. In y xs) e (in_at x xs k h)

-- one place further on
contains_deeper : {X : Type 0} {x : X} (y : X) (xs : List X) → Contains xs x → Contains (y ∷ xs) x
contains_deeper y xs c = (suc c.0, suc-le-suc c.1, c.2)

-- and back
pub contains_from_in : {X : Type 0} {x : X} {xs : List X} → In x xs → Contains xs x
contains_from_in here = (0, zero-lt-suc _, refl)
contains_from_in (there {y = y} {xs = xs} i) = contains_deeper y xs (contains_from_in i)
