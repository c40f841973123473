-- Lists in ascending order, what a test keeps of a list, and the members of a map.
use Rattle.std.specs.List.{filter, list_all}
use Rattle.std.proofs.Common.{◌≡◌, Bool, true, false, cond, List, [], ◌∷◌, ◌++◌, map, refl, ap}
use Rattle.std.proofs.lemmas.Bool.{and_parts, and_from}
use Rattle.lattice_theory.specs.Order.{Ascends}
use Rattle.lattice_theory.proofs.Members.{Each, empty, more, In, here, there, each_from_all, all_from_each, each_append, each_from_in, each_in, each_map, each_weaker}

-- a member that passes the test is kept
kept_head : {X : Type 0} (test : X → Bool) (x : X) (xs : List X) (b : Bool) → test x ≡ b → b ≡ true
    → In x (cond b (x ∷ filter test xs) (filter test xs))
kept_head test x xs true e p = here
kept_head test x xs false e p = cc

-- what is kept of the rest is kept
kept_tail : {X : Type 0} {x : X} (y : X) (ys : List X) (b : Bool) → In x ys → In x (cond b (y ∷ ys) ys)
kept_tail y ys true i = there i
kept_tail y ys false i = i

-- so each member that passes is among what is kept
pub in_filter : {X : Type 0} {x : X} (test : X → Bool) (xs : List X) → In x xs → test x ≡ true → In x (filter test xs)
in_filter test [] i p = elim i [ ]
in_filter test (x ∷ xs) here p = kept_head test x xs (test x) refl p
in_filter test (y ∷ xs) (there i) p = kept_tail y (filter test xs) (test y) (in_filter test xs i p)

-- a member that is kept passes the test
pub record IsKept {X : Type 0} (test : X → Bool) (x : X) (xs : List X) : Type 0 where
  pub member : In x xs
  pub passes : test x ≡ true

-- the same in a longer list
deeper : {X : Type 0} {test : X → Bool} {x : X} {xs : List X} (y : X) → IsKept test x xs → IsKept test x (y ∷ xs)
deeper y k = record { member = there k.member; passes = k.passes }

-- by whether the first member passes
split_head : {X : Type 0} {x : X} (test : X → Bool) (y : X) (xs ys : List X) (b : Bool) → test y ≡ b → ((i : In x ys) → IsKept test x xs)
    → In x (cond b (y ∷ ys) ys) → IsKept test x (y ∷ xs)
split_head test y xs ys true e below here = record { member = here; passes = e }
split_head test y xs ys true e below (there i) = deeper y (below i)
split_head test y xs ys false e below i = deeper y (below i)

-- each member of what is kept is such a member
pub from_filter : {X : Type 0} {x : X} (test : X → Bool) (xs : List X) → In x (filter test xs) → IsKept test x xs
from_filter test [] i = elim i [ ]
from_filter test (y ∷ xs) i = split_head test y xs (filter test xs) (test y) refl (from_filter test xs) i

-- what is kept of an ascending list ascends
ascends_kept : {X : Type 0} (less : X → X → Type 0) (x : X) (xs : List X) (b : Bool) → Each (less x) xs → Ascends less xs
    → Ascends less (cond b (x ∷ xs) xs)
ascends_kept less x xs true each a = (all_from_each each, a)
ascends_kept less x xs false each a = a

-- of the whole list
pub ascends_filter : {X : Type 0} (less : X → X → Type 0) (test : X → Bool) (xs : List X) → Ascends less xs → Ascends less (filter test xs)
ascends_filter less test [] a = tt
ascends_filter less test (x ∷ xs) a =
    ascends_kept less x (filter test xs) (test x)
    (each_from_in (filter test xs) (λ y i. each_in (each_from_all (less x) xs a.0) (from_filter test xs i).member))
    (ascends_filter less test xs a.1)

-- two ascending lists end to end, where each member of the first comes before each of the second
pub ascends_append : {X : Type 0} (less : X → X → Type 0) (xs ys : List X) → Ascends less xs → Ascends less ys
    → ((x y : X) → In x xs → In y ys → less x y) → Ascends less (xs ++ ys)
ascends_append less [] ys a b cross = b
ascends_append less (x ∷ xs) ys a b cross = (
  all_from_each (each_append (each_from_all (less x) xs a.0) (each_from_in ys (λ y i. cross x y here i))),
  ascends_append less xs ys a.1 b (λ x' y i j. cross x' y (there i) j),
)

-- a test of all members: where all pass, each does
pub each_passes : {X : Type 0} (test : X → Bool) (xs : List X) → list_all test xs ≡ true → Each (λ x. test x ≡ true) xs
each_passes test [] e = empty
each_passes test (x ∷ xs) e = let t = and_parts (test x) (list_all test xs) e in more t.0 (each_passes test xs t.1)

-- and back
pub all_pass : {X : Type 0} (test : X → Bool) (xs : List X) → Each (λ x. test x ≡ true) xs → list_all test xs ≡ true
all_pass test [] empty = refl
all_pass test (x ∷ xs) (more p ps) = and_from (test x) (list_all test xs) p (all_pass test xs ps)

-- a test of two lists end to end
kept : {X : Type 0} (b : Bool) (x : X) (all front back : List X) → all ≡ front ++ back
    → cond b (x ∷ all) all ≡ cond b (x ∷ front) front ++ back
kept true x all front back e = ap (λ zs. x ∷ zs) e
kept false x all front back e = e

-- what is kept of both
pub filter-append : {X : Type 0} (test : X → Bool) (xs ys : List X) → filter test (xs ++ ys) ≡ filter test xs ++ filter test ys
filter-append test [] ys = refl
filter-append test (x ∷ xs) ys = kept (test x) x (filter test (xs ++ ys)) (filter test xs) (filter test ys) (filter-append test xs ys)

-- the members of a map
pub in_map : {X Y : Type 0} {x : X} {xs : List X} (f : X → Y) → In x xs → In (f x) (map f xs)
in_map f here = here
in_map f (there i) = there (in_map f i)

-- y is the image of a member
pub record IsImage {X Y : Type 0} (f : X → Y) (xs : List X) (y : Y) : Type 0 where
  pub source : X
  pub member : In source xs
  pub is : y ≡ f source

-- the same of a longer list
further : {X Y : Type 0} {f : X → Y} {xs : List X} {y : Y} (x : X) → IsImage f xs y → IsImage f (x ∷ xs) y
further x i = record { source = i.source; member = there i.member; is = i.is }

-- each member of the map is such an image
pub from_map : {X Y : Type 0} {y : Y} (f : X → Y) (xs : List X) → In y (map f xs) → IsImage f xs y
from_map f [] i = elim i [ ]
from_map f (x ∷ xs) here = record { source = x; member = here; is = refl }
from_map f (x ∷ xs) (there i) = further x (from_map f xs i)

-- a map that keeps the order keeps an ascending list ascending
pub ascends_map : {X Y : Type 0} (less : X → X → Type 0) (below : Y → Y → Type 0) (f : X → Y) → ((x y : X) → less x y → below (f x) (f y))
    → (xs : List X) → Ascends less xs → Ascends below (map f xs)
ascends_map less below f keeps [] a = tt
ascends_map less below f keeps (x ∷ xs) a = (
  all_from_each (each_map (below (f x)) f (each_weaker (keeps x) (each_from_all (less x) xs a.0))),
  ascends_map less below f keeps xs a.1,
)
