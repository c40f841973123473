-- Sets of numbers: when they are the same, what they have in common, sizes, and tests of all numbers below a bound.
use Rattle.std.proofs.Common.{◌≡◌, ℕ, zero, suc, ◌<◌, ◌≤◌, Bool, true, false, not, ◌&&◌, ◌||◌, List, [], ◌∷◌, length, ◌⊎◌, inl, inr, ⊎_elim, refl, sym, ap, ap₂, subst, arith, le_of_suc-le-suc, not-suc-le-zero}
use Rattle.std.proofs.lemmas.Bool.{cases_lt, cases_Bool, and_parts, and_from}
use Rattle.face_theory.specs.Sets.{in_set, IsPart, IsProperPart, numbers_with, common, set_size, is_same, is_part}

-- the two truth values differ
pub true_false : {b : Bool} → b ≡ true → b ≡ false → ⊥
true_false e f = cc

-- two tests that pass together are the same
pub same_test : (x y : Bool) → (x ≡ true → y ≡ true) → (y ≡ true → x ≡ true) → x ≡ y
same_test true y f g = sym (f refl)
same_test false true f g = g refl
same_test false false f g = refl

-- past the end there is nothing
pub in_set_width : (row : List Bool) (i : ℕ) → in_set row i ≡ true → i < length row
in_set_width [] i e = absurd (true_false e refl)
in_set_width (b ∷ row) zero e = omega arith
in_set_width (b ∷ row) (suc i) e = let h = in_set_width row i e in omega arith

-- sets of one width that have the same numbers are the same
pub set_from_members : (a b : List Bool) → length a ≡ length b → ((i : ℕ) → in_set a i ≡ in_set b i) → a ≡ b
set_from_members [] [] e f = refl
set_from_members [] (y ∷ b) e f = absurd (omega arith)
set_from_members (x ∷ a) [] e f = absurd (omega arith)
set_from_members (x ∷ a) (y ∷ b) e f = ap₂ (λ (z : Bool) (c : List Bool). z ∷ c) (f 0)
    (set_from_members a b (omega arith) (λ i. f (suc i)))

-- sets of one width that are within each other are the same
pub same_from_parts : (a b : List Bool) → length a ≡ length b → IsPart a b → IsPart b a → a ≡ b
same_from_parts a b e f g = set_from_members a b e (λ i. same_test (in_set a i) (in_set b i) (f i) (g i))

-- the numbers that pass a test
pub length-numbers_with : (n : ℕ) (test : ℕ → Bool) → length (numbers_with n test) ≡ n
length-numbers_with zero test = refl
length-numbers_with (suc n) test = ap suc (length-numbers_with n (λ i. test (suc i)))

pub in_set-numbers_with : (n : ℕ) (test : ℕ → Bool) (i : ℕ) → i < n → in_set (numbers_with n test) i ≡ test i
in_set-numbers_with zero test i h = absurd (not-suc-le-zero h)
in_set-numbers_with (suc n) test zero h = refl
in_set-numbers_with (suc n) test (suc i) h = in_set-numbers_with n (λ j. test (suc j)) i (le_of_suc-le-suc h)

-- what two sets have in common
and_false : (x : Bool) → (x && false) ≡ false
and_false true = refl
and_false false = refl

pub in_set-common : (a b : List Bool) (i : ℕ) → in_set (common a b) i ≡ (in_set a i && in_set b i)
in_set-common [] b i = refl
in_set-common (x ∷ a) [] i = sym (and_false (in_set (x ∷ a) i))
in_set-common (x ∷ a) (y ∷ b) zero = refl
in_set-common (x ∷ a) (y ∷ b) (suc i) = in_set-common a b i

pub length-common : (a b : List Bool) → length a ≡ length b → length (common a b) ≡ length a
length-common [] b e = refl
length-common (x ∷ a) [] e = absurd (omega arith)
length-common (x ∷ a) (y ∷ b) e = ap suc (length-common a b (omega arith))

-- a test of all numbers below n
pub record Fails (n : ℕ) (test : ℕ → Bool) : Type 0 where
  pub place : ℕ
  pub within : place < n
  pub fails : test place ≡ false

deeper : {n : ℕ} (test : ℕ → Bool) → Fails n (λ i. test (suc i)) → Fails (suc n) test
deeper test h = record { place = suc h.place; within = let w = h.within in omega arith; fails = h.fails }

later : (n : ℕ) (test : ℕ → Bool) → test 0 ≡ true → ((i : ℕ) → i < n → test (suc i) ≡ true) → (i : ℕ) → i < suc n → test i ≡ true
later n test e f zero h = e
later n test e f (suc i) h = f i (le_of_suc-le-suc h)

pub fails_or_all : (n : ℕ) (test : ℕ → Bool) → Fails n test ⊎ ((i : ℕ) → i < n → test i ≡ true)
fails_or_all zero test = inr (λ i h. absurd (not-suc-le-zero h))
fails_or_all (suc n) test = ⊎_elim
    (λ (e : test 0 ≡ true). ⊎_elim (λ (x : Fails n (λ i. test (suc i))). inl (deeper test x))
    (λ (f : (i : ℕ) → i < n → test (suc i) ≡ true). inr (later n test e f)) (fails_or_all n (λ i. test (suc i))))
    (λ (e : test 0 ≡ false). inl (record { place = 0; within = omega arith; fails = e }))
    (cases_Bool (test 0))

-- an implication of tests
pub implied : (x y : Bool) → (not x || y) ≡ true → x ≡ true → y ≡ true
implied true y h e = h
implied false y h e = absurd (true_false e refl)

pub implies : (x y : Bool) → (x ≡ true → y ≡ true) → (not x || y) ≡ true
implies true y f = f refl
implies false y f = refl

pub not_implied : (x y : Bool) → (not x || y) ≡ false → (x ≡ true) × (y ≡ false)
not_implied true y h = (refl, h)
not_implied false y h = absurd (true_false refl h)

-- a number that the larger set has and the smaller one hasn't
pub record IsMissing (small large : List Bool) (i : ℕ) : Type 0 where
  pub in_large : in_set large i ≡ true
  pub not_in_small : in_set small i ≡ false

missing_by : (small large : List Bool) → length small ≡ length large → IsProperPart small large
    → Fails (length large) (λ i. not (in_set large i) || in_set small i) ⊎
    ((i : ℕ) → i < length large → (not (in_set large i) || in_set small i) ≡ true)
    → (i : ℕ) × IsMissing small large i
missing_by small large e below (inl x) = let p = not_implied (in_set large x.place) (in_set small x.place) x.fails in
    (x.place, record { in_large = p.0; not_in_small = p.1 })
missing_by small large e below (inr all) =
    absurd (below.1 (same_from_parts small large e below.0
    (λ i h. implied (in_set large i) (in_set small i) (all i (in_set_width large i h)) h)))

pub missing : (small large : List Bool) → length small ≡ length large → IsProperPart small large → (i : ℕ) × IsMissing small large i
missing small large e below = missing_by small large e below (fails_or_all (length large) (λ i. not (in_set large i) || in_set small i))

-- the tests
pub is_same-true : (a b : List Bool) → is_same a b ≡ true → a ≡ b
is_same-true [] [] e = refl
is_same-true [] (y ∷ b) e = absurd (true_false e refl)
is_same-true (x ∷ a) [] e = absurd (true_false e refl)
is_same-true (true ∷ a) (true ∷ b) e = ap (λ (c : List Bool). true ∷ c) (is_same-true a b e)
is_same-true (true ∷ a) (false ∷ b) e = absurd (true_false e refl)
is_same-true (false ∷ a) (true ∷ b) e = absurd (true_false e refl)
is_same-true (false ∷ a) (false ∷ b) e = ap (λ (c : List Bool). false ∷ c) (is_same-true a b e)

pub is_same_refl : (a : List Bool) → is_same a a ≡ true
is_same_refl [] = refl
is_same_refl (true ∷ a) = is_same_refl a
is_same_refl (false ∷ a) = is_same_refl a

pub is_part-true : (a b : List Bool) → is_part a b ≡ true → IsPart a b
is_part-true [] b e i h = absurd (true_false h refl)
is_part-true (x ∷ a) [] e zero h = implied x false
    (subst (λ (z : Bool). z ≡ true) (sym (or_false (not x))) (and_parts (not x) (is_part a []) e).0) h
  where
    or_false : (z : Bool) → (z || false) ≡ z
    or_false true = refl
    or_false false = refl
is_part-true (x ∷ a) [] e (suc i) h = absurd (true_false (is_part-true a [] (and_parts (not x) (is_part a []) e).1 i h) refl)
is_part-true (x ∷ a) (y ∷ b) e zero h = implied x y (and_parts (not x || y) (is_part a b) e).0 h
is_part-true (x ∷ a) (y ∷ b) e (suc i) h = is_part-true a b (and_parts (not x || y) (is_part a b) e).1 i h

pub part-true : (a b : List Bool) → length a ≡ length b → IsPart a b → is_part a b ≡ true
part-true [] b l f = refl
part-true (x ∷ a) [] l f = absurd (omega arith)
part-true (x ∷ a) (y ∷ b) l f = and_from (not x || y) (is_part a b) (implies x y (f 0)) (part-true a b (omega arith) (λ i. f (suc i)))

-- a part has no more numbers, and fewer where it is a proper one
pub size_within : (a b : List Bool) → length a ≡ length b → IsPart a b → set_size a ≤ set_size b
size_within [] b l f = omega arith
size_within (x ∷ a) [] l f = absurd (omega arith)
size_within (true ∷ a) (true ∷ b) l f = let h = size_within a b (omega arith) (λ i. f (suc i)) in omega arith
size_within (true ∷ a) (false ∷ b) l f = absurd (true_false (f 0 refl) refl)
size_within (false ∷ a) (true ∷ b) l f = let h = size_within a b (omega arith) (λ i. f (suc i)) in omega arith
size_within (false ∷ a) (false ∷ b) l f = size_within a b (omega arith) (λ i. f (suc i))

same_from_size : (a b : List Bool) → length a ≡ length b → IsPart a b → set_size b ≤ set_size a → a ≡ b
same_from_size [] [] l f c = refl
same_from_size [] (y ∷ b) l f c = absurd (omega arith)
same_from_size (x ∷ a) [] l f c = absurd (omega arith)
same_from_size (true ∷ a) (true ∷ b) l f c = ap (λ (r : List Bool). true ∷ r)
    (same_from_size a b (omega arith) (λ i. f (suc i)) (omega arith))
same_from_size (true ∷ a) (false ∷ b) l f c = absurd (true_false (f 0 refl) refl)
same_from_size (false ∷ a) (true ∷ b) l f c = let h = size_within a b (omega arith) (λ i. f (suc i)) in absurd (omega arith)
same_from_size (false ∷ a) (false ∷ b) l f c = ap (λ (r : List Bool). false ∷ r) (same_from_size a b (omega arith) (λ i. f (suc i)) c)

pub size_below : (a b : List Bool) → length a ≡ length b → IsProperPart a b → set_size a < set_size b
size_below a b l h = ⊎_elim
    (λ (c : set_size a < set_size b). c)
    (λ (c : set_size b ≤ set_size a). absurd (h.1 (same_from_size a b l h.0 c)))
    (cases_lt (set_size a) (set_size b))
