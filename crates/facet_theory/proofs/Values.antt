-- The values of a linear function, a vector f, at the vectors of a list S:
-- where they are nonnegative, where they are 0, and at how many they aren't.
use Rattle.std.proofs.Common.{◌≡◌, ◌≢◌, ℕ, zero, suc, ◌+◌, ◌<◌, ◌≤◌, List, [], ◌∷◌, length, ℤ, pos, negsuc, ◌+ℤ◌, ◌*ℤ◌, ◌≤ℤ◌, ◌⊎◌, inl, inr, refl, arith}
use Rattle.lattice_theory.specs.Vector.{dot}
use Rattle.lattice_theory.proofs.Integers.{products_out, linear, zero_or_not}
use Rattle.lattice_theory.proofs.Members.{In, here, there, Each, more}

-- a vector of entries 0 pairs to 0
pub dot-zero : (x y : List ℤ) → Each (λ a. a ≡ pos 0) x → dot x y ≡ pos 0
dot-zero [] y h = refl
dot-zero (a ∷ x) [] h = refl
dot-zero (a ∷ x) (b ∷ y) (more e es) = zero_first a b (dot x y) e (dot-zero x y es)
  where
    zero_first : (a b c : ℤ) → a ≡ pos 0 → c ≡ pos 0 → a *ℤ b +ℤ c ≡ pos 0
    zero_first a b c e e' = rw (e, e') (simp products_out)

-- f is nonnegative on S
pub record IsAbove (S : List (List ℤ)) (f : List ℤ) : Type 0 where
  pub at : (v : List ℤ) → In v S → pos 0 ≤ℤ dot f v

-- u is 0 at each vector of S at which f is 0
pub record VanishesAlong (S : List (List ℤ)) (f u : List ℤ) : Type 0 where
  pub at : (v : List ℤ) → In v S → dot f v ≡ pos 0 → dot u v ≡ pos 0

-- S has m coordinates and spans: only 0 vanishes on it
pub record IsSolid (m : ℕ) (S : List (List ℤ)) : Type 0 where
  pub only_zero : (g : List ℤ) → length g ≡ m → ((v : List ℤ) → In v S → dot g v ≡ pos 0) → (y : List ℤ) → dot g y ≡ pos 0

-- 1 where the number isn't 0
abbrev pub counted : ℤ → ℕ
counted (pos zero) = 0
counted (pos (suc n)) = 1
counted (negsuc n) = 1

-- at how many vectors of S the function f isn't 0
abbrev pub nonzeros : List (List ℤ) → List ℤ → ℕ
nonzeros [] f = 0
nonzeros (v ∷ S) f = counted (dot f v) + nonzeros S f

-- what it counts
counted_is : (a : ℤ) → (a ≡ pos 0 → counted a ≡ 0) × (a ≢ pos 0 → counted a ≡ 1) × (counted a ≤ 1)
counted_is (pos zero) = ((λ e. refl), (λ h. absurd (h refl)), omega arith)
counted_is (pos (suc n)) = ((λ e. absurd (omega (arith, linear))), (λ h. refl), omega arith)
counted_is (negsuc n) = ((λ e. absurd (omega (arith, linear))), (λ h. refl), omega arith)

-- a number that is 0 with another counts no more
counted_le : (a b : ℤ) → (a ≡ pos 0 → b ≡ pos 0) → counted b ≤ counted a
counted_le a b h = by (zero_or_not a)
  where
    by : (a ≡ pos 0) ⊎ (a ≢ pos 0) → counted b ≤ counted a
    by (inl e) = omega (arith, (counted_is b).0 (h e))
    by (inr n) = omega (arith, (counted_is a).1 n, (counted_is b).2)

-- a function that is 0 along f is 0 at as many vectors, at least
pub nonzeros_le : (S : List (List ℤ)) (f u : List ℤ) → VanishesAlong S f u → nonzeros S u ≤ nonzeros S f
nonzeros_le [] f u h = omega arith
nonzeros_le (v ∷ S) f u h = omega (
  arith,
  counted_le (dot f v) (dot u v) (h.at v here),
  nonzeros_le S f u (record { at = λ w i. h.at w (there i) }),
)

-- and at more of them, where it is 0 at some vector at which f isn't
pub nonzeros_lt : (S : List (List ℤ)) (f u : List ℤ) → VanishesAlong S f u → (s : List ℤ) → In s S → dot f s ≢ pos 0 → dot u s ≡ pos 0
    → nonzeros S u < nonzeros S f
nonzeros_lt [] f u h s i n e = elim i [ ]
nonzeros_lt (v ∷ S) f u h s here n e = omega (
  arith,
  (counted_is (dot f s)).1 n,
  (counted_is (dot u s)).0 e,
  nonzeros_le S f u (record { at = λ w i. h.at w (there i) }),
)
nonzeros_lt (v ∷ S) f u h s (there i) n e = omega (
  arith,
  counted_le (dot f v) (dot u v) (h.at v here),
  nonzeros_lt S f u
      (record { at = λ w j. h.at w (there j) }) s i n e,
)

-- some vector at which a function isn't 0
pub record Nonzero (S : List (List ℤ)) (f : List ℤ) : Type 0 where
  pub place : List ℤ
  pub inside : In place S
  pub nonzero : dot f place ≢ pos 0

-- f is 0 on S, or somewhere not
pub find_nonzero : (S : List (List ℤ)) (f : List ℤ) → ((v : List ℤ) → In v S → dot f v ≡ pos 0) ⊎ Nonzero S f
find_nonzero [] f = inl (λ v i. elim i [ ])
find_nonzero (v ∷ S) f = by (zero_or_not (dot f v)) (find_nonzero S f)
  where
    all : dot f v ≡ pos 0 → ((w : List ℤ) → In w S → dot f w ≡ pos 0) → (w : List ℤ) → In w (v ∷ S) → dot f w ≡ pos 0
    all e h w here = e
    all e h w (there i) = h w i

    by : (dot f v ≡ pos 0) ⊎ (dot f v ≢ pos 0) → ((w : List ℤ) → In w S → dot f w ≡ pos 0) ⊎ Nonzero S f
        → ((w : List ℤ) → In w (v ∷ S) → dot f w ≡ pos 0) ⊎ Nonzero (v ∷ S) f
    by (inr n) r = inr (record { place = v; inside = here; nonzero = n })
    by (inl e) (inl h) = inl (all e h)
    by (inl e) (inr n) = inr (record { place = n.place; inside = there n.inside; nonzero = n.nonzero })

-- the vectors of S at which f is 0, as a list
pub record ZerosOf (S : List (List ℤ)) (f : List ℤ) : Type 0 where
  pub list : List (List ℤ)
  pub among : (v : List ℤ) → In v list → In v S
  pub zero : (v : List ℤ) → In v list → dot f v ≡ pos 0
  pub all : (v : List ℤ) → In v S → dot f v ≡ pos 0 → In v list

-- by the test at each vector
pub zeros_of : (S : List (List ℤ)) (f : List ℤ) → ZerosOf S f
zeros_of [] f = record { list = []; among = λ v i. i; zero = λ v i. elim i [ ]; all = λ v i e. i }
zeros_of (v ∷ S) f = by (zeros_of S f) (zero_or_not (dot f v))
  where
    zero : (z : ZerosOf S f) → dot f v ≡ pos 0 → (w : List ℤ) → In w (v ∷ z.list) → dot f w ≡ pos 0
    zero z e w here = e
    zero z e w (there i) = z.zero w i

    among : (z : ZerosOf S f) (w : List ℤ) → In w (v ∷ z.list) → In w (v ∷ S)
    among z w here = here
    among z w (there i) = there (z.among w i)

    all : (z : ZerosOf S f) (w : List ℤ) → In w (v ∷ S) → dot f w ≡ pos 0 → In w (v ∷ z.list)
    all z w here e = here
    all z w (there i) e = there (z.all w i e)

    others : (z : ZerosOf S f) → dot f v ≢ pos 0 → (w : List ℤ) → In w (v ∷ S) → dot f w ≡ pos 0 → In w z.list
    others z n w here e = absurd (n e)
    others z n w (there i) e = z.all w i e

    by : ZerosOf S f → (dot f v ≡ pos 0) ⊎ (dot f v ≢ pos 0) → ZerosOf (v ∷ S) f
    by z (inl e) = record { list = v ∷ z.list; among = among z; zero = zero z e; all = all z }
    by z (inr n) = record { list = z.list; among = λ w i. there (z.among w i); zero = z.zero; all = others z n }
