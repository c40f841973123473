-- The heights of a degree above a base: those of the parts that are free may rise, and the others stay.
use Rattle.std.specs.Prelude.{ℤ, pos, negsuc, ◌+ℤ◌, ◌-ℤ◌, ◌≤ℤ◌, ◌<ℤ◌}
use Rattle.std.proofs.Common.{◌≡◌, ℕ, zero, suc, ◌+◌, ◌<◌, ◌⊎◌, inl, inr, Bool, true, false, List, [], ◌∷◌, ◌++◌, length, map, refl, sym, ap, subst, ◌∙◌, arith}
use Rattle.std.proofs.Common.{suc-le-suc, zero-lt-suc, le_of_suc-le-suc}
use Rattle.std.proofs.lemmas.List.{length-append, length-map}
use Rattle.lattice_theory.specs.Vector.{entry}
use Rattle.lattice_theory.specs.Order.{LexLess, Ascends, Lists}
use Rattle.lattice_theory.proofs.Integers.{linear}
use Rattle.lattice_theory.proofs.Members.{In, here, there, empty, all_from_each, in_append_left, in_append_right, in_append_cases, in_from_contains, contains_from_in}
use Rattle.lattice_theory.proofs.Sublists.{ascends_append, in_map, IsImage, from_map, ascends_map}
use Rattle.face_theory.specs.Sets.{in_set, set_size}
use Rattle.cayley_theory.specs.Counts.{sum_of}
use Rattle.cayley_theory.specs.Bases.{summed}

-- a stands above b, at the same height where a part isn't free, and in all d above it
pub record IsRaised (b : List ℤ) (free : List Bool) (d : ℕ) (a : List ℤ) : Type 0 where
  pub long : length a ≡ length b
  pub above : (j : ℕ) → j < length b → entry b j ≤ℤ entry a j
  pub fixed : (j : ℕ) → j < length b → in_set free j ≡ false → entry a j ≡ entry b j
  pub degree : sum_of a ≡ sum_of b +ℤ pos d

-- the lists that begin at b or above it, with what is left of d for the others
unfoldable pub rising : ℤ → (ℕ → List (List ℤ)) → ℕ → List (List ℤ)
rising b rows zero = map (λ a. b ∷ a) (rows zero)
rising b rows (suc d) = map (λ a. b ∷ a) (rows (suc d)) ++ rising (b +ℤ pos 1) rows d

unfoldable pub raised : List ℤ → List Bool → ℕ → List (List ℤ)
raised [] free zero = [] ∷ []
raised [] free (suc d) = []
raised (b ∷ bs) [] d = map (λ a. b ∷ a) (raised bs [] d)
raised (b ∷ bs) (false ∷ free) d = map (λ a. b ∷ a) (raised bs free d)
raised (b ∷ bs) (true ∷ free) d = rising b (raised bs free) d

-- p begins at b or above it, and the rest is one of the rows of what is left
record IsRisen (b : ℤ) (rows : ℕ → List (List ℤ)) (d : ℕ) (p : List ℤ) : Type 0 where
  up : ℕ
  left : ℕ
  whole : up + left ≡ d
  rest : List ℤ
  member : In rest (rows left)
  is : p ≡ (b +ℤ pos up) ∷ rest

at_once : (b : ℤ) (rows : ℕ → List (List ℤ)) (d : ℕ) (p : List ℤ) → IsImage (λ a. b ∷ a) (rows d) p → IsRisen b rows d p
at_once b rows d p i = record {
  up = 0;
  left = d;
  whole = omega arith;
  rest = i.source;
  member = i.member;
  is = i.is ∙ ap (λ (c : ℤ). c ∷ i.source) (omega (arith, linear));
}

one_up : (b : ℤ) (rows : ℕ → List (List ℤ)) (d : ℕ) (p : List ℤ) → IsRisen (b +ℤ pos 1) rows d p → IsRisen b rows (suc d) p
one_up b rows d p i = record {
  up = suc i.up;
  left = i.left;
  whole = let e = i.whole in omega arith;
  rest = i.rest;
  member = i.member;
  is = i.is ∙ ap (λ (c : ℤ). c ∷ i.rest) (omega (arith, linear));
}

from_rising : (b : ℤ) (rows : ℕ → List (List ℤ)) (d : ℕ) (p : List ℤ) → In p (rising b rows d) → IsRisen b rows d p
unfolding rising
from_rising b rows zero p i = at_once b rows zero p (from_map (λ a. b ∷ a) (rows zero) i)
from_rising b rows (suc d) p i =
    by (in_append_cases (map (λ a. b ∷ a) (rows (suc d))) (rising (b +ℤ pos 1) rows d) i) (from_rising (b +ℤ pos 1) rows d p)
  where
    by : In p (map (λ a. b ∷ a) (rows (suc d))) ⊎ In p (rising (b +ℤ pos 1) rows d)
        → (In p (rising (b +ℤ pos 1) rows d) → IsRisen (b +ℤ pos 1) rows d p) → IsRisen b rows (suc d) p
    by (inl j) below = at_once b rows (suc d) p (from_map (λ a. b ∷ a) (rows (suc d)) j)
    by (inr j) below = one_up b rows d p (below j)

in_rising : (b : ℤ) (rows : ℕ → List (List ℤ)) (d up left : ℕ) (c : ℤ) (rest : List ℤ) → up + left ≡ d → c ≡ b +ℤ pos up → In rest (rows left)
    → In (c ∷ rest) (rising b rows d)
unfolding rising
in_rising b rows zero zero left c rest e f i =
    let none : left ≡ zero = omega (arith, e) in
    let same : c ≡ b = omega (arith, linear, f) in
    rw same (in_map (λ a. b ∷ a) (subst (λ (k : ℕ). In rest (rows k)) none i))
in_rising b rows zero (suc up) left c rest e f i = absurd (omega (arith, e))
in_rising b rows (suc d) zero left c rest e f i =
    let all : left ≡ suc d = omega (arith, e) in
    let same : c ≡ b = omega (arith, linear, f) in
    in_append_left (rising (b +ℤ pos 1) rows d) (rw same (in_map (λ a. b ∷ a) (subst (λ (k : ℕ). In rest (rows k)) all i)))
in_rising b rows (suc d) (suc up) left c rest e f i =
    in_append_right (map (λ a. b ∷ a) (rows (suc d)))
    (in_rising (b +ℤ pos 1) rows d up left c rest (omega (arith, e)) (omega (arith, linear, f)) i)

-- they ascend where the rows do
first_before : (b : ℤ) (rows : ℕ → List (List ℤ)) (d : ℕ) (xs : List (List ℤ)) (p q : List ℤ) → IsImage (λ a. b ∷ a) xs p
    → IsRisen (b +ℤ pos 1) rows d q → LexLess p q
first_before b rows d xs p q f c =
    let less : b <ℤ (b +ℤ pos 1 +ℤ pos c.up) = omega (arith, linear) in
    rw (f.is, c.is) (inl less)

ascends_rising : (b : ℤ) (rows : ℕ → List (List ℤ)) (d : ℕ) → ((k : ℕ) → Ascends LexLess (rows k)) → Ascends LexLess (rising b rows d)
unfolding rising
ascends_rising b rows zero up = ascends_map LexLess LexLess (λ a. b ∷ a) (λ x y h. inr (refl, h)) (rows zero) (up zero)
ascends_rising b rows (suc d) up =
    ascends_append LexLess (map (λ a. b ∷ a) (rows (suc d))) (rising (b +ℤ pos 1) rows d)
    (ascends_map LexLess LexLess (λ a. b ∷ a) (λ x y h. inr (refl, h)) (rows (suc d)) (up (suc d)))
    (ascends_rising (b +ℤ pos 1) rows d up)
    (λ p q i j. first_before b rows d (rows (suc d)) p q (from_map (λ a. b ∷ a) (rows (suc d)) i) (from_rising (b +ℤ pos 1) rows d q j))

ascends_raised : (b : List ℤ) (free : List Bool) (d : ℕ) → Ascends LexLess (raised b free d)
unfolding raised
ascends_raised [] free zero = (all_from_each empty, tt)
ascends_raised [] free (suc d) = tt
ascends_raised (b ∷ bs) [] d = ascends_map LexLess LexLess (λ a. b ∷ a) (λ x y h. inr (refl, h)) (raised bs [] d) (ascends_raised bs [] d)
ascends_raised (b ∷ bs) (false ∷ free) d =
    ascends_map LexLess LexLess (λ a. b ∷ a) (λ x y h. inr (refl, h)) (raised bs free d) (ascends_raised bs free d)
ascends_raised (b ∷ bs) (true ∷ free) d = ascends_rising b (raised bs free) d (λ k. ascends_raised bs free k)

-- how many there are: the sums of 1, 0, 0, ..
unfoldable pub first_one : ℕ → ℕ
first_one zero = 1
first_one (suc k) = 0

length-rising : (b : ℤ) (rows : ℕ → List (List ℤ)) (d k : ℕ) → ((e : ℕ) → length (rows e) ≡ summed k first_one e)
    → length (rising b rows d) ≡ summed (suc k) first_one d
unfolding rising summed
length-rising b rows zero k h = length-map (rows zero) (λ a. b ∷ a) ∙ h zero
length-rising b rows (suc d) k h =
    let e = length-append (map (λ a. b ∷ a) (rows (suc d))) (rising (b +ℤ pos 1) rows d) in
    let f = length-map (rows (suc d)) (λ a. b ∷ a) ∙ h (suc d) in
    let g = length-rising (b +ℤ pos 1) rows d k h in
    omega (arith, e, f, g)

pub length-raised : (b : List ℤ) (free : List Bool) (d : ℕ) → length free ≡ length b → length (raised b free d) ≡ summed (set_size free) first_one d
unfolding raised summed first_one
length-raised [] [] zero e = refl
length-raised [] [] (suc d) e = refl
length-raised [] (f ∷ free) d e = absurd (omega arith)
length-raised (b ∷ bs) [] d e = absurd (omega arith)
length-raised (b ∷ bs) (false ∷ free) d e = length-map (raised bs free d) (λ a. b ∷ a) ∙ length-raised bs free d (omega arith)
length-raised (b ∷ bs) (true ∷ free) d e = length-rising b (raised bs free) d (set_size free) (λ k. length-raised bs free k (omega arith))

-- one more part
raised_fixed : (b : ℤ) (bs : List ℤ) (free : List Bool) (f : Bool) (d : ℕ) (a : List ℤ) → IsRaised bs free d a
    → IsRaised (b ∷ bs) (f ∷ free) d (b ∷ a)
raised_fixed b bs free f d a h = record { long = ap suc h.long; above = over; fixed = stays; degree = let e = h.degree in omega (arith, linear) }
  where
    over : (j : ℕ) → j < length (b ∷ bs) → entry (b ∷ bs) j ≤ℤ entry (b ∷ a) j
    over zero l = omega (arith, linear)
    over (suc j) l = h.above j (le_of_suc-le-suc l)

    stays : (j : ℕ) → j < length (b ∷ bs) → in_set (f ∷ free) j ≡ false → entry (b ∷ a) j ≡ entry (b ∷ bs) j
    stays zero l e = refl
    stays (suc j) l e = h.fixed j (le_of_suc-le-suc l) e

raised_risen : (b : ℤ) (bs : List ℤ) (free : List Bool) (up left d : ℕ) (a : List ℤ) → up + left ≡ d → IsRaised bs free left a
    → IsRaised (b ∷ bs) (true ∷ free) d ((b +ℤ pos up) ∷ a)
raised_risen b bs free up left d a e h = record { long = ap suc h.long; above = over; fixed = stays; degree = let f = h.degree in omega (arith, linear, e) }
  where
    over : (j : ℕ) → j < length (b ∷ bs) → entry (b ∷ bs) j ≤ℤ entry ((b +ℤ pos up) ∷ a) j
    over zero l = omega (arith, linear)
    over (suc j) l = h.above j (le_of_suc-le-suc l)

    stays : (j : ℕ) → j < length (b ∷ bs) → in_set (true ∷ free) j ≡ false → entry ((b +ℤ pos up) ∷ a) j ≡ entry (b ∷ bs) j
    stays zero l f = absurd (let g : true ≡ false = f in cc)
    stays (suc j) l f = h.fixed j (le_of_suc-le-suc l) f

-- past the end no part is free
pub from_raised : (b : List ℤ) (free : List Bool) (d : ℕ) (a : List ℤ) → length free ≡ length b → In a (raised b free d) → IsRaised b free d a
unfolding raised
from_raised [] free zero a e here = record {
  long = refl;
  above = λ j l. absurd (omega arith);
  fixed = λ j l f. absurd (omega arith);
  degree = refl;
}
from_raised [] free zero a e (there i) = elim i [ ]
from_raised [] free (suc d) a e i = elim i [ ]
from_raised (b ∷ bs) [] d a e i = absurd (omega arith)
from_raised (b ∷ bs) (false ∷ free) d a e i =
    let m = from_map (λ c. b ∷ c) (raised bs free d) i in
    rw m.is (raised_fixed b bs free false d m.source (from_raised bs free d m.source (omega arith) m.member))
from_raised (b ∷ bs) (true ∷ free) d a e i =
    let m = from_rising b (raised bs free) d a i in
    rw m.is (raised_risen b bs free m.up m.left d m.rest m.whole (from_raised bs free m.left m.rest (omega arith) m.member))

-- the heights of the other parts
others_raised : (b c : ℤ) (bs : List ℤ) (free : List Bool) (f : Bool) (d left : ℕ) (a : List ℤ) → IsRaised (b ∷ bs) (f ∷ free) d (c ∷ a)
    → c +ℤ pos left ≡ b +ℤ pos d → IsRaised bs free left a
others_raised b c bs free f d left a h e = record {
  long = let l = h.long in omega arith;
  above = λ j l. h.above (suc j) (suc-le-suc l);
  fixed = λ j l k. h.fixed (suc j) (suc-le-suc l) k;
  degree = let g = h.degree in omega (arith, linear);
}

-- sums above a base are no smaller
pub sum_above : (b a : List ℤ) → length a ≡ length b → ((j : ℕ) → j < length b → entry b j ≤ℤ entry a j) → sum_of b ≤ℤ sum_of a
sum_above [] [] e h = omega (arith, linear)
sum_above [] (c ∷ a) e h = absurd (omega arith)
sum_above (b ∷ bs) [] e h = absurd (omega arith)
sum_above (b ∷ bs) (c ∷ a) e h =
    let first : b ≤ℤ c = h 0 (zero-lt-suc _) in
    let rest = sum_above bs a (omega arith) (λ j l. h (suc j) (suc-le-suc l)) in
    omega (arith, linear, first, rest)

-- the difference of two integers in order
pub record IsStepUp (low high : ℤ) : Type 0 where
  pub up : ℕ
  pub is : high ≡ low +ℤ pos up

pub step_up : (low high : ℤ) → low ≤ℤ high → IsStepUp low high
step_up low high h = by (high -ℤ low) refl
  where
    by : (d : ℤ) → d ≡ high -ℤ low → IsStepUp low high
    by (pos n) e = record { up = n; is = omega (arith, linear) }
    by (negsuc n) e = absurd (omega (arith, linear))

pub in_raised : (b : List ℤ) (free : List Bool) (d : ℕ) (a : List ℤ) → length free ≡ length b → IsRaised b free d a → In a (raised b free d)
unfolding raised
in_raised [] free zero [] e h = here
in_raised [] free (suc d) [] e h = absurd (let f : pos 0 ≡ pos 0 +ℤ pos (suc d) = h.degree in omega (arith, linear))
in_raised [] free d (c ∷ a) e h = absurd (let f = h.long in omega arith)
in_raised (b ∷ bs) free d [] e h = absurd (let f = h.long in omega arith)
in_raised (b ∷ bs) [] d (c ∷ a) e h = absurd (omega arith)
in_raised (b ∷ bs) (false ∷ free) d (c ∷ a) e h =
    let same : c ≡ b = h.fixed 0 (zero-lt-suc _) refl in
    rw same (in_map (λ z. b ∷ z) (in_raised bs free d a (omega arith) (others_raised b c bs free false d d a h (omega (arith, linear, same)))))
in_raised (b ∷ bs) (true ∷ free) d (c ∷ a) e h =
    let first : b ≤ℤ c = h.above 0 (zero-lt-suc _) in
    let rest = sum_above bs a (let l = h.long in omega arith) (λ j l. h.above (suc j) (suc-le-suc l)) in
    let sums : c +ℤ sum_of a ≡ (b +ℤ sum_of bs) +ℤ pos d = h.degree in
    let up = step_up b c first in
    let left = step_up c (b +ℤ pos d) (omega (arith, linear, rest, sums)) in
    in_rising b (raised bs free) d up.up left.up c a (omega (arith, linear, up.is, left.is)) up.is
    (in_raised bs free left.up a (omega arith) (others_raised b c bs free true d left.up a h (sym left.is)))

pub raised_lists : (b : List ℤ) (free : List Bool) (d : ℕ) → length free ≡ length b → Lists LexLess (IsRaised b free d) (raised b free d)
raised_lists b free d e = record {
  ascends = ascends_raised b free d;
  members = λ a. (λ c. from_raised b free d a e (in_from_contains _ c), λ h. contains_from_in (in_raised b free d a e h));
}
