-- The vectors of a box as a list: its members, and its order.
use Rattle.std.specs.Prelude.{ℤ, pos, negsuc, ◌+ℤ◌, ◌-ℤ◌, ◌≤ℤ◌, ◌<ℤ◌}
use Rattle.std.proofs.Common.{◌≡◌, ℕ, zero, suc, ◌<◌, ◌⊎◌, inl, inr, List, [], ◌∷◌, ◌++◌, length, map, refl, ap, arith}
use Rattle.std.proofs.Common.{suc-le-suc, zero-lt-suc, le_of_suc-le-suc}
use Rattle.std.proofs.lemmas.Int.{ints}
use Rattle.lattice_theory.specs.Vector.{entry}
use Rattle.lattice_theory.specs.Order.{LexLess, Ascends, Lists}
use Rattle.lattice_theory.specs.Grid.{natural_part, columns, grid, IsInBox}
use Rattle.lattice_theory.proofs.Integers.{positive_or_not}
use Rattle.lattice_theory.proofs.Members.{In, here, there, empty, all_from_each, in_append_left, in_append_right, in_append_cases}
use Rattle.lattice_theory.proofs.Members.{in_from_contains, contains_from_in}
use Rattle.lattice_theory.proofs.Sublists.{ascends_append, in_map, IsImage, from_map, ascends_map}

-- what is within so many steps
part_above : (d a b c : ℤ) → d ≡ b -ℤ a → a ≤ℤ c → c <ℤ b → c <ℤ (a +ℤ pos (natural_part d))
part_above (pos n) a b c e h k = omega (arith, ints)
part_above (negsuc n) a b c e h k = absurd (omega (arith, ints))

-- and back
part_below : (d a b c : ℤ) → d ≡ b -ℤ a → a ≤ℤ c → c <ℤ (a +ℤ pos (natural_part d)) → c <ℤ b
part_below (pos n) a b c e h k = omega (arith, ints)
part_below (negsuc n) a b c e h k = absurd (omega (arith, ints))

-- p is one of the vectors of some columns
record IsColumnPoint (a : ℤ) (k : ℕ) (rows : List (List ℤ)) (p : List ℤ) : Type 0 where
  head : ℤ
  rest : List ℤ
  low : a ≤ℤ head
  high : head <ℤ (a +ℤ pos k)
  member : In rest rows
  is : p ≡ head ∷ rest

-- a vector of the first column
first_column : {a : ℤ} {rows : List (List ℤ)} {p : List ℤ} (k : ℕ) → IsImage (λ y. a ∷ y) rows p → IsColumnPoint a (suc k) rows p
first_column {a = a} k i = record {
  head = a;
  rest = i.source;
  low = omega (arith, ints);
  high = omega (arith, ints);
  member = i.member;
  is = i.is;
}

-- a vector of a later column
later_column : {a : ℤ} {rows : List (List ℤ)} {p : List ℤ} (k : ℕ) → IsColumnPoint (a +ℤ pos 1) k rows p → IsColumnPoint a (suc k) rows p
later_column {a = a} k c =
    let low = c.low in
    let high = c.high in
    record { head = c.head; rest = c.rest; low = omega (arith, ints, low); high = omega (arith, ints, high); member = c.member; is = c.is }

-- each member of the columns is such a vector
from_columns : {p : List ℤ} (a : ℤ) (k : ℕ) (rows : List (List ℤ)) → In p (columns a k rows) → IsColumnPoint a k rows p
unfolding columns
from_columns a zero rows i = elim i [ ]
from_columns a (suc k) rows i =
    cases (in_append_cases (map (λ y. a ∷ y) rows) (columns (a +ℤ pos 1) k rows) i) (from_columns (a +ℤ pos 1) k rows)
  where
    cases : {p : List ℤ} → In p (map (λ y. a ∷ y) rows) ⊎ In p (columns (a +ℤ pos 1) k rows)
        → (In p (columns (a +ℤ pos 1) k rows) → IsColumnPoint (a +ℤ pos 1) k rows p) → IsColumnPoint a (suc k) rows p
    cases (inl j) below = first_column k (from_map (λ y. a ∷ y) rows j)
    cases (inr j) below = later_column k (below j)

-- a head is the first one or a later one
first_or_later : (a c : ℤ) → a ≤ℤ c → (c ≡ a) ⊎ ((a +ℤ pos 1) ≤ℤ c)
first_or_later a c h = by (positive_or_not (c -ℤ a))
  where
    by : (pos 0 <ℤ (c -ℤ a)) ⊎ ((c -ℤ a) ≤ℤ pos 0) → (c ≡ a) ⊎ ((a +ℤ pos 1) ≤ℤ c)
    by (inl p) = inr (omega (arith, ints))
    by (inr p) = inl (omega (arith, ints))

-- each such vector is a member
in_columns : {y : List ℤ} (a c : ℤ) (k : ℕ) (rows : List (List ℤ)) → a ≤ℤ c → c <ℤ (a +ℤ pos k) → In y rows → In (c ∷ y) (columns a k rows)
unfolding columns
in_columns a c zero rows l h i = absurd (omega (arith, ints))
in_columns {y = y} a c (suc k) rows l h i =
    cases (first_or_later a c l) (λ later. in_columns (a +ℤ pos 1) c k rows later (omega (arith, ints, h)) i)
  where
    cases : (c ≡ a) ⊎ ((a +ℤ pos 1) ≤ℤ c) → ((a +ℤ pos 1) ≤ℤ c → In (c ∷ y) (columns (a +ℤ pos 1) k rows))
        → In (c ∷ y) (map (λ z. a ∷ z) rows ++ columns (a +ℤ pos 1) k rows)
    cases (inl e) below = in_append_left (columns (a +ℤ pos 1) k rows) (rw e (in_map (λ z. a ∷ z) i))
    cases (inr later) below = in_append_right (map (λ z. a ∷ z) rows) (below later)

-- columns ascend where their row does
first_before : (a : ℤ) (k : ℕ) (rows : List (List ℤ)) (p q : List ℤ) → IsImage (λ y. a ∷ y) rows p → IsColumnPoint (a +ℤ pos 1) k rows q
    → LexLess p q
first_before a k rows p q f c =
    let low = c.low in
    let less : a <ℤ c.head = omega (arith, ints, low) in
    rw (f.is, c.is) (inl less)

ascends_columns : (a : ℤ) (k : ℕ) (rows : List (List ℤ)) → Ascends LexLess rows → Ascends LexLess (columns a k rows)
unfolding columns
ascends_columns a zero rows up = tt
ascends_columns a (suc k) rows up =
    ascends_append LexLess (map (λ y. a ∷ y) rows) (columns (a +ℤ pos 1) k rows)
    (ascends_map LexLess LexLess (λ y. a ∷ y) (λ x y h. inr (refl, h)) rows up)
    (ascends_columns (a +ℤ pos 1) k rows up)
    (λ p q i j. first_before a k rows p q (from_map (λ y. a ∷ y) rows i) (from_columns (a +ℤ pos 1) k rows j))

-- a box without its first coordinate
box_tail : (a b c : ℤ) (low high x : List ℤ) → IsInBox (a ∷ low) (b ∷ high) (c ∷ x) → IsInBox low high x
box_tail a b c low high x h = record {
  low_dimension = let e = h.low_dimension in omega arith;
  high_dimension = let e = h.high_dimension in omega arith;
  within = λ i k. h.within (suc i) (suc-le-suc k);
}

-- and with one more
box_cons : (a b c : ℤ) (low high x : List ℤ) → a ≤ℤ c → c ≤ℤ b → IsInBox low high x → IsInBox (a ∷ low) (b ∷ high) (c ∷ x)
box_cons a b c low high x h k inside =
    record { low_dimension = ap suc inside.low_dimension; high_dimension = ap suc inside.high_dimension; within = at }
  where
    at : (i : ℕ) → i < length (c ∷ x) → (entry (a ∷ low) i ≤ℤ entry (c ∷ x) i) × (entry (c ∷ x) i ≤ℤ entry (b ∷ high) i)
    at zero l = (h, k)
    at (suc i) l = inside.within i (le_of_suc-le-suc l)

-- the members of the grid are the vectors of the box
from_grid : (low high p : List ℤ) → length low ≡ length high → In p (grid low high) → IsInBox low high p
unfolding grid
from_grid [] [] p e here = record { low_dimension = refl; high_dimension = refl; within = λ i h. absurd (omega arith) }
from_grid [] [] p e (there i) = elim i [ ]
from_grid [] (b ∷ high) p e i = absurd (omega arith)
from_grid (a ∷ low) [] p e i = absurd (omega arith)
from_grid (a ∷ low) (b ∷ high) p e i =
    by (from_columns a (natural_part (b +ℤ pos 1 -ℤ a)) (grid low high) i) (λ q. from_grid low high q (omega arith))
  where
    by : IsColumnPoint a (natural_part (b +ℤ pos 1 -ℤ a)) (grid low high) p → ((q : List ℤ) → In q (grid low high) → IsInBox low high q)
        → IsInBox (a ∷ low) (b ∷ high) p
    by c inside =
        let below : c.head <ℤ (b +ℤ pos 1) = part_below (b +ℤ pos 1 -ℤ a) a (b +ℤ pos 1) c.head refl c.low c.high in
        rw c.is (box_cons a b c.head low high c.rest c.low (omega (arith, ints)) (inside c.rest c.member))

-- and back
in_grid : (low high p : List ℤ) → IsInBox low high p → In p (grid low high)
unfolding grid
in_grid [] [] [] h = here
in_grid [] high (c ∷ p) h = absurd (let e = h.low_dimension in omega arith)
in_grid [] (b ∷ high) [] h = absurd (let e = h.high_dimension in omega arith)
in_grid (a ∷ low) high [] h = absurd (let e = h.low_dimension in omega arith)
in_grid (a ∷ low) [] (c ∷ p) h = absurd (let e = h.high_dimension in omega arith)
in_grid (a ∷ low) (b ∷ high) (c ∷ p) h =
    let first = h.within 0 (zero-lt-suc _) in
    in_columns a c (natural_part (b +ℤ pos 1 -ℤ a)) (grid low high) first.0
    (part_above (b +ℤ pos 1 -ℤ a) a (b +ℤ pos 1) c refl first.0 (omega (arith, ints, first.1)))
    (in_grid low high p (box_tail a b c low high p h))

-- the grid is in lexicographic order
ascends_grid : (low high : List ℤ) → Ascends LexLess (grid low high)
unfolding grid
ascends_grid [] high = (all_from_each empty, tt)
ascends_grid (a ∷ low) [] = tt
ascends_grid (a ∷ low) (b ∷ high) = ascends_columns a (natural_part (b +ℤ pos 1 -ℤ a)) (grid low high) (ascends_grid low high)

-- so it is the list of all vectors of the box
pub grid_lists : (low high : List ℤ) → length low ≡ length high → Lists LexLess (IsInBox low high) (grid low high)
grid_lists low high e = record {
  ascends = ascends_grid low high;
  members = λ p. (λ c. from_grid low high p e (in_from_contains _ c), λ h. contains_from_in (in_grid low high p h));
}
