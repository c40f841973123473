-- The points of a list at which an integer function is least.
use Rattle.std.proofs.Common.{ℕ, ◌+◌, List, [], ◌∷◌, ℤ, pos, neg_ℤ, nat_abs, ◌≤ℤ◌, ◌<ℤ◌, ◌-ℤ◌, ◌⊎◌, inl, inr, arith}
use Rattle.std.proofs.lemmas.Int.{ints}
use Rattle.lattice_theory.proofs.Integers.{linear, negative_or_not}
use Rattle.lattice_theory.proofs.Members.{In, here, there}

-- a member at which g is least
pub record Smallest {X : Type 0} (points : List X) (g : X → ℤ) : Type 0 where
  pub place : X
  pub inside : In place points
  pub least : (q : X) → In q points → g place ≤ℤ g q

-- a list that is not empty has one
pub find_smallest : {X : Type 0} (g : X → ℤ) (p : X) (points : List X) → Smallest (p ∷ points) g
find_smallest g p [] = record { place = p; inside = here; least = only }
  where
    only : (q : _) → In q (p ∷ []) → g p ≤ℤ g q
    only q here = omega (arith, linear)
    only q (there i) = elim i [ ]
find_smallest {X = X} g p (q ∷ points) = by (find_smallest g q points)
  where
    by : Smallest (q ∷ points) g → Smallest (p ∷ (q ∷ points)) g
    by s = compare (negative_or_not (g p -ℤ g s.place))
      where
        new : (g p -ℤ g s.place) <ℤ pos 0 → (r : X) → In r (p ∷ (q ∷ points)) → g p ≤ℤ g r
        new c r here = omega (arith, linear)
        new c r (there i) = let l = s.least r i in omega (arith, linear)

        kept : pos 0 ≤ℤ (g p -ℤ g s.place) → (r : X) → In r (p ∷ (q ∷ points)) → g s.place ≤ℤ g r
        kept c r here = omega (arith, linear)
        kept c r (there i) = s.least r i

        compare : ((g p -ℤ g s.place) <ℤ pos 0) ⊎ (pos 0 ≤ℤ (g p -ℤ g s.place)) → Smallest (p ∷ (q ∷ points)) g
        compare (inl c) = record { place = p; inside = here; least = new c }
        compare (inr c) = record { place = s.place; inside = there s.inside; least = kept c }

-- a list with a member has one
pub smallest_of : {X : Type 0} (g : X → ℤ) (points : List X) {p : X} → In p points → Smallest points g
smallest_of g [] i = elim i [ ]
smallest_of g (q ∷ points) i = find_smallest g q points

-- a number above an integer function on a list
pub record Bound {X : Type 0} (points : List X) (g : X → ℤ) : Type 0 where
  pub number : ℕ
  pub above : (q : X) → In q points → g q <ℤ pos number

-- there is one
pub find_bound : {X : Type 0} (g : X → ℤ) (points : List X) → Bound points g
find_bound g [] = record { number = 0; above = λ q i. elim i [ ] }
find_bound {X = X} g (p ∷ points) = by (find_bound g points)
  where
    by : Bound points g → Bound (p ∷ points) g
    by b = record { number = nat_abs (g p) + 1 + b.number; above = above }
      where
        first : (a : ℤ) (n : ℕ) → a <ℤ pos (nat_abs a + 1 + n)
        first a n = omega (arith, ints)

        later : (a : ℤ) (m n : ℕ) → a <ℤ pos n → a <ℤ pos (m + 1 + n)
        later a m n h = omega (arith, ints)

        above : (q : X) → In q (p ∷ points) → g q <ℤ pos (nat_abs (g p) + 1 + b.number)
        above q here = first (g q) b.number
        above q (there i) = later (g q) (nat_abs (g p)) b.number (b.above q i)

-- the same on both sides
pub record Spread {X : Type 0} (points : List X) (g : X → ℤ) : Type 0 where
  pub number : ℕ
  pub above : (q : X) → In q points → g q <ℤ pos number
  pub below : (q : X) → In q points → neg_ℤ (pos number) <ℤ g q

-- there is one
pub find_spread : {X : Type 0} (g : X → ℤ) (points : List X) → Spread points g
find_spread {X = X} g points = by (find_bound g points) (find_bound (λ q. neg_ℤ (g q)) points)
  where
    by : Bound points g → Bound points (λ q. neg_ℤ (g q)) → Spread points g
    by b c = record {
      number = b.number + c.number;
      above = λ q i. upper (g q) b.number c.number (b.above q i);
      below = λ q i. lower (g q) b.number c.number (c.above q i);
    }
      where
        upper : (a : ℤ) (m n : ℕ) → a <ℤ pos m → a <ℤ pos (m + n)
        upper a m n h = omega (arith, ints)

        lower : (a : ℤ) (m n : ℕ) → neg_ℤ a <ℤ pos n → neg_ℤ (pos (m + n)) <ℤ a
        lower a m n h = omega (arith, ints)
