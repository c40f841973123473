-- Vectors that begin with others, and their order.
use Rattle.std.specs.Prelude.{ℤ, ◌≤ℤ◌, ◌<ℤ◌}
use Rattle.std.proofs.Common.{◌≡◌, ◌⊎◌, inl, inr, ℕ, zero, suc, ◌+◌, ◌<◌, ◌≤◌, List, [], ◌∷◌, ◌++◌, length, take, refl, sym, ◌∙◌, arith, zero-lt-suc, suc-le-suc}
use Rattle.std.proofs.lemmas.Int.{ints}
use Rattle.lattice_theory.specs.Vector.{entry}
use Rattle.lattice_theory.specs.Order.{LexLess}
use Rattle.lattice_theory.specs.Grid.{LexAtMost}
use Rattle.region_walk.specs.steps.Beginnings.{Begins, IsFrom}

-- a vector that begins with p
pub begins_itself : (p s : List ℤ) → Begins p (p ++ s)
begins_itself [] s = tt
begins_itself (a ∷ p) s = (refl, begins_itself p s)

pub begins_take : (k : ℕ) (y : List ℤ) → Begins (take k y) y
begins_take zero [] = tt
begins_take zero (b ∷ y) = tt
begins_take (suc k) [] = tt
begins_take (suc k) (b ∷ y) = (refl, begins_take k y)

-- is p and more
pub begins_is : (p y : List ℤ) → Begins p y → take (length p) y ≡ p
begins_is [] [] h = refl
begins_is [] (b ∷ y) h = refl
begins_is (a ∷ p) [] h = absurd h
begins_is (a ∷ p) (b ∷ y) h = λ i. sym h.0 i ∷ begins_is p y h.1 i

-- and is from p on
pub begins_from : (p y : List ℤ) → Begins p y → IsFrom p y
begins_from [] y h = tt
begins_from (a ∷ p) [] h = absurd h
begins_from (a ∷ p) (b ∷ y) h = inr (h.0, begins_from p y h.1)

-- one coordinate more
pub from_push : (p y : List ℤ) (v : ℤ) → length p < length y → Begins p y → v ≤ℤ entry y (length p) → IsFrom (p ++ v ∷ []) y
from_push [] [] v l h k = absurd (omega arith)
from_push [] (b ∷ y) v l h k = by (cases v b k)
  where
    cases : (v b : ℤ) → v ≤ℤ b → (v <ℤ b) ⊎ (v ≡ b)
    cases v b k = grind (arith, ints)

    by : (v <ℤ b) ⊎ (v ≡ b) → (v <ℤ b) ⊎ ((v ≡ b) × Unit {0})
    by (inl m) = inl m
    by (inr e) = inr (e, tt)
from_push (a ∷ p) [] v l h k = absurd h
from_push (a ∷ p) (b ∷ y) v l h k = inr (h.0, from_push p y v (omega arith) h.1 k)

-- and back
pub push_from : (p y : List ℤ) (v : ℤ) → IsFrom (p ++ v ∷ []) y → IsFrom p y
push_from [] y v h = tt
push_from (a ∷ p) [] v h = h
push_from (a ∷ p) (b ∷ y) v (inl h) = inl h
push_from (a ∷ p) (b ∷ y) v (inr h) = inr (h.0, push_from p y v h.1)

-- what comes after p comes after what begins with p
pub less_append : (p q s t : List ℤ) → LexLess p q → LexLess (p ++ s) (q ++ t)
less_append [] q s t h = absurd h
less_append (a ∷ p) [] s t h = absurd h
less_append (a ∷ p) (b ∷ q) s t (inl h) = inl h
less_append (a ∷ p) (b ∷ q) s t (inr h) = inr (h.0, less_append p q s t h.1)

-- and what is from there on
pub less_from : (p q y : List ℤ) → LexLess p q → IsFrom q y → IsFrom p y
less_from [] q y h k = absurd h
less_from (a ∷ p) [] y h k = absurd h
less_from (a ∷ p) (b ∷ q) [] h k = absurd k
less_from (a ∷ p) (b ∷ q) (c ∷ y) (inl h) (inl k) = inl (omega (arith, ints, h, k))
less_from (a ∷ p) (b ∷ q) (c ∷ y) (inl h) (inr k) = let e = k.0 in inl (omega (arith, ints, h, e))
less_from (a ∷ p) (b ∷ q) (c ∷ y) (inr h) (inl k) = let e = h.0 in inl (omega (arith, ints, e, k))
less_from (a ∷ p) (b ∷ q) (c ∷ y) (inr h) (inr k) = inr (h.0 ∙ k.0, less_from p q y h.1 k.1)

pub less_from_append : (p q s y : List ℤ) → LexLess p q → IsFrom q y → LexLess (p ++ s) y
less_from_append [] q s y h k = absurd h
less_from_append (a ∷ p) [] s y h k = absurd h
less_from_append (a ∷ p) (b ∷ q) s [] h k = absurd k
less_from_append (a ∷ p) (b ∷ q) s (c ∷ y) (inl h) (inl k) = inl (omega (arith, ints, h, k))
less_from_append (a ∷ p) (b ∷ q) s (c ∷ y) (inl h) (inr k) = let e = k.0 in inl (omega (arith, ints, h, e))
less_from_append (a ∷ p) (b ∷ q) s (c ∷ y) (inr h) (inl k) = let e = h.0 in inl (omega (arith, ints, e, k))
less_from_append (a ∷ p) (b ∷ q) s (c ∷ y) (inr h) (inr k) = inr (h.0 ∙ k.0, less_from_append p q s y h.1 k.1)

-- y goes beyond p at the place j: it begins alike, and has more there
pub record GoesBeyond (p y : List ℤ) (j : ℕ) : Type 0 where
  pub within : j < length p
  pub alike : Begins (take j p) y
  pub more : entry p j <ℤ entry y j

beyond_deeper : (a b : ℤ) (p y : List ℤ) (j : ℕ) → a ≡ b → GoesBeyond p y j → GoesBeyond (a ∷ p) (b ∷ y) (suc j)
beyond_deeper a b p y j e g = record { within = suc-le-suc g.within; alike = (e, g.alike); more = g.more }

-- what is from p on begins with it or goes beyond it
pub from_cases : (p y : List ℤ) → IsFrom p y → Begins p y ⊎ ((j : ℕ) × GoesBeyond p y j)
from_cases [] y h = inl tt
from_cases (a ∷ p) [] h = absurd h
from_cases (a ∷ p) (b ∷ y) (inl h) = inr (0, record { within = zero-lt-suc (length p); alike = tt; more = h })
from_cases (a ∷ p) (b ∷ y) (inr h) = by (from_cases p y h.1)
  where
    by : Begins p y ⊎ ((j : ℕ) × GoesBeyond p y j) → ((a ≡ b) × Begins p y) ⊎ ((j : ℕ) × GoesBeyond (a ∷ p) (b ∷ y) j)
    by (inl k) = inl (h.0, k)
    by (inr g) = inr (suc g.0, beyond_deeper a b p y g.0 h.0 g.1)

-- and back
pub beyond_from : (p y : List ℤ) (j : ℕ) → length p ≤ length y → GoesBeyond p y j → IsFrom p y
beyond_from [] y j l g = tt
beyond_from (a ∷ p) [] j l g = absurd (omega arith)
beyond_from (a ∷ p) (b ∷ y) zero l g = inl g.more
beyond_from (a ∷ p) (b ∷ y) (suc j) l g =
    let within = g.within in
    inr (g.alike.0, beyond_from p y j (omega arith) (record { within = omega arith; alike = g.alike.1; more = g.more }))

-- what comes after a vector with one coordinate more than p goes beyond p, or has more at that coordinate
pub less_cases : (p y : List ℤ) (v : ℤ) → LexLess (p ++ v ∷ []) y → ((j : ℕ) × GoesBeyond p y j) ⊎ (Begins p y × (v <ℤ entry y (length p)))
less_cases [] [] v h = absurd h
less_cases [] (b ∷ y) v (inl h) = inr (tt, h)
less_cases [] (b ∷ y) v (inr h) = absurd h.1
less_cases (a ∷ p) [] v h = absurd h
less_cases (a ∷ p) (b ∷ y) v (inl h) = inl (0, record { within = zero-lt-suc (length p); alike = tt; more = h })
less_cases (a ∷ p) (b ∷ y) v (inr h) = by (less_cases p y v h.1)
  where
    by : ((j : ℕ) × GoesBeyond p y j) ⊎ (Begins p y × (v <ℤ entry y (length p)))
        → ((j : ℕ) × GoesBeyond (a ∷ p) (b ∷ y) j) ⊎ (((a ≡ b) × Begins p y) × (v <ℤ entry y (length p)))
    by (inl g) = inl (suc g.0, beyond_deeper a b p y g.0 h.0 g.1)
    by (inr k) = inr ((h.0, k.0), k.1)

-- of vectors with one coordinate more than p, those from one on are it or come after it
pub from_at_most : (p y : List ℤ) (v : ℤ) → length y ≡ length p + 1 → IsFrom (p ++ v ∷ []) y → LexAtMost (p ++ v ∷ []) y
from_at_most [] [] v e h = absurd h
from_at_most [] (b ∷ []) v e (inl h) = inl (inl h)
from_at_most [] (b ∷ []) v e (inr h) = inr (λ i. h.0 i ∷ [])
from_at_most [] (b ∷ c ∷ y) v e h = absurd (omega arith)
from_at_most (a ∷ p) [] v e h = absurd h
from_at_most (a ∷ p) (b ∷ y) v e (inl h) = inl (inl h)
from_at_most (a ∷ p) (b ∷ y) v e (inr h) = by (from_at_most p y v (omega arith) h.1)
  where
    by : LexAtMost (p ++ v ∷ []) y → LexAtMost (a ∷ (p ++ v ∷ [])) (b ∷ y)
    by (inl l) = inl (inr (h.0, l))
    by (inr s) = inr (λ i. h.0 i ∷ s i)
