-- How much of the box is ahead of a beginning.
use Rattle.std.specs.Prelude.{ℤ, ◌≤ℤ◌, ◌<ℤ◌, nat_abs}
use Rattle.std.proofs.Common.{◌≡◌, ◌⊎◌, inl, inr, ℕ, zero, suc, ◌+◌, ◌*◌, ◌-◌, ◌<◌, ◌≤◌, List, [], ◌∷◌, ◌++◌, length, drop, refl, sym, ap, ◌∙◌, arith, length-append, zero-lt-suc, suc-le-suc}
use Rattle.std.proofs.lemmas.Bool.{cases_lt}
use Rattle.std.proofs.lemmas.Int.{ints}
use Rattle.lattice_theory.specs.Vector.{entry}
use Rattle.lattice_theory.specs.Order.{LexLess}
use Rattle.lattice_theory.specs.Size.{absolute_sum}
use Rattle.lattice_theory.specs.Grid.{IsInBox, LexAtMost, grid, behind}
use Rattle.lattice_theory.proofs.GridLists.{grid_lists}
use Rattle.lattice_theory.proofs.LexWalks.{behind_less}
use Rattle.lattice_theory.proofs.Members.{in_from_contains}
use Rattle.region_walk.specs.steps.Looks.{ahead}
use Rattle.region_walk.proofs.Starts.{less_append}

-- the first vector of the box that begins with p
padded : List ℤ → List ℤ → List ℤ
padded p low = p ++ drop (length p) low

padded_length : (p low : List ℤ) → length p ≤ length low → length (p ++ drop (length p) low) ≡ length low
padded_length [] low l = refl
padded_length (a ∷ p) [] l = absurd (omega arith)
padded_length (a ∷ p) (b ∷ low) l = ap suc (padded_length p low (omega arith))

padded_before : (p s : List ℤ) (i : ℕ) → i < length p → entry (p ++ s) i ≡ entry p i
padded_before [] s i l = absurd (omega arith)
padded_before (a ∷ p) s zero l = refl
padded_before (a ∷ p) s (suc i) l = padded_before p s i (omega arith)

padded_behind : (p low : List ℤ) (i : ℕ) → length p ≤ length low → length p ≤ i → entry (p ++ drop (length p) low) i ≡ entry low i
padded_behind [] low i l m = refl
padded_behind (a ∷ p) [] i l m = absurd (omega arith)
padded_behind (a ∷ p) (b ∷ low) zero l m = absurd (omega arith)
padded_behind (a ∷ p) (b ∷ low) (suc i) l m = padded_behind p low i (omega arith) (omega arith)

-- entries of a beginning are within the box
abbrev pub AreWithin : List ℤ → List ℤ → List ℤ → Type 0
AreWithin low high p = (i : ℕ) → i < length p → (entry low i ≤ℤ entry p i) × (entry p i ≤ℤ entry high i)

module _ (low high : List ℤ) (same : length high ≡ length low) (box : (i : ℕ) → i < length low → entry low i ≤ℤ entry high i) where
  padded_in_box : (p : List ℤ) → length p ≤ length low → AreWithin low high p → IsInBox low high (p ++ drop (length p) low)
  padded_in_box p short within = record {
    low_dimension = sym (padded_length p low short);
    high_dimension = same ∙ sym (padded_length p low short);
    within = λ i l. by i (let e = padded_length p low short in omega arith) (cases_lt i (length p));
  }
    where
      by : (i : ℕ) → i < length low → (i < length p) ⊎ (length p ≤ i) → (entry low i ≤ℤ entry (p ++ drop (length p) low) i)
          × (entry (p ++ drop (length p) low) i ≤ℤ entry high i)
      by i l (inl h) = rw (padded_before p (drop (length p) low) i h) (within i h)
      by i l (inr h) = rw (padded_behind p low i short h) (omega (arith, ints), box i l)

  -- vectors that come later have less behind them
  less_behind : (p q : List ℤ) → length q ≤ length low → AreWithin low high q → LexLess (p ++ drop (length p) low) (q ++ drop (length q) low)
      → length (behind (q ++ drop (length q) low) (grid low high)) < length (behind (p ++ drop (length p) low) (grid low high))
  less_behind p q short within less = behind_less (p ++ drop (length p) low) (q ++ drop (length q) low) (grid low high) less
      (in_from_contains (grid low high) (((grid_lists low high (sym same)).members (q ++ drop (length q) low)).1 (padded_in_box q short within)))

  -- a beginning that comes later has less ahead
  pub later_ahead : (p q : List ℤ) → length low ≤ 6 → length q ≤ length low → AreWithin low high q → LexLess p q → ahead low high q < ahead low high p
  later_ahead p q few short within less =
      let w = less_behind p q short within (less_append p q (drop (length p) low) (drop (length q) low) less) in
      let a = length (behind (q ++ drop (length q) low) (grid low high)) in
      let b = length (behind (p ++ drop (length p) low) (grid low high)) in
      step a b (length low) (length p) (length q) w few
    where
      step : (a b n k m : ℕ) → a < b → n ≤ 6 → 7 * a + (n - m) < 7 * b + (n - k)
      step a b n k m h few = omega arith

  -- one coordinate more
  push_at_most : (p low : List ℤ) (v : ℤ) → length p < length low → entry low (length p) ≤ℤ v
      → LexAtMost (p ++ drop (length p) low) ((p ++ v ∷ []) ++ drop (length (p ++ v ∷ [])) low)
  push_at_most [] [] v l h = absurd (omega arith)
  push_at_most [] (b ∷ low) v l h = by (order b v h)
    where
      order : (b v : ℤ) → b ≤ℤ v → (b <ℤ v) ⊎ (b ≡ v)
      order b v h = grind (arith, ints)

      by : (b <ℤ v) ⊎ (b ≡ v) → LexAtMost (b ∷ low) (v ∷ low)
      by (inl m) = inl (inl m)
      by (inr e) = inr (λ i. e i ∷ low)
  push_at_most (a ∷ p) [] v l h = absurd (omega arith)
  push_at_most (a ∷ p) (b ∷ low) v l h = by (push_at_most p low v (omega arith) h)
    where
      by : LexAtMost (p ++ drop (length p) low) ((p ++ v ∷ []) ++ drop (length (p ++ v ∷ [])) low)
          → LexAtMost (a ∷ (p ++ drop (length p) low)) (a ∷ ((p ++ v ∷ []) ++ drop (length (p ++ v ∷ [])) low))
      by (inl m) = inl (inr (refl, m))
      by (inr e) = inr (λ i. a ∷ e i)

  pub push_ahead : (p : List ℤ) (v : ℤ) → length p < length low → AreWithin low high (p ++ v ∷ []) → entry low (length p) ≤ℤ v
      → ahead low high (p ++ v ∷ []) < ahead low high p
  push_ahead p v short within above = by (push_at_most p low v short above)
    where
      longer : length (p ++ v ∷ []) ≡ length p + 1
      longer = length-append p (v ∷ [])

      step : (a b n k m : ℕ) → a ≤ b → m ≡ k + 1 → k < n → 7 * a + (n - m) < 7 * b + (n - k)
      step a b n k m h e l = omega arith

      at_most : LexAtMost (p ++ drop (length p) low) ((p ++ v ∷ []) ++ drop (length (p ++ v ∷ [])) low)
          → length (behind ((p ++ v ∷ []) ++ drop (length (p ++ v ∷ [])) low) (grid low high))
          ≤ length (behind (p ++ drop (length p) low) (grid low high))
      at_most (inl m) = let w = less_behind p (p ++ v ∷ []) (omega (arith, longer)) within m in omega (arith, w)
      at_most (inr e) = let w = ap (λ (x : List ℤ). length (behind x (grid low high))) e in omega (arith, w)

      by : LexAtMost (p ++ drop (length p) low) ((p ++ v ∷ []) ++ drop (length (p ++ v ∷ [])) low)
          → ahead low high (p ++ v ∷ []) < ahead low high p
      by h = step (length (behind ((p ++ v ∷ []) ++ drop (length (p ++ v ∷ [])) low) (grid low high)))
          (length (behind (p ++ drop (length p) low) (grid low high))) (length low) (length p) (length (p ++ v ∷ [])) (at_most h) longer short

-- a beginning is no larger than both corners together
pub within_small : (p low high : List ℤ) → length p ≤ length low → length p ≤ length high → AreWithin low high p
    → absolute_sum p ≤ absolute_sum low + absolute_sum high
within_small [] low high l m w = omega arith
within_small (a ∷ p) [] high l m w = absurd (omega arith)
within_small (a ∷ p) (b ∷ low) [] l m w = absurd (omega arith)
within_small (a ∷ p) (b ∷ low) (c ∷ high) l m w =
    let first = w 0 (zero-lt-suc (length p)) in
    let rest = within_small p low high (omega arith) (omega arith) (λ i h. w (suc i) (suc-le-suc h)) in
    let this = between b c a first.0 first.1 in
    omega (arith, rest, this)
  where
    between : (b c a : ℤ) → b ≤ℤ a → a ≤ℤ c → nat_abs a ≤ nat_abs b + nat_abs c
    between b c a h k = omega (arith, ints)
