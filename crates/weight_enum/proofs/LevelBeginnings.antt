-- Levels along beginnings of weights.
use Rattle.std.proofs.Common.{◌≡◌, ◌⊎◌, inl, inr, ◌∙◌, ℕ, ◌+◌, ◌<◌, ◌≤◌, List, [], ◌∷◌, ◌++◌, length, take, get_or, sym, ap, subst, arith}
use Rattle.std.proofs.lemmas.Bool.{cases_lt}
use Rattle.std.proofs.lemmas.List.{take_more}
use Rattle.weight_tails.specs.steps.Levels.{AreLevels, TellAlike}
use Rattle.weight_tails.proofs.LevelSteps.{levels_alike, shorter, front_length}
use Rattle.weight_enum.specs.steps.Listing.{ServeTo}

pub alike_same : (place : ℕ) (levels : List ℕ) → TellAlike place levels levels
alike_same place levels k n h within = (λ x. x, λ x. x)

pub alike_trans : (place : ℕ) (old middle new : List ℕ) → length middle ≡ length old → TellAlike place old middle → TellAlike place middle new
    → TellAlike place old new
alike_trans place old middle new columns a b k n h within =
    let x = a k n h within in
    let y = b k n h (omega (arith, within, columns)) in
    (λ l. y.0 (x.0 l), λ l. x.1 (y.1 l))

pub alike_weaker : (place : ℕ) (old new : List ℕ) → TellAlike (place + 1) old new → TellAlike place old new
alike_weaker place old new a k n h within = a k n (omega (arith, h)) within

-- levels that tell alike serve alike
pub serves_alike : (place : ℕ) (weights old new : List ℕ) → length new ≡ length old → TellAlike place old new → ServeTo place weights old
    → ServeTo place weights new
serves_alike place weights old new columns alike serve k h within =
    levels_alike place old new (take k weights) columns alike (let e = front_length k weights (omega (arith, within)) in omega (arith, e, h))
    (serve k h within)

-- and with one weight more
pub serves_next : (place : ℕ) (weights old new : List ℕ) → length new ≡ length old → TellAlike place old new → ServeTo place weights old
    → (place + 1 < length weights → AreLevels (take (place + 1) weights) new) → ServeTo (place + 1) weights new
serves_next place weights old new columns alike serve last k h within = by (cases_lt place k)
  where
    by : (place < k) ⊎ (k ≤ place) → AreLevels (take k weights) new
    by (inl l) =
        let e : place + 1 ≡ k = omega (arith, l, h) in
        subst (λ (j : ℕ). AreLevels (take j weights) new) e (last (omega (arith, within, e)))
    by (inr l) = serves_alike place weights old new columns alike serve k l within

pub more_levels : (place : ℕ) (weights old new : List ℕ) → place < length weights
    → ((b : List ℕ) → length b ≡ place → AreLevels b old → AreLevels (b ++ get_or weights place 0 ∷ []) new) → AreLevels (take place weights) old
    → AreLevels (take (place + 1) weights) new
more_levels place weights old new within made levels = subst (λ (xs : List ℕ). AreLevels xs new) (sym (take_more weights place 0 within))
    (made (take place weights) (front_length place weights (omega (arith, within))) levels)

-- weights that begin alike
pub serves_changed : (place : ℕ) (weights changed levels : List ℕ) → length changed ≡ length weights → take place changed ≡ take place weights
    → ServeTo place weights levels → ServeTo place changed levels
serves_changed place weights changed levels columns same serve k h within =
    let front : take k weights ≡ take k changed = sym (shorter k place weights h) ∙ (ap (λ (xs : List ℕ). take k xs) (sym same) ∙ shorter k place changed h) in
    subst (λ (xs : List ℕ). AreLevels xs levels) front (serve k h (omega (arith, within, columns)))
