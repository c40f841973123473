-- Counts of faults over several calls.
use Rattle.std.proofs.Common.{◌≡◌, ℕ, ◌<◌, ◌≤◌, ◌⊎◌, inl, inr, arith}
use Rattle.std.proofs.lemmas.Bool.{cases_lt}
use Rattle.palp_io.specs.Faults.{last_count, Rose}

-- a count that rose in an early call rose over all
pub Rose-early : (a b c : ℕ) → Rose a b → b ≤ c → Rose a c
Rose-early a b c rose later = omega arith

-- a count that rose in a late call rose over all
pub Rose-late : (a b c : ℕ) → a ≤ b → Rose b c → Rose a c
Rose-late a b c later rose = omega arith

-- a count that rose in one of several calls rose over all
pub Rose-over_calls : (first before now last : ℕ) → first ≤ before → Rose before now → now ≤ last → Rose first last
Rose-over_calls first before now last earlier rose later = omega arith

-- a count that stays at 0 never rises
pub zero-not_Rose : Rose 0 0 → ⊥
zero-not_Rose rose = omega arith

-- rising in words: the count is greater than before, or stands at its last value
pub Rose-out : (before now : ℕ) → before ≤ now → now ≤ last_count → Rose before now → (before < now) ⊎ (now ≡ last_count)
Rose-out before now later bounded rose =
    elim (cases_lt before now) [ inl greater ↦ inl greater | inr not_greater ↦ inr (omega arith) ]

-- the words give the rise
pub Rose-in : (before now : ℕ) → before ≤ now → now ≤ last_count → (before < now) ⊎ (now ≡ last_count) → Rose before now
Rose-in before now later bounded (inl greater) = omega arith
Rose-in before now later bounded (inr last) = omega arith
