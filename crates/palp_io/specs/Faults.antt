-- Counts of faults, which never fall and stay at the last value of a u64 once it is reached.
-- This project's own.
use Rattle.std.specs.Prelude.{ℕ, ◌+◌, ◌-◌, ◌^◌, ◌≤◌, min}

-- the last value of a count
abbrev pub last_count : ℕ
last_count = 2 ^ 64 - 1

-- the count after one more
abbrev pub count_up : ℕ → ℕ
count_up n = min (n + 1) last_count

-- the count rose: it is greater now than before, or stands at its last value now
abbrev pub Rose : ℕ → ℕ → Type 0
Rose before now = count_up before ≤ now
