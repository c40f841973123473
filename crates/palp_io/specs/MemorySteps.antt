-- What the steps of a source in memory answer, and what holds of its fields. This project's own.
use Rattle.std.specs.Prelude.{◌≡◌, ℕ, ◌≤◌, List, ◌++◌}

-- the bytes went from the front of what is left to the end of what was taken
pub record PassesBytes (left_before taken_before left_now taken_now bytes : List ℕ) : Type 0 where
  pub front : left_before ≡ bytes ++ left_now
  pub back : taken_now ≡ taken_before ++ bytes

-- what holds of the fields of a source in memory: its place stands in its bytes, and a call may give a byte
pub record IsSourceInside (position size chunk : ℕ) : Type 0 where
  pub within : position ≤ size
  pub some : 1 ≤ chunk
