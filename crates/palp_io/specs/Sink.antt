-- What a give does to the bytes of a sink and to its faults. This project's own.
use Rattle.std.specs.Prelude.{◌≡◌, ℕ, ◌≤◌, List, ◌++◌, Option}
use Rattle.std.specs.Io.KnownBytes.{append_known}
use Rattle.palp_io.specs.Faults.{Rose, last_count}
use Rattle.palp_io.specs.declared.giving.Gave.{Gave}
use Rattle.palp_io.specs.declared.giving.Gave.TheVariants.{All, Failed}

-- a sink: the bytes given so far, where it tells them, and how many calls failed, a count that
-- stays at its last value once it is reached
pub record SinkState : Type 0 where
  pub given : Option (List ℕ)
  pub faults : ℕ

-- whole begins with front
pub record IsPrefix (front whole : List ℕ) : Type 0 where
  pub rest : List ℕ
  pub whole_is : whole ≡ front ++ rest

-- the bytes were appended, where the sink tells what it was given; whether it tells it stays
abbrev pub Gains : SinkState → SinkState → List ℕ → Type 0
Gains before now bytes = now.given ≡ append_known before.given bytes

-- a front of the bytes was appended
pub record GainsFront (before now : SinkState) (bytes : List ℕ) : Type 0 where
  pub front : List ℕ
  pub is_front : IsPrefix front bytes
  pub gained : Gains before now front

-- a front of the piece was appended, and the count of faults rose
pub record IsGiveFault (piece : List ℕ) (before now : SinkState) : Type 0 where
  pub part : GainsFront before now piece
  pub rose : Rose before.faults now.faults

-- what an answer means
abbrev pub GiveMeans : Gave → List ℕ → SinkState → SinkState → Type 0
GiveMeans All piece before now = Gains before now piece
GiveMeans Failed piece before now = IsGiveFault piece before now

-- a give: the answer means what it says, and the count of faults never falls
pub record Gives (answer : Gave) (piece : List ℕ) (before now : SinkState) : Type 0 where
  pub means : GiveMeans answer piece before now
  pub later : before.faults ≤ now.faults
  pub bounded : now.faults ≤ last_count
