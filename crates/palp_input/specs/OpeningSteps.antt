-- What is seen of the bytes held while the next item isn't known from them, which only the reader's code
-- and its proofs use: what a call answers is in Reading. This project's own.
use Rattle.std.specs.Prelude.{◌≡◌, ℕ, ◌-◌, ◌<◌, ◌≤◌, Bool, true, ◌||◌, ◌==◌, List, ◌++◌, length, drop, slice_index}
use Rattle.palp_input.specs.Pieces.{is_blank, line_feed, pieces_of}
use Rattle.palp_input.specs.Lines.{matrix_read}
use Rattle.palp_input.specs.LineSteps.{matrix_behind}
use Rattle.palp_input.specs.Grammar.{listed, Given, Faulty, matrix_item, next_of}
use Rattle.palp_input.specs.Reading.{HasNoItem}
use Rattle.palp_input.specs.declared.fault.ItemFault.{ItemFault}
use Rattle.palp_input.specs.declared.item.Item.{Item}
use Rattle.palp_input.specs.declared.openings.Opening.{Opening}
use Rattle.palp_input.specs.declared.openings.Opening.TheVariants.{Blank, Begun, Matrix}
use Rattle.palp_input.specs.declared.openings.Pending.{Pending}
use Rattle.palp_input.specs.declared.openings.Look.{Look}
use Rattle.palp_input.specs.declared.openings.Look.TheVariants.{Known as LookKnown, Faulty as LookFaulty, Unknown}

abbrev pub is_gap : ℕ → Bool
is_gap byte = is_blank byte || byte == line_feed

-- the bytes are blanks and line ends
abbrev pub AreGaps : List ℕ → Type 0
AreGaps bytes = (k : ℕ) → k < length bytes → is_gap (slice_index bytes k) ≡ true

-- the bytes begin with a matrix: whatever bytes follow, the first item has the entries that are read, and
-- then those that are read from the place on
pub record MatrixSoFar (front : List ℕ) (pending : Pending) : Type 0 where
  pub at : ℕ
  pub within : pending.place ≤ length front
  pub reads : (more : List ℕ) → next_of (front ++ more) ≡ matrix_item (front ++ more) at pending.lines pending.columns
      (matrix_behind pending.entries.items (matrix_read (front ++ more) pending.left pending.place
      (pieces_of pending.place (drop pending.place (front ++ more)))))

-- what is told of the bytes
abbrev pub OpeningMeans : List ℕ → Opening → Type 0
OpeningMeans text Blank = AreGaps text
OpeningMeans text Begun = Unit {0}
OpeningMeans text (Matrix pending) = MatrixSoFar text pending

-- the next item isn't known from the bytes
pub record Seen (text : List ℕ) (front : Opening) : Type 0 where
  pub no_item : HasNoItem text
  pub means : OpeningMeans text front

-- the first item of the bytes has its line end among them
pub record IsKnownItem (text : List ℕ) (item : Item) (end : ℕ) : Type 0 where
  pub some : 1 ≤ end
  pub within : end ≤ length text
  pub is_next : next_of text ≡ Given (listed item) end
  pub line_ends : slice_index text (end - 1) ≡ line_feed

-- the first item of the bytes is faulty, and further bytes can't change that
pub record IsKnownFault (text : List ℕ) (fault : ItemFault) : Type 0 where
  pub before : fault.end < length text
  pub is_next : next_of text ≡ Faulty fault

-- what a look tells
abbrev pub LookMeans : List ℕ → Look → Type 0
LookMeans text (LookKnown item end) = IsKnownItem text item end
LookMeans text (LookFaulty fault) = IsKnownFault text fault
LookMeans text (Unknown front) = Seen text front
