-- The report of a list of items, folded from what a job says of each: one step after another. This project's own.
use Rattle.std.specs.Prelude.{◌≡◌, ℕ, ◌+◌, List, [], ◌∷◌, Option, Some, None}
use Rattle.palp_io.specs.Sink.{IsPrefix}

-- how the pieces of an item end: the item is whole; or it is refused, and the report ends with it; or it is refused, and the report
-- continues with the next item
pub data Closing (R : Type 0) : Type 0 where
  Whole : Closing R
  Ends : R → Closing R
  Continues : R → Closing R

-- what comes next of an item: a piece, or how its pieces end
pub data Step (R : Type 0) : Type 0 where
  Piece : List ℕ → Step R
  Close : Closing R → Step R

-- a refusal, and the number of the item that is refused, counted from 1
pub record Stop (R : Type 0) : Type 0 where
  pub number : ℕ
  pub cause : R

abbrev pub stop_at : {R : Type 0} → ℕ → R → Option (Stop R)
stop_at number cause = Some (record { number = number; cause = cause })

-- the next item follows
abbrev pub IsFollowed : {R : Type 0} → Closing R → Type 0
IsFollowed Whole = Unit {0}
IsFollowed (Ends cause) = ⊥
IsFollowed (Continues cause) = Unit {0}

-- A job says of an item what comes next after so many of its pieces.

-- what comes next is one thing
abbrev pub SaysOne : {X R : Type 0} → (X → ℕ → Step R → Type 0) → Type 0
SaysOne {X} {R} says = (item : X) (k : ℕ) (step other : Step R) → says item k step → says item k other → step ≡ other

-- the pieces of an item behind the first k, in order, and how they end
pub data ArePieces {X R : Type 0} (says : X → ℕ → Step R → Type 0) : ℕ → X → List (List ℕ) → Closing R → Type 0 where
  one_more : {k : ℕ} {item : X} {bytes : List ℕ} {later : List (List ℕ)} {closing : Closing R}
      → says item k (Piece bytes) → ArePieces says (k + 1) item later closing → ArePieces says k item (bytes ∷ later) closing
  no_more : {k : ℕ} {item : X} {closing : Closing R} → says item k (Close closing) → ArePieces says k item [] closing

-- The report of items, in pieces, and its first refusal: the pieces of each item, in order, up to one that ends the report. The first item
-- has this number, and k of its pieces stand before.
pub data IsListReport {X R : Type 0} (says : X → ℕ → Step R → Type 0) : ℕ → ℕ → List X → List (List ℕ) → Option (Stop R) → Type 0 where
  no_item : {number : ℕ} → IsListReport says number 0 [] [] None
  next_piece : {number k : ℕ} {item : X} {items : List X} {bytes : List ℕ} {later : List (List ℕ)} {stop : Option (Stop R)}
      → says item k (Piece bytes) → IsListReport says number (k + 1) (item ∷ items) later stop
      → IsListReport says number k (item ∷ items) (bytes ∷ later) stop
  next_item : {number k : ℕ} {item : X} {items : List X} {later : List (List ℕ)} {stop : Option (Stop R)}
      → says item k (Close Whole) → IsListReport says (number + 1) 0 items later stop
      → IsListReport says number k (item ∷ items) later stop
  last_item : {number k : ℕ} {item : X} {items : List X} {cause : R}
      → says item k (Close (Ends cause)) → IsListReport says number k (item ∷ items) [] (stop_at number cause)
  refused_item : {number k : ℕ} {item : X} {items : List X} {cause : R} {later : List (List ℕ)} {stop : Option (Stop R)}
      → says item k (Close (Continues cause)) → IsListReport says (number + 1) 0 items later stop
      → IsListReport says number k (item ∷ items) later (stop_at number cause)

-- A front of such a report, as far as it is known: some pieces, and of the last one perhaps a front.
pub data IsListFront {X R : Type 0} (says : X → ℕ → Step R → Type 0) : ℕ → List X → List (List ℕ) → Type 0 where
  nothing : {k : ℕ} {items : List X} → IsListFront says k items []
  front_part : {k : ℕ} {item : X} {items : List X} {bytes front : List ℕ}
      → says item k (Piece bytes) → IsPrefix front bytes → IsListFront says k (item ∷ items) (front ∷ [])
  front_piece : {k : ℕ} {item : X} {items : List X} {bytes : List ℕ} {later : List (List ℕ)}
      → says item k (Piece bytes) → IsListFront says (k + 1) (item ∷ items) later → IsListFront says k (item ∷ items) (bytes ∷ later)
  front_item : {k : ℕ} {item : X} {items : List X} {closing : Closing R} {later : List (List ℕ)}
      → says item k (Close closing) → IsFollowed closing → IsListFront says 0 items later → IsListFront says k (item ∷ items) later
