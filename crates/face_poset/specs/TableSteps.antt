-- How a table of faces is kept. This project's own.
use Rattle.std.specs.Prelude.{◌≡◌, ℕ, ◌*◌, ◌≤◌}
use Rattle.std.specs.List.{AllPairs}
use Rattle.bit_pool.specs.Bits.{words_for}
use Rattle.bit_pool.specs.steps.Stored.{Kept}
use Rattle.bit_pool.specs.declared.limits.TheConstants.{MOST_WIDTH}
use Rattle.face_closing.specs.Tables.{RowsState}
use Rattle.face_closing.specs.declared.limits.TheConstants.{MOST_FACES}
use Rattle.face_poset.specs.Faces.{ComesBefore}
use Rattle.face_poset.specs.ListSteps.{ListState}

-- all parts are as wide as the opening asks, with room for what building needs, and the faces are in order
pub record IsKeptTable (members functions : ℕ) (list : ListState) (rows : Kept) (found sorted : RowsState) (order_room ranks_room space dual : ℕ) : Type 0 where
  pub some_members : 1 ≤ members
  pub most_members : members ≤ MOST_WIDTH
  pub some_functions : 1 ≤ functions
  pub most_functions : functions ≤ MOST_WIDTH
  pub list_members : list.member_words ≡ words_for members
  pub list_functions : list.function_words ≡ words_for functions
  pub rows_words : rows.row_words ≡ words_for members
  pub rows_fit : MOST_WIDTH * words_for members ≤ rows.room
  pub found_words : found.row_words ≡ words_for members
  pub sorted_words : sorted.row_words ≡ words_for members
  pub order_fits : MOST_FACES ≤ order_room
  pub ranks_fit : MOST_FACES ≤ ranks_room
  pub space_is : space ≡ words_for members
  pub dual_is : dual ≡ words_for functions
  pub ascending : AllPairs ComesBefore list.faces
