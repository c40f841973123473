-- The faces of a table by their numbers, as an order with ranks. This project's own.
use Rattle.std.specs.Prelude.{◌≡◌, ℕ, ◌*◌, ◌<◌, ◌≤◌, Bool, true, List, length}
use Rattle.std.specs.List.{All, range_with_len}
use Rattle.bit_pool.specs.Bits.{words_for}
use Rattle.face_theory.specs.Sets.{is_part}
use Rattle.face_theory.specs.Faces.{TightRelation}
use Rattle.face_closing.specs.Words.{set_of}
use Rattle.face_poset.specs.Faces.{TableState, face_at, IsTableOf}
use Rattle.polynomial_theory.specs.Series.{Series, one}
use Rattle.stringy_theory.specs.Eulerian.{Order}
use Rattle.stringy_theory.specs.CountedFaces.{CountedFaces, order_of}

-- the members of a face, as a set of all numbers that its words tell
abbrev pub set_at : TableState → ℕ → List Bool
set_at table x = set_of (64 * words_for table.members) (face_at table.faces x).members

-- the faces by their numbers, with numbers of lattice points on both sides: one is below another where its members are among the other's
abbrev pub counted : TableState → ℕ → (ℕ → Series) → (ℕ → Series) → CountedFaces ℕ
counted table top l l_dual = record {
  faces = range_with_len 0 (length table.faces);
  below = λ x y. is_part (set_at table x) (set_at table y);
  rank = λ x. (face_at table.faces x).rank;
  top = top;
  l = l;
  l_dual = l_dual;
}

-- their order
abbrev pub numbered : TableState → Order ℕ
numbered table = order_of (counted table 0 (λ x. one) (λ x. one))

-- x is a face of the table, y too, and x is y or below it
pub record IsInterval (table : TableState) (x y : ℕ) : Type 0 where
  pub from : x < length table.faces
  pub to : y < length table.faces
  pub below : (numbered table).below x y ≡ true

-- the table has the faces of some relation
abbrev pub HasAllFaces : TableState → Type 0
HasAllFaces table = (R : TightRelation) × IsTableOf R table

-- no rank is above 8
abbrev pub HasSmallRanks : TableState → Type 0
HasSmallRanks table = All (λ face. face.rank ≤ 8) table.faces
