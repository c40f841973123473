-- The steps on the way to rows of h*. This project's own.
use Rattle.std.specs.Prelude.{◌≡◌, ℕ}
use Rattle.face_poset.specs.Faces.{TableState, IsTopRank}
use Rattle.dual_pair.specs.declared.side.Side.{Side}
use Rattle.stringy.specs.ConeNumbers.{star_rank}

-- the rank by which a face's h* is made
pub record IsStarRank (table : TableState) (side : Side) (f rank : ℕ) : Type 0 where
  pub top : ℕ
  pub is_top : IsTopRank table.faces top
  pub is : rank ≡ star_rank table top side f
