-- Points of a dilate that are kept, to be visited again. This project's own.
use Rattle.std.specs.Prelude.{◌≡◌, ℕ, ◌≤◌, ◌^◌, Bool, true, false, ⊤, List, [], ◌∷◌, ◌++◌, length, ℤ}
use Rattle.std.specs.List.{All}
use Rattle.lattice_theory.specs.Size.{absolute_sum}
use Rattle.lattice_core.specs.Dimensions.{dimension_of}
use Rattle.point_scan.specs.Dilates.{AreDilatePoints}

-- points with n coordinates that a visitor takes
abbrev pub IsFit : ℕ → List ℤ → Type 0
IsFit n x = (length x ≡ n) × (absolute_sum x ≤ 2 ^ 33)

abbrev pub AreFit : ℕ → List (List ℤ) → Type 0
AreFit n points = All (IsFit n) points

-- the points that are kept so far
pub record KeeperState : Type 0 where
  pub dim : ℕ
  pub points : List (List ℤ)

-- a visit keeps the point behind the others, or there is no room for it
abbrev pub IsKept : KeeperState → List ℤ → Bool → KeeperState → Type 0
IsKept before x true after = after.points ≡ before.points ++ x ∷ []
IsKept before x false after = ⊤

-- of which dilate a room is
pub record RoomState : Type 0 where
  pub vertices : List (List ℤ)
  pub dilate : ℕ

pub record IsRoomOf (vertices : List (List ℤ)) (dilate : ℕ) (room : RoomState) : Type 0 where
  pub vertices_are : room.vertices ≡ vertices
  pub dilate_is : room.dilate ≡ dilate

-- its lattice points, as a visitor takes them
pub record ArePointsOf (vertices : List (List ℤ)) (dilate : ℕ) (points : List (List ℤ)) : Type 0 where
  pub are_points : AreDilatePoints (dimension_of vertices) vertices dilate points
  pub fit : AreFit (dimension_of vertices) points

-- the points of a room are those, or not all of them are kept
abbrev pub HoldsPoints : List (List ℤ) → ℕ → Bool → List (List ℤ) → Type 0
HoldsPoints vertices dilate true points = ArePointsOf vertices dilate points
HoldsPoints vertices dilate false points = ⊤
