-- How many integer vectors of a degree are in a Cayley cone and on one of its faces, and in the dual cone (alg-geom/9509009: the Ehrhart series of
-- the faces of Gorenstein cones).
use Rattle.std.specs.Prelude.{◌≡◌, ℕ, List, [], ◌∷◌, ◌++◌, length, ℤ, pos, ◌+ℤ◌, ◌≤ℤ◌, Bool, IsTrue}
use Rattle.std.specs.List.{All}
use Rattle.lattice_theory.specs.Vector.{dot}
use Rattle.lattice_theory.specs.Order.{Lists, LexLess}
use Rattle.face_theory.specs.Sets.{in_set}
use Rattle.face_theory.specs.Faces.{IsDualFace}
use Rattle.face_theory.specs.Pairings.{vector_at, paired}

-- the sum of the entries
abbrev pub sum_of : List ℤ → ℤ
sum_of [] = pos 0
sum_of (a ∷ x) = a +ℤ sum_of x

-- an integer vector of degree s: n entries, and behind them r entries whose sum is s. Its pairings with the functions are nonnegative, and 0 with
-- those of the set
pub record IsConePair (n r : ℕ) (functions : List (List ℤ)) (set : List Bool) (s : ℕ) (x : List ℤ) : Type 0 where
  pub point : List ℤ
  pub heights : List ℤ
  pub is : x ≡ point ++ heights
  pub dimension : length point ≡ n
  pub parts : length heights ≡ r
  pub degree : sum_of heights ≡ pos s
  pub nonnegative : All (λ f. pos 0 ≤ℤ dot f x) functions
  pub zero_on : (f : ℕ) → IsTrue (in_set set f) → dot (vector_at functions f) x ≡ pos 0

-- the number of integer vectors of degree s of the face: those in the cone that are 0 on the functions of the dual face
pub record CountsOnFace (n r : ℕ) (members functions : List (List ℤ)) (face : List Bool) (s count : ℕ) : Type 0 where
  pub dual : List Bool
  pub is_dual : IsDualFace (paired members functions) face dual
  pub pairs : List (List ℤ)
  pub are_pairs : Lists LexLess (IsConePair n r functions dual s) pairs
  pub count_is : count ≡ length pairs

-- the number of integer vectors of degree s of the face's dual face: those in the dual cone, in which the members pair nonnegatively, that are 0 on
-- the members of the face
pub record CountsOnDualFace (n r : ℕ) (members : List (List ℤ)) (face : List Bool) (s count : ℕ) : Type 0 where
  pub pairs : List (List ℤ)
  pub are_pairs : Lists LexLess (IsConePair n r members face s) pairs
  pub count_is : count ≡ length pairs
