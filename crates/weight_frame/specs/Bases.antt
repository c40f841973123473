-- Integer bases of weight lattices. This project's own.
use Rattle.std.specs.Prelude.{◌≡◌, ℕ, List, ℤ}
use Rattle.lattice_core.specs.Weights.{Weighted, columns_of, IsInLattice}
use Rattle.weight_frame.specs.Frame.{IsIntegerCombination, AreCoordinates}

-- one list of coefficients makes x of the vectors, and no other does
pub record HasOneCombination (n : ℕ) (vectors : List (List ℤ)) (x : List ℤ) : Type 0 where
  pub coefficients : List ℤ
  pub are_coordinates : AreCoordinates n vectors x coefficients
  pub only : (others : List ℤ) → AreCoordinates n vectors x others → others ≡ coefficients

-- every vector of the weight lattice is exactly one integer combination of the frame, and every such combination is in the lattice
pub record IsIntegerBasis (systems : List Weighted) (vectors : List (List ℤ)) : Type 0 where
  pub spans : (x : List ℤ) → IsInLattice systems x → HasOneCombination (columns_of systems) vectors x
  pub inside : (x coefficients : List ℤ) → IsIntegerCombination (columns_of systems) coefficients vectors x → IsInLattice systems x
