-- What is answered of a vector of the lattice.
use Rattle.std.proofs.Common.{◌≡◌, ◌≤◌, ℕ, List, length, ℤ, sym, ◌∙◌, subst}
use Rattle.lattice_core.specs.Weights.{columns_of, IsInLattice}
use Rattle.lattice_core.specs.declared.limits.TheConstants.{MOST_COORDINATE}
use Rattle.weight_frame.specs.Frame.{AreCoordinates, largest}
use Rattle.weight_frame.specs.steps.Places.{AreFound, IsLargeSomewhere}
use Rattle.weight_frame.specs.Answers.{Framed, IsFrameWithinLimit, HasCoordinates, HasLargeCoordinate}
use Rattle.weight_frame.proofs.Frames.{frame_coordinates}

-- the coordinates in the form in which they are found
in_columns : (n m : ℕ) (vectors : List (List ℤ)) (x c : List ℤ) → n ≡ m → AreCoordinates m vectors x c → AreCoordinates n vectors x c
in_columns n m vectors x c e a = rw e a

-- one of them is large
pub large_answer : (f : Framed) (x : List ℤ) → IsFrameWithinLimit f.systems f.vectors → IsInLattice f.systems x
    → length x ≡ columns_of f.systems → IsLargeSomewhere f.vectors x → HasLargeCoordinate f x
large_answer f x frame inside e large = let one = frame_coordinates f.systems f.vectors x frame inside in record {
  coordinates = one.coefficients;
  are_coordinates = record { inside = inside; are_coordinates = one.are_coordinates };
  large = large one.coefficients (in_columns (length x) (columns_of f.systems) f.vectors x one.coefficients e one.are_coordinates);
}

-- all of them are found
pub at_answer : (f : Framed) (x found y : List ℤ) → IsFrameWithinLimit f.systems f.vectors → IsInLattice f.systems x
    → length x ≡ columns_of f.systems → AreFound f.vectors x found → y ≡ found
    → HasCoordinates f x y × (largest y ≤ MOST_COORDINATE)
at_answer f x found y frame inside e are same =
    let one = frame_coordinates f.systems f.vectors x frame inside in
    let found_is = are.same one.coefficients
    (in_columns (length x) (columns_of f.systems) f.vectors x one.coefficients e one.are_coordinates) in (
      record {
        inside = inside;
        are_coordinates = subst (AreCoordinates (columns_of f.systems) f.vectors x)
            (found_is ∙ sym same) one.are_coordinates;
      },
      rw same are.within,
    )
