-- The size of points, and the entries of one of them.
use Rattle.std.proofs.Common.{ℕ, zero, suc, ◌≤◌, List, [], ◌∷◌, ℤ, nat_abs, arith}
use Rattle.std.proofs.Math.Nat.{le-max_left, le-max_right}
use Rattle.lattice_theory.specs.Vector.{entry}
use Rattle.lattice_theory.specs.Size.{reach, size}
use Rattle.lattice_theory.proofs.Members.{In, here, there}

-- no entry is above the largest
pub within_reach : {p : List ℤ} (points : List (List ℤ)) (i : ℕ) → In p points → nat_abs (entry p i) ≤ reach points i
within_reach [] i m = elim m [ ]
within_reach (p ∷ points) i here = le-max_left (nat_abs (entry p i)) (reach points i)
within_reach (q ∷ points) i (there m) = let e = within_reach points i m in let f = le-max_right (nat_abs (entry q i)) (reach points i) in
    omega arith

-- some of the points reach no further than all of them
fewer_reach : (few points : List (List ℤ)) (i : ℕ) → ((p : List ℤ) → In p few → In p points) → reach few i ≤ reach points i
fewer_reach [] points i among = omega arith
fewer_reach (p ∷ few) points i among =
    let a = within_reach points i (among p here) in
    let b = fewer_reach few points i (λ q m. among q (there m)) in
    omega arith

-- so they are no larger
pub fewer_size : (n : ℕ) (few points : List (List ℤ)) → ((p : List ℤ) → In p few → In p points) → size n few ≤ size n points
fewer_size zero few points among = omega arith
fewer_size (suc n) few points among =
    let a = fewer_size n few points among in
    let b = fewer_reach few points n among in
    omega arith
