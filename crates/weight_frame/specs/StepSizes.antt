-- How large the numbers of a step of the recursion are. This project's own.
use Rattle.std.specs.Prelude.{ℕ, ◌<◌, List, ℤ, pos, ◌+ℤ◌, ◌*ℤ◌, neg_ℤ, nat_abs}
use Rattle.lattice_theory.specs.Vector.{entry}

-- the two products of a x + b y, and their sum, are below the bound in size
pub record IsSumBelow (bound : ℕ) (a x b y : ℤ) : Type 0 where
  pub left : nat_abs (a *ℤ x) < bound
  pub right : nat_abs (b *ℤ y) < bound
  pub sum : nat_abs (a *ℤ x +ℤ b *ℤ y) < bound

-- the numbers of a step at a vector u of value v, with the vector h and the divisor `after` behind: the value and the divisor, the products
-- and the sum that make the next divisor, and those that make each entry of k and of the next h
pub record IsStepBelow (bound : ℕ) (u : List ℤ) (v : ℤ) (h : List ℤ) (after p : ℕ) (q : ℤ) (s : ℕ) (t : ℤ) : Type 0 where
  pub value : nat_abs v < bound
  pub behind : after < bound
  pub divisor : IsSumBelow bound (pos s) v t (pos after)
  pub kept : (j : ℕ) → IsSumBelow bound (pos p) (entry u j) (neg_ℤ q) (entry h j)
  pub last : (j : ℕ) → IsSumBelow bound (pos s) (entry u j) t (entry h j)
