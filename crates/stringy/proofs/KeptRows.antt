-- Rows of numbers as they are read, and sums over faces as they are added up.
use Rattle.std.proofs.Common.{◌≡◌, ℕ, ◌+◌, ◌*◌, ◌^◌, ◌≤◌, List, ℤ, ◌+ℤ◌}
use Rattle.std.proofs.Common.{nat_abs, ◌∙◌, arith}
use Rattle.std.proofs.lemmas.Int.{ints}
use Rattle.lattice_theory.specs.Vector.{entry}
use Rattle.face_poset.specs.Faces.{TableState}
use Rattle.dual_pair.specs.declared.side.Side.TheVariants as sides
use Rattle.poset_g.specs.Numbered.{IsInterval}
use Rattle.poset_g.specs.Stored.{GState, g_of, g_dual_of}
use Rattle.poset_g.specs.Values.{HoldsG}
use Rattle.stringy.specs.RowSteps.{interval_of}

-- one term more, and how large the sum is
pub sum_size : (s p : ℤ) (i : ℕ) → nat_abs p ≤ 2 ^ 42 → nat_abs s ≤ 2 ^ 42 * i → nat_abs (s +ℤ p) ≤ 2 ^ 42 * (i + 1)
sum_size s p i h k = omega (arith, ints)

pub same_size : (a b : ℤ) (m : ℕ) → a ≡ b → nat_abs b ≤ m → nat_abs a ≤ m
same_size a b m e h = rw e h

-- what is read of an interval
pub held_on_m : (table : TableState) (s : GState) → HoldsG table s → (x y : ℕ) → IsInterval table x y → (p : List ℤ) → ((k : ℕ) → entry p k ≡ g_of s x y k)
    → (k : ℕ) → entry p k ≡ interval_of table sides.M x y k
held_on_m table s h x y i p e k = e k ∙ h.g x y i k

pub held_on_n : (table : TableState) (s : GState) → HoldsG table s → (x y : ℕ) → IsInterval table x y → (p : List ℤ) → ((k : ℕ) → entry p k ≡ g_dual_of s x y k)
    → (k : ℕ) → entry p k ≡ interval_of table sides.N x y k
held_on_n table s h x y i p e k = e k ∙ h.g_dual x y i k
