-- Sums of the first heights.
use Rattle.std.specs.Prelude.{ℤ, pos, nat_abs, ◌+ℤ◌}
use Rattle.std.proofs.Common.{◌≡◌, ℕ, zero, suc, ◌+◌, ◌*◌, ◌<◌, ◌≤◌, ◌^◌, List, [], ◌∷◌, length, take, sym, ap, ◌∙◌, arith}
use Rattle.std.specs.List.{All}
use Rattle.std.proofs.lemmas.Int.{ints}
use Rattle.std.proofs.lemmas.List.Elements.{All-contains, Contains-get_or}
use Rattle.lattice_theory.specs.Vector.{entry}
use Rattle.lattice_theory.proofs.Integers.{linear}
use Rattle.cayley_theory.specs.Counts.{sum_of}

sum_of_more : (base : List ℤ) (k : ℕ) → k < length base → sum_of (take (suc k) base) ≡ sum_of (take k base) +ℤ entry base k
sum_of_more [] k h = absurd (omega arith)
sum_of_more (b ∷ base) zero h = omega (arith, linear)
sum_of_more (b ∷ base) (suc k) h = let e = sum_of_more base k (omega arith) in omega (arith, linear, e)

pub sum_so_far : (base : List ℤ) (k : ℕ) (d s : ℤ) → k < length base → s ≡ d +ℤ entry base k → d ≡ sum_of (take k base) → s ≡ sum_of (take (k + 1) base)
sum_so_far base k d s h e f =
    e ∙ ap (λ (z : ℤ). z +ℤ entry base k) f ∙ sym (sum_of_more base k h) ∙ ap (λ (j : ℕ). sum_of (take j base)) (let g : suc k ≡ k + 1 = omega arith in g)

pub entry_small : (base : List ℤ) (k : ℕ) → All (λ b. nat_abs b ≤ 2 ^ 100) base → k < length base → nat_abs (entry base k) ≤ 2 ^ 100
entry_small base k h l = All-contains (λ b. nat_abs b ≤ 2 ^ 100) base (entry base k) h (Contains-get_or base k (pos 0) l)

pub small_so_far : (d h s : ℤ) (k : ℕ) → nat_abs h ≤ 2 ^ 100 → s ≡ d +ℤ h → nat_abs d ≤ k * 2 ^ 100 → nat_abs s ≤ (k + 1) * 2 ^ 100
small_so_far d h s k a e b = omega (arith, ints)
