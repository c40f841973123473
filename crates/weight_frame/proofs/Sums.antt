-- Sums of multiples of two vectors, and the zero vector: they exist, there is only one, and what they pair to.
use Rattle.std.proofs.Common.{◌≡◌, ℕ, List, length, ℤ, pos, ◌+ℤ◌, ◌*ℤ◌, sym, ap, ◌∙◌}
use Rattle.lattice_theory.specs.Vector.{dot}
use Rattle.lattice_theory.proofs.Vectors.{combined, zeros, length-combined, entry-combined, dot-combined_right, same_from_entries, length-zeros, entry-zeros, dot-zeros, dot_comm}
use Rattle.weight_frame.specs.Frame.{IsZeroVector, IsSumOfMultiples}

-- p x + q y
pub sum_exists : (n : ℕ) (p : ℤ) (x : List ℤ) (q : ℤ) (y : List ℤ) → length x ≡ n → length y ≡ n
    → IsSumOfMultiples n p x q y (combined p x q y)
sum_exists n p x q y h k = record { dimension = length-combined n p x q y h k; entries = entry-combined p x q y }

-- there is one
pub sum_unique : (n : ℕ) (p : ℤ) (x : List ℤ) (q : ℤ) (y z w : List ℤ) → IsSumOfMultiples n p x q y z → IsSumOfMultiples n p x q y w → z ≡ w
sum_unique n p x q y z w h k = same_from_entries z w (h.dimension ∙ sym k.dimension) (λ j. h.entries j ∙ sym (k.entries j))

-- its pairings
pub sum_pairs : (n : ℕ) (p : ℤ) (x : List ℤ) (q : ℤ) (y z w : List ℤ) → length x ≡ n → length y ≡ n → IsSumOfMultiples n p x q y z
    → dot w z ≡ p *ℤ dot w x +ℤ q *ℤ dot w y
sum_pairs n p x q y z w h k s = ap (dot w) (sum_unique n p x q y z (combined p x q y) s (sum_exists n p x q y h k))
    ∙ dot-combined_right w p x q y

-- the zero vector
pub zero_exists : (n : ℕ) → IsZeroVector n (zeros n)
zero_exists n = record { dimension = length-zeros n; zeros = entry-zeros n }

-- there is one
pub zero_unique : (n : ℕ) (z w : List ℤ) → IsZeroVector n z → IsZeroVector n w → z ≡ w
zero_unique n z w h k = same_from_entries z w (h.dimension ∙ sym k.dimension) (λ j. h.zeros j ∙ sym (k.zeros j))

-- its pairings
pub zero_pairs : (n : ℕ) (z w : List ℤ) → IsZeroVector n z → dot w z ≡ pos 0
zero_pairs n z w h = ap (dot w) (zero_unique n z (zeros n) h (zero_exists n)) ∙ dot_comm w (zeros n) ∙ dot-zeros n w
