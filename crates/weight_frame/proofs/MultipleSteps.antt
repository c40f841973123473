-- Steps of the loop that makes a sum of multiples entry by entry.
use Rattle.std.proofs.Common.{◌≡◌, ℕ, ◌+◌, ◌^◌, ◌<◌, ◌≤◌, List, [], ◌∷◌, ◌++◌, length, ℤ, pos, ◌+ℤ◌, ◌*ℤ◌, nat_abs, ⊎_elim, ap, ◌∙◌, All, arith}
use Rattle.std.proofs.lemmas.Bool.{cases_lt}
use Rattle.std.proofs.lemmas.List.{get_or_append_left, get_or_push, length_push}
use Rattle.std.proofs.lemmas.List.Elements.{All-push}
use Rattle.lattice_theory.specs.Vector.{entry}
use Rattle.lattice_theory.proofs.Integers.{products_out}
use Rattle.lattice_theory.proofs.Vectors.{entry_past}
use Rattle.lattice_theory.proofs.Members.{all_from_each, empty}
use Rattle.weight_frame.specs.Frame.{IsSumOfMultiples}

-- the first i entries are p x_k + q y_k
pub record AreSumsBelow (p : ℤ) (x : List ℤ) (q : ℤ) (y : List ℤ) (i : ℕ) (z : List ℤ) : Type 0 where
  pub length : length z ≡ i
  pub entries : (k : ℕ) → k < i → entry z k ≡ p *ℤ entry x k +ℤ q *ℤ entry y k
  pub small : All (λ c. nat_abs c ≤ 2 ^ 96) z

-- before the first
pub sums_none : (p : ℤ) (x : List ℤ) (q : ℤ) (y z : List ℤ) → z ≡ [] → AreSumsBelow p x q y 0 z
sums_none p x q y z e = record { length = ap length e; entries = λ k h. absurd (omega arith); small = rw e (all_from_each empty) }

-- one more
pub sums_more : (p : ℤ) (x : List ℤ) (q : ℤ) (y old new : List ℤ) (i : ℕ) (r : ℤ) → AreSumsBelow p x q y i old → new ≡ old ++ (r ∷ [])
    → r ≡ p *ℤ entry x i +ℤ q *ℤ entry y i → nat_abs r ≤ 2 ^ 96 → AreSumsBelow p x q y (i + 1) new
sums_more p x q y old new i r h n e s = record {
  length = ap length n ∙ length_push old r ∙ ap (λ (m : ℕ). m + 1) h.length;
  entries = λ k l. ⊎_elim
      (λ (below : k < i). ap (λ (z : List ℤ). entry z k) n ∙ get_or_append_left old (r ∷ []) (pos 0) k (let m = h.length in omega arith)
      ∙ h.entries k below)
      (λ (above : i ≤ k). let same : k ≡ i = omega arith in
      rw same (ap (λ (z : List ℤ). entry z i) n ∙ get_or_push old r (pos 0) i h.length ∙ e))
      (cases_lt k i);
  small = rw n (All-push (λ c. nat_abs c ≤ 2 ^ 96) old r h.small s);
}

-- past the end both vectors are 0
zero_sum : (p q s t : ℤ) → s ≡ pos 0 → t ≡ pos 0 → pos 0 ≡ p *ℤ s +ℤ q *ℤ t
zero_sum p q s t h k = rw (h, k) (simp products_out)

-- all of them
pub sums_all : (p : ℤ) (x : List ℤ) (q : ℤ) (y z : List ℤ) (i : ℕ) → AreSumsBelow p x q y i z → i ≡ length x → length x ≡ length y
    → IsSumOfMultiples (length x) p x q y z
sums_all p x q y z i h e f = record {
  dimension = h.length ∙ e;
  entries = λ k. ⊎_elim
      (λ (below : k < i). h.entries k below)
      (λ (above : i ≤ k). entry_past z k (let g = h.length in omega arith) ∙ zero_sum p q (entry x k) (entry y k)
      (entry_past x k (omega arith)) (entry_past y k (omega arith)))
      (cases_lt k i);
}
