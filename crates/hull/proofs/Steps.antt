-- Steps of the loops that make vectors entry by entry.
use Rattle.std.proofs.Common.{◌≡◌, ℕ, ◌+◌, ◌^◌, ◌<◌, ◌≤◌, List, [], ◌∷◌, ◌++◌, length, ℤ, pos, ◌-ℤ◌, ◌*ℤ◌, ⊎_elim, ap, ◌∙◌, All, arith}
use Rattle.std.specs.Prelude.{nat_abs}
use Rattle.std.proofs.lemmas.Bool.{cases_lt}
use Rattle.std.proofs.lemmas.List.{length_push}
use Rattle.std.proofs.lemmas.List.Elements.{All-push}
use Rattle.lattice_theory.specs.Vector.{entry}
use Rattle.lattice_theory.proofs.Integers.{products_out, linear}
use Rattle.lattice_theory.proofs.Vectors.{entry_past, entry_before, entry_last}
use Rattle.lattice_theory.proofs.Members.{all_from_each, empty}
use Rattle.hull.specs.steps.Kernels.{AreMultiplesApart}

-- the first i entries are a x_k - b y_k
pub record AreApartBelow (a : ℤ) (x : List ℤ) (b : ℤ) (y : List ℤ) (i : ℕ) (z : List ℤ) : Type 0 where
  pub length : length z ≡ i
  pub entries : (k : ℕ) → k < i → entry z k ≡ a *ℤ entry x k -ℤ b *ℤ entry y k
  pub small : All (λ c. nat_abs c < 2 ^ 127) z

-- before the first
pub apart_none : (a : ℤ) (x : List ℤ) (b : ℤ) (y z : List ℤ) → z ≡ [] → AreApartBelow a x b y 0 z
apart_none a x b y z e = record { length = ap length e; entries = λ k h. absurd (omega arith); small = rw e (all_from_each empty) }

-- one more
pub apart_more : (a : ℤ) (x : List ℤ) (b : ℤ) (y old new : List ℤ) (i : ℕ) (r : ℤ) → AreApartBelow a x b y i old → new ≡ old ++ (r ∷ [])
    → r ≡ a *ℤ entry x i -ℤ b *ℤ entry y i → nat_abs r < 2 ^ 127 → AreApartBelow a x b y (i + 1) new
apart_more a x b y old new i r h n e s = record {
  length = ap length n ∙ length_push old r ∙ ap (λ (m : ℕ). m + 1) h.length;
  entries = λ k l. ⊎_elim
      (λ (below : k < i). ap (λ (z : List ℤ). entry z k) n ∙ entry_before old r k (let e = h.length in omega arith) ∙ h.entries k below)
      (λ (above : i ≤ k). let same : k ≡ i = omega arith in rw same (ap (λ (z : List ℤ). entry z i) n ∙ entry_last old r i h.length ∙ e))
      (cases_lt k i);
  small = rw n (All-push (λ c. nat_abs c < 2 ^ 127) old r h.small s);
}

-- past the end both vectors are 0
zero_apart : (a b s t : ℤ) → s ≡ pos 0 → t ≡ pos 0 → pos 0 ≡ a *ℤ s -ℤ b *ℤ t
zero_apart a b s t h k = rw (h, k) (simp products_out (omega (arith, linear)))

-- all of them
pub apart_all : (a : ℤ) (x : List ℤ) (b : ℤ) (y z : List ℤ) (i : ℕ) → AreApartBelow a x b y i z → i ≡ length x → length x ≡ length y
    → AreMultiplesApart a x b y z
apart_all a x b y z i h e f = record {
  dimension = h.length ∙ e;
  entries = λ k. ⊎_elim
      (λ (below : k < i). h.entries k below)
      (λ (above : i ≤ k). entry_past z k (let g = h.length in omega arith) ∙ zero_apart a b (entry x k) (entry y k)
      (entry_past x k (omega arith)) (entry_past y k (omega arith)))
      (cases_lt k i);
  small = h.small;
}
