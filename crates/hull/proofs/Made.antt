-- A vector that is made entry by entry.
use Rattle.std.proofs.Common.{◌≡◌, ⊎_elim, ℕ, ◌+◌, ◌<◌, ◌≤◌, List, [], ◌∷◌, ◌++◌, length, ℤ, pos, ◌+ℤ◌, ◌^◌, nat_abs, refl, sym, ◌∙◌, subst, arith}
use Rattle.std.proofs.lemmas.Int.{ints}
use Rattle.std.proofs.lemmas.Bool.{cases_lt}
use Rattle.std.proofs.lemmas.List.{length_push, get_or_push, get_or_append_left}
use Rattle.lattice_theory.specs.Vector.{entry}

-- the first entries are made
pub record IsMadeBelow (make : ℕ → ℤ) (i : ℕ) (items : List ℤ) : Type 0 where
  pub count : length items ≡ i
  pub entries : (j : ℕ) → j < i → entry items j ≡ make j

pub made_none : (make : ℕ → ℤ) → IsMadeBelow make 0 []
made_none make = record { count = refl; entries = λ j h. absurd (omega (arith, h)) }

pub made_more : (make : ℕ → ℤ) (i : ℕ) (items new : List ℤ) (x : ℤ) → x ≡ make i → new ≡ items ++ (x ∷ []) → IsMadeBelow make i items
    → IsMadeBelow make (i + 1) new
made_more make i items new x e pushed so_far = subst (IsMadeBelow make (i + 1)) (sym pushed) (record {
  count = (let l = length_push items x in let c = so_far.count in omega arith);
  entries = λ j h. ⊎_elim
      (λ (b : j < i). get_or_append_left items (x ∷ []) (pos 0) j (let c = so_far.count in omega arith) ∙ so_far.entries j b)
      (λ (b : i ≤ j). here j (omega arith)) (cases_lt j i);
})
  where
    here : (j : ℕ) → i ≡ j → entry (items ++ (x ∷ [])) j ≡ make j
    here j d = subst (λ (m : ℕ). entry (items ++ (x ∷ [])) m ≡ make m) d
        (get_or_push items x (pos 0) i so_far.count ∙ e)

-- a small number and a unit step
pub sum_within : (a b : ℤ) → nat_abs a ≤ 2 ^ 30 → nat_abs b ≤ 1 → nat_abs (a +ℤ b) < 2 ^ 63
sum_within a b h k = omega (arith, ints)
