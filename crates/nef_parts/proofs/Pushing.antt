-- What holds at each place of a list, with one member more.
use Rattle.std.proofs.Common.{◌≡◌, ◌⊎◌, inl, inr, ℕ, ◌<◌, ◌≤◌, List, [], ◌∷◌, ◌++◌, length, get_or, sym, subst, arith, length-append}
use Rattle.std.proofs.lemmas.Bool.{cases_lt}
use Rattle.std.proofs.lemmas.List.{get_or_append_left, get_or_push}

pub at_push : {X : Type 0} (P : ℕ → X → Type 0) (xs : List X) (x d : X) → ((k : ℕ) → k < length xs → P k (get_or xs k d)) → P (length xs) x
    → (k : ℕ) → k < length (xs ++ x ∷ []) → P k (get_or (xs ++ x ∷ []) k d)
at_push P xs x d each last k h = by (cases_lt k (length xs))
  where
    by : (k < length xs) ⊎ (length xs ≤ k) → P k (get_or (xs ++ x ∷ []) k d)
    by (inl l) = subst (P k) (sym (get_or_append_left xs (x ∷ []) d k l)) (each k l)
    by (inr m) =
        let n = length-append xs (x ∷ []) in
        let here : length xs ≡ k = omega arith in
        subst (P k) (sym (get_or_push xs x d k here)) (subst (λ (j : ℕ). P j x) here last)
