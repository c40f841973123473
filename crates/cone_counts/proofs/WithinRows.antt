-- In how many rows a set is, counted row by row.
use Rattle.std.proofs.Common.{◌≡◌, ◌⊎◌, inl, inr, ℕ, zero, suc, ◌+◌, ◌<◌, ◌≤◌, Bool, true, false, List, [], ◌∷◌, ◌++◌, length, refl, sym, ap, ◌∙◌, subst, arith}
use Rattle.std.proofs.lemmas.Bool.{cases_lt}
use Rattle.std.proofs.lemmas.List.{length-append}
use Rattle.face_theory.specs.Sets.{in_set, set_size}
use Rattle.base_counts.specs.Counting.{set_at}
use Rattle.cone_counts.specs.CountSteps.{TellsWithin, IsWithinNumber}

in_set-append : (a : List Bool) (b : Bool) (j : ℕ) → j < length a → in_set (a ++ b ∷ []) j ≡ in_set a j
in_set-append [] b j l = absurd (omega (arith, l))
in_set-append (x ∷ a) b zero l = refl
in_set-append (x ∷ a) b (suc j) l = in_set-append a b j (omega (arith, l))

in_set-last : (a : List Bool) (b : Bool) → in_set (a ++ b ∷ []) (length a) ≡ b
in_set-last [] b = refl
in_set-last (x ∷ a) b = in_set-last a b

set_size-append : (a : List Bool) (b : Bool) → set_size (a ++ b ∷ []) ≡ set_size a + set_size (b ∷ [])
set_size-append [] b = omega arith
set_size-append (true ∷ a) b = let e = set_size-append a b in omega (arith, e)
set_size-append (false ∷ a) b = set_size-append a b

-- the set is within so many of the first rows
pub record CountsWithin (words : List ℕ) (rows : List (List ℕ)) (k count : ℕ) : Type 0 where
  pub within : List Bool
  pub width : length within ≡ k
  pub tells : (j : ℕ) → j < k → TellsWithin words (set_at rows j) (in_set within j)
  pub count_is : count ≡ set_size within

module _ (words : List ℕ) (rows : List (List ℕ)) where
  pub counts_none : CountsWithin words rows 0 0
  counts_none = record { within = []; width = refl; tells = λ j l. absurd (omega (arith, l)); count_is = refl }

  more : (k count : ℕ) (b : Bool) → CountsWithin words rows k count → TellsWithin words (set_at rows k) b
      → CountsWithin words rows (k + 1) (count + set_size (b ∷ []))
  more k count b h t = record {
    within = h.within ++ b ∷ [];
    width = length-append h.within (b ∷ []) ∙ ap (λ (n : ℕ). n + 1) h.width;
    tells = tells;
    count_is = ap (λ (n : ℕ). n + set_size (b ∷ [])) h.count_is ∙ sym (set_size-append h.within b);
  }
    where
      tells : (j : ℕ) → j < k + 1 → TellsWithin words (set_at rows j) (in_set (h.within ++ b ∷ []) j)
      tells j l = by (cases_lt j k)
        where
          by : (j < k) ⊎ (k ≤ j) → TellsWithin words (set_at rows j) (in_set (h.within ++ b ∷ []) j)
          by (inl m) = subst (TellsWithin words (set_at rows j)) (sym (in_set-append h.within b j (subst (λ (n : ℕ). j < n) (sym h.width) m))) (h.tells j m)
          by (inr m) =
              let e : k ≡ j = omega (arith, m, l) in
              subst (λ (i : ℕ). TellsWithin words (set_at rows i) (in_set (h.within ++ b ∷ []) i)) e
              (subst (TellsWithin words (set_at rows k)) (sym (subst (λ (i : ℕ). in_set (h.within ++ b ∷ []) i ≡ b) h.width (in_set-last h.within b))) t)

  pub counts_more : (k count : ℕ) → CountsWithin words rows k count → TellsWithin words (set_at rows k) true → CountsWithin words rows (k + 1) (count + 1)
  counts_more k count h t = more k count true h t

  pub counts_same : (k count : ℕ) → CountsWithin words rows k count → TellsWithin words (set_at rows k) false → CountsWithin words rows (k + 1) count
  counts_same k count h t = subst (CountsWithin words rows (k + 1)) (let e : count + 0 ≡ count = omega arith in e) (more k count false h t)

  pub all_within : (k count : ℕ) → k ≡ length rows → CountsWithin words rows k count → IsWithinNumber words rows count
  all_within k count e h = record {
    within = h.within;
    width = h.width ∙ e;
    tells = λ j l. h.tells j (subst (λ (n : ℕ). j < n) (sym e) l);
    count_is = h.count_is;
  }

  pub few_within : (k count : ℕ) → CountsWithin words rows k count → count ≤ k
  few_within k count h = let w = size_within h.within in let e = h.width in let c = h.count_is in omega (arith, w, e, c)
    where
      size_within : (a : List Bool) → set_size a ≤ length a
      size_within [] = omega arith
      size_within (true ∷ a) = let r = size_within a in omega (arith, r)
      size_within (false ∷ a) = let r = size_within a in omega (arith, r)
