-- Restricted growth lists with one more place.
use Rattle.std.proofs.Common.{◌≡◌, ℕ, zero, suc, ◌<◌, ◌≤◌, max, List, [], ◌∷◌, ◌++◌, length, refl, ◌∙◌, arith, ⊎_elim, get_or, length-append}
use Rattle.std.specs.List.{Contains}
use Rattle.std.proofs.lemmas.Bool.{cases_lt}
use Rattle.std.proofs.lemmas.List.{get_or_append_left, get_or_push}
use Rattle.lattice_theory.proofs.Members.{empty, each_in, each_push, each_weaker, each_from_all, all_from_each, In, here, there, in_append_left, in_push, in_from_contains, contains_from_in}
use Rattle.nef_theory.specs.Nef.{part_at, IsGrowthList}

-- within the list the default doesn't matter
get_or_any : (xs : List ℕ) (k a b : ℕ) → k < length xs → get_or xs k a ≡ get_or xs k b
get_or_any [] k a b h = absurd (omega arith)
get_or_any (x ∷ xs) zero a b h = refl
get_or_any (x ∷ xs) (suc k) a b h = get_or_any xs k a b (omega arith)

pub growth_none : IsGrowthList 0 []
growth_none = record { below = all_from_each empty; occur = λ i h. absurd (omega arith); first = λ e i h k. absurd (omega arith) }

growth_below : (r : ℕ) (b : List ℕ) (i : ℕ) → IsGrowthList r b → Contains b i → i < r
growth_below r b i g c = each_in (each_from_all (λ p. p < r) b g.below) (in_from_contains b c)

-- one more place has a number that is used, or the next one
pub growth_push : (used v : ℕ) (b : List ℕ) → IsGrowthList used b → v ≤ used → IsGrowthList (max used (suc v)) (b ++ v ∷ [])
growth_push used v b g l = record {
  below = all_from_each (each_push (each_weaker {P = λ p. p < used} (λ p h. larger p h) (each_from_all (λ p. p < used) b g.below)) (omega arith));
  occur = λ i h. ⊎_elim (λ (k : i < used). contains_from_in (in_append_left (v ∷ []) (in_from_contains b (g.occur i k))))
      (λ (k : used ≤ i). last i (omega arith)) (cases_lt i used);
  first = λ e i h k. ⊎_elim (λ (m : e < length b). within e i m (let s = get_or_append_left b (v ∷ []) 0 e m in omega arith))
      (λ (m : length b ≤ e). at_end e i m h k) (cases_lt e (length b));
}
  where
    larger : (p : ℕ) → p < used → p < max used (suc v)
    larger p h = omega arith

    last : (i : ℕ) → i ≡ v → Contains (b ++ v ∷ []) i
    last i e = rw e (contains_from_in (in_push b))

    within : (e i : ℕ) → e < length b → i < part_at b e → (f : ℕ) × (f < e) × (part_at (b ++ v ∷ []) f ≡ i)
    within e i m k = let f = g.first e i m k in (f.0, f.1, get_or_append_left b (v ∷ []) 0 f.0 (omega (arith, f.1, m)) ∙ f.2)

    occurs : (e i : ℕ) → length b ≡ e → i < v → (f : ℕ) × (f < e) × (part_at (b ++ v ∷ []) f ≡ i)
    occurs e i m k =
        let c = g.occur i (omega arith) in
        (c.0, omega (arith, c.1, m), get_or_append_left b (v ∷ []) 0 c.0 c.1 ∙ get_or_any b c.0 0 i c.1 ∙ c.2)

    at_end : (e i : ℕ) → length b ≤ e → e < length (b ++ v ∷ []) → i < part_at (b ++ v ∷ []) e
        → (f : ℕ) × (f < e) × (part_at (b ++ v ∷ []) f ≡ i)
    at_end e i m h k =
        let n = length-append b (v ∷ []) in
        let same : length b ≡ e = omega arith in
        let p = get_or_push b v 0 e same in
        occurs e i same (omega arith)

-- and in a longer list there is no other
pub growth_next : (r used v : ℕ) (b rest : List ℕ) → IsGrowthList used b → IsGrowthList r (b ++ v ∷ rest) → (v ≤ used) × (v < r)
growth_next r used v b rest g h = (
  ⊎_elim (λ (l : used < v). absurd (unused l)) (λ l. l) (cases_lt used v),
  growth_below r (b ++ v ∷ rest) v h (contains_from_in (in_middle b)),
)
  where
    in_middle : (xs : List ℕ) → In v (xs ++ v ∷ rest)
    in_middle [] = here
    in_middle (x ∷ xs) = there (in_middle xs)

    at : (xs : List ℕ) → part_at (xs ++ v ∷ rest) (length xs) ≡ v
    at [] = refl
    at (x ∷ xs) = at xs

    within : (xs : List ℕ) → length xs < length (xs ++ v ∷ rest)
    within xs = let e = length-append xs (v ∷ rest) in omega arith

    member : (xs : List ℕ) (k : ℕ) → k < length xs → In (get_or xs k 0) xs
    member [] k l = absurd (omega arith)
    member (x ∷ xs) zero l = here
    member (x ∷ xs) (suc k) l = there (member xs k (omega arith))

    -- a number above those used would stand behind one that isn't
    unused : used < v → ⊥
    unused l =
        let a = at b in
        let f = h.first (length b) used (within b) (omega arith) in
        let m = each_in (each_from_all (λ p. p < used) b g.below) (member b f.0 f.1) in
        let s = get_or_append_left b (v ∷ rest) 0 f.0 f.1 in
        let t = f.2 in
        omega arith
