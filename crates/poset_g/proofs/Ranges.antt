-- The numbers of a range that pass a test.
use Rattle.std.proofs.Common.{◌≡◌, ℕ, zero, suc, ◌+◌, ◌-◌, ◌<◌, ◌≤◌, nat_lt, ◌&&◌, Bool, true, false, cond, List, [], ◌∷◌, ◌++◌, length, refl, sym, ap, ◌∙◌, subst, arith}
use Rattle.std.proofs.lemmas.List.FromFn.{get_or-range_with_len, length-range_with_len}
use Rattle.std.proofs.lemmas.List.Elements.{Contains-get_or}
use Rattle.std.specs.List.{Contains, filter, range_with_len}
use Rattle.lattice_theory.proofs.Sublists.{filter-append}
use Rattle.poset_g.specs.Stored.{PlacesState, find_at}

-- one number more
pub range_more : (a n : ℕ) → range_with_len a (suc n) ≡ range_with_len a n ++ (a + n) ∷ []
range_more a zero = ap (λ (i : ℕ). i ∷ []) (omega arith)
range_more a (suc n) = ap (λ (r : List ℕ). a ∷ r) (range_more (a + 1) n ∙ ap (λ (i : ℕ). range_with_len (a + 1) n ++ i ∷ []) (omega arith))

kept_one : (test : ℕ → Bool) (n : ℕ) (b : Bool) → test n ≡ b → filter test (n ∷ []) ≡ cond b (n ∷ []) []
kept_one test n b e = ap (λ (c : Bool). cond c (n ∷ []) []) e

pub filter_more : (test : ℕ → Bool) (n : ℕ) (b : Bool) → test n ≡ b → filter test (range_with_len 0 (n + 1)) ≡ filter test (range_with_len 0 n) ++ cond b (n ∷ []) []
filter_more test n b e = ap (λ (m : ℕ). filter test (range_with_len 0 m)) (same n) ∙ ap (filter test) (range_more 0 n
    ∙ ap (λ (i : ℕ). range_with_len 0 n ++ i ∷ []) (zero_plus n))
    ∙ filter-append test (range_with_len 0 n) (n ∷ []) ∙ ap (λ (xs : List ℕ). filter test (range_with_len 0 n) ++ xs) (kept_one test n b e)
  where
    same : (n : ℕ) → n + 1 ≡ suc n
    same n = omega arith

    zero_plus : (n : ℕ) → 0 + n ≡ n
    zero_plus n = omega arith

nothing_more : (xs : List ℕ) → xs ++ [] ≡ xs
nothing_more [] = refl
nothing_more (x ∷ xs) = ap (λ (r : List ℕ). x ∷ r) (nothing_more xs)

-- numbers that fail
filter_longer : (test : ℕ → Bool) (n d : ℕ) → ((z : ℕ) → n ≤ z → z < n + d → test z ≡ false) → filter test (range_with_len 0 (n + d)) ≡ filter test (range_with_len 0 n)
filter_longer test n zero h = ap (λ (m : ℕ). filter test (range_with_len 0 m)) (omega arith)
filter_longer test n (suc d) h = ap (λ (m : ℕ). filter test (range_with_len 0 m)) (omega arith)
    ∙ filter_more test (n + d) false (h (n + d) (omega arith) (omega arith))
    ∙ nothing_more (filter test (range_with_len 0 (n + d))) ∙ filter_longer test n d (λ z l m. h z l (omega arith))

pub filter_to : (test : ℕ → Bool) (n m : ℕ) → n ≤ m → ((z : ℕ) → n ≤ z → z < m → test z ≡ false) → filter test (range_with_len 0 m) ≡ filter test (range_with_len 0 n)
filter_to test n m l h = ap (λ (k : ℕ). filter test (range_with_len 0 k)) (sum n m l) ∙ filter_longer test n (m - n) (λ z a b. h z a (let e = sum n m l in omega arith))
  where
    sum : (n m : ℕ) → n ≤ m → m ≡ n + (m - n)
    sum n m l = omega arith

pub filter_none : (test : ℕ → Bool) (n : ℕ) → ((z : ℕ) → z < n → test z ≡ false) → filter test (range_with_len 0 n) ≡ []
filter_none test n h = filter_to test 0 n (omega arith) (λ z a b. h z b)

-- a number below n is in the range
pub contains_number : (n x : ℕ) → x < n → Contains (range_with_len 0 n) x
contains_number n x l = subst (Contains (range_with_len 0 n)) (get_or-range_with_len 0 n x 0 l ∙ zero_plus x)
    (Contains-get_or (range_with_len 0 n) x 0 (let e = length-range_with_len 0 n in omega arith))
  where
    zero_plus : (x : ℕ) → 0 + x ≡ x
    zero_plus x = omega arith

-- what isn't found
missing : (n : ℕ) → ((p : ℕ) → n ≡ suc p → ⊥) → nat_lt 0 n ≡ false
missing zero h = refl
missing (suc n) h = absurd (h n refl)

pub none_below : (s : PlacesState) (x : ℕ) → ((z p : ℕ) → find_at s x z ≡ suc p → x ≤ z) → (z : ℕ) → z < x → nat_lt 0 (find_at s x z) ≡ false
none_below s x h z l = missing (find_at s x z) (λ p e. let m = h z p e in omega arith)

-- one face more
pub more_kept : (test : ℕ → Bool) (n : ℕ) (old new : List ℕ) → old ≡ filter test (range_with_len 0 n) → new ≡ old ++ cond (test n) (n ∷ []) []
    → new ≡ filter test (range_with_len 0 (n + 1))
more_kept test n old new e k = k ∙ ap (λ (xs : List ℕ). xs ++ cond (test n) (n ∷ []) []) e ∙ sym (filter_more test n (test n) refl)

-- what passes one test after another
pub filter_both : (a b : ℕ → Bool) (xs : List ℕ) → filter b (filter a xs) ≡ filter (λ z. a z && b z) xs
filter_both a b [] = refl
filter_both a b (x ∷ xs) = by (a x) (filter_both a b xs)
  where
    by : (c : Bool) → filter b (filter a xs) ≡ filter (λ z. a z && b z) xs
        → filter b (cond c (x ∷ filter a xs) (filter a xs)) ≡ cond (c && b x) (x ∷ filter (λ z. a z && b z) xs) (filter (λ z. a z && b z) xs)
    by true e = ap (λ (ys : List ℕ). cond (b x) (x ∷ ys) ys) e
    by false e = e

-- no more pass than there are
pub filter_length : (test : ℕ → Bool) (xs : List ℕ) → length (filter test xs) ≤ length xs
filter_length test [] = omega arith
filter_length test (x ∷ xs) = by (test x) (filter_length test xs)
  where
    by : (b : Bool) → length (filter test xs) ≤ length xs → length (cond b (x ∷ filter test xs) (filter test xs)) ≤ length (x ∷ xs)
    by true l = omega arith
    by false l = omega arith

pub few_kept : (test : ℕ → Bool) (n : ℕ) (xs : List ℕ) → xs ≡ filter test (range_with_len 0 n) → length xs ≤ n
few_kept test n xs e = let f = ap length e in let g = filter_length test (range_with_len 0 n) in let h = length-range_with_len 0 n in omega arith
