-- Lists of values along a range, with one more.
use Rattle.std.proofs.Common.{◌≡◌, ℕ, suc, ◌+◌, ◌==◌, true, false, ◌⊎◌, inl, inr, List, [], ◌∷◌, ◌++◌, map, flat_map, ℤ, sym, ap, ◌∙◌, arith}
use Rattle.std.proofs.lemmas.List.{map-append, append_assoc, append-nil}
use Rattle.std.proofs.lemmas.Bool.{cases_Bool, eqb-true}
use Rattle.std.proofs.lemmas.Grind.{flat_map-append}
use Rattle.std.specs.List.{range_with_len}
use Rattle.poset_g.proofs.Ranges.{range_more}

one_more : (a n : ℕ) → range_with_len a (n + 1) ≡ range_with_len a n ++ (a + n) ∷ []
one_more a n = ap (range_with_len a) (plus n) ∙ range_more a n
  where
    plus : (n : ℕ) → n + 1 ≡ suc n
    plus n = omega arith

pub values_more : (f : ℕ → ℤ) (a n m : ℕ) → m ≡ a + n → map f (range_with_len a (n + 1)) ≡ map f (range_with_len a n) ++ f m ∷ []
values_more f a n m e = ap (map f) (one_more a n) ∙ map-append f (range_with_len a n) ((a + n) ∷ [])
    ∙ ap (λ (k : ℕ). map f (range_with_len a n) ++ f k ∷ []) (turned m (a + n) e)
  where
    turned : (m k : ℕ) → m ≡ k → k ≡ m
    turned m k e = omega arith

-- a list with one value more
pub value_pushed : (old now new : List ℤ) (f : ℕ → ℤ) (a n m : ℕ) (r : ℤ) → new ≡ now ++ r ∷ [] → now ≡ old ++ map f (range_with_len a n) → r ≡ f m → m ≡ a + n
    → new ≡ old ++ map f (range_with_len a (n + 1))
value_pushed old now new f a n m r e i v h = e ∙ ap (λ (xs : List ℤ). xs ++ r ∷ []) i ∙ append_assoc old (map f (range_with_len a n)) (r ∷ [])
    ∙ ap (λ (z : ℤ). old ++ (map f (range_with_len a n) ++ z ∷ [])) v ∙ ap (λ (xs : List ℤ). old ++ xs) (sym (values_more f a n m h))

-- and with the values of one more
pub line_pushed : (f : ℕ → List ℤ) (now new : List ℤ) (n : ℕ) → new ≡ now ++ f n → now ≡ flat_map f (range_with_len 0 n) → new ≡ flat_map f (range_with_len 0 (n + 1))
line_pushed f now new n e i = e ∙ ap (λ (xs : List ℤ). xs ++ f n) i ∙ ap (λ (xs : List ℤ). flat_map f (range_with_len 0 n) ++ xs) (alone (f n)
    ∙ ap (λ (k : ℕ). f k ++ []) (none n))
    ∙ sym (flat_map-append f (range_with_len 0 n) ((0 + n) ∷ [])) ∙ sym (ap (flat_map f) (one_more 0 n))
  where
    alone : (xs : List ℤ) → xs ≡ xs ++ []
    alone xs = sym (append-nil xs)

    none : (n : ℕ) → n ≡ 0 + n
    none n = omega arith

-- two numbers that aren't equal are told apart
pub told_apart : (n m : ℕ) → (n ≡ m → ⊥) → (n == m) ≡ false
told_apart n m h = by (cases_Bool (n == m))
  where
    by : ((n == m) ≡ true) ⊎ ((n == m) ≡ false) → (n == m) ≡ false
    by (inl t) = absurd (h (eqb-true n m t))
    by (inr f) = f
