-- What weights take with the last of them.
use Rattle.std.proofs.Common.{◌≡◌, ◌⊎◌, ◌↔◌, inl, inr, ℕ, zero, suc, ◌+◌, ◌-◌, ◌*◌, ◌<◌, ◌≤◌, List, [], ◌∷◌, ◌++◌, length, take, get_or, refl, sym, ap, ◌∙◌, subst, arith}
use Rattle.lattice_core.specs.Weights.{total}
use Rattle.interior_point_theory.specs.Interior.{ones}
use Rattle.weight_points.specs.steps.Waits.{spent, CanTake}
use Rattle.weight_points.proofs.Waiting.{spent_none}

-- exponents with another one at the place
abbrev pub with_at : ℕ → ℕ → List ℕ → List ℕ
with_at zero t [] = t ∷ []
with_at zero t (e ∷ a) = t ∷ a
with_at (suc p) t [] = 0 ∷ with_at p t []
with_at (suc p) t (e ∷ a) = e ∷ with_at p t a

-- the weights before the place take the same
taken_with : (weights a : List ℕ) (p t : ℕ) → spent (take p weights) (with_at p t a) ≡ spent (take p weights) a
taken_with [] a zero t = refl
taken_with [] a (suc p) t = refl
taken_with (w ∷ weights) a zero t = refl
taken_with (w ∷ weights) [] (suc p) t = let h = taken_with weights [] p t in let none = spent_none (take p weights) in omega arith
taken_with (w ∷ weights) (e ∷ a) (suc p) t = let h = taken_with weights a p t in omega arith

get_with : (a : List ℕ) (p t : ℕ) → get_or (with_at p t a) p 0 ≡ t
get_with [] zero t = refl
get_with (e ∷ a) zero t = refl
get_with [] (suc p) t = get_with [] p t
get_with (e ∷ a) (suc p) t = get_with a p t

-- one weight more takes its exponent times
pub spent_more : (weights a : List ℕ) (p : ℕ) → p < length weights
    → spent (take (suc p) weights) a ≡ spent (take p weights) a + get_or weights p 0 * get_or a p 0
spent_more [] a p h = absurd (omega (arith, h))
spent_more (w ∷ weights) [] zero h = omega arith
spent_more (w ∷ weights) [] (suc p) h = omega arith
spent_more (w ∷ weights) (e ∷ a) zero h = let none : spent (take zero weights) a ≡ 0 = empty weights a in omega arith
  where
    empty : (ws b : List ℕ) → spent (take zero ws) b ≡ 0
    empty [] b = refl
    empty (v ∷ ws) b = refl
spent_more (w ∷ weights) (e ∷ a) (suc p) h = let s = spent_more weights a p (omega (arith, h)) in omega arith

product_of : (w e t s x n m : ℕ) → e ≡ t → x ≡ s + w * e → s ≡ m → m + t * w ≡ n → x ≡ n
product_of w e t s x n m h i j k = let i' = rw h at i in omega (arith, i', j, k)

module _ (weights : List ℕ) (p n : ℕ) (within : p < length weights) where
  pub last_taken : CanTake (take (suc p) weights) n → (t : ℕ) × ((m : ℕ) × ((m + t * get_or weights p 0 ≡ n) × CanTake (take p weights) m))
  last_taken (a, e) = (get_or a p 0, (spent (take p weights) a, (let s = spent_more weights a p within in omega (arith, s, e), (a, refl))))

  pub take_last : (t m : ℕ) → m + t * get_or weights p 0 ≡ n → CanTake (take p weights) m → CanTake (take (suc p) weights) n
  take_last t m e (b, s) = (
    with_at p t b,
    product_of (get_or weights p 0) (get_or (with_at p t b) p 0) t (spent (take p weights) (with_at p t b))
        (spent (take (suc p) weights) (with_at p t b)) n m (get_with b p t) (spent_more weights (with_at p t b) p within)
        (taken_with weights b p t ∙ s) e,
  )

-- weights with another one behind them
pub front : (b : List ℕ) (w k : ℕ) → k ≤ length b → take k (b ++ w ∷ []) ≡ take k b
front [] w zero h = refl
front [] w (suc k) h = absurd (omega (arith, h))
front (v ∷ b) w zero h = refl
front (v ∷ b) w (suc k) h = ap (λ (xs : List ℕ). v ∷ xs) (front b w k (omega (arith, h)))

pub all : (b : List ℕ) → take (length b) b ≡ b
all [] = refl
all (v ∷ b) = ap (λ (xs : List ℕ). v ∷ xs) (all b)

pub whole : (b : List ℕ) (w : ℕ) → take (suc (length b)) (b ++ w ∷ []) ≡ b ++ w ∷ []
whole [] w = refl
whole (v ∷ b) w = ap (λ (xs : List ℕ). v ∷ xs) (whole b w)

at_end : (b : List ℕ) (w : ℕ) → get_or (b ++ w ∷ []) (length b) 0 ≡ w
at_end [] w = refl
at_end (v ∷ b) w = at_end b w

is_within : (b : List ℕ) (w : ℕ) → length b < length (b ++ w ∷ [])
is_within [] w = omega arith
is_within (v ∷ b) w = let h = is_within b w in omega arith

module _ (b : List ℕ) (w : ℕ) where
  ends : (n : ℕ) → CanTake (b ++ w ∷ []) n → (t : ℕ) × ((m : ℕ) × ((m + t * w ≡ n) × CanTake b m))
  ends n c =
      let r = last_taken (b ++ w ∷ []) (length b) n (is_within b w) (subst (λ (xs : List ℕ). CanTake xs n) (sym (whole b w)) c) in (
        r.0,
        (
          r.1.0,
          (
            subst (λ (v : ℕ). r.1.0 + r.0 * v ≡ n) (at_end b w) r.1.1.0,
            subst (λ (xs : List ℕ). CanTake xs r.1.0) (front b w (length b) (omega arith) ∙ all b) r.1.1.1,
          ),
        ),
      )

  joins : (n t m : ℕ) → m + t * w ≡ n → CanTake b m → CanTake (b ++ w ∷ []) n
  joins n t m e c = subst (λ (xs : List ℕ). CanTake xs n) (whole b w) (take_last (b ++ w ∷ []) (length b) n (is_within b w) t m
      (subst (λ (v : ℕ). m + t * v ≡ n) (sym (at_end b w)) e)
      (subst (λ (xs : List ℕ). CanTake xs m) (sym (front b w (length b) (omega arith) ∙ all b)) c))

  -- the last weight isn't taken, or once more than of what is left
  pub more_taken : (n : ℕ) → CanTake (b ++ w ∷ []) n ↔ (CanTake b n ⊎ ((w ≤ n) × CanTake (b ++ w ∷ []) (n - w)))
  more_taken n = (λ c. let r = ends n c in to r.0 r.1.0 r.1.1.0 r.1.1.1, from)
    where
      to : (t m : ℕ) → m + t * w ≡ n → CanTake b m → CanTake b n ⊎ ((w ≤ n) × CanTake (b ++ w ∷ []) (n - w))
      to zero m e c = inl (subst (CanTake b) (omega (arith, e)) c)
      to (suc t) m e c = inr (omega (arith, e), joins (n - w) t m (omega (arith, e)) c)

      from : CanTake b n ⊎ ((w ≤ n) × CanTake (b ++ w ∷ []) (n - w)) → CanTake (b ++ w ∷ []) n
      from (inl c) = joins n 0 n (omega arith) c
      from (inr (h, c)) = let r = ends (n - w) c in let e = r.1.1.0 in joins n (suc r.0) r.1.0 (omega (arith, e, h)) r.1.1.1

-- each exponent once is an exponent vector
pub takes_ones : (weights : List ℕ) → spent weights (ones (length weights)) ≡ total weights
takes_ones [] = refl
takes_ones (w ∷ weights) = omega (arith, takes_ones weights)
