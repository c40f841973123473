-- One step of the recursion: the lengths and the values of what it makes, that it can be made, and that it is determined.
use Rattle.std.proofs.Common.{◌≡◌, ◌≢◌, ℕ, zero, suc, ◌<◌, List, [], ◌∷◌, length, ℤ, pos, negsuc, ◌+ℤ◌, ◌*ℤ◌, neg_ℤ, nat_abs, ◌<ℤ◌, refl, ap, ◌∙◌, arith, ⊎_elim}
use Rattle.std.proofs.lemmas.Int.{ints}
use Rattle.lattice_theory.specs.Vector.{dot, scaled}
use Rattle.lattice_theory.proofs.Integers.{products_out, linear, zero_or_not, positive_or_negative}
use Rattle.lattice_theory.proofs.Members.{Each, empty, more}
use Rattle.lattice_theory.proofs.Vectors.{combined, zeros, length-scaled, dot-scaled_right}
use Rattle.weight_frame.specs.Frame.{IsSumOfMultiples, IsGreatestDivisor, Exchange, keeps, takes, turns, exchanges}
use Rattle.weight_frame.proofs.Sums.{sum_exists, sum_unique, sum_pairs, zero_exists, zero_unique, zero_pairs}
use Rattle.weight_frame.proofs.Divisors.{pos_product, only_value, next_divisor, multipliers_exist, multipliers_unique}

-- each vector has n entries
abbrev pub AreSized : ℕ → List (List ℤ) → Type 0
AreSized n vectors = Each (λ x. length x ≡ n) vectors

-- what a step makes has n entries
pub record HasLengths (n : ℕ) (k : List (List ℤ)) (next : List ℤ) : Type 0 where
  pub kept : AreSized n k
  pub last : length next ≡ n

pub step_lengths : (n : ℕ) (u : List ℤ) (v : ℤ) (h : List ℤ) (after g : ℕ) (k : List (List ℤ)) (next : List ℤ) → length u ≡ n
    → Exchange n u v h after g k next → HasLengths n k next
step_lengths n u v h after g _ _ l (keeps e f z) = record { kept = more l empty; last = z.dimension }
step_lengths n u v h after g _ _ l (takes e p) = record { kept = empty; last = l }
step_lengths n u v h after g _ _ l (turns e p) = record { kept = empty; last = length-scaled (negsuc 0) u ∙ l }
step_lengths n u v h after g _ _ l (exchanges p q s t a m x y) = record { kept = more x.dimension empty; last = y.dimension }

-- under the system of the step the vector k has the value 0, and the next h the value g
pub record HasValues (w : List ℤ) (k : List (List ℤ)) (next : List ℤ) (g : ℕ) : Type 0 where
  pub kept : Each (λ x. dot w x ≡ pos 0) k
  pub last : dot w next ≡ pos g

positive_value : (v : ℤ) (g : ℕ) → pos 0 <ℤ v → g ≡ nat_abs v → v ≡ pos g
positive_value v g h e = omega (arith, ints)

negative_value : (v : ℤ) (g : ℕ) → v <ℤ pos 0 → g ≡ nat_abs v → negsuc 0 *ℤ v ≡ pos g
negative_value v g h e = omega (arith, ints)

zero_value : (v : ℤ) (g : ℕ) → v ≡ pos 0 → g ≡ nat_abs v → pos 0 ≡ pos g
zero_value v g h e = omega (arith, ints)

kept_value : (v a g p q : ℤ) → p *ℤ g ≡ a → q *ℤ g ≡ v → p *ℤ v +ℤ neg_ℤ q *ℤ a ≡ pos 0
kept_value v a g p q e f =
    let e' = simp products_out at (ap (λ (z : ℤ). q *ℤ z) e) in
    let f' = simp products_out at (ap (λ (z : ℤ). p *ℤ z) f) in
    simp products_out (omega (arith, linear))

pub step_values : (n : ℕ) (w u : List ℤ) (v : ℤ) (values h : List ℤ) (after g : ℕ) (k : List (List ℤ)) (next : List ℤ) → length u ≡ n
    → length h ≡ n → dot w u ≡ v → dot w h ≡ pos after
    → IsGreatestDivisor values after → IsGreatestDivisor (v ∷ values) g → Exchange n u v h after g k next → HasValues w k next g
step_values n w u v values h after g _ _ l m e f d d' (keeps {zero = z} a b i) = record {
  kept = more (e ∙ b) empty;
  last = zero_pairs n z w i ∙ zero_value v g b (only_value v values after g a d d');
}
step_values n w u v values h after g _ _ l m e f d d' (takes a b) =
    record { kept = empty; last = e ∙ positive_value v g b (only_value v values after g a d d') }
step_values n w u v values h after g _ _ l m e f d d' (turns a b) =
    record {
      kept = empty;
      last = dot-scaled_right (negsuc 0) w u ∙ ap (λ (z : ℤ). negsuc 0 *ℤ z) e
          ∙ negative_value v g b (only_value v values after g a d d');
    }
step_values n w u v values h after g _ _ l m e f d d' (exchanges {k = k} {next = next} p q s t a b x y) = record {
  kept = more (sum_pairs n (pos p) u (neg_ℤ q) h k w l m x
      ∙ rw (e, f) (kept_value v (pos after) (pos g) (pos p) q (pos_product p g after b.behind) b.here)) empty;
  last = sum_pairs n (pos s) u t h next w l m y ∙ rw (e, f) b.combination;
}

-- where both vectors have the value 0 under another system, so has what is made
pub step_keeps : (n : ℕ) (w u : List ℤ) (v : ℤ) (h : List ℤ) (after g : ℕ) (k : List (List ℤ)) (next : List ℤ) → length u ≡ n → length h ≡ n
    → dot w u ≡ pos 0 → dot w h ≡ pos 0
    → Exchange n u v h after g k next → HasValues w k next 0
step_keeps n w u v h after g _ _ l m e f (keeps {zero = z} a b i) = record { kept = more e empty; last = zero_pairs n z w i }
step_keeps n w u v h after g _ _ l m e f (takes a b) = record { kept = empty; last = e }
step_keeps n w u v h after g _ _ l m e f (turns a b) = record { kept = empty; last = dot-scaled_right (negsuc 0) w u ∙ rw e refl }
step_keeps n w u v h after g _ _ l m e f (exchanges {k = k} {next = next} p q s t a b x y) = record {
  kept = more (sum_pairs n (pos p) u (neg_ℤ q) h k w l m x ∙ rw (e, f) (zero_sum (pos p) (neg_ℤ q))) empty;
  last = sum_pairs n (pos s) u t h next w l m y ∙ rw (e, f) (zero_sum (pos s) t);
}
  where
    zero_sum : (p q : ℤ) → p *ℤ pos 0 +ℤ q *ℤ pos 0 ≡ pos 0
    zero_sum p q = simp products_out

-- the step can be made
pub record HasStep (n : ℕ) (u : List ℤ) (v : ℤ) (values h : List ℤ) (after : ℕ) : Type 0 where
  pub divisor : ℕ
  pub kept : List (List ℤ)
  pub last : List ℤ
  pub greatest : IsGreatestDivisor (v ∷ values) divisor
  pub step : Exchange n u v h after divisor kept last

pub step_exists : (n : ℕ) (u : List ℤ) (v : ℤ) (values h : List ℤ) (after : ℕ) → length u ≡ n → length h ≡ n
    → IsGreatestDivisor values after → HasStep n u v values h after
step_exists n u v values h zero l m d = let g = next_divisor v values zero d in
    ⊎_elim
    (λ (e : v ≡ pos 0). record {
      divisor = g.divisor;
      kept = u ∷ [];
      last = zeros n;
      greatest = g.greatest;
      step = keeps refl e (zero_exists n);
    })
    (λ (e : v ≢ pos 0). ⊎_elim
    (λ (p : pos 0 <ℤ v). record { divisor = g.divisor; kept = []; last = u; greatest = g.greatest; step = takes refl p })
    (λ (p : pos 0 <ℤ neg_ℤ v). record {
      divisor = g.divisor;
      kept = [];
      last = scaled (negsuc 0) u;
      greatest = g.greatest;
      step = turns refl (turned v p);
    })
    (positive_or_negative v e))
    (zero_or_not v)
  where
    turned : (v : ℤ) → pos 0 <ℤ neg_ℤ v → v <ℤ pos 0
    turned v p = omega (arith, linear)
step_exists n u v values h (suc after) l m d =
    let g = next_divisor v values (suc after) d in
    let a = multipliers_exist v (suc after) g.divisor (omega arith) g.combination in
    record {
      divisor = g.divisor;
      kept = combined (pos a.p) u (neg_ℤ a.q) h ∷ [];
      last = combined (pos a.s) u a.t h;
      greatest = g.greatest;
      step = exchanges a.p a.q a.s a.t (omega arith) a.are (sum_exists n (pos a.p) u (neg_ℤ a.q) h l m)
          (sum_exists n (pos a.s) u a.t h l m);
    }

-- and in one way
pub record AreSameStep (k k' : List (List ℤ)) (next next' : List ℤ) : Type 0 where
  pub kept : k ≡ k'
  pub last : next ≡ next'

pub not_both : {P : Type 0} (a : ℕ) → a ≡ 0 → 0 < a → P
not_both a e h = absurd (omega arith)

pub not_positive : {P : Type 0} (v : ℤ) → v ≡ pos 0 → pos 0 <ℤ v → P
not_positive v e h = absurd (omega (arith, linear))

pub not_negative : {P : Type 0} (v : ℤ) → v ≡ pos 0 → v <ℤ pos 0 → P
not_negative v e h = absurd (omega (arith, linear))

not_two_signs : {P : Type 0} (v : ℤ) → pos 0 <ℤ v → v <ℤ pos 0 → P
not_two_signs v e h = absurd (omega (arith, linear))

same_sums : (n : ℕ) (p p' s s' : ℕ) (q q' t t' : ℤ) (u h k k' x x' : List ℤ) → p ≡ p' → q ≡ q' → s ≡ s' → t ≡ t'
    → IsSumOfMultiples n (pos p) u (neg_ℤ q) h k → IsSumOfMultiples n (pos s) u t h x
    → IsSumOfMultiples n (pos p') u (neg_ℤ q') h k' → IsSumOfMultiples n (pos s') u t' h x' → AreSameStep (k ∷ []) (k' ∷ []) x x'
same_sums n p p' s s' q q' t t' u h k k' x x' e f a b i j i' j' = record {
  kept = ap (λ (y : List ℤ). y ∷ []) (sum_unique n (pos p') u (neg_ℤ q') h k k' (rw (e, f) at i) i');
  last = sum_unique n (pos s') u t' h x x' (rw (a, b) at j) j';
}

pub step_unique : (n : ℕ) (u : List ℤ) (v : ℤ) (h : List ℤ) (after g : ℕ) (k : List (List ℤ)) (next : List ℤ) (k' : List (List ℤ))
    (next' : List ℤ)
    → Exchange n u v h after g k next → Exchange n u v h after g k' next' → AreSameStep k k' next next'
step_unique n u v h after g _ _ _ _ (keeps {zero = z} a b i) (keeps {zero = z'} a' b' i') =
    record { kept = refl; last = zero_unique n z z' i i' }
step_unique n u v h after g _ _ _ _ (keeps a b i) (takes a' b') = not_positive v b b'
step_unique n u v h after g _ _ _ _ (keeps a b i) (turns a' b') = not_negative v b b'
step_unique n u v h after g _ _ _ _ (keeps a b i) (exchanges p q s t a' b' x y) = not_both after a a'
step_unique n u v h after g _ _ _ _ (takes a b) (keeps a' b' i) = not_positive v b' b
step_unique n u v h after g _ _ _ _ (takes a b) (takes a' b') = record { kept = refl; last = refl }
step_unique n u v h after g _ _ _ _ (takes a b) (turns a' b') = not_two_signs v b b'
step_unique n u v h after g _ _ _ _ (takes a b) (exchanges p q s t a' b' x y) = not_both after a a'
step_unique n u v h after g _ _ _ _ (turns a b) (keeps a' b' i) = not_negative v b' b
step_unique n u v h after g _ _ _ _ (turns a b) (takes a' b') = not_two_signs v b' b
step_unique n u v h after g _ _ _ _ (turns a b) (turns a' b') = record { kept = refl; last = refl }
step_unique n u v h after g _ _ _ _ (turns a b) (exchanges p q s t a' b' x y) = not_both after a a'
step_unique n u v h after g _ _ _ _ (exchanges p q s t a b x y) (keeps a' b' i) = not_both after a' a
step_unique n u v h after g _ _ _ _ (exchanges p q s t a b x y) (takes a' b') = not_both after a' a
step_unique n u v h after g _ _ _ _ (exchanges p q s t a b x y) (turns a' b') = not_both after a' a
step_unique n u v h after g _ _ _ _ (exchanges {k = k} {next = z} p q s t a b x y)
    (exchanges {k = k'} {next = z'} p' q' s' t' a' b' x' y') =
    let e = multipliers_unique v after g p q s t p' q' s' t' a b b' in
    same_sums n p p' s s' q q' t t' u h k k' z z' e.behind e.here e.first e.second x y x' y'
