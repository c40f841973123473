-- Each step of the recursion loses nothing: a combination of the vectors before it is one of the vectors kept and the last h, and where the
-- system's value is 0, of the vectors kept alone.
use Rattle.std.proofs.Common.{◌≡◌, ℕ, ◌+◌, List, [], ◌∷◌, ◌++◌, length, map, ℤ, pos, negsuc, ◌+ℤ◌, ◌-ℤ◌, ◌*ℤ◌, neg_ℤ, refl, sym, ap, ap₂, ◌∙◌, arith, length-append}
use Rattle.lattice_theory.specs.Vector.{entry, dot, scaled}
use Rattle.lattice_theory.proofs.Integers.{products_out, linear, minus_one-*ℤ}
use Rattle.lattice_core.specs.Weights.{Weighted, weighted_degree}
use Rattle.lattice_theory.proofs.Members.{Each, more, each_head, each_tail}
use Rattle.lattice_theory.proofs.Vectors.{entry-scaled, zeros, length-zeros, entry-zeros}
use Rattle.weight_frame.specs.Frame.{IsZeroVector, Exchange, keeps, takes, turns, exchanges, Exchanges, none, more as one_more, IsIntegerCombination}
use Rattle.weight_frame.proofs.Sums.{sum_exists, sum_pairs, zero_pairs}
use Rattle.weight_frame.proofs.Divisors.{pos_product, unit_combination, divisor_nonzero}
use Rattle.weight_frame.proofs.Steps.{AreSized}
use Rattle.weight_frame.proofs.Recursion.{recursion_zero}
use Rattle.weight_frame.proofs.Leads.{column}

-- a u + m h as a combination of what the step makes
pub record SplitsStep (u : List ℤ) (a : ℤ) (h : List ℤ) (m : ℤ) (k : List (List ℤ)) (next : List ℤ) : Type 0 where
  pub coefficients : List ℤ
  pub multiple : ℤ
  pub count : length coefficients ≡ length k
  pub entries : (j : ℕ) → a *ℤ entry u j +ℤ m *ℤ entry h j ≡ dot coefficients (column j k) +ℤ multiple *ℤ entry next j

kept_part : (a m u h z : ℤ) → h ≡ pos 0 → z ≡ pos 0 → a *ℤ u +ℤ m *ℤ h ≡ (a *ℤ u +ℤ pos 0) +ℤ pos 0 *ℤ z
kept_part a m u h z e f = rw (e, f) (simp products_out (omega (arith, linear)))

taken_part : (a m u h : ℤ) → h ≡ pos 0 → a *ℤ u +ℤ m *ℤ h ≡ pos 0 +ℤ a *ℤ u
taken_part a m u h e = rw e (simp products_out (omega (arith, linear)))

turned_part : (a m u h z : ℤ) → h ≡ pos 0 → z ≡ negsuc 0 *ℤ u → a *ℤ u +ℤ m *ℤ h ≡ pos 0 +ℤ neg_ℤ a *ℤ z
turned_part a m u h z e f = let f' = f ∙ minus_one-*ℤ u in rw (e, f') (simp products_out (omega (arith, linear)))

exchanged_part : (a m u h k x p q s t : ℤ) → s *ℤ q +ℤ t *ℤ p ≡ pos 1 → k ≡ p *ℤ u +ℤ neg_ℤ q *ℤ h → x ≡ s *ℤ u +ℤ t *ℤ h
    → a *ℤ u +ℤ m *ℤ h ≡ ((a *ℤ t -ℤ m *ℤ s) *ℤ k +ℤ pos 0) +ℤ (a *ℤ q +ℤ m *ℤ p) *ℤ x
exchanged_part a m u h k x p q s t e f g =
    let first = simp products_out at (ap (λ (z : ℤ). (a *ℤ u) *ℤ z) e) in
    let second = simp products_out at (ap (λ (z : ℤ). (m *ℤ h) *ℤ z) e) in
    rw (f, g) (simp products_out (omega (arith, linear)))

step_splits : (n : ℕ) (u : List ℤ) (v : ℤ) (h : List ℤ) (after g : ℕ) (k : List (List ℤ)) (next : List ℤ) (a m : ℤ)
    → (after ≡ 0 → IsZeroVector n h) → Exchange n u v h after g k next → SplitsStep u a h m k next
step_splits n u v h after g _ _ a m z (keeps {zero = x} e f i) = record {
  coefficients = a ∷ [];
  multiple = pos 0;
  count = refl;
  entries = λ j. kept_part a m (entry u j) (entry h j) (entry x j) ((z e).zeros j) (i.zeros j);
}
step_splits n u v h after g _ _ a m z (takes e f) = record {
  coefficients = [];
  multiple = a;
  count = refl;
  entries = λ j. taken_part a m (entry u j) (entry h j) ((z e).zeros j);
}
step_splits n u v h after g _ _ a m z (turns e f) = record {
  coefficients = [];
  multiple = neg_ℤ a;
  count = refl;
  entries = λ j. turned_part a m (entry u j) (entry h j) (entry (scaled (negsuc 0) u) j) ((z e).zeros j) (entry-scaled (negsuc 0) u j);
}
step_splits n u v h after g _ _ a m z (exchanges {k = k} {next = x} p q s t e b i i') = record {
  coefficients = (a *ℤ t -ℤ m *ℤ pos s) ∷ [];
  multiple = a *ℤ q +ℤ m *ℤ pos p;
  count = refl;
  entries = λ j. exchanged_part a m (entry u j) (entry h j) (entry k j) (entry x j) (pos p) q (pos s) t
      (unit_combination v (pos after) (pos g) (pos p) q (pos s) t (divisor_nonzero p g after e b.behind) (pos_product p g after b.behind)
      b.here b.combination)
      (i.entries j) (i'.entries j);
}

-- a combination of the vectors before as one of the vectors kept and h
pub record Splits (us : List (List ℤ)) (c : List ℤ) (ks : List (List ℤ)) (h : List ℤ) : Type 0 where
  pub coefficients : List ℤ
  pub multiple : ℤ
  pub count : length coefficients ≡ length ks
  pub entries : (j : ℕ) → dot c (column j us) ≡ dot coefficients (column j ks) +ℤ multiple *ℤ entry h j

-- a combination of two lists of vectors
dot_append : (j : ℕ) (k ks : List (List ℤ)) (c d : List ℤ) → length c ≡ length k
    → dot (c ++ d) (column j (k ++ ks)) ≡ dot c (column j k) +ℤ dot d (column j ks)
dot_append j [] ks [] d e = omega (arith, linear)
dot_append j [] ks (b ∷ c) d e = absurd (omega arith)
dot_append j (x ∷ k) ks [] d e = absurd (omega arith)
dot_append j (x ∷ k) ks (b ∷ c) d e = let f = dot_append j k ks c d (omega arith) in omega (arith, linear)

joined_entries : (a u r m h k x l : ℤ) (s t : ℤ) → r ≡ s +ℤ m *ℤ h → a *ℤ u +ℤ m *ℤ h ≡ k +ℤ l *ℤ x → t ≡ k +ℤ s → a *ℤ u +ℤ r ≡ t +ℤ l *ℤ x
joined_entries a u r m h k x l s t e f g = omega (arith, linear)

splits_joined : (u : List ℤ) (us : List (List ℤ)) (a : ℤ) (c : List ℤ) (ks : List (List ℤ)) (h : List ℤ) (k : List (List ℤ)) (next : List ℤ)
    → (b : Splits us c ks h) → SplitsStep u a h b.multiple k next → Splits (u ∷ us) (a ∷ c) (k ++ ks) next
splits_joined u us a c ks h k next b s = record {
  coefficients = s.coefficients ++ b.coefficients;
  multiple = s.multiple;
  count = length-append s.coefficients b.coefficients ∙ ap₂ (λ (x y : ℕ). x + y) s.count b.count ∙ sym (length-append k ks);
  entries = λ j. joined_entries a (entry u j) (dot c (column j us)) b.multiple (entry h j) (dot s.coefficients (column j k))
      (entry next j) s.multiple
      (dot b.coefficients (column j ks)) (dot (s.coefficients ++ b.coefficients) (column j (k ++ ks))) (b.entries j) (s.entries j)
      (dot_append j k ks s.coefficients b.coefficients s.count);
}

pub recursion_splits : (n : ℕ) (system : Weighted) (us ks : List (List ℤ)) (h : List ℤ) (g : ℕ) (made : List (List ℤ)) (c : List ℤ)
    → length c ≡ length us → Exchanges n system us ks h g made → Splits us c ks h
recursion_splits n system _ _ h _ _ [] e (none z) = record {
  coefficients = [];
  multiple = pos 0;
  count = refl;
  entries = λ j. nothing (entry h j);
}
  where
    nothing : (x : ℤ) → pos 0 ≡ pos 0 +ℤ pos 0 *ℤ x
    nothing x = simp products_out
recursion_splits n system _ _ h _ _ (a ∷ c) e (none z) = absurd (omega arith)
recursion_splits n system _ _ next g _ [] e (one_more i d x) = absurd (omega arith)
recursion_splits n system _ _ next g _ (a ∷ c) e (one_more {u = u} {us = us} {ks = ks} {h = h} {after = after} {made = made}
    {k = k} i d x) =
    let b = recursion_splits n system us ks h after made c (omega arith) i in
    splits_joined u us a c ks h k next b (step_splits n u (weighted_degree system u) h after g k next a b.multiple
    (λ z. recursion_zero n system us ks h after made z i) x)

-- combinations exist
pub combination_exists : (n : ℕ) (c : List ℤ) (vectors : List (List ℤ)) → AreSized n vectors
    → (x : List ℤ) × IsIntegerCombination n c vectors x
combination_exists n [] vectors s = (zeros n, record { dimension = length-zeros n; entries = entry-zeros n })
combination_exists n (a ∷ c) [] s = (zeros n, record { dimension = length-zeros n; entries = entry-zeros n })
combination_exists n (a ∷ c) (b ∷ vectors) s =
    let y = combination_exists n c vectors (each_tail s) in
    let z = sum_exists n a b (pos 1) y.0 (each_head s) y.1.dimension in
    (_, record { dimension = z.dimension; entries = λ j. one_term a (entry b j) (entry y.0 j) _ _ (z.entries j) (y.1.entries j) })
  where
    one_term : (a b y z d : ℤ) → z ≡ a *ℤ b +ℤ pos 1 *ℤ y → y ≡ d → z ≡ a *ℤ b +ℤ d
    one_term a b y z d e f = let e' = simp products_out at e in omega (arith, linear)

-- and pair with a vector of weights as its values say
pub combination_pairs : (n : ℕ) (w c : List ℤ) (vectors : List (List ℤ)) (x : List ℤ) → AreSized n vectors
    → IsIntegerCombination n c vectors x → dot w x ≡ dot c (map (dot w) vectors)
combination_pairs n w [] vectors x s e = zero_pairs n x w (record { dimension = e.dimension; zeros = e.entries })
combination_pairs n w (a ∷ c) [] x s e = zero_pairs n x w (record { dimension = e.dimension; zeros = e.entries })
combination_pairs n w (a ∷ c) (b ∷ vectors) x s e =
    let y = combination_exists n c vectors (each_tail s) in
    let f = sum_pairs n a b (pos 1) y.0 x w (each_head s) y.1.dimension (record {
      dimension = e.dimension;
      entries = λ j. one_term a (entry b j) (entry y.0 j) _ _ (e.entries j) (y.1.entries j);
    }) in
    let g = combination_pairs n w c vectors y.0 (each_tail s) y.1 in
    last_term a (dot w b) (dot w y.0) _ _ f g
  where
    one_term : (a b y z d : ℤ) → z ≡ a *ℤ b +ℤ d → y ≡ d → z ≡ a *ℤ b +ℤ pos 1 *ℤ y
    one_term a b y z d e f = simp products_out (omega (arith, linear))

    last_term : (a b y z d : ℤ) → z ≡ a *ℤ b +ℤ pos 1 *ℤ y → y ≡ d → z ≡ a *ℤ b +ℤ d
    last_term a b y z d e f = let e' = simp products_out at e in omega (arith, linear)

-- a combination of values 0
pub zero_values : (w c : List ℤ) (vectors : List (List ℤ)) → Each (λ x. dot w x ≡ pos 0) vectors → dot c (map (dot w) vectors) ≡ pos 0
zero_values w [] vectors z = refl
zero_values w (a ∷ c) [] z = refl
zero_values w (a ∷ c) (b ∷ vectors) (more e z) = rw (e, zero_values w c vectors z) (simp products_out)
