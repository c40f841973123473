-- The sum that G is made of, gap by gap.
use Rattle.std.proofs.Common.{◌≡◌, ℕ, ◌-◌, ◌<◌, ◌==◌, List, ap, ◌∙◌}
use Rattle.std.proofs.lemmas.Bool.{eqb-true}
use Rattle.std.specs.List.{filter, range_with_len, Contains}
use Rattle.lattice_theory.proofs.Members.{contains_from_in}
use Rattle.polynomial_theory.specs.Sums.{sum_over}
use Rattle.polynomial_theory.specs.Series.{Series, product, power, t_minus_1}
use Rattle.polynomial_theory.proofs.Sums.{sum_same, sum_filter_same}
use Rattle.polynomial_theory.proofs.KeySums.{sum_by_key_lem, product_sum}
use Rattle.stringy_theory.specs.Eulerian.{Order, members_above, sum_above}

pub g_by_gaps_lem : {X : Type 0} (o : Order X) (G : X → X → Series) (x y : X) (n : ℕ)
    → ((z : X) → Contains (members_above o x y) z → o.gap x z - 1 < n) → (k : ℕ)
    → sum_above o G x y k ≡ sum_over (range_with_len 0 n) (λ r. product (power t_minus_1 r)
    (λ j. sum_over (filter (λ z. (o.gap x z - 1) == r) (members_above o x y)) (λ z. G z y j)) k)
g_by_gaps_lem {X = X} o G x y n h k =
    sum_by_key_lem (members_above o x y) (λ z. o.gap x z - 1) n (λ z. product (power t_minus_1 (o.gap x z - 1)) (G z y) k)
    (λ z i. h z (contains_from_in i))
    ∙ sum_same (range_with_len 0 n) (λ r. sum_over (at r) (λ z. product (power t_minus_1 (o.gap x z - 1)) (G z y) k))
    (λ r. product (power t_minus_1 r) (λ j. sum_over (at r) (λ z. G z y j)) k)
    (λ r. sum_filter_same (λ z. (o.gap x z - 1) == r) (members_above o x y) (λ z. product (power t_minus_1 (o.gap x z - 1)) (G z y) k)
    (λ z. product (power t_minus_1 r) (G z y) k)
    (λ z i t. ap (λ (m : ℕ). product (power t_minus_1 m) (G z y) k) (eqb-true (o.gap x z - 1) r t))
    ∙ product_sum (power t_minus_1 r) (at r) (λ z. G z y) k)
  where
    at : ℕ → List X
    at r = filter (λ z. (o.gap x z - 1) == r) (members_above o x y)
