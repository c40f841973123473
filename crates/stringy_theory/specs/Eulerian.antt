-- The polynomials G of the intervals of an order (Eulerian posets; this normalisation is this project's own).
use Rattle.std.specs.Prelude.{cond, ◌≡◌, ℕ, zero, suc, ◌-◌, ◌<◌, Bool, true, not, ◌&&◌, List}
use Rattle.std.specs.List.{filter, Contains}
use Rattle.polynomial_theory.specs.Sums.{sum_over}
use Rattle.polynomial_theory.specs.Series.{Series, product, power, one, t_minus_1, one_minus_t, part_below_half}

-- a finite list with an order, and how much the rank rises from x to y
pub record Order (X : Type 0) : Type 0 where
  pub members : List X
  pub below : X → X → Bool
  pub gap : X → X → ℕ

-- x is below y and isn't y
abbrev pub strictly : {X : Type 0} → Order X → X → X → Bool
strictly o x y = o.below x y && not (o.below y x)

-- the z with x < z <= y
abbrev pub members_above : {X : Type 0} → Order X → X → X → List X
members_above o x y = filter (λ z. strictly o x z && o.below z y) o.members

-- H: the sum over x < z <= y of (t-1)^(rank z - rank x - 1) G[z,y]
abbrev pub sum_above : {X : Type 0} → Order X → (X → X → Series) → X → X → Series
sum_above o G x y k = sum_over (members_above o x y) (λ z. product (power t_minus_1 (o.gap x z - 1)) (G z y) k)

-- G[x,x] is 1, and for x strictly below y, G[x,y] is the part of (1-t) H of degree below d/2, with d = rank y - rank x
pub record IsG {X : Type 0} (o : Order X) (G : X → X → Series) : Type 0 where
  pub same : (x : X) → Contains o.members x → (k : ℕ) → G x x k ≡ one k
  pub step : (x y : X) → Contains o.members x → Contains o.members y → strictly o x y ≡ true → (k : ℕ)
      → G x y k ≡ part_below_half (o.gap x y) (product one_minus_t (sum_above o G x y)) k

-- G, where at most n steps up are taken
abbrev pub g_within : {X : Type 0} → Order X → ℕ → X → X → Series
g_within o zero x y k = one k
g_within o (suc n) x y k = cond (strictly o x y) (part_below_half (o.gap x y) (product one_minus_t (sum_above o (g_within o n) x y)) k) (one k)

-- G[x,y]
abbrev pub g : {X : Type 0} → Order X → X → X → Series
g o x y = g_within o (o.gap x y) x y

-- the same members upside down
abbrev pub upside_down : {X : Type 0} → Order X → Order X
upside_down o = record { members = o.members; below = λ x y. o.below y x; gap = λ x y. o.gap y x }

-- the z with x <= z < y, and H: the sum over them of (t-1)^(rank y - rank z - 1) G'[x,z]
abbrev pub members_below : {X : Type 0} → Order X → X → X → List X
members_below o x y = filter (λ z. strictly o z y && o.below x z) o.members

abbrev pub sum_below : {X : Type 0} → Order X → (X → X → Series) → X → X → Series
sum_below o G x y k = sum_over (members_below o x y) (λ z. product (power t_minus_1 (o.gap z y - 1)) (G x z) k)

pub record IsGDual {X : Type 0} (o : Order X) (G : X → X → Series) : Type 0 where
  pub same : (x : X) → Contains o.members x → (k : ℕ) → G x x k ≡ one k
  pub step : (x y : X) → Contains o.members x → Contains o.members y → strictly o x y ≡ true → (k : ℕ)
      → G x y k ≡ part_below_half (o.gap x y) (product one_minus_t (sum_below o G x y)) k

-- G'[x,y]
abbrev pub g_dual : {X : Type 0} → Order X → X → X → Series
g_dual o x y = g (upside_down o) y x

-- each member is at its own place in the order, no two at one place, and each step up or down leaves less to go
pub record IsGraded {X : Type 0} (o : Order X) : Type 0 where
  pub reflexive : (x : X) → Contains o.members x → o.below x x ≡ true
  pub antisymmetric : (x y : X) → Contains o.members x → Contains o.members y → o.below x y ≡ true → o.below y x ≡ true → x ≡ y
  pub falls : (x z y : X) → Contains o.members x → Contains o.members z → Contains o.members y → strictly o x z ≡ true → o.below z y ≡ true → o.gap z y < o.gap x y
  pub falls_down : (x z y : X) → Contains o.members x → Contains o.members z → Contains o.members y → o.below x z ≡ true → strictly o z y ≡ true → o.gap x z < o.gap x y
