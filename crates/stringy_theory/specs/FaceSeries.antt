-- A finite list of faces with an order and ranks. This project's own.
use Rattle.std.specs.Prelude.{◌≡◌, ℕ, ◌-◌, ◌^◌, ◌≤◌, Bool, true, List, length, pos, nat_abs}
use Rattle.std.specs.List.{filter, Contains}
use Rattle.polynomial_theory.specs.Series.{Series, HasDegreeAtMost}

-- the faces, whether x is y or below it, the ranks, h* of both sides, and G[x,y] and G'[x,y]
pub record FaceSeries (X : Type 0) : Type 0 where
  pub faces : List X
  pub below : X → X → Bool
  pub rank : X → ℕ
  pub h : X → Series
  pub h_dual : X → Series
  pub g : X → X → Series
  pub g_dual : X → X → Series

-- the faces X <= F, and the faces Y >= F
abbrev pub faces_to : {X : Type 0} → FaceSeries X → X → List X
faces_to d f = filter (λ x. d.below x f) d.faces

abbrev pub faces_from : {X : Type 0} → FaceSeries X → X → List X
faces_from d f = filter (λ y. d.below f y) d.faces

-- the faces F with X <= F <= Y
abbrev pub faces_between : {X : Type 0} → FaceSeries X → X → X → List X
faces_between d x y = filter (λ f. d.below f y) (faces_from d x)

-- the order is transitive, and ranks don't fall
pub record IsRanked {X : Type 0} (d : FaceSeries X) : Type 0 where
  pub transitive : (x y z : X) → Contains d.faces x → Contains d.faces y → Contains d.faces z → d.below x y ≡ true → d.below y z ≡ true → d.below x z ≡ true
  pub rises : (x y : X) → Contains d.faces x → Contains d.faces y → d.below x y ≡ true → d.rank x ≤ d.rank y

-- h*_X has no degree above rank X, and G[X,F] none above rank F - rank X
pub record HaveSmallDegrees {X : Type 0} (d : FaceSeries X) : Type 0 where
  pub counts : (x : X) → Contains d.faces x → HasDegreeAtMost (d.rank x) (d.h x)
  pub intervals : (x f : X) → Contains d.faces x → Contains d.faces f → d.below x f ≡ true → HasDegreeAtMost (d.rank f - d.rank x) (d.g x f)

-- ranks are at most that of the top, h*'_Y has no degree above rank(top) - rank Y, and G'[F,Y] none above rank Y - rank F
pub record HaveSmallDualDegrees {X : Type 0} (top : ℕ) (d : FaceSeries X) : Type 0 where
  pub highest : (y : X) → Contains d.faces y → d.rank y ≤ top
  pub counts : (y : X) → Contains d.faces y → HasDegreeAtMost (top - d.rank y) (d.h_dual y)
  pub intervals : (f y : X) → Contains d.faces f → Contains d.faces y → d.below f y ≡ true → HasDegreeAtMost (d.rank y - d.rank f) (d.g_dual f y)

-- at most 2^12 faces; coefficients of h* are at most 2^28 in size, those of G and G' at most 2^12, and of degree 3 at most
pub record HaveSmallCoefficients {X : Type 0} (d : FaceSeries X) : Type 0 where
  pub few : length d.faces ≤ 2 ^ 12
  pub h : (x : X) → Contains d.faces x → (k : ℕ) → nat_abs (d.h x k) ≤ 2 ^ 28
  pub h_dual : (y : X) → Contains d.faces y → (k : ℕ) → nat_abs (d.h_dual y k) ≤ 2 ^ 28
  pub g : (x f : X) → Contains d.faces x → Contains d.faces f → d.below x f ≡ true → (k : ℕ) → nat_abs (d.g x f k) ≤ 2 ^ 12
  pub g_dual : (f y : X) → Contains d.faces f → Contains d.faces y → d.below f y ≡ true → (k : ℕ) → nat_abs (d.g_dual f y k) ≤ 2 ^ 12
  pub g_degree : (x f : X) → Contains d.faces x → Contains d.faces f → d.below x f ≡ true → (k : ℕ) → 4 ≤ k → d.g x f k ≡ pos 0
  pub g_dual_degree : (f y : X) → Contains d.faces f → Contains d.faces y → d.below f y ≡ true → (k : ℕ) → 4 ≤ k → d.g_dual f y k ≡ pos 0
