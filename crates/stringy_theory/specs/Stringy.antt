-- The stringy numbers of a Cayley cone (alg-geom/9509009), and their groupings.
use Rattle.std.specs.Prelude.{◌-◌, ◌*ℤ◌}
use Rattle.polynomial_theory.specs.Sums.{sum_over, sign}
use Rattle.polynomial_theory.specs.Series.{Series, LaurentSeries, product, times_at_ratio, times_at_product, power_of_minus_u}
use Rattle.stringy_theory.specs.FaceSeries.{FaceSeries, faces_to, faces_from, faces_between}

-- the sum over X <= F <= Y of (-1)^(rank Y - rank X) h*_X(v/u) G[X,F](v/u) h*'_Y(uv) G'[F,Y](uv) (-u)^(rank F)
abbrev pub numerator : {X : Type 0} → FaceSeries X → LaurentSeries
numerator d p q = sum_over d.faces (λ f. sum_over (faces_to d f) (λ x. sum_over (faces_from d f) (λ y.
    sign (d.rank y - d.rank x) *ℤ
    times_at_ratio (d.h x) (times_at_ratio (d.g x f) (times_at_product (d.h_dual y) (times_at_product (d.g_dual f y) (power_of_minus_u (d.rank f))))) p q)))

-- B[X,Y]: the sum over X <= F <= Y of G[X,F](v/u) G'[F,Y](uv) (-u)^(rank F)
abbrev pub b : {X : Type 0} → FaceSeries X → X → X → LaurentSeries
b d x y p q = sum_over (faces_between d x y) (λ f. times_at_ratio (d.g x f) (times_at_product (d.g_dual f y) (power_of_minus_u (d.rank f))) p q)

-- S~_F: the sum over X <= F of (-1)^(rank F - rank X) h*_X G[X,F]
abbrev pub s_tilde : {X : Type 0} → FaceSeries X → X → Series
s_tilde d f k = sum_over (faces_to d f) (λ x. sign (d.rank f - d.rank x) *ℤ product (d.h x) (d.g x f) k)

-- the same on the other side: the sum over Y >= F of (-1)^(rank Y - rank F) h*'_Y G'[F,Y]
abbrev pub s_tilde_dual : {X : Type 0} → FaceSeries X → X → Series
s_tilde_dual d f k = sum_over (faces_from d f) (λ y. sign (d.rank y - d.rank f) *ℤ product (d.h_dual y) (d.g_dual f y) k)
