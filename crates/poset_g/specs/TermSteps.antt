-- The terms of which B of an interval is made. This project's own.
use Rattle.std.specs.Prelude.{ℕ, cond, pos}
use Rattle.face_poset.specs.Faces.{TableState, face_at}
use Rattle.polynomial_theory.specs.Series.{LaurentSeries, times_at_ratio, times_at_product, power_of_minus_u}
use Rattle.stringy_theory.specs.Eulerian.{g, g_dual}
use Rattle.poset_g.specs.Numbered.{numbered}

-- G[x,f](v/u) G'[f,y](uv) (-u)^(rank f)
abbrev pub term_at : TableState → ℕ → ℕ → ℕ → LaurentSeries
term_at table x y f = times_at_ratio (g (numbered table) x f) (times_at_product (g_dual (numbered table) f y) (power_of_minus_u (face_at table.faces f).rank))

-- the same where f is between x and y, and 0 elsewhere
abbrev pub kept_term_at : TableState → ℕ → ℕ → ℕ → LaurentSeries
kept_term_at table x y f p q = cond ((numbered table).below x f) (cond ((numbered table).below f y) (term_at table x y f p q) (pos 0)) (pos 0)
