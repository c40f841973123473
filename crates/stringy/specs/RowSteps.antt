-- The sums over the faces on one side of a face, from polynomials that are kept in rows of eight numbers. This project's own.
use Rattle.std.specs.Prelude.{ℕ, ◌+◌, ◌-◌, ◌*◌, ◌^◌, ◌<◌, ◌≤◌, nat_lt, cond, List, length, ℤ, pos, ◌*ℤ◌, nat_abs}
use Rattle.std.specs.List.{range_with_len}
use Rattle.lattice_theory.specs.Vector.{entry}
use Rattle.polynomial_theory.specs.Sums.{sign}
use Rattle.polynomial_theory.specs.Series.{Series, HasDegreeAtMost, product, times_at_ratio, times_at_product, power_of_minus_u}
use Rattle.stringy_theory.specs.Eulerian.{g, g_dual}
use Rattle.stringy_theory.specs.FaceSeries.{FaceSeries}
use Rattle.stringy_theory.specs.Stringy.{s_tilde, s_tilde_dual}
use Rattle.face_poset.specs.Faces.{TableState, face_at}
use Rattle.dual_pair.specs.declared.side.Side.{Side}
use Rattle.dual_pair.specs.declared.side.Side.TheVariants as sides
use Rattle.poset_g.specs.Numbered.{numbered}

-- the polynomial of a face
abbrev pub row_at : List ℤ → ℕ → Series
row_at rows f k = cond (nat_lt k 8) (entry rows (8 * f + k)) (pos 0)

-- the rank of a face
abbrev pub rank_at : TableState → ℕ → ℕ
rank_at table f = (face_at table.faces f).rank

-- the faces of a table, with polynomials in place of h*
abbrev pub with_series : TableState → (ℕ → Series) → (ℕ → Series) → FaceSeries ℕ
with_series table h h_dual = record {
  faces = range_with_len 0 (length table.faces);
  below = (numbered table).below;
  rank = rank_at table;
  h = h;
  h_dual = h_dual;
  g = g (numbered table);
  g_dual = g_dual (numbered table);
}

-- S~ of a face on a side
abbrev pub tilde_of : TableState → Side → (ℕ → Series) → ℕ → Series
tilde_of table sides.M h f = s_tilde (with_series table h h) f
tilde_of table sides.N h f = s_tilde_dual (with_series table h h) f

-- of a face and another one, on one side the other is the lower one, and on the other side the upper one
abbrev pub low_of : Side → ℕ → ℕ → ℕ
low_of sides.M f x = x
low_of sides.N f x = f

abbrev pub high_of : Side → ℕ → ℕ → ℕ
high_of sides.M f x = f
high_of sides.N f x = x

-- the numbers of the faces that may be on its side: faces below it don't stand behind it
abbrev pub first_of : Side → ℕ → ℕ
first_of sides.M f = 0
first_of sides.N f = f

abbrev pub end_of : Side → ℕ → ℕ → ℕ
end_of sides.M f n = f + 1
end_of sides.N f n = n

-- the polynomial of the interval
abbrev pub interval_of : TableState → Side → ℕ → ℕ → Series
interval_of table sides.M x y = g (numbered table) x y
interval_of table sides.N x y = g_dual (numbered table) x y

-- what the other face adds to S~
abbrev pub signed_term : TableState → Side → (ℕ → Series) → ℕ → ℕ → ℕ → ℤ
signed_term table side h f x k = sign (rank_at table (high_of side f x) - rank_at table (low_of side f x))
    *ℤ product (h x) (interval_of table side (low_of side f x) (high_of side f x)) k

abbrev pub term_of : TableState → Side → (ℕ → Series) → ℕ → ℕ → ℕ → ℤ
term_of table side h f k x = cond ((numbered table).below (low_of side f x) (high_of side f x)) (signed_term table side h f x k) (pos 0)

-- how high the degree of a face's polynomial may be: its rank, and what is left of 8
abbrev pub degree_of : TableState → Side → ℕ → ℕ
degree_of table sides.M f = rank_at table f
degree_of table sides.N f = 8 - rank_at table f

-- a row for each face, with small numbers
pub record AreRows (table : TableState) (side : Side) (rows : List ℤ) : Type 0 where
  pub long : 8 * length table.faces ≤ length rows
  pub small : (j : ℕ) → nat_abs (entry rows j) ≤ 2 ^ 28
  pub degree : (f : ℕ) → f < length table.faces → HasDegreeAtMost (degree_of table side f) (row_at rows f)

-- what a face adds to the numerator
abbrev pub face_term : TableState → (ℕ → Series) → (ℕ → Series) → ℤ → ℕ → ℕ → ℤ
face_term table h h_dual p q f = times_at_ratio (tilde_of table sides.M h f) (times_at_product (tilde_of table sides.N h_dual f) (power_of_minus_u (rank_at table f))) p q
