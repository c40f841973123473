-- What contracts see of a table of the polynomials G and G', and which polynomials it has. This project's own.
use Rattle.std.specs.Prelude.{ℕ, zero, suc, ◌+◌, ◌*◌, nat_lt, ◌&&◌, Bool, cond, List, ℤ, pos, slice_index_or}
use Rattle.lattice_theory.specs.Vector.{entry}
use Rattle.polynomial_theory.specs.Series.{Series}

-- how many faces and how many intervals there are, and a number for each two faces
pub record PlacesState : Type 0 where
  pub count : ℕ
  pub total : ℕ
  pub table : List ℕ

-- the number for x and y
abbrev pub number_at : PlacesState → ℕ → ℕ → ℕ
number_at s x y = slice_index_or s.table (x * s.count + y) 0

abbrev pub find_at : PlacesState → ℕ → ℕ → ℕ
find_at s x y = cond (nat_lt x s.count && nat_lt y s.count) (number_at s x y) 0

-- the coefficients that are kept for x and y, of which those of one polynomial begin at a place among eight
abbrev pub read_at : List ℤ → ℕ → ℕ → Series
read_at values first zero k = pos 0
read_at values first (suc p) k = cond (nat_lt k 4) (entry values (8 * p + first + k)) (pos 0)

abbrev pub stored : PlacesState → List ℤ → ℕ → ℕ → ℕ → Series
stored s values first x y = read_at values first (find_at s x y)

-- the numbers of the intervals, and for each number in turn eight coefficients: those of G from degree 0 to 3, and those of G'
pub record GState : Type 0 where
  pub places : PlacesState
  pub values : List ℤ

-- whether it has polynomials for x and y
abbrev pub has_interval : GState → ℕ → ℕ → Bool
has_interval s x y = nat_lt 0 (find_at s.places x y)

-- G[x,y] and G'[x,y] in it
abbrev pub g_of : GState → ℕ → ℕ → Series
g_of s x y = stored s.places s.values 0 x y

abbrev pub g_dual_of : GState → ℕ → ℕ → Series
g_dual_of s x y = stored s.places s.values 4 x y
