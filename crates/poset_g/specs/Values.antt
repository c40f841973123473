-- When a table of the polynomials G and G' has those of a table of faces, and which coefficient is too large. This project's own.
use Rattle.std.specs.Prelude.{◌≡◌, ◌⊎◌, ℕ, ◌<◌, ◌≤◌, Bool, true, false, Result, Ok, Err, length, ℤ, nat_abs, ⊤}
use Rattle.face_poset.specs.Faces.{TableState}
use Rattle.polynomial_theory.specs.Series.{Series}
use Rattle.stringy_theory.specs.Eulerian.{g, g_dual}
use Rattle.poset_g.specs.Stored.{GState, has_interval, g_of, g_dual_of}
use Rattle.poset_g.specs.Numbered.{numbered, IsInterval}
use Rattle.poset_g.specs.declared.faults.GFault.{GFault}
use Rattle.poset_g.specs.declared.faults.GFault.TheVariants as faults
use Rattle.poset_g.specs.declared.faults.TheConstants.{MOST_COEFFICIENT}

-- it tells the intervals of the table's faces, and has their G and G'
pub record HoldsG (table : TableState) (values : GState) : Type 0 where
  pub told : (x y : ℕ) → x < length table.faces → y < length table.faces → has_interval values x y ≡ (numbered table).below x y
  pub g : (x y : ℕ) → IsInterval table x y → (k : ℕ) → g_of values x y k ≡ g (numbered table) x y k
  pub g_dual : (x y : ℕ) → IsInterval table x y → (k : ℕ) → g_dual_of values x y k ≡ g_dual (numbered table) x y k

-- a coefficient of G, or of G', of an interval
pub record Place : Type 0 where
  pub from : ℕ
  pub to : ℕ
  pub dual : Bool
  pub degree : ℕ

abbrev pub polynomial : TableState → Bool → ℕ → ℕ → Series
polynomial table false x y = g (numbered table) x y
polynomial table true x y = g_dual (numbered table) x y

abbrev pub coefficient : TableState → Place → ℤ
coefficient table p = polynomial table p.dual p.from p.to p.degree

-- the order of the coefficients: by the difference of ranks, then from, then to; G is before G', and degrees rise
abbrev pub IsDegreeBefore : Place → Place → Type 0
IsDegreeBefore p q = ((p.dual ≡ false) × (q.dual ≡ true)) ⊎ ((p.dual ≡ q.dual) × (p.degree < q.degree))

abbrev pub IsPairBefore : Place → Place → Type 0
IsPairBefore p q = (p.from < q.from) ⊎ ((p.from ≡ q.from) × ((p.to < q.to) ⊎ ((p.to ≡ q.to) × IsDegreeBefore p q)))

abbrev pub gap_of : TableState → Place → ℕ
gap_of table p = (numbered table).gap p.from p.to

abbrev pub IsBefore : TableState → Place → Place → Type 0
IsBefore table p q = (gap_of table p < gap_of table q) ⊎ ((gap_of table p ≡ gap_of table q) × IsPairBefore p q)

-- all coefficients are small
abbrev pub AreSmall : TableState → Type 0
AreSmall table = (p : Place) → IsInterval table p.from p.to → nat_abs (coefficient table p) ≤ MOST_COEFFICIENT

-- the first coefficient that isn't small
pub record IsFirstLarge (table : TableState) (from to degree : ℕ) (value : ℤ) : Type 0 where
  pub dual : Bool
  pub interval : IsInterval table from to
  pub value_is : value ≡ polynomial table dual from to degree
  pub large : MOST_COEFFICIENT < nat_abs value
  pub first : (p : Place) → IsInterval table p.from p.to → IsBefore table p (record { from = from; to = to; dual = dual; degree = degree })
      → nat_abs (coefficient table p) ≤ MOST_COEFFICIENT

-- why there is no table of G and G': the first large coefficient, or want of memory
abbrev pub IsFault : TableState → GFault → Type 0
IsFault table (faults.Coef from to degree value) = IsFirstLarge table from to degree value
IsFault table faults.NoMemory = ⊤

-- what making it gives: all of G and G', where no coefficient is large
abbrev pub IsMade : TableState → Result GState GFault → Type 0
IsMade table (Ok values) = HoldsG table values × AreSmall table
IsMade table (Err fault) = IsFault table fault
