-- How the coefficients are filled in. This project's own.
use Rattle.std.specs.Prelude.{◌≡◌, ◌⊎◌, ℕ, ◌+◌, ◌*◌, ◌<◌, ◌≤◌, ◌==◌, nat_lt, ◌&&◌, Bool, true, false, cond, List, ℤ, pos, neg_ℤ, nat_abs, length}
use Rattle.std.specs.List.{filter, range_with_len}
use Rattle.lattice_theory.specs.Vector.{entry}
use Rattle.polynomial_theory.specs.Sums.{sum_over}
use Rattle.polynomial_theory.specs.Series.{Series, product, power, t_minus_1}
use Rattle.face_closing.specs.declared.limits.TheConstants.{MOST_FACES}
use Rattle.face_poset.specs.Faces.{TableState, face_at}
use Rattle.poset_g.specs.declared.faults.TheConstants.{MOST_COEFFICIENT}
use Rattle.poset_g.specs.declared.sums.Wanted.{Wanted}
use Rattle.poset_g.specs.Numbered.{numbered, IsInterval, HasAllFaces, HasSmallRanks}
use Rattle.poset_g.specs.Values.{Place, polynomial, coefficient, gap_of}
use Rattle.poset_g.specs.Stored.{PlacesState, find_at, stored}
use Rattle.poset_g.specs.PlaceSteps.{ArePlaces}

-- each face before a place has a lower rank than this one
abbrev pub AreLower : TableState → ℕ → ℕ → Type 0
AreLower table place rank = (z : ℕ) → z < place → z < length table.faces → (face_at table.faces z).rank < rank

-- the coefficient that is wanted
abbrev pub place_of : Wanted → Place
place_of w = record { from = w.from; to = w.to; dual = w.dual; degree = w.degree }

-- the faces z with x <= z
abbrev pub above : PlacesState → ℕ → List ℕ
above s x = filter (λ z. nat_lt 0 (find_at s x z)) (range_with_len 0 s.count)

-- the faces z with x <= z <= y
abbrev pub is_between : PlacesState → ℕ → ℕ → ℕ → Bool
is_between s x y z = nat_lt 0 (find_at s x z) && nat_lt 0 (find_at s z y)

abbrev pub between : PlacesState → ℕ → ℕ → List ℕ
between s x y = filter (is_between s x y) (range_with_len 0 s.count)

-- the end of an interval from which a face's term is counted: G's is by the difference of ranks from below, G's of the other way round from above
abbrev pub near : Place → ℕ
near p = cond p.dual p.to p.from

abbrev pub step_gap : TableState → Place → ℕ → ℕ
step_gap table p z = cond p.dual ((numbered table).gap z p.to) ((numbered table).gap p.from z)

abbrev pub rest_of : TableState → Place → ℕ → Series
rest_of table p z = cond p.dual (polynomial table true p.from z) (polynomial table false z p.to)

-- the term of a face: none of the end itself
abbrev pub kept_term : TableState → Place → ℕ → ℤ
kept_term table p z = cond (z == near p) (pos 0) (product (power t_minus_1 (step_gap table p z)) (rest_of table p z) p.degree)

abbrev pub negative_sum : TableState → Place → List ℕ → ℤ
negative_sum table p zs = neg_ℤ (sum_over zs (kept_term table p))

-- so many intervals have eight coefficients each, none of which is large
pub record AreKeptValues (total : ℕ) (values : List ℤ) : Type 0 where
  pub many : length values ≡ 8 * total
  pub small : (i : ℕ) → nat_abs (entry values i) ≤ MOST_COEFFICIENT

-- what the work is done with: a table of faces with ranks up to 8, numbers for its intervals, and room for eight coefficients of each
pub record CanFill (table : TableState) (s : PlacesState) (values : List ℤ) : Type 0 where
  pub faces : HasAllFaces table
  pub ranks : HasSmallRanks table
  pub places : ArePlaces (numbered table) (length table.faces) s
  pub few : s.count ≤ MOST_FACES
  pub kept : AreKeptValues s.total values

-- the place of a coefficient among the eight of its interval, and what is kept there
abbrev pub number_of : Place → ℕ
number_of p = cond p.dual 4 0 + p.degree

abbrev pub kept_at : PlacesState → List ℤ → Place → ℤ
kept_at s values p = stored s values (cond p.dual 4 0) p.from p.to p.degree

-- the coefficient comes before the one with this number, in the order in which they are filled in
abbrev pub IsReached : TableState → ℕ → ℕ → ℕ → ℕ → Place → Type 0
IsReached table gap from to number p = (gap_of table p < gap) ⊎ ((gap_of table p ≡ gap)
    × ((p.from < from) ⊎ ((p.from ≡ from) × ((p.to < to) ⊎ ((p.to ≡ to) × (number_of p < number))))))

-- those before it are there, and small
abbrev pub AreFilled : TableState → PlacesState → List ℤ → ℕ → ℕ → ℕ → ℕ → Type 0
AreFilled table s values gap from to number = (p : Place) → IsInterval table p.from p.to → p.degree < 4 → IsReached table gap from to number p
    → (kept_at s values p ≡ coefficient table p) × (nat_abs (coefficient table p) ≤ MOST_COEFFICIENT)

-- those of smaller differences of ranks
abbrev pub AreFilledBelow : TableState → PlacesState → List ℤ → Place → Type 0
AreFilledBelow table s values p = AreFilled table s values (gap_of table p) 0 0 0

-- those before a coefficient
abbrev pub AreFilledTo : TableState → PlacesState → List ℤ → Place → Type 0
AreFilledTo table s values p = AreFilled table s values (gap_of table p) p.from p.to (number_of p)
