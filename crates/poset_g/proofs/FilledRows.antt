-- Coefficients that are there, interval by interval, row by row, and by the difference of ranks.
use Rattle.std.proofs.Common.{◌≡◌, ◌≢◌, ◌⊎◌, inl, inr, ℕ, ◌+◌, ◌*◌, ◌<◌, ◌≤◌, Bool, true, false, cond, List, length, ℤ, pos, nat_abs, sym, ap, ◌∙◌, subst, arith}
use Rattle.std.proofs.Math.ListN.{set}
use Rattle.std.proofs.lemmas.Bool.{cases_lt}
use Rattle.std.proofs.lemmas.List.{length-set, get_or-set_same, get_or-set_other}
use Rattle.lattice_theory.specs.Vector.{entry}
use Rattle.face_poset.specs.Faces.{TableState, face_at}
use Rattle.poset_g.specs.Numbered.{numbered, IsInterval, HasAllFaces, HasSmallRanks}
use Rattle.poset_g.specs.Stored.{PlacesState, find_at}
use Rattle.poset_g.specs.Values.{Place, coefficient, gap_of}
use Rattle.poset_g.specs.PlaceSteps.{ArePlaces}
use Rattle.poset_g.specs.FillSteps.{number_of, kept_at, IsReached, AreFilled, CanFill, AreLower}
use Rattle.poset_g.proofs.IntervalNumbers.{not_found}
use Rattle.poset_g.proofs.Terms.{rank_up, rank_small}
use Rattle.poset_g.proofs.NumberedFaces.{not_behind, ranks_ascend}
use Rattle.poset_g.proofs.FilledPlaces.{same_or_not, number_small}

-- one small value more
pub can_fill_set : (table : TableState) (s : PlacesState) (values : List ℤ) (i : ℕ) (value : ℤ) → CanFill table s values → i < length values → nat_abs value ≤ 4096
    → CanFill table s (set values i value)
can_fill_set table s values i value c l h = record {
  faces = c.faces;
  ranks = c.ranks;
  places = c.places;
  few = c.few;
  kept = record { many = length-set values i value ∙ c.kept.many; small = λ j. by j (same_or_not j i) };
}
  where
    by : (j : ℕ) → (j ≡ i) ⊎ (j ≢ i) → nat_abs (entry (set values i value) j) ≤ 4096
    by j (inl e) = let f = ap nat_abs (ap (entry (set values i value)) e ∙ get_or-set_same values i value (pos 0) l) in omega arith
    by j (inr n) = let f = ap nat_abs (get_or-set_other values i j value (pos 0) n) in let k = c.kept.small j in omega arith

pub can_fill_told : (table : TableState) (s : PlacesState) (values : List ℤ) (place first degree : ℕ) (dual : Bool) (value : ℤ) → CanFill table s values
    → first ≡ cond dual 4 0 → degree ≤ 3 → place < s.total → nat_abs value ≤ 4096 → CanFill table s (set values (8 * place + first + degree) value)
can_fill_told table s values place first degree dual value c e d l h = can_fill_set table s values (8 * place + first + degree) value c (by dual e) h
  where
    by : (b : Bool) → first ≡ cond b 4 0 → 8 * place + first + degree < length values
    by true f = let m = c.kept.many in omega arith
    by false f = let m = c.kept.many in omega arith

-- the same under other names
pub filled_at : (table : TableState) (s : PlacesState) (values : List ℤ) (x y n from to number : ℕ) → AreFilled table s values ((numbered table).gap x y) x y (n + 1)
    → x ≡ from → y ≡ to → n ≡ number → AreFilled table s values ((numbered table).gap from to) from to (number + 1)
filled_at table s values x y n from to number h e f g = rw (sym e, sym f, sym g) h

pub filled_from : (table : TableState) (s : PlacesState) (values : List ℤ) (from to number x y n : ℕ) → AreFilled table s values ((numbered table).gap from to) from to number
    → x ≡ from → y ≡ to → n ≡ number → AreFilled table s values ((numbered table).gap x y) x y n
filled_from table s values from to number x y n h e f g = rw (e, f, g) h

pub filled_whole : (table : TableState) (s : PlacesState) (values : List ℤ) (gap from to n m : ℕ) → n ≡ m → AreFilled table s values gap from to n
    → AreFilled table s values gap from to m
filled_whole table s values gap from to n m e h = subst (λ (k : ℕ). AreFilled table s values gap from to k) e h

-- a new interval
pair_or_before : (table : TableState) (p : Place) (gap from to : ℕ) → IsReached table gap from (to + 1) 0 p
    → IsReached table gap from to 0 p ⊎ ((gap_of table p ≡ gap) × (p.from ≡ from) × (p.to ≡ to))
pair_or_before table p gap from to (inl h) = inl (inl h)
pair_or_before table p gap from to (inr h) = first h.1
  where
    last : p.from ≡ from → (p.to < to) ⊎ (to ≤ p.to) → p.to < to + 1 → IsReached table gap from to 0 p ⊎ ((gap_of table p ≡ gap) × (p.from ≡ from) × (p.to ≡ to))
    last e (inl m) l = inl (inr (h.0, inr (e, inl m)))
    last e (inr m) l = inr (h.0, e, omega arith)

    second : p.from ≡ from → (p.to < to + 1) ⊎ ((p.to ≡ to + 1) × (number_of p < 0))
        → IsReached table gap from to 0 p ⊎ ((gap_of table p ≡ gap) × (p.from ≡ from) × (p.to ≡ to))
    second e (inl m) = last e (cases_lt p.to to) m
    second e (inr m) = let n = m.1 in absurd (omega arith)

    first : (p.from < from) ⊎ ((p.from ≡ from) × ((p.to < to + 1) ⊎ ((p.to ≡ to + 1) × (number_of p < 0))))
        → IsReached table gap from to 0 p ⊎ ((gap_of table p ≡ gap) × (p.from ≡ from) × (p.to ≡ to))
    first (inl m) = inl (inr (h.0, inl m))
    first (inr m) = second m.0 m.1

-- faces of lower ranks: one more, and all of them
pub one_lower : (table : TableState) (place rank : ℕ) → AreLower table place rank → (face_at table.faces place).rank < rank → AreLower table (place + 1) rank
one_lower table place rank before h z l m = by (cases_lt z place)
  where
    by : (z < place) ⊎ (place ≤ z) → (face_at table.faces z).rank < rank
    by (inl k) = before z k m
    by (inr k) = let e = ap (λ (i : ℕ). (face_at table.faces i).rank) (same z place l k) in omega arith
      where
        same : (z place : ℕ) → z < place + 1 → place ≤ z → z ≡ place
        same z place l k = omega arith

pub all_lower : (table : TableState) (place end rank : ℕ) → length table.faces ≤ place → AreLower table place rank → AreLower table end rank
all_lower table place end rank l before z k m = before z (omega arith) m

-- of faces with lower ranks, those of later ones are lower, too
pub still_lower : (table : TableState) → HasAllFaces table → (first from next gap : ℕ) → AreLower table first ((face_at table.faces from).rank + gap) → from ≤ next
    → next < length table.faces → AreLower table first ((face_at table.faces next).rank + gap)
still_lower table h first from next gap before l m z k i = let e = before z k i in let f = ranks_ascend h.0 table h.1 from next l m in omega arith

module _ (table : TableState) (h : HasAllFaces table) (s : PlacesState) (values : List ℤ) where
  -- none with this difference of ranks
  pub skip_rank : (gap from to : ℕ) → ((face_at table.faces to).rank ≢ (face_at table.faces from).rank + gap)
      → AreFilled table s values gap from to 0 → AreFilled table s values gap from (to + 1) 0
  skip_rank gap from to n filled p i d r = by (pair_or_before table p gap from to r)
    where
      clash : (gap_of table p ≡ gap) → (p.from ≡ from) → (p.to ≡ to) → ⊥
      clash e a b =
          let l = rank_up table h p.from p.to i in
          let f = ap (λ (x : ℕ). (face_at table.faces x).rank) a in
          let g = ap (λ (x : ℕ). (face_at table.faces x).rank) b in
          n (omega arith)

      by : IsReached table gap from to 0 p ⊎ ((gap_of table p ≡ gap) × (p.from ≡ from) × (p.to ≡ to))
          → (kept_at s values p ≡ coefficient table p) × (nat_abs (coefficient table p) ≤ 4096)
      by (inl q) = filled p i d q
      by (inr q) = absurd (clash q.0 q.1 q.2)

  -- none of several faces
  pub skip_ranks : (gap from first end : ℕ) → ((z : ℕ) → first ≤ z → z < end → z < length table.faces → (face_at table.faces z).rank ≢ (face_at table.faces from).rank + gap)
      → AreFilled table s values gap from first 0 → AreFilled table s values gap from end 0
  skip_ranks gap from first end n filled p i d r = filled p i d (at r)
    where
      clash : (gap_of table p ≡ gap) → (p.from ≡ from) → first ≤ p.to → p.to < end → ⊥
      clash e a l m =
          let k = rank_up table h p.from p.to i in
          let f = ap (λ (x : ℕ). (face_at table.faces x).rank) a in
          n p.to l m i.to (omega arith)

      by : (gap_of table p ≡ gap) → (p.from ≡ from) → p.to < end → (p.to < first) ⊎ (first ≤ p.to) → (p.to < first) ⊎ ((p.to ≡ first) × (number_of p < 0))
      by e a m (inl l) = inl l
      by e a m (inr l) = absurd (clash e a l m)

      row : (gap_of table p ≡ gap) → (p.from < from) ⊎ ((p.from ≡ from) × ((p.to < end) ⊎ ((p.to ≡ end) × (number_of p < 0))))
          → (p.from < from) ⊎ ((p.from ≡ from) × ((p.to < first) ⊎ ((p.to ≡ first) × (number_of p < 0))))
      row e (inl m) = inl m
      row e (inr (a, inl m)) = inr (a, by e a m (cases_lt p.to first))
      row e (inr (a, inr m)) = let k = m.1 in absurd (omega arith)

      at : IsReached table gap from end 0 p → IsReached table gap from first 0 p
      at (inl m) = inl m
      at (inr m) = inr (m.0, row m.0 m.1)

  -- the first of them, where those before it have lower ranks
  pub skip_lower : (gap from first : ℕ) → AreLower table first ((face_at table.faces from).rank + gap) → AreFilled table s values gap from 0 0
      → AreFilled table s values gap from first 0
  skip_lower gap from first before filled = skip_ranks gap from 0 first (λ z l m k e. let b = before z m k in omega arith) filled

  -- the rest, where one has a higher rank
  pub skip_higher : (gap from to : ℕ) → (face_at table.faces from).rank + gap < (face_at table.faces to).rank → AreFilled table s values gap from to 0
      → AreFilled table s values gap from (length table.faces) 0
  skip_higher gap from to higher filled = skip_ranks gap from to (length table.faces)
      (λ z l m k e. let f = ranks_ascend h.0 table h.1 to z l k in omega arith) filled

  -- no interval
  pub skip_none : ArePlaces (numbered table) (length table.faces) s → (gap from to : ℕ) → find_at s from to ≡ 0
      → AreFilled table s values gap from to 0 → AreFilled table s values gap from (to + 1) 0
  skip_none places gap from to e filled p i d r = by (pair_or_before table p gap from to r)
    where
      clash : (p.from ≡ from) → (p.to ≡ to) → ⊥
      clash a b = not_found table s places from to e (subst (λ (x : ℕ). IsInterval table x to) a (subst (λ (y : ℕ). IsInterval table p.from y) b i))

      by : IsReached table gap from to 0 p ⊎ ((gap_of table p ≡ gap) × (p.from ≡ from) × (p.to ≡ to))
          → (kept_at s values p ≡ coefficient table p) × (nat_abs (coefficient table p) ≤ 4096)
      by (inl q) = filled p i d q
      by (inr q) = absurd (clash q.1 q.2)

  -- all of an interval
  pub whole_interval : (gap from to n : ℕ) → n ≡ gap → AreFilled table s values n from to 8 → AreFilled table s values gap from (to + 1) 0
  whole_interval gap from to n e filled p i d r = by (pair_or_before table p gap from to r)
    where
      weaker : (p.from < from) ⊎ ((p.from ≡ from) × ((p.to < to) ⊎ ((p.to ≡ to) × (number_of p < 0))))
          → (p.from < from) ⊎ ((p.from ≡ from) × ((p.to < to) ⊎ ((p.to ≡ to) × (number_of p < 8))))
      weaker (inl m) = inl m
      weaker (inr m) = inr (m.0, to_less m.1)
        where
          to_less : (p.to < to) ⊎ ((p.to ≡ to) × (number_of p < 0)) → (p.to < to) ⊎ ((p.to ≡ to) × (number_of p < 8))
          to_less (inl k) = inl k
          to_less (inr k) = let z = k.1 in absurd (omega arith)

      at : IsReached table gap from to 0 p → IsReached table n from to 8 p
      at (inl m) = inl (omega arith)
      at (inr m) = inr (m.0 ∙ sym e, weaker m.1)

      by : IsReached table gap from to 0 p ⊎ ((gap_of table p ≡ gap) × (p.from ≡ from) × (p.to ≡ to))
          → (kept_at s values p ≡ coefficient table p) × (nat_abs (coefficient table p) ≤ 4096)
      by (inl q) = filled p i d (at q)
      by (inr q) = filled p i d (inr (q.0 ∙ sym e, inr (q.1, inr (q.2, number_small p d))))

  -- the beginning of a row
  pub row_starts : (gap from : ℕ) → AreFilled table s values gap from 0 0 → AreFilled table s values gap from from 0
  row_starts gap from filled p i d r = filled p i d (at r)
    where
      ordered : p.from ≤ p.to
      ordered = not_behind h.0 table h.1 p.from p.to i.from i.to i.below

      nothing : p.from ≡ from → (p.to < from) ⊎ ((p.to ≡ from) × (number_of p < 0)) → ⊥
      nothing e (inl m) = let o = ordered in omega arith
      nothing e (inr m) = let n = m.1 in omega arith

      row : (p.from < from) ⊎ ((p.from ≡ from) × ((p.to < from) ⊎ ((p.to ≡ from) × (number_of p < 0))))
          → (p.from < from) ⊎ ((p.from ≡ from) × ((p.to < 0) ⊎ ((p.to ≡ 0) × (number_of p < 0))))
      row (inl m) = inl m
      row (inr m) = absurd (nothing m.0 m.1)

      at : IsReached table gap from from 0 p → IsReached table gap from 0 0 p
      at (inl m) = inl m
      at (inr m) = inr (m.0, row m.1)

  -- and its end
  pub row_ends : (gap from end : ℕ) → length table.faces ≤ end → AreFilled table s values gap from end 0 → AreFilled table s values gap (from + 1) 0 0
  row_ends gap from end l filled p i d r = filled p i d (at r)
    where
      by : (p.from < from) ⊎ (from ≤ p.from) → p.from < from + 1 → (p.from < from) ⊎ ((p.from ≡ from) × ((p.to < end) ⊎ ((p.to ≡ end) × (number_of p < 0))))
      by (inl m) k = inl m
      by (inr m) k = inr (omega arith, inl (let t = i.to in omega arith))

      nothing : (p.to < 0) ⊎ ((p.to ≡ 0) × (number_of p < 0)) → ⊥
      nothing (inl m) = omega arith
      nothing (inr m) = let n = m.1 in omega arith

      row : (p.from < from + 1) ⊎ ((p.from ≡ from + 1) × ((p.to < 0) ⊎ ((p.to ≡ 0) × (number_of p < 0))))
          → (p.from < from) ⊎ ((p.from ≡ from) × ((p.to < end) ⊎ ((p.to ≡ end) × (number_of p < 0))))
      row (inl m) = by (cases_lt p.from from) m
      row (inr m) = absurd (nothing m.1)

      at : IsReached table gap (from + 1) 0 0 p → IsReached table gap from end 0 p
      at (inl m) = inl m
      at (inr m) = inr (m.0, row m.1)

  -- all rows
  pub gap_ends : (gap end : ℕ) → length table.faces ≤ end → AreFilled table s values gap end 0 0 → AreFilled table s values (gap + 1) 0 0 0
  gap_ends gap end l filled p i d r = filled p i d (at r)
    where
      by : (gap_of table p < gap) ⊎ (gap ≤ gap_of table p) → gap_of table p < gap + 1 → IsReached table gap end 0 0 p
      by (inl m) k = inl m
      by (inr m) k = inr (omega arith, inl (let f = i.from in omega arith))

      nothing : (p.from < 0) ⊎ ((p.from ≡ 0) × ((p.to < 0) ⊎ ((p.to ≡ 0) × (number_of p < 0)))) → ⊥
      nothing (inl m) = omega arith
      nothing (inr m) = none m.1
        where
          none : (p.to < 0) ⊎ ((p.to ≡ 0) × (number_of p < 0)) → ⊥
          none (inl k) = omega arith
          none (inr k) = let n = k.1 in omega arith

      at : IsReached table (gap + 1) 0 0 0 p → IsReached table gap end 0 0 p
      at (inl m) = by (cases_lt (gap_of table p) gap) m
      at (inr m) = absurd (nothing m.1)

  -- nothing is there at first
  pub none_filled : AreFilled table s values 0 0 0 0
  none_filled p i d r = absurd (at r)
    where
      nothing : (p.from < 0) ⊎ ((p.from ≡ 0) × ((p.to < 0) ⊎ ((p.to ≡ 0) × (number_of p < 0)))) → ⊥
      nothing (inl m) = omega arith
      nothing (inr m) = none m.1
        where
          none : (p.to < 0) ⊎ ((p.to ≡ 0) × (number_of p < 0)) → ⊥
          none (inl k) = omega arith
          none (inr k) = let n = k.1 in omega arith

      at : IsReached table 0 0 0 0 p → ⊥
      at (inl m) = omega arith
      at (inr m) = nothing m.1

  -- all is there in the end
  pub all_filled : HasSmallRanks table → AreFilled table s values 9 0 0 0 → (p : Place) → IsInterval table p.from p.to → p.degree < 4
      → (kept_at s values p ≡ coefficient table p) × (nat_abs (coefficient table p) ≤ 4096)
  all_filled small filled p i d = filled p i d (inl (let m = rank_small table h small p.to i.to in omega arith))
