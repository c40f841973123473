-- How the coefficients that are there become more.
use Rattle.std.proofs.Common.{◌≡◌, ◌≢◌, ◌⊎◌, inl, inr, ℕ, zero, suc, ◌+◌, ◌*◌, ◌<◌, ◌≤◌, Bool, true, false, cond, List, length, ℤ, pos, nat_abs, refl, sym, ap, ◌∙◌, arith}
use Rattle.std.proofs.Math.ListN.{set}
use Rattle.std.proofs.lemmas.Bool.{cases_lt}
use Rattle.std.proofs.lemmas.List.{get_or-set_same, get_or-set_other}
use Rattle.lattice_theory.specs.Vector.{entry}
use Rattle.face_poset.specs.Faces.{TableState}
use Rattle.polynomial_theory.specs.Series.{one}
use Rattle.poset_g.specs.Numbered.{numbered, IsInterval, HasAllFaces, HasSmallRanks}
use Rattle.poset_g.specs.Stored.{PlacesState, find_at}
use Rattle.poset_g.specs.Values.{Place, coefficient, polynomial, gap_of, IsBefore, IsPairBefore, IsDegreeBefore, IsFirstLarge}
use Rattle.poset_g.specs.PlaceSteps.{ArePlaces}
use Rattle.poset_g.specs.FillSteps.{number_of, kept_at, IsReached, AreFilled, AreFilledTo}
use Rattle.poset_g.proofs.IntervalNumbers.{found_at, one_interval}
use Rattle.poset_g.proofs.IntervalSums.{high_at, same_at}
use Rattle.poset_g.proofs.Terms.{kept_entry, rank_small}

-- equal or not
pub same_or_not : (a b : ℕ) → (a ≡ b) ⊎ (a ≢ b)
same_or_not a b = by (cases_lt a b) (cases_lt b a)
  where
    by : (a < b) ⊎ (b ≤ a) → (b < a) ⊎ (a ≤ b) → (a ≡ b) ⊎ (a ≢ b)
    by (inl h) d = inr (λ e. absurd (omega arith))
    by (inr h) (inl k) = inr (λ e. absurd (omega arith))
    by (inr h) (inr k) = inl (omega arith)

-- of degree 4 and more there is nothing
pub none_higher : (table : TableState) → HasAllFaces table → HasSmallRanks table → (p : Place) → IsInterval table p.from p.to → 4 ≤ p.degree → coefficient table p ≡ pos 0
none_higher table h small p i l = by (same_or_not p.from p.to)
  where
    no_one : (k : ℕ) → 4 ≤ k → one k ≡ pos 0
    no_one (suc k) l = refl
    no_one zero l = absurd (omega arith)

    by : (p.from ≡ p.to) ⊎ (p.from ≢ p.to) → coefficient table p ≡ pos 0
    by (inl e) = same_at table h p i.from e ∙ no_one p.degree l
    by (inr n) = high_at table h p i n (let m = rank_small table h small p.to i.to in omega arith)

-- where it comes before another, it is reached before
dual_number : (p q : Place) → p.degree < 4 → p.dual ≡ false → q.dual ≡ true → number_of p < number_of q
dual_number p q l e f =
    let a = ap (λ (d : Bool). cond d 4 0 + p.degree) e in
    let b = ap (λ (d : Bool). cond d 4 0 + q.degree) f in
    omega arith

degree_number : (p q : Place) → p.dual ≡ q.dual → p.degree < q.degree → number_of p < number_of q
degree_number p q e l = more (first p.dual) (first q.dual) p.degree q.degree (ap first e) l
  where
    first : Bool → ℕ
    first d = cond d 4 0

    more : (a b c d : ℕ) → a ≡ b → c < d → a + c < b + d
    more a b c d e l = omega arith

pub reached_before : (table : TableState) (p q : Place) → p.degree < 4 → IsBefore table p q → IsReached table (gap_of table q) q.from q.to (number_of q) p
reached_before table p q l (inl h) = inl h
reached_before table p q l (inr h) = inr (h.0, pair h.1)
  where
    number : IsDegreeBefore p q → number_of p < number_of q
    number (inl d) = dual_number p q l d.0 d.1
    number (inr d) = degree_number p q d.0 d.1

    to : (p.to < q.to) ⊎ ((p.to ≡ q.to) × IsDegreeBefore p q) → (p.to < q.to) ⊎ ((p.to ≡ q.to) × (number_of p < number_of q))
    to (inl d) = inl d
    to (inr d) = inr (d.0, number d.1)

    pair : IsPairBefore p q → (p.from < q.from) ⊎ ((p.from ≡ q.from) × ((p.to < q.to) ⊎ ((p.to ≡ q.to) × (number_of p < number_of q))))
    pair (inl d) = inl d
    pair (inr d) = inr (d.0, to d.1)

-- the first large one
pub first_large : (table : TableState) → HasAllFaces table → HasSmallRanks table → (s : PlacesState) (values : List ℤ) (w : Place) (value : ℤ) → IsInterval table w.from w.to
    → AreFilledTo table s values w → value ≡ coefficient table w → 4096 < nat_abs value → IsFirstLarge table w.from w.to w.degree value
first_large table h small s values w value i filled e l = record {
  dual = w.dual;
  interval = i;
  value_is = e;
  large = l;
  first = λ p j b. by p j b (cases_lt p.degree 4);
}
  where
    by : (p : Place) → IsInterval table p.from p.to → IsBefore table p w → (p.degree < 4) ⊎ (4 ≤ p.degree) → nat_abs (coefficient table p) ≤ 4096
    by p j b (inl m) = (filled p j m (reached_before table p w m b)).1
    by p j b (inr m) = let z = ap nat_abs (none_higher table h small p j m) in omega arith

-- one coefficient more
number_places : (m n a b : ℕ) → a < 8 → b < 8 → 8 * m + a ≡ 8 * n + b → (m ≡ n) × (a ≡ b)
number_places m n a b h k e = (omega arith, omega arith)

pub number_small : (p : Place) → p.degree < 4 → number_of p < 8
number_small p l = by p.dual
  where
    by : (d : Bool) → cond d 4 0 + p.degree < 8
    by true = omega arith
    by false = omega arith

same_parts : (d e : Bool) (a b : ℕ) → a < 4 → b < 4 → cond d 4 0 + a ≡ cond e 4 0 + b → (d ≡ e) × (a ≡ b)
same_parts true true a b h k e = (refl, omega arith)
same_parts false false a b h k e = (refl, omega arith)
same_parts true false a b h k e = absurd (omega arith)
same_parts false true a b h k e = absurd (omega arith)

same_coefficient : (table : TableState) (p w : Place) → p.from ≡ w.from → p.to ≡ w.to → p.dual ≡ w.dual → p.degree ≡ w.degree → coefficient table p ≡ coefficient table w
same_coefficient table p w a b c d = ap (λ (x : ℕ). polynomial table p.dual x p.to p.degree) a ∙ ap (λ (y : ℕ). polynomial table p.dual w.from y p.degree) b
    ∙ ap (λ (e : Bool). polynomial table e w.from w.to p.degree) c ∙ ap (λ (k : ℕ). polynomial table w.dual w.from w.to k) d

less_or_same : (table : TableState) (p : Place) (gap from to number : ℕ) → IsReached table gap from to (number + 1) p
    → IsReached table gap from to number p ⊎ ((p.from ≡ from) × (p.to ≡ to) × (number_of p ≡ number))
less_or_same table p gap from to number (inl h) = inl (inl h)
less_or_same table p gap from to number (inr h) = pair h.1
  where
    last : p.from ≡ from → p.to ≡ to → number_of p < number + 1 → (number_of p < number) ⊎ (number ≤ number_of p)
        → IsReached table gap from to number p ⊎ ((p.from ≡ from) × (p.to ≡ to) × (number_of p ≡ number))
    last e f l (inl m) = inl (inr (h.0, inr (e, inr (f, m))))
    last e f l (inr m) = inr (e, f, omega arith)

    second : p.from ≡ from → (p.to < to) ⊎ ((p.to ≡ to) × (number_of p < number + 1))
        → IsReached table gap from to number p ⊎ ((p.from ≡ from) × (p.to ≡ to) × (number_of p ≡ number))
    second e (inl m) = inl (inr (h.0, inr (e, inl m)))
    second e (inr m) = last e m.0 m.1 (cases_lt (number_of p) number)

    pair : (p.from < from) ⊎ ((p.from ≡ from) × ((p.to < to) ⊎ ((p.to ≡ to) × (number_of p < number + 1))))
        → IsReached table gap from to number p ⊎ ((p.from ≡ from) × (p.to ≡ to) × (number_of p ≡ number))
    pair (inl m) = inl (inr (h.0, inl m))
    pair (inr m) = second m.0 m.1

module _ (table : TableState) (s : PlacesState) (places : ArePlaces (numbered table) (length table.faces) s) where
  pub one_filled : (values : List ℤ) (value : ℤ) (w : Place) (place : ℕ) → find_at s w.from w.to ≡ suc place → w.degree < 4 → 8 * place + 7 < length values
      → AreFilledTo table s values w → value ≡ coefficient table w → nat_abs value ≤ 4096
      → AreFilled table s (set values (8 * place + cond w.dual 4 0 + w.degree) value) (gap_of table w) w.from w.to (number_of w + 1)
  one_filled values value w place e l m filled v small p i d r = by (found_at table s places p.from p.to i)
    where
      by : (n : ℕ) × (find_at s p.from p.to ≡ suc n)
          → (kept_at s (set values (8 * place + cond w.dual 4 0 + w.degree) value) p ≡ coefficient table p) × (nat_abs (coefficient table p) ≤ 4096)
      by n = at (same_or_not (8 * n.0 + cond p.dual 4 0 + p.degree) (8 * place + cond w.dual 4 0 + w.degree))
        where
          new : List ℤ
          new = set values (8 * place + cond w.dual 4 0 + w.degree) value

          within : 8 * place + cond w.dual 4 0 + w.degree < length values
          within = let k = number_small w l in omega arith

          at : (8 * n.0 + cond p.dual 4 0 + p.degree ≡ 8 * place + cond w.dual 4 0 + w.degree) ⊎
              (8 * n.0 + cond p.dual 4 0 + p.degree ≢ 8 * place + cond w.dual 4 0 + w.degree)
              → (kept_at s (set values (8 * place + cond w.dual 4 0 + w.degree) value) p ≡ coefficient table p) × (nat_abs (coefficient table p) ≤ 4096)
          at (inl same) =
              let q = number_places n.0 place (number_of p) (number_of w) (number_small p d) (number_small w l) (let t = same in omega arith) in
              let parts = same_parts p.dual w.dual p.degree w.degree d l q.1 in
              let both = one_interval table s places p.from p.to w.from w.to place (n.1 ∙ ap suc q.0) e in
              let c = same_coefficient table p w both.0 both.1 parts.0 parts.1 in (
                kept_entry s (set values (8 * place + cond w.dual 4 0 + w.degree) value) p n.0 n.1 d
                    ∙ ap (entry (set values (8 * place + cond w.dual 4 0 + w.degree) value)) same
                    ∙ get_or-set_same values (8 * place + cond w.dual 4 0 + w.degree) value (pos 0) within
                    ∙ v ∙ sym c,
                let z = ap nat_abs (v ∙ sym c) in omega arith,
              )
          at (inr other) = old (less_or_same table p (gap_of table w) w.from w.to (number_of w) r)
            where
              old : IsReached table (gap_of table w) w.from w.to (number_of w) p ⊎ ((p.from ≡ w.from) × (p.to ≡ w.to) × (number_of p ≡ number_of w))
                  → (kept_at s (set values (8 * place + cond w.dual 4 0 + w.degree) value) p ≡ coefficient table p) × (nat_abs (coefficient table p) ≤ 4096)
              old (inl reached) =
                  let f = filled p i d reached in (
                    kept_entry s (set values (8 * place + cond w.dual 4 0 + w.degree) value) p n.0 n.1 d
                        ∙ get_or-set_other values (8 * place + cond w.dual 4 0 + w.degree) (8 * n.0 + cond p.dual 4 0 + p.degree) value (pos 0) other
                        ∙ sym (kept_entry s values p n.0 n.1 d) ∙ f.0,
                    f.1,
                  )
              old (inr here) =
                  let g : suc n.0 ≡ suc place = sym n.1 ∙ ap (λ (x : ℕ). find_at s x p.to) here.0 ∙ ap (λ (y : ℕ). find_at s w.from y) here.1 ∙ e in
                  let q = here.2 in
                  absurd (other (omega arith))

  pub told_filled : (values : List ℤ) (value : ℤ) (w : Place) (place first : ℕ) → first ≡ cond w.dual 4 0 → find_at s w.from w.to ≡ suc place → w.degree < 4
      → 8 * place + 7 < length values → AreFilledTo table s values w → value ≡ coefficient table w → nat_abs value ≤ 4096
      → AreFilled table s (set values (8 * place + first + w.degree) value) (gap_of table w) w.from w.to (number_of w + 1)
  told_filled values value w place first f e l m filled v small = rw f (one_filled values value w place e l m filled v small)

  -- the rest of an interval, a row, and all of a difference of ranks
  pub more_reached : (values : List ℤ) (g f t n g' f' t' n' : ℕ) → AreFilled table s values g f t n
      → ((p : Place) → IsInterval table p.from p.to → p.degree < 4 → IsReached table g' f' t' n' p → IsReached table g f t n p) → AreFilled table s values g' f' t' n'
  more_reached values g f t n g' f' t' n' filled back p i d r = filled p i d (back p i d r)
