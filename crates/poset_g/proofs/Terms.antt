-- The terms of which the coefficients are made, and their sums.
use Rattle.std.proofs.Common.{◌≡◌, ◌≢◌, inl, ℕ, zero, suc, ◌+◌, ◌*◌, ◌-◌, ◌<◌, ◌≤◌, ◌==◌, nat_lt, Bool, true, false, cond, List, [], ◌∷◌, length}
use Rattle.std.proofs.Common.{slice_index_or, ℤ, pos, ◌+ℤ◌, ◌*ℤ◌, ◌^◌, nat_abs, refl, eq-eqb, sym, ap, subst, ◌∙◌, arith}
use Rattle.std.proofs.lemmas.Bool.{lt-ltb, ne_eqb, cond-true, cond-false, and_parts}
use Rattle.std.proofs.lemmas.Int.{ints}
use Rattle.std.proofs.lemmas.List.Elements.{All-get_or, Contains-get_or}
use Rattle.std.specs.List.{Contains, range_with_len}
use Rattle.lattice_theory.specs.Vector.{entry}
use Rattle.lattice_theory.proofs.Integers.{linear}
use Rattle.lattice_theory.proofs.Members.{in_from_contains, contains_from_in}
use Rattle.lattice_theory.proofs.Sublists.{IsKept, from_filter}
use Rattle.face_poset.specs.Faces.{TableState, no_face, face_at}
use Rattle.polynomial_theory.specs.Sums.{sum_over, sum_of_splits}
use Rattle.polynomial_theory.specs.Series.{Series, product, one}
use Rattle.polynomial_theory.proofs.Splits.{sum_from}
use Rattle.stringy_theory.specs.Eulerian.{g, g_dual}
use Rattle.stringy_theory.proofs.RankedTables.{number_within}
use Rattle.stringy_theory.proofs.RisingRanks.{ranks_suffice_lem}
use Rattle.poset_g.specs.Numbered.{counted, numbered, IsInterval, HasAllFaces, HasSmallRanks}
use Rattle.poset_g.specs.Stored.{PlacesState, find_at, read_at}
use Rattle.poset_g.specs.Values.{Place, polynomial, gap_of}
use Rattle.poset_g.specs.PlaceSteps.{ArePlaces}
use Rattle.poset_g.specs.FillSteps.{between, is_between, kept_at, AreFilledBelow}
use Rattle.poset_g.proofs.NumberedFaces.{ranks_rise_lem}
use Rattle.poset_g.proofs.IntervalNumbers.{between_is}
use Rattle.poset_g.proofs.IntervalSums.{member, strict}

-- sizes add up
pub more_size : (s p : ℤ) (n : ℕ) → nat_abs s ≤ n * 229376 → nat_abs p ≤ 56 * 4096 → nat_abs (s +ℤ p) ≤ (n + 1) * 229376
more_size s p n h k = omega (arith, ints)

pub more_terms : (s p : ℤ) (n : ℕ) → nat_abs s ≤ n * 1048576 → nat_abs p ≤ 2 ^ 20 → nat_abs (s +ℤ p) ≤ (n + 1) * 1048576
more_terms s p n h k = omega (arith, ints)

-- what is kept of a coefficient
pub kept_entry : (s : PlacesState) (values : List ℤ) (p : Place) (place : ℕ) → find_at s p.from p.to ≡ suc place → p.degree < 4
    → kept_at s values p ≡ entry values (8 * place + cond p.dual 4 0 + p.degree)
kept_entry s values p place e l = ap (λ (n : ℕ). read_at values (cond p.dual 4 0) n p.degree) e
    ∙ cond-true (nat_lt p.degree 4) (entry values (8 * place + cond p.dual 4 0 + p.degree)) (pos 0) (lt-ltb p.degree 4 l)

-- the second factor matters up to the degree alone
splits_same_to : (n : ℕ) (f g : ℕ → ℕ → ℤ) → ((a b : ℕ) → b ≤ n → f a b ≡ g a b) → sum_of_splits n f ≡ sum_of_splits n g
splits_same_to zero f g h = h 0 0 (omega arith)
splits_same_to (suc n) f g h =
    let e = splits_same_to n (λ a b. f (suc a) b) (λ a b. g (suc a) b) (λ a b l. h (suc a) b (omega arith)) in
    let e' = h 0 (suc n) (omega arith) in
    omega (arith, linear)

pub product_same_to : (A B C : Series) (k : ℕ) → ((b : ℕ) → b ≤ k → B b ≡ C b) → product A B k ≡ product A C k
product_same_to A B C k h = splits_same_to k (λ a b. A a *ℤ B b) (λ a b. A a *ℤ C b) (λ a b l. ap (λ (z : ℤ). A a *ℤ z) (h b l))

-- coefficients from a place on, without the 0 in front
pub plain_place : (n b : ℕ) → 8 * n + 0 + b ≡ 8 * n + b
plain_place n b = omega arith

module _ (table : TableState) (h : HasAllFaces table) where
  pub rank_up : (x y : ℕ) → IsInterval table x y → (face_at table.faces x).rank ≤ (face_at table.faces y).rank
  rank_up x y i = ((ranks_suffice_lem (counted table 0 (λ x. one) (λ x. one)) (ranks_rise_lem table h 0 (λ x. one) (λ x. one))).0).rises x y
      (member table h x i.from) (member table h y i.to) i.below

  pub rank_rises : (x y : ℕ) → IsInterval table x y → (x ≢ y) → (face_at table.faces x).rank < (face_at table.faces y).rank
  rank_rises x y i n = (ranks_rise_lem table h 0 (λ x. one) (λ x. one)).rises x y (member table h x i.from) (member table h y i.to) (strict table h x y i n)

  pub rank_small : HasSmallRanks table → (x : ℕ) → x < length table.faces → (face_at table.faces x).rank ≤ 8
  rank_small s x l = All-get_or (λ face. face.rank ≤ 8) table.faces x no_face l s

  -- a smaller interval's coefficients are there
  pub values_at : (s : PlacesState) (values : List ℤ) (p : Place) → AreFilledBelow table s values p → (d : Bool) (x y place : ℕ) → IsInterval table x y
      → (numbered table).gap x y < gap_of table p → find_at s x y ≡ suc place → (b : ℕ) → b < 4
      → (entry values (8 * place + cond d 4 0 + b) ≡ polynomial table d x y b) × (nat_abs (entry values (8 * place + cond d 4 0 + b)) ≤ 4096)
  values_at s values p filled d x y place i l e b m =
      let k = kept_entry s values (record { from = x; to = y; dual = d; degree = b }) place e m in
      let f = filled (record { from = x; to = y; dual = d; degree = b }) i m (inl l) in
      (sym k ∙ f.0, let t = ap nat_abs (sym k ∙ f.0) in let w = f.1 in omega arith)

  pub rest_above : (x z y : ℕ) → IsInterval table x z → IsInterval table z y → (z ≢ x) → (numbered table).gap z y < (numbered table).gap x y
  rest_above x z y i j n = let l = rank_rises x z i (λ e. n (sym e)) in let m = rank_up z y j in omega arith

  pub rest_below : (x z y : ℕ) → IsInterval table x z → IsInterval table z y → (z ≢ y) → (numbered table).gap x z < (numbered table).gap x y
  rest_below x z y i j n = let l = rank_rises z y j n in let m = rank_up x z i in omega arith

  pub below_values : (s : PlacesState) (values : List ℤ) (x y z k place : ℕ) → AreFilledBelow table s values (record { from = x; to = y; dual = false; degree = k })
      → IsInterval table x z → IsInterval table z y → (z ≢ x) → find_at s z y ≡ suc place → k ≤ 3 → (b : ℕ) → b ≤ k
      → (entry values (8 * place + b) ≡ g (numbered table) z y b) × (nat_abs (entry values (8 * place + b)) ≤ 4096)
  below_values s values x y z k place filled i j n f d b l =
      let v = values_at s values (record { from = x; to = y; dual = false; degree = k }) filled false z y place j (rest_above x z y i j n) f b (omega arith) in
      let e = ap (entry values) (plain_place place b) in
      (sym e ∙ v.0, let t = ap nat_abs e in let w = v.1 in omega arith)

  pub above_values : (s : PlacesState) (values : List ℤ) (x y z k place : ℕ) → AreFilledBelow table s values (record { from = x; to = y; dual = true; degree = k })
      → IsInterval table x z → IsInterval table z y → (z ≢ y) → find_at s x z ≡ suc place → k ≤ 3 → (b : ℕ) → b ≤ k
      → (entry values (8 * place + 4 + b) ≡ g_dual (numbered table) x z b) × (nat_abs (entry values (8 * place + 4 + b)) ≤ 4096)
  above_values s values x y z k place filled i j n f d b l =
      values_at s values (record { from = x; to = y; dual = true; degree = k }) filled true x z place i (rest_below x z y i j n) f b (omega arith)

  -- what is between
  pub inside_at : (s : PlacesState) → ArePlaces (numbered table) (length table.faces) s → (x y i : ℕ) → x < length table.faces → y < length table.faces
      → (zs : List ℕ) → zs ≡ between s x y → i < length zs → IsInterval table x (slice_index_or zs i 0) × IsInterval table (slice_index_or zs i 0) y
  inside_at s places x y i l m zs e k = by (from_filter (is_between s x y) (range_with_len 0 s.count)
      (in_from_contains (between s x y) (moved (Contains-get_or zs i 0 k))))
    where
      moved : Contains zs (slice_index_or zs i 0) → Contains (between s x y) (slice_index_or zs i 0)
      moved c = subst (λ (ws : List ℕ). Contains ws (slice_index_or zs i 0)) e c

      by : IsKept (is_between s x y) (slice_index_or zs i 0) (range_with_len 0 s.count)
          → IsInterval table x (slice_index_or zs i 0) × IsInterval table (slice_index_or zs i 0) y
      by t =
          let n = number_within s.count (slice_index_or zs i 0) (contains_from_in t.member) in
          let w : slice_index_or zs i 0 < length table.faces = let f = places.count_is in omega arith in
          let p = and_parts ((numbered table).below x (slice_index_or zs i 0)) ((numbered table).below (slice_index_or zs i 0) y)
          (sym (between_is table s places x y (slice_index_or zs i 0) l m w) ∙ t.passes) in
          (record { from = l; to = w; below = p.0 }, record { from = w; to = m; below = p.1 })

-- a sum over a list, by places
from_shifted : (n i : ℕ) (f g : ℕ → ℤ) → ((j : ℕ) → f (suc j) ≡ g j) → sum_from n (suc i) f ≡ sum_from n i g
from_shifted zero i f g h = refl
from_shifted (suc n) i f g h = let e = from_shifted n (suc i) f g h in let e' = h i in omega (arith, linear)

pub sum_by_places : (xs : List ℕ) (f : ℕ → ℤ) → sum_over xs f ≡ sum_from (length xs) 0 (λ j. f (slice_index_or xs j 0))
sum_by_places [] f = refl
sum_by_places (x ∷ xs) f =
    let e = sum_by_places xs f in
    let e' = from_shifted (length xs) 0 (λ j. f (slice_index_or (x ∷ xs) j 0)) (λ j. f (slice_index_or xs j 0)) (λ j. refl) in
    omega (arith, linear)

pub sum_starts : (xs : List ℕ) (f : ℕ → ℤ) → pos 0 +ℤ sum_from (length xs - 0) 0 (λ j. f (slice_index_or xs j 0)) ≡ sum_over xs f
sum_starts xs f =
    let e = sum_by_places xs f in
    let e' : length xs - 0 ≡ length xs = omega arith in
    let e'' = ap (λ (n : ℕ). sum_from n 0 (λ j. f (slice_index_or xs j 0))) e' in
    omega (arith, linear)

-- the terms themselves
pub end_term : (z x : ℕ) (w : ℤ) → z ≡ x → cond (z == x) (pos 0) w ≡ pos 0
end_term z x w e = cond-true (z == x) (pos 0) w (eq-eqb z x e)

pub other_term : (z x : ℕ) (w : ℤ) → (z ≢ x) → cond (z == x) (pos 0) w ≡ w
other_term z x w n = cond-false (z == x) (pos 0) w (ne_eqb z x n)
