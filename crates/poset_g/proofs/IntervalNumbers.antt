-- What the numbers of intervals tell.
use Rattle.std.proofs.Common.{◌≡◌, ◌⊎◌, inl, inr, ℕ, suc, ◌<◌, ◌≤◌, nat_lt, ◌&&◌, Bool, true, false, length, refl, sym, ap, ◌∙◌, arith}
use Rattle.std.proofs.lemmas.Bool.{cases_Bool, cases_lt, cond-true, cond-false, lt-ltb, le-ltb}
use Rattle.face_theory.proofs.Sets.{true_false}
use Rattle.face_poset.specs.Faces.{TableState}
use Rattle.poset_g.specs.Numbered.{numbered, IsInterval, HasAllFaces}
use Rattle.poset_g.specs.Stored.{PlacesState, number_at, find_at}
use Rattle.poset_g.specs.PlaceSteps.{ArePlaces}
use Rattle.poset_g.specs.FillSteps.{is_between}
use Rattle.poset_g.proofs.NumberedFaces.{not_behind}

both_true : (a b : Bool) → a ≡ true → b ≡ true → (a && b) ≡ true
both_true true true e f = refl
both_true true false e f = f
both_true false b e f = e

first_false : (a b : Bool) → a ≡ false → (a && b) ≡ false
first_false true b e = absurd (true_false refl e)
first_false false b e = refl

second_false : (a b : Bool) → b ≡ false → (a && b) ≡ false
second_false true b e = e
second_false false b e = refl

module _ (table : TableState) (s : PlacesState) (places : ArePlaces (numbered table) (length table.faces) s) where
  -- within the faces it is the number
  find_is : (x y : ℕ) → x < length table.faces → y < length table.faces → find_at s x y ≡ number_at s x y
  find_is x y l m = cond-true (nat_lt x s.count && nat_lt y s.count) (number_at s x y) 0
      (both_true (nat_lt x s.count) (nat_lt y s.count) (lt-ltb x s.count (let e = places.count_is in omega arith)) (lt-ltb y s.count (let e = places.count_is in omega arith)))

  pub found_at : (x y : ℕ) → IsInterval table x y → (p : ℕ) × (find_at s x y ≡ suc p)
  found_at x y i = let n = places.some x y i.to (inl i.from) i.below in (n.0, find_is x y i.from i.to ∙ n.1)

  -- what is found is an interval
  pub interval_at : (x y p : ℕ) → find_at s x y ≡ suc p → IsInterval table x y
  interval_at x y p e = by (cases_lt x (length table.faces)) (cases_lt y (length table.faces))
    where
      none : find_at s x y ≡ 0 → ⊥
      none f = omega arith

      outside : (nat_lt x s.count && nat_lt y s.count) ≡ false → find_at s x y ≡ 0
      outside f = cond-false (nat_lt x s.count && nat_lt y s.count) (number_at s x y) 0 f

      inside : (l : x < length table.faces) → (m : y < length table.faces) → ((numbered table).below x y ≡ true) ⊎ ((numbered table).below x y ≡ false) → IsInterval table x y
      inside l m (inl t) = record { from = l; to = m; below = t }
      inside l m (inr f) = absurd (none (find_is x y l m ∙ places.none x y m (inl l) f))

      by : (x < length table.faces) ⊎ (length table.faces ≤ x) → (y < length table.faces) ⊎ (length table.faces ≤ y) → IsInterval table x y
      by (inl l) (inl m) = inside l m (cases_Bool ((numbered table).below x y))
      by (inl l) (inr m) = absurd (none (outside (second_false (nat_lt x s.count) (nat_lt y s.count) (le-ltb y s.count (let e = places.count_is in omega arith)))))
      by (inr l) d = absurd (none (outside (first_false (nat_lt x s.count) (nat_lt y s.count) (le-ltb x s.count (let e = places.count_is in omega arith)))))

  -- and nothing that isn't found
  pub not_found : (x y : ℕ) → find_at s x y ≡ 0 → IsInterval table x y → ⊥
  not_found x y e i = let n = found_at x y i in let f = n.1 in omega arith

  -- the same interval has the same number alone
  pub one_interval : (x y z w p : ℕ) → find_at s x y ≡ suc p → find_at s z w ≡ suc p → (x ≡ z) × (y ≡ w)
  one_interval x y z w p e f =
      let i = interval_at x y p e in
      let j = interval_at z w p f in
      places.apart x y z w p i.to j.to (inl i.from) (inl j.from) (sym (find_is x y i.from i.to) ∙ e) (sym (find_is z w j.from j.to) ∙ f)

  -- the test of the code
  pub test_is : (x y : ℕ) → x < length table.faces → y < length table.faces → nat_lt 0 (find_at s x y) ≡ (numbered table).below x y
  test_is x y l m = by (cases_Bool ((numbered table).below x y))
    where
      by : ((numbered table).below x y ≡ true) ⊎ ((numbered table).below x y ≡ false) → nat_lt 0 (find_at s x y) ≡ (numbered table).below x y
      by (inl t) = let n = found_at x y (record { from = l; to = m; below = t }) in ap (nat_lt 0) n.1 ∙ lt-ltb 0 (suc n.0) (omega arith) ∙ sym t
      by (inr f) = ap (nat_lt 0) (find_is x y l m ∙ places.none x y m (inl l) f) ∙ le-ltb 0 0 (omega arith) ∙ sym f

  pub between_is : (x y z : ℕ) → x < length table.faces → y < length table.faces → z < length table.faces
      → is_between s x y z ≡ ((numbered table).below x z && (numbered table).below z y)
  between_is x y z l m n = ap (λ (b : Bool). b && nat_lt 0 (find_at s z y)) (test_is x z l n) ∙ ap (λ (b : Bool). (numbered table).below x z && b) (test_is z y n m)

  -- what is found doesn't stand behind
  pub found_behind : HasAllFaces table → (x y p : ℕ) → find_at s x y ≡ suc p → x ≤ y
  found_behind h x y p e = let i = interval_at x y p e in not_behind h.0 table h.1 x y i.from i.to i.below
