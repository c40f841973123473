-- The numbers of intervals, one place after the other.
use Rattle.std.proofs.Common.{◌≡◌, ◌⊎◌, inl, inr, ℕ, suc, ◌+◌, ◌*◌, ◌<◌, ◌≤◌, true, false, List, [], ◌∷◌, ◌++◌, length, slice_index_or, refl, sym, ap, ◌∙◌, arith}
use Rattle.std.proofs.Math.Nat.{mul-le-mul}
use Rattle.std.proofs.Math.ListN.{get_or-append}
use Rattle.std.proofs.Math.Seq.{get_or-append_seam}
use Rattle.std.proofs.lemmas.List.{get_or_past, length-append}
use Rattle.std.proofs.lemmas.Bool.{cases_lt}
use Rattle.stringy_theory.specs.Eulerian.{Order}
use Rattle.face_theory.proofs.Sets.{true_false}
use Rattle.poset_g.specs.Stored.{PlacesState}
use Rattle.poset_g.specs.PlaceSteps.{IsTo, IsNext, ArePlacesTo}

-- a place before another
row_before : (x row count : ℕ) → x < row → x * count + count ≤ row * count
row_before x row count h = let m : suc x * count ≤ row * count = mul-le-mul h (omega arith) in omega arith

pub place_before : (x y row column count : ℕ) → y < count → IsTo row column x y → x * count + y < row * count + column
place_before x y row column count l (inl h) = let m = row_before x row count h in omega arith
place_before x y row column count l (inr h) = let e = ap (λ (r : ℕ). r * count) h.0 in let m = h.1 in omega arith

last_or_not : (row column x y : ℕ) → IsTo row (column + 1) x y → IsTo row column x y ⊎ ((x ≡ row) × (y ≡ column))
last_or_not row column x y (inl h) = inl (inl h)
last_or_not row column x y (inr h) = by (cases_lt y column)
  where
    by : (y < column) ⊎ (column ≤ y) → IsTo row column x y ⊎ ((x ≡ row) × (y ≡ column))
    by (inl l) = inl (inr (h.0, l))
    by (inr l) = inr (h.0, let m = h.1 in omega arith)

module _ (o : Order ℕ) (count row column total : ℕ) (table : List ℕ) (places : ArePlacesTo o count row column (record { count = count; total = total; table = table })) where
  abbrev state : ℕ → ℕ → PlacesState
  state n v = record { count = count; total = n; table = table ++ v ∷ [] }

  old_at : (n v x y : ℕ) → y < count → IsTo row column x y → slice_index_or (table ++ v ∷ []) (x * count + y) 0 ≡ slice_index_or table (x * count + y) 0
  old_at n v x y l h = get_or-append table (v ∷ []) 0 (x * count + y) (let m = place_before x y row column count l h in let e = places.long in omega arith)

  new_at : (v x y : ℕ) → x ≡ row → y ≡ column → slice_index_or (table ++ v ∷ []) (x * count + y) 0 ≡ v
  new_at v x y e f = ap (λ (i : ℕ). slice_index_or (table ++ v ∷ []) i 0) (let g = ap (λ (r : ℕ). r * count) e in let m = places.long in omega arith)
      ∙ get_or-append_seam table v [] 0

  longer : (v : ℕ) → length (table ++ v ∷ []) ≡ row * count + (column + 1)
  longer v = length-append table (v ∷ []) ∙ (let e = places.long in omega arith)

  within : (n v i : ℕ) → total ≤ n → v ≤ n → slice_index_or (table ++ v ∷ []) i 0 ≤ n
  within n v i h k = by (cases_lt i (length table)) (cases_lt i (length table + 1))
    where
      by : (i < length table) ⊎ (length table ≤ i) → (i < length table + 1) ⊎ (length table + 1 ≤ i) → slice_index_or (table ++ v ∷ []) i 0 ≤ n
      by (inl l) d = let e = get_or-append table (v ∷ []) 0 i l in let m = places.within i in omega arith
      by (inr l) (inl m) = let e : slice_index_or (table ++ v ∷ []) i 0 ≡ v = ap (λ (j : ℕ). slice_index_or (table ++ v ∷ []) j 0) (omega arith)
          ∙ get_or-append_seam table v [] 0 in omega arith
      by (inr l) (inr m) = let e = get_or_past (table ++ v ∷ []) i 0 (let f = length-append table (v ∷ []) in omega arith) in omega arith

  -- no interval at the next place
  pub none_more : o.below row column ≡ false → ArePlacesTo o count row (column + 1) (record { count = count; total = total; table = table ++ 0 ∷ [] })
  none_more b = record {
    count_is = refl;
    few_intervals = let l = places.few_intervals in omega arith;
    long = longer 0;
    within = λ i. within total 0 i (omega arith) (omega arith);
    some = λ x y l h t. some x y l t (last_or_not row column x y h);
    none = λ x y l h t. none x y l t (last_or_not row column x y h);
    apart = λ x y z w p l m h k e f. apart x y z w p l m (last_or_not row column x y h) (last_or_not row column z w k) e f;
  }
    where
      some : (x y : ℕ) → y < count → o.below x y ≡ true → IsTo row column x y ⊎ ((x ≡ row) × (y ≡ column))
          → (p : ℕ) × (slice_index_or (table ++ 0 ∷ []) (x * count + y) 0 ≡ suc p)
      some x y l t (inl h) = let s = places.some x y l h t in (s.0, old_at total 0 x y l h ∙ s.1)
      some x y l t (inr h) = absurd (true_false t (ap (λ (i : ℕ). o.below i y) h.0 ∙ ap (o.below row) h.1 ∙ b))

      none : (x y : ℕ) → y < count → o.below x y ≡ false → IsTo row column x y ⊎ ((x ≡ row) × (y ≡ column)) → slice_index_or (table ++ 0 ∷ []) (x * count + y) 0 ≡ 0
      none x y l t (inl h) = old_at total 0 x y l h ∙ places.none x y l h t
      none x y l t (inr h) = new_at 0 x y h.0 h.1

      apart : (x y z w p : ℕ) → y < count → w < count → IsTo row column x y ⊎ ((x ≡ row) × (y ≡ column)) → IsTo row column z w ⊎ ((z ≡ row) × (w ≡ column))
          → slice_index_or (table ++ 0 ∷ []) (x * count + y) 0 ≡ suc p → slice_index_or (table ++ 0 ∷ []) (z * count + w) 0 ≡ suc p → (x ≡ z) × (y ≡ w)
      apart x y z w p l m (inl h) (inl k) e f = places.apart x y z w p l m h k (sym (old_at total 0 x y l h) ∙ e) (sym (old_at total 0 z w m k) ∙ f)
      apart x y z w p l m (inl h) (inr k) e f = let g = new_at 0 z w k.0 k.1 in absurd (omega arith)
      apart x y z w p l m (inr h) d e f = let g = new_at 0 x y h.0 h.1 in absurd (omega arith)

  -- an interval at the next place
  pub one_more : o.below row column ≡ true → ArePlacesTo o count row (column + 1) (record { count = count; total = total + 1; table = table ++ (total + 1) ∷ [] })
  one_more b = record {
    count_is = refl;
    few_intervals = let l = places.few_intervals in omega arith;
    long = longer (total + 1);
    within = λ i. within (total + 1) (total + 1) i (omega arith) (omega arith);
    some = λ x y l h t. some x y l t (last_or_not row column x y h);
    none = λ x y l h t. none x y l t (last_or_not row column x y h);
    apart = λ x y z w p l m h k e f. apart x y z w p l m (last_or_not row column x y h) (last_or_not row column z w k) e f;
  }
    where
      some : (x y : ℕ) → y < count → o.below x y ≡ true → IsTo row column x y ⊎ ((x ≡ row) × (y ≡ column))
          → (p : ℕ) × (slice_index_or (table ++ (total + 1) ∷ []) (x * count + y) 0 ≡ suc p)
      some x y l t (inl h) = let s = places.some x y l h t in (s.0, old_at total (total + 1) x y l h ∙ s.1)
      some x y l t (inr h) = (total, new_at (total + 1) x y h.0 h.1 ∙ omega arith)

      none : (x y : ℕ) → y < count → o.below x y ≡ false → IsTo row column x y ⊎ ((x ≡ row) × (y ≡ column)) → slice_index_or (table ++ (total + 1) ∷ []) (x * count + y) 0 ≡ 0
      none x y l t (inl h) = old_at total (total + 1) x y l h ∙ places.none x y l h t
      none x y l t (inr h) = absurd (true_false b (sym (ap (λ (i : ℕ). o.below i y) h.0 ∙ ap (o.below row) h.1) ∙ t))

      small : (x y p : ℕ) → y < count → IsTo row column x y → slice_index_or (table ++ (total + 1) ∷ []) (x * count + y) 0 ≡ suc p → p < total
      small x y p l h e = let f = old_at total (total + 1) x y l h in let m = places.within (x * count + y) in omega arith

      apart : (x y z w p : ℕ) → y < count → w < count → IsTo row column x y ⊎ ((x ≡ row) × (y ≡ column)) → IsTo row column z w ⊎ ((z ≡ row) × (w ≡ column))
          → slice_index_or (table ++ (total + 1) ∷ []) (x * count + y) 0 ≡ suc p → slice_index_or (table ++ (total + 1) ∷ []) (z * count + w) 0 ≡ suc p → (x ≡ z) × (y ≡ w)
      apart x y z w p l m (inl h) (inl k) e f = places.apart x y z w p l m h k (sym (old_at total (total + 1) x y l h) ∙ e) (sym (old_at total (total + 1) z w m k) ∙ f)
      apart x y z w p l m (inl h) (inr k) e f = let g = new_at (total + 1) z w k.0 k.1 in let s = small x y p l h e in absurd (omega arith)
      apart x y z w p l m (inr h) (inl k) e f = let g = new_at (total + 1) x y h.0 h.1 in let s = small z w p m k f in absurd (omega arith)
      apart x y z w p l m (inr h) (inr k) e f = (h.0 ∙ sym k.0, h.1 ∙ sym k.1)

  pub next_more : (next number : ℕ) → IsNext (o.below row column) total next number
      → ArePlacesTo o count row (column + 1) (record { count = count; total = next; table = table ++ number ∷ [] })
  next_more next number (inl h) = rw (h.1, h.2) (one_more h.0)
  next_more next number (inr h) = rw (h.1, h.2) (none_more h.0)

-- there is room for one more
pub room_left : (row column count total : ℕ) → total ≤ row * count + column → row < count → column < count → count ≤ 4096 → total < 4096 * 4096
room_left row column count total h l m k = let e = row_before row count count l in let f : count * count ≤ 4096 * 4096 = mul-le-mul k k in omega arith

-- a whole row, and no rows
pub row_more : (o : Order ℕ) (count row : ℕ) (s : PlacesState) → ArePlacesTo o count row count s → ArePlacesTo o count (row + 1) 0 s
row_more o count row s p = record {
  count_is = p.count_is;
  few_intervals = let l = p.few_intervals in let e = next row count in omega arith;
  long = let l = p.long in let e = next row count in omega arith;
  within = p.within;
  some = λ x y l h. p.some x y l (back x y l h);
  none = λ x y l h. p.none x y l (back x y l h);
  apart = λ x y z w i l m h k. p.apart x y z w i l m (back x y l h) (back z w m k);
}
  where
    next : (row count : ℕ) → (row + 1) * count ≡ row * count + count
    next row count = omega arith

    back : (x y : ℕ) → y < count → IsTo (row + 1) 0 x y → IsTo row count x y
    back x y l (inl h) = by (cases_lt x row)
      where
        by : (x < row) ⊎ (row ≤ x) → IsTo row count x y
        by (inl m) = inl m
        by (inr m) = inr (omega arith, l)
    back x y l (inr h) = let m = h.1 in absurd (omega arith)

pub no_rows : (o : Order ℕ) (count : ℕ) → ArePlacesTo o count 0 0 (record { count = count; total = 0; table = [] })
no_rows o count = record {
  count_is = refl;
  few_intervals = omega arith;
  long = omega arith;
  within = λ i. let e = past [] i refl in omega arith;
  some = λ x y l h. absurd (nothing x y h);
  none = λ x y l h. absurd (nothing x y h);
  apart = λ x y z w p l m h. absurd (nothing x y h);
}
  where
    past : (xs : List ℕ) (i : ℕ) → length xs ≡ 0 → slice_index_or xs i 0 ≡ 0
    past xs i e = get_or_past xs i 0 (omega arith)

    nothing : (x y : ℕ) → IsTo 0 0 x y → ⊥
    nothing x y (inl h) = omega arith
    nothing x y (inr h) = let m = h.1 in omega arith
