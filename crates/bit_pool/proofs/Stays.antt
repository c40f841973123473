-- Rows keep their ids as a pool changes.
use Rattle.std.specs.Prelude.{if◌then◌else◌, slice_get, None, Some}
use Rattle.std.proofs.Common.{◌≡◌, ◌≢◌, ◌⊎◌, inl, inr, ⊎_elim, ℕ, ◌+◌, ◌<◌, ◌≤◌, ◌==◌, Bool, true, false, List, [], ◌∷◌, ◌++◌, length, get_or, Option, Result, Ok, Err, refl, sym, ap, ◌∙◌, subst, arith, length-append}
use Rattle.std.proofs.Math.ListN.{get_or-append}
use Rattle.std.proofs.lemmas.Bool.{eqb-true, eqb-false}
use Rattle.std.proofs.lemmas.Option.{none-some, slice_get-get_or, slice_get_within}
use Rattle.bit_pool.specs.Pools.{PoolState, IsPool, IsPushed, IsMetInto, IsReserved, IsSwapped, IsReset, pushed, row_of}
use Rattle.bit_pool.specs.Changes.{IsCalled, pushes, meets, reserves, swaps, resets, IsLater, same, called, AreGiven}
use Rattle.bit_pool.specs.Laws.{RowsStay, WidthStays}
use Rattle.bit_pool.proofs.Named.{pushed_width}
use Rattle.bit_pool.specs.declared.faults.RowId.{RowId}
use Rattle.bit_pool.specs.declared.faults.Full.{Full}
use Rattle.bit_pool.specs.declared.faults.NoMemory.{NoMemory}
use Rattle.bit_pool.specs.declared.faults.RowFault.{RowFault}
use Rattle.bit_pool.specs.declared.faults.RowFault.TheVariants as faults

-- what is chosen by two tests of numbers
chosen : {X : Type 0} (e y o : ℕ) (a b : Option X) (w : X) → (if e == y then a else (if e == o then b else None)) ≡ Some w
    → ((e ≡ y) × (a ≡ Some w)) ⊎ ((e ≡ o) × (b ≡ Some w))
chosen {X} e y o a b w h = by (e == y) (e == o) (eqb-true e y) (eqb-true e o) h
  where
    by : (s t : Bool) → (s ≡ true → e ≡ y) → (t ≡ true → e ≡ o) → (if s then a else (if t then b else None)) ≡ Some w
        → ((e ≡ y) × (a ≡ Some w)) ⊎ ((e ≡ o) × (b ≡ Some w))
    by true t p q g = inl (p refl, g)
    by false true p q g = inr (q refl, g)
    by false false p q g = absurd (none-some w g)

-- a row is of the young generation or of the old one
pub row_cases : (pool : PoolState) (id : RowId) (words : List ℕ) → row_of pool id ≡ Some words
    → ((id.epoch ≡ pool.young_generation.epoch) × (slice_get pool.young_generation.rows id.place ≡ Some words))
    ⊎ ((id.epoch ≡ pool.old_generation.epoch) × (slice_get pool.old_generation.rows id.place ≡ Some words))
row_cases pool id words h = chosen id.epoch pool.young_generation.epoch pool.old_generation.epoch
    (slice_get pool.young_generation.rows id.place) (slice_get pool.old_generation.rows id.place) words h

-- and conversely
pub young_row : (pool : PoolState) (id : RowId) (words : List ℕ) → id.epoch ≡ pool.young_generation.epoch
    → slice_get pool.young_generation.rows id.place ≡ Some words → row_of pool id ≡ Some words
young_row pool id words e h = by (id.epoch == pool.young_generation.epoch) (eqb-false id.epoch pool.young_generation.epoch)
  where
    by : (s : Bool) → (s ≡ false → id.epoch ≢ pool.young_generation.epoch) → (if s then slice_get pool.young_generation.rows id.place
        else (if id.epoch == pool.old_generation.epoch then slice_get pool.old_generation.rows id.place else None)) ≡ Some words
    by true n = h
    by false n = absurd (n refl e)

pub old_row : (pool : PoolState) (id : RowId) (words : List ℕ) → id.epoch ≡ pool.old_generation.epoch
    → pool.old_generation.epoch < pool.young_generation.epoch → slice_get pool.old_generation.rows id.place ≡ Some words
    → row_of pool id ≡ Some words
old_row pool id words e ages h = by (id.epoch == pool.young_generation.epoch) (id.epoch == pool.old_generation.epoch)
    (eqb-true id.epoch pool.young_generation.epoch) (eqb-false id.epoch pool.old_generation.epoch)
  where
    by : (s t : Bool) → (s ≡ true → id.epoch ≡ pool.young_generation.epoch) → (t ≡ false → id.epoch ≢ pool.old_generation.epoch)
        → (if s then slice_get pool.young_generation.rows id.place
        else (if t then slice_get pool.old_generation.rows id.place else None)) ≡ Some words
    by true t p n = absurd (let f = p refl in omega (arith, e, f, ages))
    by false true p n = h
    by false false p n = absurd (n refl e)

-- a member of the front of a longer list
front_member : (xs ys : List (List ℕ)) (k : ℕ) (w : List ℕ) → k < length xs → slice_get (xs ++ ys) k ≡ Some w → slice_get xs k ≡ Some w
front_member xs ys k w l h =
    let in_all : slice_get (xs ++ ys) k ≡ Some (get_or (xs ++ ys) k []) =
    slice_get-get_or (xs ++ ys) k [] (let s = length-append xs ys in omega arith) in
    slice_get-get_or xs k [] l ∙ ap Some (sym (get_or-append xs ys [] k l)) ∙ sym in_all ∙ h

-- there is no member of an empty list
no_member : (xs : List (List ℕ)) (k : ℕ) (w : List ℕ) → xs ≡ [] → slice_get xs k ≡ Some w → ⊥
no_member xs k w e h = let l = slice_get_within xs k w h in let n = ap length e in omega (arith, l, n)

-- what one of the ids names now it named before; and all were given out
abbrev HasStayed : PoolState → PoolState → ℕ → ℕ → Type 0
HasStayed before now epoch n = AreGiven now epoch n
    × ((id : RowId) (words : List ℕ) → id.epoch ≡ epoch → id.place < n → row_of now id ≡ Some words → row_of before id ≡ Some words)

abbrev IsAged : PoolState → Type 0
IsAged pool = pool.old_generation.epoch < pool.young_generation.epoch

module _ (before : PoolState) (epoch n : ℕ) (a : IsAged before) (g : AreGiven before epoch n) where
  -- what holds of the pool as it was
  unchanged : (now : PoolState) → now ≡ before → IsAged now × HasStayed before now epoch n
  unchanged now e = subst (λ (pool : PoolState). IsAged pool × HasStayed before pool epoch n) (sym e) (a, (g, λ id words i l h. h))

  -- a later epoch
  over : (now : ℕ) → before.young_generation.epoch < now → epoch < now
  over now fresh = ⊎_elim (λ l. omega (arith, fresh, l)) (λ y. let e = y.0 in omega (arith, fresh, e)) g

  -- where a row was pushed
  stays_pushed : (row : List ℕ) → IsAged (pushed before row) × HasStayed before (pushed before row) epoch n
  stays_pushed row = (
    a,
    (
      ⊎_elim (λ l. inl l) (λ y. inr (y.0, (let s = length-append before.young_generation.rows (row ∷ []) in let l = y.1 in omega arith))) g,
      λ id words i l h. ⊎_elim
          (λ y. young_row before id words y.0
          (front_member before.young_generation.rows (row ∷ []) id.place words (in_front id (sym i ∙ y.0) l) y.1))
          (λ o. old_row before id words o.0 a o.1)
          (row_cases (pushed before row) id words h),
    ),
  )
    where
      in_front : (id : RowId) → epoch ≡ before.young_generation.epoch → id.place < n → id.place < length before.young_generation.rows
      in_front id e l = ⊎_elim (λ m. absurd (omega (arith, m, e))) (λ y. let m = y.1 in omega (arith, l, m)) g

  -- where the generations were swapped, and where all rows were given up
  stays_swapped : (now : PoolState) → IsSwapped before now → IsAged now × HasStayed before now epoch n
  stays_swapped now s = (
    let fresh = s.fresh in let e = ap (λ g. g.epoch) s.old in omega (arith, fresh, e),
    (
      inl (over now.young_generation.epoch s.fresh),
      λ id words i l h. ⊎_elim
          (λ y. absurd (no_member now.young_generation.rows id.place words s.young.0 y.1))
          (λ o. young_row before id words (o.0 ∙ ap (λ g. g.epoch) s.old)
          (subst (λ rows. slice_get rows id.place ≡ Some words) (ap (λ g. g.rows) s.old) o.1))
          (row_cases now id words h),
    ),
  )

  stays_reset : (now : PoolState) → IsReset before now → IsAged now × HasStayed before now epoch n
  stays_reset now r = (
    r.later,
    (
      inl (over now.young_generation.epoch (let fresh = r.fresh in let later = r.later in omega (arith, fresh, later))),
      λ id words i l h. ⊎_elim
          (λ y. absurd (no_member now.young_generation.rows id.place words r.young.0 y.1))
          (λ o. absurd (no_member now.old_generation.rows id.place words r.old.0 o.1))
          (row_cases now id words h),
    ),
  )

  -- one call
  changed : (now next : PoolState) → now ≡ next → IsAged next × HasStayed before next epoch n → IsAged now × HasStayed before now epoch n
  changed now next e h = subst (λ (pool : PoolState). IsAged pool × HasStayed before pool epoch n) (sym e) h

  one_call : (now : PoolState) → IsCalled before now → IsAged now × HasStayed before now epoch n
  one_call now (pushes words (Ok new) row h) = changed now (pushed before words) h.1 (stays_pushed words)
  one_call now (pushes words (Err full) row h) = unchanged now h.1
  one_call now (meets p q (Ok new) h) = changed now (pushed before h.meet) h.pushed_is (stays_pushed h.meet)
  one_call now (meets p q (Err (faults.Stale stale)) h) = unchanged now h.1
  one_call now (meets p q (Err faults.Full) h) = unchanged now h.2
  one_call now (reserves rows (Ok done) h) = changed now _ h (a, (g, λ id words i l e. e))
  one_call now (reserves rows (Err none) h) = unchanged now h
  one_call now (swaps h) = stays_swapped now h
  one_call now (resets h) = stays_reset now h

-- and some of them
some_calls : (before now : PoolState) (epoch n : ℕ) → IsLater before now → IsAged before → AreGiven before epoch n
    → IsAged now × HasStayed before now epoch n
some_calls before now epoch n same a g = (a, (g, λ id words i l h. h))
some_calls before now epoch n (called {middle = middle} later call) a g =
    let first = some_calls before middle epoch n later a g in
    let last = one_call middle epoch n first.0 first.1.0 now call in
    (last.0, (last.1.0, λ id words i l h. first.1.1 id words i l (last.1.1 id words i l h)))

pub rows_stay_lem : RowsStay
rows_stay_lem before now epoch n p later g = (some_calls before now epoch n later p.ages g).1

-- the width stays
call_width : (before now : PoolState) → IsCalled before now → now.width ≡ before.width
call_width before now (pushes words answer row h) = pushed_width before now words answer h
call_width before now (meets p q (Ok new) h) = ap (λ (pool : PoolState). pool.width) h.pushed_is
call_width before now (meets p q (Err (faults.Stale stale)) h) = ap (λ (pool : PoolState). pool.width) h.1
call_width before now (meets p q (Err faults.Full) h) = ap (λ (pool : PoolState). pool.width) h.2
call_width before now (reserves rows (Ok done) h) = ap (λ (pool : PoolState). pool.width) h
call_width before now (reserves rows (Err none) h) = ap (λ (pool : PoolState). pool.width) h
call_width before now (swaps h) = h.width
call_width before now (resets h) = h.width

pub width_stays_lem : WidthStays
width_stays_lem before now same = refl
width_stays_lem before now (called {middle = middle} later call) = call_width middle now call ∙ width_stays_lem before middle later
