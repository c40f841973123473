-- The rows that ids name are sets of numbers below the width.
use Rattle.std.specs.List.{All}
use Rattle.std.specs.Prelude.{if◌then◌else◌, slice_get, None, Some}
use Rattle.std.proofs.Common.{◌≡◌, ◌⊎◌, inl, inr, ℕ, zero, suc, ◌/◌, ◌<◌, ◌≤◌, ◌==◌, Bool, true, false, List, [], ◌∷◌, length, Option, arith, subst, Result, Ok, Err, ap}
use Rattle.std.proofs.lemmas.Option.{none-some, same_Some}
use Rattle.std.proofs.lemmas.List.Elements.{All-head, All-tail}
use Rattle.bit_pool.specs.Bits.{IsRow}
use Rattle.bit_pool.specs.Pools.{PoolState, IsPool, IsPushed, row_of}
use Rattle.bit_pool.specs.declared.faults.RowId.{RowId}
use Rattle.bit_pool.specs.declared.faults.Full.{Full}

-- what is found stands in the first list or in the second
either : {X : Type 0} (b c : Bool) (x y : Option X) (w : X) → (if b then x else (if c then y else None)) ≡ Some w
    → (x ≡ Some w) ⊎ (y ≡ Some w)
either true c x y w e = inl e
either false true x y w e = inr e
either false false x y w e = absurd (none-some w e)

-- what is found in a list is as all its members are
found : {X : Type 0} (P : X → Type 0) (xs : List X) (place : ℕ) (w : X) → All P xs → slice_get xs place ≡ Some w → P w
found P [] place w h e = absurd (none-some w e)
found P (x ∷ xs) zero w h e = subst P (same_Some x w e) (All-head P x xs h)
found P (x ∷ xs) (suc place) w h e = found P xs place w (All-tail P x xs h) e

pub named_row : (pool : PoolState) (id : RowId) (words : List ℕ) → IsPool pool → row_of pool id ≡ Some words → IsRow pool.width words
named_row pool id words p e = by (either (id.epoch == pool.young_generation.epoch) (id.epoch == pool.old_generation.epoch)
    (slice_get pool.young_generation.rows id.place) (slice_get pool.old_generation.rows id.place) words e)
  where
    by : (slice_get pool.young_generation.rows id.place ≡ Some words) ⊎ (slice_get pool.old_generation.rows id.place ≡ Some words)
        → IsRow pool.width words
    by (inl h) = found (IsRow pool.width) pool.young_generation.rows id.place words p.young.rows h
    by (inr h) = found (IsRow pool.width) pool.old_generation.rows id.place words p.old.rows h

-- a number below the width has a word, and there are at most 64 words
pub has_word : (width number : ℕ) (words : List ℕ) → IsRow width words → number < width → number / 64 < length words
has_word width number words row h = let count = row.count in omega arith

pub few_words : (width : ℕ) (words : List ℕ) → IsRow width words → width ≤ 4_096 → length words ≤ 64
few_words width words row h = let count = row.count in omega arith

-- a push changes neither the width nor the turns
pub pushed_width : (before now : PoolState) (words : List ℕ) (answer : Result RowId Full) → IsPushed before now words answer
    → now.width ≡ before.width
pushed_width before now words (Ok id) h = ap (λ (p : PoolState). p.width) h.1
pushed_width before now words (Err full) h = ap (λ (p : PoolState). p.width) h.1

pub pushed_turns : (before now : PoolState) (words : List ℕ) (answer : Result RowId Full) → IsPushed before now words answer
    → now.turns ≡ before.turns
pushed_turns before now words (Ok id) h = ap (λ (p : PoolState). p.turns) h.1
pushed_turns before now words (Err full) h = ap (λ (p : PoolState). p.turns) h.1
