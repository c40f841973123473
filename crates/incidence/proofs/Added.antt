-- Rows that are added to a pool one after another, and the words of a row.
use Rattle.std.proofs.Common.{◌≡◌, ◌⊎◌, ⊎_elim, ◌↔◌, ℕ, ◌+◌, ◌/◌, ◌%◌, ◌^◌, ◌<◌, ◌≤◌, Bool, List, [], ◌∷◌, ◌++◌, length, take, get_or, refl, sym, ap, ◌∙◌, subst, arith, length-append, length-take, append_assoc, append-nil}
use Rattle.std.specs.Int.{bit_at}
use Rattle.std.proofs.Math.ListN.{get_or-append}
use Rattle.std.proofs.Math.Seq.{get_or-append_seam}
use Rattle.std.proofs.lemmas.Bool.{cases_lt}
use Rattle.std.proofs.lemmas.List.{get_or-take}
use Rattle.std.proofs.lemmas.List.Elements.{All-from_get_or, All-nil, All-push}
use Rattle.bit_pool.specs.Bits.{HasBit, IsRow, words_for}
use Rattle.bit_pool.specs.Pools.{PoolState, pushed}
use Rattle.bit_pool.proofs.Sets.{no_bit_beyond}
use Rattle.incidence.specs.Incidences.{HasExactly}
use Rattle.incidence.specs.RowSteps.{AddsRows, HasRow}

-- nothing was added
pub adds_none : (pool : PoolState) (P : ℕ → List ℕ → Type 0) → AddsRows pool pool 0 P
adds_none pool P = record {
  added = [];
  many = refl;
  are_rows = All-nil (IsRow pool.width);
  each = λ k d l. absurd (omega arith);
  now_is = ap (λ (rows : List (List ℕ)). record pool { young_generation = record pool.young_generation { rows = rows } })
      (sym (append-nil pool.young_generation.rows));
}

-- the same set has exactly the same numbers
pub exact_same : (n : ℕ) (test : ℕ → Bool) (words row : List ℕ) → HasExactly n test words → ((k : ℕ) → HasBit row k ↔ HasBit words k)
    → HasExactly n test row
exact_same n test words row exact same k = (λ b. (exact k).0 ((same k).0 b), λ h. (same k).1 ((exact k).1 h))

-- one more row
pub adds_one : (before now next : PoolState) (k : ℕ) (P : ℕ → List ℕ → Type 0) (words : List ℕ) → AddsRows before now k P → HasRow now next words
    → ((row : List ℕ) → ((n : ℕ) → HasBit row n ↔ HasBit words n) → P k row) → AddsRows before next (k + 1) P
adds_one before now next k P words h r p = record {
  added = h.added ++ r.row ∷ [];
  many = let l = length-append h.added (r.row ∷ []) in let m = h.many in omega arith;
  are_rows = All-push (IsRow before.width) h.added r.row h.are_rows
      (subst (λ (w : ℕ). IsRow w r.row) (ap (λ (pool : PoolState). pool.width) h.now_is) r.is_row);
  each = λ j d l. ⊎_elim
      (λ (i : j < k). subst (P j) (sym (get_or-append h.added (r.row ∷ []) d j (let m = h.many in omega arith))) (h.each j d i))
      (λ (i : k ≤ j). let f : j ≡ k = omega arith in subst (λ (n : ℕ). P n (get_or (h.added ++ r.row ∷ []) n d)) (sym f)
      (subst (P k) (sym (last d)) (p r.row r.same)))
      (cases_lt j k);
  now_is = r.now_is ∙ ap (λ (pool : PoolState). pushed pool r.row) h.now_is
      ∙ ap (λ (rows : List (List ℕ)). record before { young_generation = record before.young_generation { rows = rows } })
      (append_assoc before.young_generation.rows h.added (r.row ∷ []));
}
  where
    last : (d : List ℕ) → get_or (h.added ++ r.row ∷ []) k d ≡ r.row
    last d = subst (λ (n : ℕ). get_or (h.added ++ r.row ∷ []) n d ≡ r.row) h.many (get_or-append_seam h.added r.row [] d)

-- the same of tests that answer the same
pub adds_same : (before now : PoolState) (count n : ℕ) (first second : ℕ → ℕ → Bool) → ((k j : ℕ) → first k j ≡ second k j)
    → AddsRows before now count (λ k words. HasExactly n (first k) words) → AddsRows before now count (λ k words. HasExactly n (second k) words)
adds_same before now count n first second same h = record {
  added = h.added;
  many = h.many;
  are_rows = h.are_rows;
  each = λ k d l j. (
    λ b. (((h.each k d l j).0 b).0, sym (same k j) ∙ ((h.each k d l j).0 b).1),
    λ t. (h.each k d l j).1 (t.0, same k j ∙ t.1),
  );
  now_is = h.now_is;
}

-- the pool keeps its width, and its young generation its room
pub same_width : {before now : PoolState} {count : ℕ} {P : ℕ → List ℕ → Type 0} → AddsRows before now count P → now.width ≡ before.width
same_width h = ap (λ (pool : PoolState). pool.width) h.now_is

pub same_room : {before now : PoolState} {count : ℕ} {P : ℕ → List ℕ → Type 0} → AddsRows before now count P
    → now.young_generation.reserved ≡ before.young_generation.reserved
same_room h = ap (λ (pool : PoolState). pool.young_generation.reserved) h.now_is

pub more_rows : {before now : PoolState} {count : ℕ} {P : ℕ → List ℕ → Type 0} → AddsRows before now count P
    → length now.young_generation.rows ≡ length before.young_generation.rows + count
more_rows {before = before} h = ap (λ (pool : PoolState). length pool.young_generation.rows) h.now_is
    ∙ length-append before.young_generation.rows h.added ∙ ap (λ (n : ℕ). length before.young_generation.rows + n) h.many

-- the first words of some words tell the same set where it has small numbers alone
module _ (width m : ℕ) (words : List ℕ) (m_is : m ≡ words_for width) (most : m ≤ length words)
    (below : (n : ℕ) → HasBit words n → n < width) where
  length_front : length (take m words) ≡ m
  length_front = let l = length-take m words in omega arith

  front_bit : (k : ℕ) → k / 64 < m → bit_at (get_or (take m words) (k / 64) 0) (k % 64) ≡ bit_at (get_or words (k / 64) 0) (k % 64)
  front_bit k l = ap (λ (w : ℕ). bit_at w (k % 64)) (get_or-take m words (k / 64) 0 l)

  pub front_same : (n : ℕ) → HasBit (take m words) n ↔ HasBit words n
  front_same n = (
    λ b. ⊎_elim
        (λ (l : n / 64 < m). sym (front_bit n l) ∙ b)
        (λ (l : m ≤ n / 64). absurd (no_bit_beyond (take m words) n (let e = length_front in omega arith) b))
        (cases_lt (n / 64) m),
    λ h. front_bit n (let l = below n h in omega arith) ∙ h,
  )

  pub front_row : ((i : ℕ) → get_or words i 0 < 2 ^ 64) → IsRow width (take m words)
  front_row small = record {
    count = length_front ∙ m_is;
    small = All-from_get_or (λ w. w < 2 ^ 64) (take m words) 0
        (λ i h. subst (λ (w : ℕ). w < 2 ^ 64) (sym (get_or-take m words i 0 (let l = length_front in omega arith))) (small i));
    below = λ number h bit. let l = below number ((front_same number).0 bit) in absurd (omega arith);
  }
