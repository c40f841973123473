-- Rows that are kept word after word.
use Rattle.std.proofs.Common.{◌≡◌, ℕ, zero, suc, ◌+◌, ◌*◌, ◌<◌, ◌≤◌, List, [], ◌∷◌, ◌++◌, length, take, drop, get_or, refl, ap, ◌∙◌, sym, subst, arith}
use Rattle.std.proofs.Math.Nat.{mul-le-mul_right}
use Rattle.std.proofs.lemmas.List.{drop-drop}
use Rattle.bit_pool.specs.steps.Stored.{rows_in}

-- how many rows there are
pub length-rows_in : (n count : ℕ) (words : List ℕ) → length (rows_in n count words) ≡ count
length-rows_in n zero words = refl
length-rows_in n (suc count) words = ap suc (length-rows_in n count (drop n words))

-- a row ends where the next one begins, within the words
pub row_ends : (n count place len : ℕ) → len ≡ count * n → place < count → place * n + n ≤ len
row_ends n count place len e h = let m : suc place * n ≤ count * n = mul-le-mul_right n h in omega (arith, m)

-- the same of a list of rows
pub used_is : (n count : ℕ) (words : List ℕ) (rows : List (List ℕ)) → rows_in n count words ≡ rows → length rows ≡ count
used_is n count words rows e = sym (ap length e) ∙ length-rows_in n count words

-- the row at a place, which begins at `start`
pub row_at : (n count place start : ℕ) (words : List ℕ) → place < count → start ≡ place * n
    → get_or (rows_in n count words) place [] ≡ take n (drop start words)
row_at n zero place start words h e = absurd (omega arith)
row_at n (suc count) zero zero words h e = refl
row_at n (suc count) zero (suc start) words h e = absurd (omega arith)
row_at n (suc count) (suc place) start words h e =
    row_at n count place (place * n) (drop n words) (omega arith) refl
    ∙ ap (take n) (drop-drop (place * n) n words)
    ∙ ap (λ (k : ℕ). take n (drop k words)) (next n place start e)
  where
    next : (n place start : ℕ) → start ≡ suc place * n → n + place * n ≡ start
    next n place start e = omega arith

-- there is room for one more row
pub room_for : (n count len room : ℕ) → len ≡ count * n → (count + 1) * n ≤ room → len + n ≤ room
room_for n count len room e h = omega arith

-- and for so many in all
times_sum : (more count n : ℕ) → (more + count) * n ≡ more * n + count * n
times_sum zero count n = omega arith
times_sum (suc more) count n = let e = times_sum more count n in omega arith

pub room_in_all : (n count more rows len room : ℕ) → rows ≡ more + count → len ≡ count * n → len + more * n ≤ room → rows * n ≤ room
room_in_all n count more rows len room d e r = let m : rows * n ≡ more * n + count * n = ap (λ (k : ℕ). k * n) d ∙ times_sum more count n in
    omega arith

-- a front of some words is one of these with more behind them
take_front : (n : ℕ) (words more : List ℕ) → n ≤ length words → take n (words ++ more) ≡ take n words
take_front zero words more h = refl
take_front (suc n) [] more h = absurd (omega arith)
take_front (suc n) (w ∷ words) more h = ap (λ (ws : List ℕ). w ∷ ws) (take_front n words more (omega arith))

drop_front : (n : ℕ) (words more : List ℕ) → n ≤ length words → drop n (words ++ more) ≡ drop n words ++ more
drop_front zero words more h = refl
drop_front (suc n) [] more h = absurd (omega arith)
drop_front (suc n) (w ∷ words) more h = drop_front n words more (omega arith)

length_rest : (n m : ℕ) (words : List ℕ) → length words ≡ n + m → length (drop n words) ≡ m
length_rest zero m words e = omega (arith, e)
length_rest (suc n) m [] e = absurd (omega arith)
length_rest (suc n) m (w ∷ words) e = length_rest n m words (omega arith)

take_whole : (words : List ℕ) → take (length words) words ≡ words
take_whole [] = refl
take_whole (w ∷ words) = ap (λ (ws : List ℕ). w ∷ ws) (take_whole words)

-- one row more
rows_push : (n count : ℕ) (words row : List ℕ) → length words ≡ count * n → length row ≡ n
    → rows_in n (suc count) (words ++ row) ≡ rows_in n count words ++ row ∷ []
rows_push n zero [] row e f = ap (λ (r : List ℕ). r ∷ []) (subst (λ (k : ℕ). take k row ≡ row) f (take_whole row))
rows_push n zero (w ∷ words) row e f = absurd (omega arith)
rows_push n (suc count) words row e f =
    let first = take_front n words row (omega arith) in
    let rest = drop_front n words row (omega arith) in
    let others = rows_push n count (drop n words) row (length_rest n (count * n) words (omega arith)) f in
    rw (first, rest, others) refl

pub rows_more : (n count next : ℕ) (words row : List ℕ) → next ≡ count + 1 → length words ≡ count * n → length row ≡ n
    → rows_in n next (words ++ row) ≡ rows_in n count words ++ row ∷ []
rows_more n count next words row k e f = ap (λ (m : ℕ). rows_in n m (words ++ row)) (same next count k) ∙ rows_push n count words row e f
  where
    same : (next count : ℕ) → next ≡ count + 1 → next ≡ suc count
    same next count e = omega arith
