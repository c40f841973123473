-- How many numbers are in a set that words tell.
use Rattle.std.specs.List.{filter, range_with_len}
use Rattle.std.specs.Prelude.{count_ones, cond}
use Rattle.std.proofs.Common.{◌≡◌, ℕ, zero, suc, ◌+◌, ◌-◌, ◌*◌, ◌/◌, ◌%◌, ◌^◌, ◌<◌, ◌≤◌, ◌==◌, Bool, true, false, List, [], ◌∷◌, length, get_or, refl, sym, ap, ◌∙◌, arith}
use Rattle.std.specs.Int.{bit_at}
use Rattle.std.specs.Int.Count.{ones_step}
use Rattle.std.proofs.lemmas.Nat.{ones-le}
use Rattle.std.proofs.Math.Nat.{pow-succ'}
use Rattle.std.proofs.lemmas.Nat.Bits.{bit_at_lowest, bit_at-suc, bit_at-lt}
use Rattle.bit_pool.specs.Bits.{bit_of, HasBit, size_of}

-- how often a test holds below a number
abbrev pub how_often : (ℕ → Bool) → ℕ → ℕ
how_often test zero = 0
how_often test (suc n) = cond (test 0) 1 0 + how_often (λ i. test (suc i)) n

-- a test that is the same below a number holds as often
same_often : (test other : ℕ → Bool) (n : ℕ) → ((i : ℕ) → i < n → test i ≡ other i) → how_often test n ≡ how_often other n
same_often test other zero h = refl
same_often test other (suc n) h =
    let first = h 0 (omega arith) in
    let rest = same_often (λ i. test (suc i)) (λ i. other (suc i)) n (λ i l. h (suc i) (omega arith)) in
    rw (first, rest) refl

-- in two parts
parts : (test later : ℕ → Bool) (m n all : ℕ) → all ≡ m + n → ((i k : ℕ) → k ≡ m + i → later i ≡ test k)
    → how_often test all ≡ how_often test m + how_often later n
parts test later zero n all e h =
    let rest = same_often later test n (λ i l. h i i (omega arith)) in
    let whole : how_often test all ≡ how_often test n = ap (how_often test) (none n all e) in
    omega arith
  where
    none : (n all : ℕ) → all ≡ 0 + n → all ≡ n
    none n all e = omega arith
parts test later (suc m) n zero e h = absurd (omega arith)
parts test later (suc m) n (suc all) e h =
    let rest = parts (λ i. test (suc i)) later m n all (omega arith) (λ i k s. h i (suc k) (omega arith)) in
    omega arith

-- where a test holds nowhere
never : (test : ℕ → Bool) (n : ℕ) → ((i : ℕ) → i < n → test i ≡ false) → how_often test n ≡ 0
never test zero h = refl
never test (suc n) h =
    let first = h 0 (omega arith) in
    let rest = never (λ i. test (suc i)) n (λ i l. h (suc i) (omega arith)) in
    rw (first, rest) refl

-- what a filter keeps of the numbers from a on
kept : (test : ℕ → Bool) (a n : ℕ) → length (filter test (range_with_len a n)) ≡ how_often (λ i. test (a + i)) n
kept test a zero = refl
kept test a (suc n) =
    let rest = kept test (a + 1) n in
    let same = same_often (λ i. test (a + 1 + i)) (λ i. test (a + suc i)) n (λ i l. ap test (next a i)) in
    first (test a) (test (a + 0)) (ap test (here a)) (filter test (range_with_len (a + 1) n)) (how_often (λ i. test (a + suc i)) n)
    (rest ∙ same)
  where
    next : (a i : ℕ) → a + 1 + i ≡ a + suc i
    next a i = omega arith

    here : (a : ℕ) → a ≡ a + 0
    here a = omega arith

    first : (b c : Bool) → b ≡ c → (xs : List ℕ) (m : ℕ) → length xs ≡ m → length (cond b (a ∷ xs) xs) ≡ cond c 1 0 + m
    first true true e xs m h = omega arith
    first false false e xs m h = omega arith
    first true false e xs m h = cc
    first false true e xs m h = cc

-- the bits of one word
test_bit : (b : ℕ) → b < 2 → cond (b == 1) 1 0 ≡ b
test_bit zero h = refl
test_bit (suc zero) h = refl
test_bit (suc (suc b)) h = absurd (omega arith)

word_ones : (k w : ℕ) → w < 2 ^ k → count_ones w ≡ how_often (λ j. bit_at w j == 1) k
word_ones zero w h = let l = ones-le 0 w h in omega arith
word_ones (suc k) w h =
    let step = ones_step w in
    let double : 2 ^ suc k ≡ 2 * 2 ^ k = pow-succ' 2 k in
    let half : w / 2 < 2 ^ k = omega (arith, double, h) in
    let rest = word_ones k (w / 2) half in
    let same = same_often (λ j. bit_at (w / 2) j == 1) (λ j. bit_at w (suc j) == 1) k (λ i l. ap (λ b. b == 1) (sym (bit_at-suc w i))) in
    let lowest = bit_at_lowest w in
    let first = test_bit (bit_at w 0) (bit_at-lt w 0) in
    omega arith

-- the words of a set
bits_after : (w : ℕ) (words : List ℕ) (i k : ℕ) → k ≡ 64 + i → bit_of words i ≡ bit_of (w ∷ words) k
bits_after w words i k e = same (i / 64) (k / 64) (i % 64) (k % 64) (omega arith) (omega arith)
  where
    same : (a b c d : ℕ) → b ≡ suc a → d ≡ c → bit_at (get_or words a 0) c ≡ bit_at (get_or (w ∷ words) b 0) d
    same a b c d e f = rw (e, f) refl

bits_before : (w : ℕ) (words : List ℕ) (i : ℕ) → i < 64 → bit_at w i ≡ bit_of (w ∷ words) i
bits_before w words i h = same (i / 64) (i % 64) (omega arith) (omega arith)
  where
    same : (a c : ℕ) → a ≡ 0 → c ≡ i → bit_at w i ≡ bit_at (get_or (w ∷ words) a 0) c
    same a c e f = rw (e, f) refl

-- the ones in all words
abbrev pub all_ones : List ℕ → ℕ
all_ones [] = 0
all_ones (w ∷ words) = count_ones w + all_ones words

row_ones : (words : List ℕ) (bits : ℕ) → bits ≡ length words * 64 → ((i : ℕ) → get_or words i 0 < 2 ^ 64)
    → all_ones words ≡ how_often (λ i. bit_of words i == 1) bits
row_ones [] bits e small = ap (how_often (λ i. bit_of [] i == 1)) (none bits e)
  where
    none : (bits : ℕ) → bits ≡ length {A = ℕ} [] * 64 → 0 ≡ bits
    none bits e = omega arith
row_ones (w ∷ words) bits e small =
    let word = word_ones 64 w (small 0) in
    let same = same_often (λ i. bit_at w i == 1) (λ i. bit_of (w ∷ words) i == 1) 64 (λ i h. ap (λ b. b == 1) (bits_before w words i h)) in
    let rest = row_ones words (length words * 64) refl (λ i. small (suc i)) in
    let both = parts (λ i. bit_of (w ∷ words) i == 1) (λ i. bit_of words i == 1) 64 (length words * 64) bits (omega arith)
    (λ i k s. ap (λ b. b == 1) (bits_after w words i k s)) in
    omega arith

-- the size of a set is the number of ones in its words
no_bit : (b : ℕ) → b < 2 → (b ≡ 1 → ⊥) → (b == 1) ≡ false
no_bit zero h n = refl
no_bit (suc zero) h n = absurd (n refl)
no_bit (suc (suc b)) h n = absurd (omega arith)

pub row_size : (width : ℕ) (words : List ℕ) → width ≤ length words * 64 → ((i : ℕ) → get_or words i 0 < 2 ^ 64)
    → ((number : ℕ) → width ≤ number → HasBit words number → ⊥) → all_ones words ≡ size_of width words
row_size width words within small below =
    let all = row_ones words (length words * 64) refl small in
    let more : ℕ = length words * 64 - width in
    let both = parts (λ i. bit_of words i == 1) (λ i. bit_of words (width + i) == 1) width more (length words * 64) (omega arith)
    (λ i k s. ap (λ n. bit_of words n == 1) (sym s)) in
    let none = never (λ i. bit_of words (width + i) == 1) more
    (λ i h. no_bit (bit_of words (width + i)) (bit_at-lt _ _) (below (width + i) (omega arith))) in
    let kept_is = kept (λ number. bit_of words number == 1) 0 width in
    let same = same_often (λ i. bit_of words (0 + i) == 1) (λ i. bit_of words i == 1) width
    (λ i h. ap (λ n. bit_of words n == 1) (omega arith)) in
    omega arith
