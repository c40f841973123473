-- Sets as words: what two have in common, which of them has the first number in which they differ, and when they are the same.
use Rattle.std.specs.Int.{bit_at, trailing_zeros, w64}
use Rattle.std.specs.Prelude.{bit_xor}
use Rattle.std.proofs.Common.{◌≡◌, ◌≢◌, ⊎_elim, ℕ, zero, suc, ◌+◌, ◌*◌, ◌/◌, ◌%◌, ◌^◌, ◌<◌, ◌≤◌, min, Bool, ◌&&◌, ◌==◌, List, [], ◌∷◌, length, get_or, bit_and, refl, sym, ap, ap₂, ◌∙◌, subst, arith}
use Rattle.std.proofs.lemmas.Bool.{cases_lt}
use Rattle.std.proofs.lemmas.Nat.Bits.{bit_at_and, bit_at_xor, bit_at-zero, bit_at-lt, bit_at-trailing_zeros, same_from_bits_below}
use Rattle.bit_pool.specs.Bits.{bit_of, HasBit}
use Rattle.face_theory.specs.Sets.{numbers_with, common}
use Rattle.face_closing.specs.Words.{set_of, meet_words, IsEarlier}

-- word by word
pub meet_from : (meet words others : List ℕ) → length words ≡ length meet → length others ≡ length meet
    → ((k : ℕ) → k < length meet → get_or meet k 0 ≡ bit_and (get_or words k 0) (get_or others k 0)) → meet ≡ meet_words words others
meet_from [] [] others e f h = refl
meet_from [] (w ∷ words) others e f h = absurd (omega arith)
meet_from (m ∷ meet) [] others e f h = absurd (omega arith)
meet_from (m ∷ meet) (w ∷ words) [] e f h = absurd (omega arith)
meet_from (m ∷ meet) (w ∷ words) (o ∷ others) e f h = ap₂ (λ (z : ℕ) (r : List ℕ). z ∷ r) (h 0 (omega arith))
    (meet_from meet words others (omega arith) (omega arith) (λ k l. h (suc k) (omega arith)))

pub length-meet_words : (words others : List ℕ) → length words ≡ length others → length (meet_words words others) ≡ length words
length-meet_words [] others e = refl
length-meet_words (w ∷ words) [] e = absurd (omega arith)
length-meet_words (w ∷ words) (o ∷ others) e = ap suc (length-meet_words words others (omega arith))

pub meet_entry : (words others : List ℕ) → length words ≡ length others → (k : ℕ)
    → get_or (meet_words words others) k 0 ≡ bit_and (get_or words k 0) (get_or others k 0)
meet_entry [] [] e k = refl
meet_entry [] (o ∷ others) e k = absurd (omega arith)
meet_entry (w ∷ words) [] e k = absurd (omega arith)
meet_entry (w ∷ words) (o ∷ others) e zero = refl
meet_entry (w ∷ words) (o ∷ others) e (suc k) = meet_entry words others (omega arith) k

-- sets of one word each
pub meet_of_word : (words others : List ℕ) → length words ≡ 1 → length others ≡ 1 → bit_and (get_or words 0 0) (get_or others 0 0) ∷ [] ≡ meet_words words others
meet_of_word [] others e f = absurd (omega arith)
meet_of_word (w ∷ words) [] e f = absurd (omega arith)
meet_of_word (w ∷ []) (o ∷ []) e f = refl
meet_of_word (w ∷ []) (o ∷ p ∷ others) e f = absurd (omega arith)
meet_of_word (w ∷ v ∷ words) (o ∷ others) e f = absurd (omega arith)

-- the bits of what two sets have in common
min_one : (p q : ℕ) → p < 2 → q < 2 → (min p q == 1) ≡ ((p == 1) && (q == 1))
min_one zero zero h k = refl
min_one zero (suc zero) h k = refl
min_one zero (suc (suc q)) h k = absurd (omega arith)
min_one (suc zero) zero h k = refl
min_one (suc zero) (suc zero) h k = refl
min_one (suc zero) (suc (suc q)) h k = absurd (omega arith)
min_one (suc (suc p)) q h k = absurd (omega arith)

pub meet_bit : (words others : List ℕ) → length words ≡ length others → (n : ℕ)
    → bit_of (meet_words words others) n ≡ min (bit_of words n) (bit_of others n)
meet_bit words others e n = ap (λ (w : ℕ). bit_at w (n % 64)) (meet_entry words others e (n / 64)) ∙ bit_at_and _ _ _

meet_numbers : (width : ℕ) (f g h : ℕ → Bool) → ((i : ℕ) → f i ≡ (g i && h i)) → numbers_with width f ≡ common (numbers_with width g) (numbers_with width h)
meet_numbers zero f g h e = refl
meet_numbers (suc width) f g h e = ap₂ (λ (b : Bool) (r : List Bool). b ∷ r) (e 0)
    (meet_numbers width (λ i. f (suc i)) (λ i. g (suc i)) (λ i. h (suc i)) (λ i. e (suc i)))

pub set_of-meet : (width : ℕ) (words others : List ℕ) → length words ≡ length others
    → set_of width (meet_words words others) ≡ common (set_of width words) (set_of width others)
set_of-meet width words others e = meet_numbers width (λ i. bit_of (meet_words words others) i == 1) (λ i. bit_of words i == 1) (λ i. bit_of others i == 1)
    (λ i. ap (λ (z : ℕ). z == 1) (meet_bit words others e i) ∙ min_one (bit_of words i) (bit_of others i) (bit_at-lt _ _) (bit_at-lt _ _))

-- the bit at a place of a word
place_word : (k j : ℕ) → j < 64 → (64 * k + j) / 64 ≡ k
place_word k j l = omega arith

place_bit : (k j : ℕ) → j < 64 → (64 * k + j) % 64 ≡ j
place_bit k j l = omega arith

pub bit_here : (words : List ℕ) (k j : ℕ) → j < 64 → bit_of words (64 * k + j) ≡ bit_at (get_or words k 0) j
bit_here words k j l = rw (place_word k j l, place_bit k j l) refl

-- the first word in which two sets differ, and its first bit
pub earlier_at : (words others : List ℕ) (i t : ℕ) → t < 64 → ((k : ℕ) → k < i → get_or words k 0 ≡ get_or others k 0)
    → ((j : ℕ) → j < t → bit_at (get_or words i 0) j ≡ bit_at (get_or others i 0) j) → bit_at (get_or words i 0) t ≡ 1 → bit_at (get_or others i 0) t ≡ 0
    → IsEarlier words others
earlier_at words others i t l before below one none = record {
  first = 64 * i + t;
  here = bit_here words i t l ∙ one;
  missing = λ h. let e = bit_here others i t l in omega arith;
  same = λ n m. let e = equal n m in (λ h. sym e ∙ h, λ h. e ∙ h);
}
  where
    equal : (n : ℕ) → n < 64 * i + t → bit_of words n ≡ bit_of others n
    equal n m = ⊎_elim
        (λ (h : n / 64 < i). ap (λ (w : ℕ). bit_at w (n % 64)) (before (n / 64) h))
        (λ (h : i ≤ n / 64). let e : n / 64 ≡ i = omega arith in
        subst (λ (k : ℕ). bit_at (get_or words k 0) (n % 64) ≡ bit_at (get_or others k 0) (n % 64)) (sym e) (below (n % 64) (omega arith)))
        (cases_lt (n / 64) i)

-- where two words differ
same_bit : (a b j : ℕ) → bit_at (bit_xor a b) j ≡ 0 → bit_at a j ≡ bit_at b j
same_bit a b j e = let x = bit_at_xor a b j in let p = bit_at-lt a j in let q = bit_at-lt b j in omega arith

apart_bit : (a b j : ℕ) → bit_at (bit_xor a b) j ≡ 1 → bit_at a j ≡ 1 → bit_at b j ≡ 0
apart_bit a b j e o = let x = bit_at_xor a b j in let p = bit_at-lt a j in let q = bit_at-lt b j in omega arith

some_bit : (a b : ℕ) → a < 2 ^ 64 → b < 2 ^ 64 → a ≢ b → 0 < bit_xor a b
some_bit a b p q n = ⊎_elim (λ (h : 0 < bit_xor a b). h)
    (λ (h : bit_xor a b ≤ 0). absurd (n (same_from_bits_below 64 a b p q
    (λ j l. same_bit a b j (let z : bit_xor a b ≡ 0 = omega arith in ap (λ (x : ℕ). bit_at x j) z ∙ bit_at-zero j)))))
    (cases_lt 0 (bit_xor a b))

-- the first bit in which two words differ
pub record IsFirstApart (a b t : ℕ) : Type 0 where
  pub place : t < 64
  pub apart : bit_at (bit_xor a b) t ≡ 1
  pub same : (j : ℕ) → j < t → bit_at a j ≡ bit_at b j

pub first_apart : (a b t : ℕ) → a < 2 ^ 64 → b < 2 ^ 64 → bit_xor a b < 2 ^ 64 → a ≢ b → t ≡ trailing_zeros w64 (bit_xor a b) → IsFirstApart a b t
first_apart a b t p q x n e =
    let z = bit_at-trailing_zeros w64 (bit_xor a b) (some_bit a b p q n) x in
    subst (IsFirstApart a b) (sym e) (record { place = z.0; apart = z.1; same = λ j l. same_bit a b j (z.2 j l) })

pub one_first : (words others : List ℕ) (i t : ℕ) → ((k : ℕ) → k < i → get_or words k 0 ≡ get_or others k 0)
    → IsFirstApart (get_or words i 0) (get_or others i 0) t → bit_at (get_or words i 0) t ≡ 1 → IsEarlier words others
one_first words others i t before h one = earlier_at words others i t h.place before h.same one (apart_bit (get_or words i 0) (get_or others i 0) t h.apart one)

pub other_first : (words others : List ℕ) (i t : ℕ) → ((k : ℕ) → k < i → get_or words k 0 ≡ get_or others k 0)
    → IsFirstApart (get_or words i 0) (get_or others i 0) t → (bit_at (get_or words i 0) t ≡ 1 → ⊥) → IsEarlier others words
other_first words others i t before h none = earlier_at others words i t h.place (λ k l. sym (before k l)) (λ j l. sym (h.same j l)) (one t h.apart none) (no t none)
  where
    no : (t : ℕ) → (bit_at (get_or words i 0) t ≡ 1 → ⊥) → bit_at (get_or words i 0) t ≡ 0
    no t n = let p = bit_at-lt (get_or words i 0) t in omega arith

    one : (t : ℕ) → bit_at (bit_xor (get_or words i 0) (get_or others i 0)) t ≡ 1 → (bit_at (get_or words i 0) t ≡ 1 → ⊥) → bit_at (get_or others i 0) t ≡ 1
    one t e n = let x = bit_at_xor (get_or words i 0) (get_or others i 0) t in let p = bit_at-lt (get_or words i 0) t in
        let q = bit_at-lt (get_or others i 0) t in let z = no t n in omega arith

-- words that are the same
pub same_words : (words others : List ℕ) → length words ≡ length others → ((k : ℕ) → k < length words → get_or words k 0 ≡ get_or others k 0) → words ≡ others
same_words [] [] e h = refl
same_words [] (o ∷ others) e h = absurd (omega arith)
same_words (w ∷ words) [] e h = absurd (omega arith)
same_words (w ∷ words) (o ∷ others) e h = ap₂ (λ (z : ℕ) (r : List ℕ). z ∷ r) (h 0 (omega arith))
    (same_words words others (omega arith) (λ k l. h (suc k) (omega arith)))

-- a number that two sets have in common is in the first
pub meet_has : (words others : List ℕ) → length words ≡ length others → (n : ℕ) → HasBit (meet_words words others) n → HasBit words n
meet_has words others e n h = by (bit_of words n) (bit_of others n) (bit_of (meet_words words others) n) (meet_bit words others e n) h
    (bit_at-lt _ _) (bit_at-lt _ _)
  where
    by : (a b c : ℕ) → c ≡ min a b → c ≡ 1 → a < 2 → b < 2 → a ≡ 1
    by a b c e h l m = omega arith
