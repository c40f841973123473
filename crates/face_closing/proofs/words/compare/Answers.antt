use Rattle.std.proofs.Common.{◌≡◌, ◌≢◌, ℕ, ◌/◌, ◌^◌, ◌<◌, bit_and, Fits, refl, sym, ◌∙◌, arith}
use Rattle.std.specs.Prelude.{bit_xor}
use Rattle.std.specs.Int.{bit_at, trailing_zeros, w64}
use Rattle.std.proofs.lemmas.Nat.{and_mask, xor_lt}
use Rattle.face_closing.proofs.SetWords.{IsFirstApart, first_apart, one_first, other_first, same_words}
use Rattle.face_closing.proofs.words.compare.Goals as goal

-- what is known of two words that differ
apart : (a b : ℕ) → Fits w64 a → Fits w64 b → a ≢ b → IsFirstApart a b (trailing_zeros w64 (bit_xor a b))
apart a b f g n = let p : a < 2 ^ 64 = omega arith in let q : b < 2 ^ 64 = omega arith in first_apart a b (trailing_zeros w64 (bit_xor a b)) p q (xor_lt 64 a b p q) n refl

-- the lowest bit of a word that was shifted
lowest : (x t : ℕ) → bit_and (x / 2 ^ t) 1 ≡ bit_at x t
lowest x t = and_mask (x / 2 ^ t) 1

pub overflow_shr-words : goal.overflow_shr-words
overflow_shr-words c = (apart _ _ (c.type_inv.words c.loop-i.i) (c.type_inv.others c.loop-i.i) c.if-words-i.true).place

pub returns-then-words-i-eq1 : goal.returns-then-words-i-eq1
returns-then-words-i-eq1 c = one_first c.args.words.now c.args.others.now c.loop-i.i _ c.loop-i.invariant (apart _ _ (c.type_inv.words c.loop-i.i) (c.type_inv.others c.loop-i.i) c.if-words-i.true)
    (sym (lowest _ _) ∙ c.if-words-i-eq1.true)

pub returns-else-words-i-eq1 : goal.returns-else-words-i-eq1
returns-else-words-i-eq1 c = other_first c.args.words.now c.args.others.now c.loop-i.i _ c.loop-i.invariant (apart _ _ (c.type_inv.words c.loop-i.i) (c.type_inv.others c.loop-i.i) c.if-words-i.true)
    (λ e. c.if-words-i-eq1.false (lowest _ _ ∙ e))

pub returns : goal.returns
returns c = same_words c.args.words.now c.args.others.now c.requires (λ k l. c.loop-i.invariant k (let f = c.loop-i-test.false in omega arith))
