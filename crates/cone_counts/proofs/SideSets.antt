-- The sets of a side's faces as sets of the vectors of that side, and the vectors of a degree that they leave.
use Rattle.std.proofs.Common.{◌≡◌, ◌⊎◌, inl, inr, ℕ, zero, suc, ◌*◌, ◌/◌, ◌%◌, ◌==◌, ◌<◌, ◌≤◌, Bool, true, List, [], ◌∷◌}
use Rattle.std.proofs.Common.{length, take, refl, sym, ap, ap₂, ◌∙◌, subst, arith, ℤ}
use Rattle.std.specs.Int.{bit_at}
use Rattle.std.proofs.Math.Nat.{div-lt_iff_lt-mul}
use Rattle.std.proofs.lemmas.Bool.{cases_lt}
use Rattle.std.proofs.lemmas.List.{get_or-take, length-take-le}
use Rattle.face_theory.specs.Sets.{in_set, numbers_with}
use Rattle.face_theory.proofs.Sets.{true_false}
use Rattle.bit_pool.specs.Bits.{bit_of, HasBit}
use Rattle.bit_pool.proofs.Sets.{no_bit_beyond}
use Rattle.face_closing.specs.Words.{set_of}
use Rattle.face_poset.proofs.ListedFaces.{set_of_in}
use Rattle.cayley_theory.specs.Counts.{IsConePair, CountsOnDualFace}

numbers_with_alike : (n : ℕ) (t u : ℕ → Bool) → ((i : ℕ) → i < n → t i ≡ u i) → numbers_with n t ≡ numbers_with n u
numbers_with_alike zero t u h = refl
numbers_with_alike (suc n) t u h = ap₂ (λ (b : Bool) (set : List Bool). b ∷ set) (h 0 (omega arith))
    (numbers_with_alike n (λ i. t (suc i)) (λ i. u (suc i)) (λ i l. h (suc i) (omega (arith, l))))

-- the first words tell the numbers that go into them
pub bit_taken : (words : List ℕ) (many number : ℕ) → number < 64 * many → bit_of (take many words) number ≡ bit_of words number
bit_taken words many number l = ap (λ (w : ℕ). bit_at w (number % 64)) (get_or-take many words (number / 64) 0
    ((div-lt_iff_lt-mul {k = 64} {x = number} {y = many} (omega arith)).1 (omega (arith, l))))

pub set_taken : (width : ℕ) (words : List ℕ) (many : ℕ) → width ≤ 64 * many → set_of width (take many words) ≡ set_of width words
set_taken width words many h = numbers_with_alike width (λ i. bit_of (take many words) i == 1) (λ i. bit_of words i == 1)
    (λ i l. ap (λ (b : ℕ). b == 1) (bit_taken words many i (omega (arith, h, l))))

-- and no others
pub taken_bit : (words : List ℕ) (many number : ℕ) → many ≤ length words → HasBit (take many words) number → HasBit words number
taken_bit words many number m b = by (cases_lt (number / 64) many)
  where
    by : (number / 64 < many) ⊎ (many ≤ number / 64) → HasBit words number
    by (inl l) = sym (ap (λ (w : ℕ). bit_at w (number % 64)) (get_or-take many words (number / 64) 0 l)) ∙ b
    by (inr l) = absurd (no_bit_beyond (take many words) number (subst (λ (k : ℕ). k ≤ number / 64) (sym (length-take-le many words m)) l) b)

-- a set without numbers asks nothing of a vector
module _ (n r : ℕ) (vectors : List (List ℤ)) (set : List Bool) (s : ℕ) where
  same_pair : (other : List Bool) → ((i : ℕ) → in_set other i ≡ true → in_set set i ≡ true) → (x : List ℤ)
      → IsConePair n r vectors set s x → IsConePair n r vectors other s x
  same_pair other h x p = record {
    point = p.point;
    heights = p.heights;
    is = p.is;
    dimension = p.dimension;
    parts = p.parts;
    degree = p.degree;
    nonnegative = p.nonnegative;
    zero_on = λ f t. p.zero_on f (h f t);
  }

pub on_none : (n r : ℕ) (vectors : List (List ℤ)) (set : List Bool) (s count : ℕ) → ((i : ℕ) → in_set set i ≡ true → ⊥)
    → CountsOnDualFace n r vectors set s count → CountsOnDualFace n r vectors [] s count
on_none n r vectors set s count none c = record {
  pairs = c.pairs;
  are_pairs = record {
    ascends = c.are_pairs.ascends;
    members = λ x. (
      λ k. same_pair n r vectors set s [] (λ i t. absurd (nothing i t)) x ((c.are_pairs.members x).0 k),
      λ p. (c.are_pairs.members x).1 (same_pair n r vectors [] s set (λ i t. absurd (none i t)) x p),
    );
  };
  count_is = c.count_is;
}
  where
    nothing : (i : ℕ) → in_set [] i ≡ true → ⊥
    nothing i t = true_false t refl

pub none_in : (width : ℕ) (words : List ℕ) → ((number : ℕ) → HasBit words number → ⊥) → (i : ℕ) → in_set (set_of width words) i ≡ true → ⊥
none_in width words none i t = none i (set_of_in width words i t).1

-- the vectors that are 0 on a set are some of all
pub some_of_all : (n r : ℕ) (vectors : List (List ℤ)) (set : List Bool) (s : ℕ) (x : List ℤ) → IsConePair n r vectors set s x → IsConePair n r vectors [] s x
some_of_all n r vectors set s x p = same_pair n r vectors set s [] (λ i t. absurd (true_false t refl)) x p
