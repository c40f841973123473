-- The words of a table's faces have a bit for each member, and those of the dual faces one for each function: all members are a face, and the dual face
-- of the least face has all functions.
use Rattle.std.proofs.Common.{◌≡◌, ◌⊎◌, inl, inr, ℕ, zero, suc, ◌+◌, ◌*◌, ◌/◌, ◌<◌, ◌≤◌, Bool, true, List, length, map, sym, ap, ◌∙◌, subst, arith}
use Rattle.std.specs.Prelude.{IsTrue}
use Rattle.std.proofs.Math.Nat.{div-lt_iff_lt-mul}
use Rattle.std.proofs.lemmas.Bool.{cases_lt}
use Rattle.lattice_theory.proofs.Members.{in_from_contains, each_from_all, each_in}
use Rattle.lattice_theory.proofs.Sublists.{from_map, IsImage}
use Rattle.face_theory.specs.Sets.{in_set, numbers_with}
use Rattle.face_theory.specs.Faces.{TightRelation, IsFace, IsTightOn}
use Rattle.face_theory.specs.Closures.{all_below}
use Rattle.face_theory.proofs.Sets.{length-numbers_with, in_set-numbers_with, in_set_width}
use Rattle.face_theory.proofs.FaceTests.{all_true, true_all}
use Rattle.bit_pool.specs.Bits.{HasBit, words_for}
use Rattle.bit_pool.proofs.Sets.{no_bit_beyond}
use Rattle.face_closing.specs.Words.{set_of}
use Rattle.face_poset.specs.Faces.{FaceState, TableState, IsFaceOf, IsTableOf}
use Rattle.face_poset.proofs.ListedFaces.{set_of_in}

-- a number whose bit is there is below 64 times the number of words
bit_within : (words : List ℕ) (n : ℕ) → HasBit words n → n < 64 * length words
bit_within words n b = by (cases_lt (n / 64) (length words))
  where
    by : (n / 64 < length words) ⊎ (length words ≤ n / 64) → n < 64 * length words
    by (inl l) = let k = (div-lt_iff_lt-mul {k = 64} {x = n} {y = length words} (omega arith)).0 l in omega (arith, k)
    by (inr l) = absurd (no_bit_beyond words n l b)

-- so where all numbers below one have bits it is at most that
all_within : (words : List ℕ) (n : ℕ) → ((i : ℕ) → i < n → HasBit words i) → n ≤ 64 * length words
all_within words zero h = omega arith
all_within words (suc n) h = let k = bit_within words n (h n (omega arith)) in omega (arith, k)

module _ (R : TightRelation) where
  abbrev whole : List Bool
  whole = numbers_with R.members (λ m. true)

  in_width : (test : ℕ → Bool) (m : ℕ) → IsTrue (in_set (numbers_with R.members test) m) → m < R.members
  in_width test m t = subst (λ (k : ℕ). m < k) (length-numbers_with R.members test) (in_set_width (numbers_with R.members test) m t)

  whole_is_face : IsFace R whole
  whole_is_face = record {
    width = length-numbers_with R.members (λ m. true);
    closed = λ m l. (λ t f k on. on m t, λ h. in_set-numbers_with R.members (λ m. true) m l);
  }

  on_all : ℕ → Bool
  on_all m = all_below R.functions (λ f. R.tight m f)

  least : List Bool
  least = numbers_with R.members on_all

  least_tight : (f : ℕ) → f < R.functions → IsTightOn R least f
  unfolding least on_all
  least_tight f k m t = all_true R.functions (λ g. R.tight m g)
      (sym (in_set-numbers_with R.members on_all m (in_width on_all m t)) ∙ t) f k

  least_is_face : IsFace R least
  unfolding least on_all
  least_is_face = record {
    width = length-numbers_with R.members on_all;
    closed = λ m l. (
      λ t f k on. on m t,
      λ h. in_set-numbers_with R.members on_all m l ∙ true_all R.functions (λ f. R.tight m f) (λ f k. h f k (least_tight f k)),
    );
  }

  module _ (table : TableState) (t : IsTableOf R table) where
    -- the face with a set
    record HasSet (set : List Bool) : Type 0 where
      pub face : FaceState
      pub is : IsFaceOf table R face
      pub set_is : set_of R.members face.members ≡ set

    with_set : (set : List Bool) → IsFace R set → HasSet set
    with_set set f = by (from_map (λ (face : FaceState). set_of R.members face.members) table.faces
        (in_from_contains (map (λ face. set_of R.members face.members) table.faces) (t.all set f)))
      where
        by : IsImage (λ (face : FaceState). set_of R.members face.members) table.faces set → HasSet set
        by i = record { face = i.source; is = each_in (each_from_all (IsFaceOf table R) table.faces t.are_faces) i.member; set_is = sym i.is }

    pub members_fit : R.members ≤ 64 * words_for table.members
    members_fit =
        let h = with_set whole whole_is_face in
        subst (λ (k : ℕ). R.members ≤ 64 * k) h.is.members_tell.many (all_within h.face.members R.members (λ m l.
        (set_of_in R.members h.face.members m (ap (λ (s : List Bool). in_set s m) h.set_is ∙ in_set-numbers_with R.members (λ m. true) m l)).1))

    pub functions_fit : R.functions ≤ 64 * words_for table.functions
    functions_fit =
        let h = with_set least least_is_face in
        subst (λ (k : ℕ). R.functions ≤ 64 * k) h.is.functions_tell.many (all_within h.face.functions R.functions (λ f l.
        (set_of_in R.functions h.face.functions f ((h.is.dual.tight f l).1
        (subst (λ (s : List Bool). IsTightOn R s f) (sym h.set_is) (least_tight f l)))).1))

-- the words for so many bits
pub words_at_most : (n words : ℕ) → n ≤ 64 * words → words_for n ≤ words
words_at_most n words h = by (cases_lt words ((n + 63) / 64))
  where
    by : (words < (n + 63) / 64) ⊎ ((n + 63) / 64 ≤ words) → words_for n ≤ words
    by (inr l) = l
    by (inl l) = by_lt ((div-lt_iff_lt-mul {k = 64} {x = n + 63} {y = words + 1} (omega arith)).1 (omega (arith, h)))
      where
        by_lt : (n + 63) / 64 < words + 1 → words_for n ≤ words
        by_lt k = omega (arith, k)

pub words_enough : (n : ℕ) → n ≤ 64 * words_for n
words_enough n = omega arith

pub some_words : (n : ℕ) → 1 ≤ n → 1 ≤ words_for n
some_words n h = omega (arith, h)
