-- Points are counted by the sets of a table's faces.
use Rattle.std.specs.List.{All, filter}
use Rattle.std.specs.Prelude.{Option, None, Some, MatchOption, cond, slice_set, eqb}
use Rattle.std.proofs.Common.{◌≡◌, ◌≢◌, ⊎_elim, ℕ, zero, suc, ◌+◌, ◌^◌, ◌<◌, ◌≤◌, ◌==◌, Bool, true, false, List, [], ◌∷◌, length, take, get_or, replicate, ℤ, refl, sym, ap, ap₂, ◌∙◌, subst, arith, suc-le-suc, zero-lt-suc}
use Rattle.std.proofs.lemmas.Bool.{eqb-true, eq-eqb}
use Rattle.std.proofs.lemmas.Bool.Decides.{eqb_tells}
use Rattle.std.proofs.lemmas.List.{get_or-set_same, get_or-set_other, length-take-le}
use Rattle.std.proofs.lemmas.List.Filters.{length-filter_more}
use Rattle.lattice_theory.specs.Affine.{Affine, value}
use Rattle.face_theory.specs.Sets.{numbers_with, is_same}
use Rattle.face_theory.specs.Pairings.{is_zero, function_at}
use Rattle.face_theory.proofs.Sets.{true_false, same_test, is_same-true, is_same_refl}
use Rattle.bit_pool.specs.Bits.{bit_of}
use Rattle.incidence.specs.Incidences.{HasExactly}
use Rattle.face_closing.specs.Words.{set_of, IsSetOf}
use Rattle.face_closing.proofs.MeetRows.{same_from_sets}
use Rattle.face_poset.specs.Faces.{FaceState, face_at}
use Rattle.batyrev_theory.specs.Interior.{zeros_at}
use Rattle.batyrev_theory.specs.Tables.{points_with}
use Rattle.dual_pair.specs.CountSteps.{words_on, sought, AreSought}
use Rattle.dual_pair.specs.declared.side.Side.{Side}

-- a list of tests by place
numbers_as_map : (functions : List Affine) (x : List ℤ) (test : ℕ → Bool)
    → ((f : ℕ) → f < length functions → test f ≡ is_zero (value (function_at functions f) x))
    → numbers_with (length functions) test ≡ zeros_at functions x
numbers_as_map [] x test h = refl
numbers_as_map (g ∷ functions) x test h = ap₂ (λ (b : Bool) (r : List Bool). b ∷ r) (h 0 (zero-lt-suc _))
    (numbers_as_map functions x (λ i. test (suc i)) (λ f l. h (suc f) (suc-le-suc l)))

-- the words of the functions that are 0 at a point tell them
set_told : (functions : List Affine) (x : List ℤ) (words : List ℕ)
    → HasExactly (length functions) (λ f. is_zero (value (function_at functions f) x)) words
    → set_of (length functions) words ≡ zeros_at functions x
set_told functions x words exact = numbers_as_map functions x (λ i. bit_of words i == 1) (λ f l.
    same_test (bit_of words f == 1) (is_zero (value (function_at functions f) x))
    (λ t. ((exact f).0 (eqb-true (bit_of words f) 1 t)).1)
    (λ t. eq-eqb (bit_of words f) 1 ((exact f).1 (l, t))))

words_set : (count width : ℕ) (test : ℕ → Bool) (words : List ℕ) → length words ≡ count → All (λ w. w < 2 ^ 64) words
    → HasExactly width test words → IsSetOf count width words
words_set count width test words many small exact = record {
  many = many;
  small = small;
  below = λ n l b. let p = ((exact n).0 b).0 in absurd (omega (arith, l, p));
}

-- what is found by the words is found by the set
pub face_found : (count : ℕ) (side : Side) (faces : List FaceState) (functions : List Affine) (x : List ℤ) (words : List ℕ)
    → AreSought count (length functions) side faces → length words ≡ count → All (λ w. w < 2 ^ 64) words
    → HasExactly (length functions) (λ f. is_zero (value (function_at functions f) x)) words → (answer : Option ℕ)
    → MatchOption answer ((k : ℕ) → k < length faces → words_on side (face_at faces k) ≡ words → ⊥)
    (λ k. (k < length faces) × (words_on side (face_at faces k) ≡ words))
    → MatchOption answer ((k : ℕ) → k < length faces → sought (length functions) side faces k ≡ zeros_at functions x → ⊥)
    (λ k. (k < length faces) × (sought (length functions) side faces k ≡ zeros_at functions x))
face_found count side faces functions x words h many small exact None none = λ k l e.
    none k l (same_from_sets count (length functions) (words_on side (face_at faces k)) words (h.sets k l)
    (words_set count (length functions) (λ f. is_zero (value (function_at functions f) x)) words many small exact)
    (e ∙ sym (set_told functions x words exact)))
face_found count side faces functions x words h many small exact (Some k) found =
    (found.0, ap (set_of (length functions)) found.1 ∙ set_told functions x words exact)

-- what a test keeps is no more than there is
few_or_more : {X : Type 0} (b : Bool) (x : X) (ys : List X) (n : ℕ) → length ys ≤ n → length (cond b (x ∷ ys) ys) ≤ suc n
few_or_more true x ys n h = omega (arith, h)
few_or_more false x ys n h = omega (arith, h)

kept_few : {X : Type 0} (test : X → Bool) (xs : List X) → length (filter test xs) ≤ length xs
kept_few test [] = omega arith
kept_few test (x ∷ xs) = few_or_more (test x) x (filter test xs) (length xs) (kept_few test xs)

-- one point more counts where the test passes
passes : (b : Bool) → b ≡ true → ◌≡◌ {A = ℕ} (cond b 1 0) 1
passes true e = refl
passes false e = absurd (true_false e refl)

fails : (b : Bool) → (b ≡ true → ⊥) → ◌≡◌ {A = ℕ} (cond b 1 0) 0
fails true n = absurd (n refl)
fails false n = refl

module _ (side : Side) (faces : List FaceState) (functions : List Affine) (points : List (List ℤ)) where
  -- how many of the first i points have the set of each face
  abbrev pub AreCounted : ℕ → List ℕ → Type 0
  AreCounted i counts = (k : ℕ) → k < length faces
      → get_or counts k 0 ≡ points_with functions (take i points) (sought (length functions) side faces k)

  pub counted_few : (i : ℕ) (counts : List ℕ) (k : ℕ) → i ≤ length points → AreCounted i counts → k < length faces → get_or counts k 0 ≤ i
  counted_few i counts k m h l =
      let e = h k l in
      let few = kept_few (λ x. is_same (zeros_at functions x) (sought (length functions) side faces k)) (take i points) in
      let most = length-take-le i points m in
      omega (arith, e, few, most)

  module _ (i : ℕ) (p : List ℤ) (within : i < length points) (is : p ≡ get_or points i p) where
    step : (k : ℕ) → points_with functions (take (i + 1) points) (sought (length functions) side faces k)
        ≡ points_with functions (take i points) (sought (length functions) side faces k)
        + cond (is_same (zeros_at functions p) (sought (length functions) side faces k)) 1 0
    step k = length-filter_more (λ x. is_same (zeros_at functions x) (sought (length functions) side faces k)) points i p within
        ∙ ap (λ (q : List ℤ). points_with functions (take i points) (sought (length functions) side faces k)
        + cond (is_same (zeros_at functions q) (sought (length functions) side faces k)) 1 0) (sym is)

    other : (k : ℕ) → (sought (length functions) side faces k ≡ zeros_at functions p → ⊥)
        → points_with functions (take (i + 1) points) (sought (length functions) side faces k)
        ≡ points_with functions (take i points) (sought (length functions) side faces k)
    other k n =
        let s = step k in
        let z = fails (is_same (zeros_at functions p) (sought (length functions) side faces k))
        (λ t. n (sym (is_same-true (zeros_at functions p) (sought (length functions) side faces k) t))) in
        omega (arith, s, z)

    same : (k : ℕ) → sought (length functions) side faces k ≡ zeros_at functions p
        → points_with functions (take (i + 1) points) (sought (length functions) side faces k)
        ≡ points_with functions (take i points) (sought (length functions) side faces k) + 1
    same k e =
        let s = step k in
        let z = passes (is_same (zeros_at functions p) (sought (length functions) side faces k))
        (subst (λ (set : List Bool). is_same (zeros_at functions p) set ≡ true) (sym e) (is_same_refl (zeros_at functions p))) in
        omega (arith, s, z)

    -- a point of no face
    pub counted_none : (counts : List ℕ) → AreCounted i counts
        → ((k : ℕ) → k < length faces → sought (length functions) side faces k ≡ zeros_at functions p → ⊥) → AreCounted (i + 1) counts
    counted_none counts h none k l = h k l ∙ sym (other k (none k l))

    -- a point of a face
    pub counted_one : (count : ℕ) (counts : List ℕ) (f : ℕ) → AreSought count (length functions) side faces → length faces ≤ length counts
        → AreCounted i counts → f < length faces → sought (length functions) side faces f ≡ zeros_at functions p
        → AreCounted (i + 1) (slice_set counts f (get_or counts f 0 + 1))
    counted_one count counts f sets room h lf e k l = ⊎_elim
        (λ (d : eqb k f ≡ true × (k ≡ f)). subst (λ (j : ℕ). get_or (slice_set counts f (get_or counts f 0 + 1)) j 0
        ≡ points_with functions (take (i + 1) points) (sought (length functions) side faces j)) (sym d.1)
        (get_or-set_same counts f (get_or counts f 0 + 1) 0 (omega (arith, lf, room))
        ∙ ap (λ (n : ℕ). n + 1) (h f lf) ∙ sym (same f e)))
        (λ (d : eqb k f ≡ false × (k ≢ f)). get_or-set_other counts f k (get_or counts f 0 + 1) 0 d.1
        ∙ h k l ∙ sym (other k (λ g. d.1 (sets.apart k f l lf (g ∙ sym e)))))
        (eqb_tells k f)

  -- none at first
  pub counted_first : (n z : ℕ) → z ≡ 0 → AreCounted 0 (replicate n z)
  counted_first n z e k l = zeros_at_none n k ∙ e
    where
      zeros_at_none : (n k : ℕ) → get_or (replicate n z) k 0 ≡ z
      zeros_at_none zero k = sym e
      zeros_at_none (suc n) zero = refl
      zeros_at_none (suc n) (suc k) = zeros_at_none n k
