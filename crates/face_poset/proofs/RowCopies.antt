-- Rows that are copied out of a pool, and the row of all members.
use Rattle.std.specs.List.{All}
use Rattle.std.specs.Int.{bit_at}
use Rattle.std.proofs.Common.{◌≡◌, ◌⊎◌, inl, inr, ⊎_elim, ◌↔◌, ℕ, zero, suc, ◌+◌, ◌*◌, ◌/◌, ◌%◌, ◌^◌, ◌<◌, ◌≤◌, Bool, true, false, ◌==◌, List, [], ◌∷◌, ◌++◌, length, map, get_or, Contains, refl, sym, ap, ap₂, ◌∙◌, subst, arith, IsTrue, le_of_suc-le-suc, length-append}
use Rattle.std.proofs.lemmas.Bool.{cases_lt, eqb-true, eq-eqb}
use Rattle.std.proofs.lemmas.List.Elements.{All-from_get_or}
use Rattle.std.proofs.lemmas.Nat.Bits.{bit_at-zero}
use Rattle.lattice_theory.proofs.Members.{In, here, there, in_from_contains, contains_from_in, all_from_each, each_from_all, each_push, more, empty}
use Rattle.bit_pool.specs.Bits.{bit_of, HasBit, IsRow}
use Rattle.face_theory.specs.Sets.{numbers_with}
use Rattle.face_theory.specs.Faces.{TightRelation}
use Rattle.face_theory.specs.Meets.{function_row, row_meet, IsRowMeet}
use Rattle.face_theory.proofs.Sets.{same_test}
use Rattle.face_theory.proofs.Meets.{meets_start_lem}
use Rattle.face_closing.specs.Words.{set_of, IsSetOf}
use Rattle.face_closing.specs.Tables.{AreFunctionRows, AreMeetRows}
use Rattle.std.specs.Prelude.{Option, Some}
use Rattle.bit_pool.specs.Pools.{PoolState, row_of}
use Rattle.bit_pool.specs.declared.faults.RowId.{RowId}
use Rattle.incidence.specs.Incidences.{HasExactly, IncidenceState, Tells, function_id}
use Rattle.face_poset.specs.RowSteps.{IsFitted, HasFirst}

-- the bits of fitted words
pub fitted_bit : (words space : List ℕ) → IsFitted words space → (n : ℕ) → n < 64 * length space → bit_of space n ≡ bit_of words n
fitted_bit words space h n l = ap (λ (w : ℕ). bit_at w (n % 64)) (h (n / 64) (omega arith))

past : (words : List ℕ) (k : ℕ) → length words ≤ k → get_or words k 0 ≡ 0
past [] k h = refl
past (w ∷ words) zero h = absurd (omega arith)
past (w ∷ words) (suc k) h = past words k (omega arith)

pub no_bit : (words : List ℕ) (n : ℕ) → 64 * length words ≤ n → HasBit words n → ⊥
no_bit words n l h =
    let z = ap (λ (w : ℕ). bit_at w (n % 64)) (past words (n / 64) (omega arith)) ∙ bit_at-zero (n % 64) in
    omega arith

-- tests that agree below a width have the same numbers
pub same_numbers : (width : ℕ) (f g : ℕ → Bool) → ((i : ℕ) → i < width → f i ≡ g i) → numbers_with width f ≡ numbers_with width g
same_numbers zero f g h = refl
same_numbers (suc width) f g h = ap₂ (λ (b : Bool) (r : List Bool). b ∷ r) (h 0 (omega arith))
    (same_numbers width (λ i. f (suc i)) (λ i. g (suc i)) (λ i l. h (suc i) (omega arith)))

-- words that have exactly the numbers of a test
module _ (count width : ℕ) (test : ℕ → Bool) (words space : List ℕ) (exact : HasExactly width test words) (fits : width ≤ 64 * length space)
    (long : length space ≡ count) (small : (i : ℕ) → get_or space i 0 < 2 ^ 64) (h : IsFitted words space) where
  to_test : (n : ℕ) → HasBit space n → (n < width) × IsTrue (test n)
  to_test n b = ⊎_elim
      (λ (l : n < 64 * length space). (exact n).0 (sym (fitted_bit words space h n l) ∙ b))
      (λ (l : 64 * length space ≤ n). absurd (no_bit space n l b))
      (cases_lt n (64 * length space))

  pub fitted_is_set : IsSetOf count width space
  fitted_is_set = record {
    many = long;
    small = All-from_get_or (λ w. w < 2 ^ 64) space 0 (λ i l. small i);
    below = λ n l b. let p = (to_test n b).0 in omega arith;
  }

  pub fitted_set : set_of width space ≡ numbers_with width test
  fitted_set = same_numbers width (λ n. bit_of space n == 1) test
      (λ n l. same_test (bit_of space n == 1) (test n)
      (λ e. (to_test n (eqb-true (bit_of space n) 1 e)).1)
      (λ e. eq-eqb (bit_of space n) 1 (fitted_bit words space h n (omega arith) ∙ (exact n).1 (l, e))))

-- the first functions' rows
pub record AreFirstRows (count : ℕ) (R : TightRelation) (j : ℕ) (rows : List (List ℕ)) : Type 0 where
  pub many : length rows ≡ j
  pub words : (f : ℕ) → f < j → IsSetOf count R.members (get_or rows f [])
  pub sets : (f : ℕ) → f < j → set_of R.members (get_or rows f []) ≡ function_row R f

pub first_none : (count : ℕ) (R : TightRelation) (rows : List (List ℕ)) → rows ≡ [] → AreFirstRows count R 0 rows
first_none count R rows e = record { many = ap length e; words = λ f l. absurd (omega arith); sets = λ f l. absurd (omega arith) }

front : (xs : List (List ℕ)) (y : List ℕ) (i : ℕ) → i < length xs → get_or (xs ++ y ∷ []) i [] ≡ get_or xs i []
front [] y i l = absurd (omega arith)
front (x ∷ xs) y zero l = refl
front (x ∷ xs) y (suc i) l = front xs y i (le_of_suc-le-suc l)

last : (xs : List (List ℕ)) (y : List ℕ) (i : ℕ) → i ≡ length xs → get_or (xs ++ y ∷ []) i [] ≡ y
last [] y i e = subst (λ (k : ℕ). get_or (y ∷ []) k [] ≡ y) (sym e) refl
last (x ∷ xs) y zero e = absurd (omega arith)
last (x ∷ xs) y (suc i) e = last xs y i (omega arith)

pub first_more : (count : ℕ) (R : TightRelation) (j : ℕ) (rows next : List (List ℕ)) (row : List ℕ) → AreFirstRows count R j rows
    → next ≡ rows ++ row ∷ [] → IsSetOf count R.members row → set_of R.members row ≡ function_row R j → AreFirstRows count R (j + 1) next
first_more count R j rows next row h e s t = subst (AreFirstRows count R (j + 1)) (sym e) (record {
  many = let l = length-append rows (row ∷ []) in let m = h.many in omega arith;
  words = λ f l. ⊎_elim
      (λ (a : f < j). subst (IsSetOf count R.members) (sym (front rows row f (let m = h.many in omega arith))) (h.words f a))
      (λ (a : j ≤ f). subst (IsSetOf count R.members) (sym (last rows row f (let m = h.many in omega arith))) s)
      (cases_lt f j);
  sets = λ f l. ⊎_elim
      (λ (a : f < j). ap (set_of R.members) (front rows row f (let m = h.many in omega arith)) ∙ h.sets f a)
      (λ (a : j ≤ f). let q : j ≡ f = omega arith in
      ap (set_of R.members) (last rows row f (let m = h.many in omega arith)) ∙ t ∙ ap (function_row R) q)
      (cases_lt f j);
})

pub first_all : (count : ℕ) (R : TightRelation) (j : ℕ) (rows : List (List ℕ)) → AreFirstRows count R j rows → j ≡ R.functions → AreFunctionRows count R rows
first_all count R j rows h e = record {
  many = h.many ∙ e;
  words = λ f l. h.words f (omega arith);
  sets = λ f l. h.sets f (omega arith);
}

-- the row of all members alone
pub starts : (count : ℕ) (R : TightRelation) (row : List ℕ) (rows : List (List ℕ)) → length row ≡ count → ((i : ℕ) → get_or row i 0 < 2 ^ 64)
    → HasFirst R.members row → rows ≡ row ∷ [] → AreMeetRows count R 0 rows
starts count R row rows long small first e = subst (AreMeetRows count R 0) (sym e) (record {
  words = all_from_each {P = IsSetOf count R.members} (more (record {
    many = long;
    small = All-from_get_or (λ w. w < 2 ^ 64) row 0 (λ i l. small i);
    below = λ n l b. let p = (first n).0 b in omega arith;
  }) empty);
  meets = λ set. (
    λ c. (meets_start_lem R set).1 (one (in_from_contains (set_of R.members row ∷ []) c) ∙ whole),
    λ m. subst (Contains (set_of R.members row ∷ [])) (whole ∙ sym ((meets_start_lem R set).0 m)) (contains_from_in (here {xs = []})),
  );
})
  where
    one : {x y : List Bool} → In x (y ∷ []) → x ≡ y
    one here = refl
    one (there i) = elim i [ ]

    whole : set_of R.members row ≡ row_meet R []
    whole = same_numbers R.members (λ n. bit_of row n == 1) (λ m. true) (λ n l. eq-eqb (bit_of row n) 1 ((first n).1 l))

-- rows as long as those before
pub long_more : (n : ℕ) (rows next : List (List ℕ)) (row : List ℕ) → next ≡ rows ++ row ∷ [] → All (λ r. length r ≡ n) rows → length row ≡ n
    → All (λ r. length r ≡ n) next
long_more n rows next row e h l = subst (All (λ r. length r ≡ n)) (sym e)
    (all_from_each {P = λ r. length r ≡ n} (each_push (each_from_all (λ r. length r ≡ n) rows h) l))

-- fitted words of a pool's row are small
pub fitted_small : (width : ℕ) (words space : List ℕ) → IsRow width words → IsFitted words space → (i : ℕ) → get_or space i 0 < 2 ^ 64
fitted_small width words space row h i = ⊎_elim
    (λ (l : i < length space). subst (λ (w : ℕ). w < 2 ^ 64) (sym (h i l)) (at i))
    (λ (l : length space ≤ i). subst (λ (w : ℕ). w < 2 ^ 64) (sym (past space i l)) (omega arith))
    (cases_lt i (length space))
  where
    at : (k : ℕ) → get_or words k 0 < 2 ^ 64
    at k = ⊎_elim (λ (l : k < length words). row.small k 0 l)
        (λ (l : length words ≤ k). subst (λ (w : ℕ). w < 2 ^ 64) (sym (past words k l)) (omega arith)) (cases_lt k (length words))

-- the row of a function tells which members are tight on it
same_some : (a b : List ℕ) → Some a ≡ Some b → a ≡ b
same_some a b e = cc

pub told_words : (pool : PoolState) (i : IncidenceState) (R : TightRelation) (f : ℕ) (id : RowId) (words : List ℕ) → Tells pool i R → f < R.functions
    → id ≡ function_id i f → row_of pool id ≡ Some words → HasExactly R.members (λ m. R.tight m f) words
told_words pool i R f id words t l e n =
    let r = t.function_rows f l in
    subst (HasExactly R.members (λ m. R.tight m f)) (same_some r.words words (sym r.named ∙ ap (row_of pool) (sym e) ∙ n)) r.holds
