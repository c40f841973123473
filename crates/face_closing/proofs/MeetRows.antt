-- Rows of words as sets: a closed table has what rows of functions have in common, so in the end the faces.
use Rattle.std.specs.List.{AllPairs}
use Rattle.std.proofs.Common.{◌≡◌, ◌≢◌, inl, inr, ⊎_elim, ℕ, zero, suc, ◌+◌, ◌*◌, ◌^◌, ◌<◌, ◌≤◌, Bool, ◌==◌, List, [], ◌∷◌, length, map, get_or, Contains, refl, sym, ap, ◌∙◌, subst, arith, le_of_suc-le-suc}
use Rattle.std.proofs.lemmas.Bool.{cases_lt}
use Rattle.std.proofs.lemmas.List.{get_or-map, length-map}
use Rattle.std.proofs.lemmas.List.Elements.{All-from_get_or}
use Rattle.std.proofs.lemmas.Nat.{and_le_l}
use Rattle.std.proofs.lemmas.Nat.Bits.{bit_at-lt, same_from_bits_below}
use Rattle.lattice_theory.proofs.Members.{In, here, there, each_from_all, all_from_each, each_in, each_from_in, in_from_contains, contains_from_in}
use Rattle.lattice_theory.proofs.Sublists.{in_map, from_map}
use Rattle.bit_pool.specs.Bits.{bit_of}
use Rattle.face_theory.specs.Sets.{in_set, common}
use Rattle.face_theory.specs.Faces.{TightRelation, IsFace}
use Rattle.face_theory.specs.Meets.{function_row, IsRowMeet, IsMadeBy}
use Rattle.face_theory.proofs.Sets.{in_set-numbers_with}
use Rattle.face_theory.proofs.Meets.{faces_are_meets_lem, meets_grow_lem}
use Rattle.face_theory.proofs.FaceTests.{meets_are_faces_lem}
use Rattle.face_theory.proofs.MeetRanks.{common_face}
use Rattle.face_closing.specs.Words.{set_of, IsSetOf, meet_words}
use Rattle.face_closing.specs.Tables.{AreApart, IsMade, IsClosedBy, MakesTooMany, AreFunctionRows, AreMeetRows, AreFaceRows, HasMoreFaces}
use Rattle.face_closing.proofs.SetWords.{same_words, set_of-meet, length-meet_words, meet_entry, meet_has, bit_here}

-- what two sets have in common is a set
pub meet_is_set : (count width : ℕ) (words others : List ℕ) → IsSetOf count width words → length others ≡ count → IsSetOf count width (meet_words words others)
meet_is_set count width words others w e = record {
  many = length-meet_words words others (w.many ∙ sym e) ∙ w.many;
  small = All-from_get_or (λ x. x < 2 ^ 64) (meet_words words others) 0 small;
  below = λ n l h. w.below n l (meet_has words others (w.many ∙ sym e) n h);
}
  where
    small : (k : ℕ) → k < length (meet_words words others) → get_or (meet_words words others) k 0 < 2 ^ 64
    small k l =
        let m = meet_entry words others (w.many ∙ sym e) k in
        let n = length-meet_words words others (w.many ∙ sym e) in
        let a = and_le_l (get_or words k 0) (get_or others k 0) in
        let s = w.small k 0 (omega arith) in
        omega arith

-- words of one set are the same
same_number : (a b : ℕ) → a < 2 → b < 2 → (a == 1) ≡ (b == 1) → a ≡ b
same_number zero zero p q e = refl
same_number zero (suc zero) p q e = cc
same_number zero (suc (suc b)) p q e = absurd (omega arith)
same_number (suc zero) zero p q e = cc
same_number (suc zero) (suc zero) p q e = refl
same_number (suc zero) (suc (suc b)) p q e = absurd (omega arith)
same_number (suc (suc a)) b p q e = absurd (omega arith)

pub same_from_sets : (count width : ℕ) (words others : List ℕ) → IsSetOf count width words → IsSetOf count width others
    → set_of width words ≡ set_of width others → words ≡ others
same_from_sets count width words others w o e = same_words words others (w.many ∙ sym o.many)
    (λ k l. same_from_bits_below 64 (get_or words k 0) (get_or others k 0) (w.small k 0 l) (o.small k 0 (let p = w.many in let q = o.many in omega arith))
    (λ j m. sym (bit_here words k j m) ∙ same_bit (64 * k + j) ∙ bit_here others k j m))
  where
    none : (b : ℕ) → b < 2 → (b ≡ 1 → ⊥) → b ≡ 0
    none b l n = omega arith

    same_bit : (n : ℕ) → bit_of words n ≡ bit_of others n
    same_bit n = ⊎_elim
        (λ (l : n < width). same_number (bit_of words n) (bit_of others n) (bit_at-lt _ _) (bit_at-lt _ _)
        (sym (in_set-numbers_with width (λ i. bit_of words i == 1) n l) ∙ ap (λ (s : List Bool). in_set s n) e
        ∙ in_set-numbers_with width (λ i. bit_of others i == 1) n l))
        (λ (l : width ≤ n). none (bit_of words n) (bit_at-lt _ _) (w.below n l) ∙ sym (none (bit_of others n) (bit_at-lt _ _) (o.below n l)))
        (cases_lt n width)

module _ (count : ℕ) (R : TightRelation) (rows : List (List ℕ)) (told : AreFunctionRows count R rows) (j : ℕ) (within : j < R.functions)
    (row : List ℕ) (row_is : row ≡ get_or rows j []) (before : List (List ℕ)) (h : AreMeetRows count R j before) where
  row_set : set_of R.members row ≡ function_row R j
  row_set = ap (set_of R.members) row_is ∙ told.sets j within

  row_long : length row ≡ count
  row_long = ap length row_is ∙ (told.words j within).many

  old_words : (old : List ℕ) → Contains before old → IsSetOf count R.members old
  old_words old c = each_in (each_from_all (IsSetOf count R.members) before h.words) (in_from_contains before c)

  -- what a row of the table has in common with the function's row, as sets
  meet_set : (old : List ℕ) → Contains before old → set_of R.members (meet_words old row) ≡ common (set_of R.members old) (function_row R j)
  meet_set old c = set_of-meet R.members old row ((old_words old c).many ∙ sym row_long) ∙ ap (common (set_of R.members old)) row_set

  made_words : (made : List ℕ) → IsMade before row made → IsSetOf count R.members made
  made_words made (inl c) = old_words made c
  made_words made (inr (old, c, e)) = subst (IsSetOf count R.members) (sym e) (meet_is_set count R.members old row (old_words old c) row_long)

  set_made : (made : List ℕ) → IsMade before row made → IsMadeBy (map (set_of R.members) before) (function_row R j) (set_of R.members made)
  set_made made (inl c) = inl (contains_from_in (in_map (set_of R.members) (in_from_contains before c)))
  set_made made (inr (old, c, e)) = inr (
    set_of R.members old,
    contains_from_in (in_map (set_of R.members) (in_from_contains before c)),
    ap (set_of R.members) e ∙ meet_set old c,
  )

  -- with one row more
  module _ (now : List (List ℕ)) (closed : IsClosedBy row before now) where
    to_set : (set : List Bool) → Contains (map (set_of R.members) now) set → IsMadeBy (map (set_of R.members) before) (function_row R j) set
    to_set set c =
        let i = from_map (set_of R.members) now (in_from_contains (map (set_of R.members) now) c) in
        subst (IsMadeBy (map (set_of R.members) before) (function_row R j)) (sym i.is)
        (set_made i.source ((closed.members i.source).0 (contains_from_in i.member)))

    from_set : (set : List Bool) → IsMadeBy (map (set_of R.members) before) (function_row R j) set → Contains (map (set_of R.members) now) set
    from_set set (inl c) =
        let i = from_map (set_of R.members) before (in_from_contains (map (set_of R.members) before) c) in
        subst (Contains (map (set_of R.members) now)) (sym i.is)
        (contains_from_in (in_map (set_of R.members) (in_from_contains now ((closed.members i.source).1 (inl (contains_from_in i.member))))))
    from_set set (inr (old, c, e)) =
        let i = from_map (set_of R.members) before (in_from_contains (map (set_of R.members) before) c) in
        let d = contains_from_in i.member in
        subst (Contains (map (set_of R.members) now)) (meet_set i.source d ∙ ap (λ (s : List Bool). common s (function_row R j)) (sym i.is) ∙ sym e)
        (contains_from_in (in_map (set_of R.members) (in_from_contains now ((closed.members (meet_words i.source row)).1 (inr (i.source, d, refl))))))

    pub next_meets : AreMeetRows count R (suc j) now
    next_meets = record {
      words = all_from_each {P = IsSetOf count R.members}
          (each_from_in now (λ s i. made_words s ((closed.members s).0 (contains_from_in i))));
      meets = meets_grow_lem R j (map (set_of R.members) before) (map (set_of R.members) now) h.meets (λ set. (to_set set, from_set set));
    }

  -- where there are too many rows, there are too many faces
  made_face : (set : List Bool) → IsMadeBy (map (set_of R.members) before) (function_row R j) set → IsFace R set
  made_face set (inl c) = meets_are_faces_lem R j set (omega arith) ((h.meets set).0 c)
  made_face set (inr (old, c, e)) = subst (IsFace R) (sym e)
      (common_face R old j (meets_are_faces_lem R j old (omega arith) ((h.meets old).0 c)) within)

  pub more_faces : MakesTooMany row before → HasMoreFaces R
  more_faces t = record {
    some = map (set_of R.members) t.some;
    many = length-map t.some (set_of R.members) ∙ t.many;
    apart = apart;
    are_faces = λ set c. let i = from_map (set_of R.members) t.some (in_from_contains (map (set_of R.members) t.some) c) in
        subst (IsFace R) (sym i.is) (made_face (set_of R.members i.source) (set_made i.source (t.are_made i.source (contains_from_in i.member))));
  }
    where
      at : (xs : List (List ℕ)) (k : ℕ) (d : List ℕ) → k < length xs → In (get_or xs k d) xs
      at [] k d m = absurd (omega arith)
      at (x ∷ xs) zero d m = here
      at (x ∷ xs) (suc k) d m = there (at xs k d (le_of_suc-le-suc m))

      is_set : (k : ℕ) → k < length t.some → IsSetOf count R.members (get_or t.some k [])
      is_set k l = made_words (get_or t.some k []) (t.are_made (get_or t.some k []) (contains_from_in (at t.some k [] l)))

      apart : AllPairs (λ a b. a ≢ b) (map (set_of R.members) t.some)
      apart i k d l m e =
          let n = length-map t.some (set_of R.members) in
          let p : i < length t.some = omega arith in
          let q : k < length t.some = omega arith in
          t.apart i k [] l q (same_from_sets count R.members (get_or t.some i []) (get_or t.some k []) (is_set i p) (is_set k q)
          (sym (get_or-map (set_of R.members) t.some i [] d p) ∙ e ∙ get_or-map (set_of R.members) t.some k [] d q))

-- in the end the table has the faces
pub all_meets : (count : ℕ) (R : TightRelation) (rows now : List (List ℕ)) (j : ℕ) → AreFunctionRows count R rows → length rows ≤ j → j ≤ length rows
    → AreMeetRows count R j now → AreApart now → AreFaceRows count R now
all_meets count R rows now j told l m h apart = record {
  words = h.words;
  apart = apart;
  faces = λ set. (
    λ c. (faces_are_meets_lem R set).1 (subst (λ (k : ℕ). IsRowMeet R k set) j_is ((h.meets set).0 c)),
    λ f. (h.meets set).1 (subst (λ (k : ℕ). IsRowMeet R k set) (sym j_is) ((faces_are_meets_lem R set).0 f)),
  );
}
  where
    j_is : j ≡ R.functions
    j_is = let e = told.many in omega arith

-- a row's number is one of a function
pub function_within : {count : ℕ} {R : TightRelation} {rows : List (List ℕ)} {j : ℕ} → AreFunctionRows count R rows → j < length rows → j < R.functions
function_within told l = let e = told.many in omega arith
