-- A list of all rows that are faces, with dual faces and ranks, is the relation's table.
use Rattle.std.specs.List.{All, AllPairs}
use Rattle.std.proofs.Common.{◌≡◌, ◌≢◌, ◌⊎◌, inl, inr, ⊎_elim, ◌↔◌, ℕ, zero, suc, ◌+◌, ◌*◌, ◌^◌, ◌<◌, ◌≤◌, Bool, true, ◌==◌, List, [], ◌∷◌, length, map, get_or, Contains, refl, sym, ap, ◌∙◌, subst, arith, IsTrue, le_of_suc-le-suc}
use Rattle.std.proofs.lemmas.Bool.{cases_lt, eqb-true, eq-eqb}
use Rattle.lattice_theory.proofs.Members.{Each, In, here, there, each_from_all, all_from_each, each_in, each_from_in, in_from_contains, contains_from_in}
use Rattle.lattice_theory.proofs.Sublists.{in_map, from_map}
use Rattle.bit_pool.specs.Bits.{bit_of, HasBit, IsSubset, words_for}
use Rattle.face_theory.specs.Sets.{in_set}
use Rattle.face_theory.specs.Faces.{TightRelation, IsFace, AreFaces, IsTightOn, IsDualFace, IsRank}
use Rattle.face_theory.specs.Meets.{function_row}
use Rattle.face_theory.proofs.Sets.{in_set_width, in_set-numbers_with, length-numbers_with}
use Rattle.face_closing.specs.Words.{set_of, IsSetOf, IsEarlier}
use Rattle.face_closing.specs.Tables.{AreApart, AreFunctionRows, AreFaceRows}
use Rattle.face_closing.specs.steps.Chains.{row_at}
use Rattle.face_closing.specs.steps.PartRanks.{HasRank}
use Rattle.face_closing.proofs.PartRanks.{row_is_set, row_is_face}
use Rattle.face_poset.specs.Faces.{FaceState, TableState, no_face, face_at, ComesBefore, IsFaceOf, IsTableOf, IsTopRank}
use Rattle.face_poset.specs.ListSteps.{IsDualOf, IsListed, ListsAll}

-- a number in a set that words tell
pub in_set_of : (width : ℕ) (words : List ℕ) (n : ℕ) → n < width → HasBit words n → in_set (set_of width words) n ≡ true
in_set_of width words n l b = in_set-numbers_with width (λ i. bit_of words i == 1) n l ∙ eq-eqb (bit_of words n) 1 b

pub set_of_in : (width : ℕ) (words : List ℕ) (n : ℕ) → in_set (set_of width words) n ≡ true → (n < width) × HasBit words n
set_of_in width words n e =
    let l : n < width = subst (λ (k : ℕ). n < k) (length-numbers_with width (λ i. bit_of words i == 1)) (in_set_width (set_of width words) n e) in
    (l, eqb-true (bit_of words n) 1 (sym (in_set-numbers_with width (λ i. bit_of words i == 1) n l) ∙ e))

-- rows of the functions that have all members of a set
module _ (count : ℕ) (R : TightRelation) (rows : List (List ℕ)) (told : AreFunctionRows count R rows) (members : List ℕ)
    (is_set : IsSetOf count R.members members) where
  row_tight : (f m : ℕ) → f < R.functions → m < R.members → HasBit (row_at rows f) m → R.tight m f ≡ true
  row_tight f m l k b = sym (in_set-numbers_with R.members (λ i. R.tight i f) m k)
      ∙ ap (λ (s : List Bool). in_set s m) (sym (told.sets f l)) ∙ in_set_of R.members (row_at rows f) m k b

  tight_row : (f m : ℕ) → f < R.functions → m < R.members → R.tight m f ≡ true → HasBit (row_at rows f) m
  tight_row f m l k t = (set_of_in R.members (row_at rows f) m
      (ap (λ (s : List Bool). in_set s m) (told.sets f l) ∙ in_set-numbers_with R.members (λ i. R.tight i f) m k ∙ t)).1

  pub tight_from_part : (f : ℕ) → f < R.functions → IsSubset members (row_at rows f) → IsTightOn R (set_of R.members members) f
  tight_from_part f l s m i = let p = set_of_in R.members members m i in row_tight f m l p.0 (s m p.1)

  below_width : (n : ℕ) → HasBit members n → n < R.members
  below_width n b = ⊎_elim (λ (l : n < R.members). l) (λ (l : R.members ≤ n). absurd (is_set.below n l b)) (cases_lt n R.members)

  pub part_from_tight : (f : ℕ) → f < R.functions → IsTightOn R (set_of R.members members) f → IsSubset members (row_at rows f)
  part_from_tight f l t n b = let k = below_width n b in tight_row f n l k (t n (in_set_of R.members members n k b))

  -- the words of the functions that have them tell the dual face
  module _ (functions : List ℕ) (dual : IsDualOf rows members functions) where
    within : (f : ℕ) → HasBit functions f → f < R.functions
    within f b = let p = ((dual f).0 b).0 in let e = told.many in omega arith

    pub dual_is_set : (words : ℕ) → length functions ≡ words → All (λ w. w < 2 ^ 64) functions → IsSetOf words R.functions functions
    dual_is_set words e small = record { many = e; small = small; below = λ f l b. let p = within f b in absurd (omega arith) }

    pub dual_is_dual : IsDualFace R (set_of R.members members) (set_of R.functions functions)
    dual_is_dual = record {
      width = length-numbers_with R.functions (λ i. bit_of functions i == 1);
      tight = λ f l. (
        λ i. tight_from_part f l ((dual f).0 (set_of_in R.functions functions f i).1).1,
        λ t. in_set_of R.functions functions f l ((dual f).1 ((let e = told.many in omega arith), part_from_tight f l t)),
      );
    }

-- sorted rows are the faces, too
not_earlier : (words : List ℕ) → IsEarlier words words → ⊥
not_earlier words e = e.missing e.here

pub sorted_faces : (count : ℕ) (R : TightRelation) (found sorted : List (List ℕ)) → AreFaceRows count R found
    → ((row : List ℕ) → Contains sorted row ↔ Contains found row) → AllPairs IsEarlier sorted → AreFaceRows count R sorted
sorted_faces count R found sorted h same up = record {
  words = all_from_each {P = IsSetOf count R.members} (each_from_in sorted (λ row i. each_in (each_from_all (IsSetOf count R.members) found h.words)
      (in_from_contains found ((same row).0 (contains_from_in i)))));
  apart = λ i j d l m e. not_earlier (get_or sorted j d) (subst (λ (x : List ℕ). IsEarlier x (get_or sorted j d)) e (up i j d l m));
  faces = λ set. (
    λ c. let i = from_map (set_of R.members) sorted (in_from_contains (map (set_of R.members) sorted) c) in
        (h.faces set).0 (subst (Contains (map (set_of R.members) found)) (sym i.is)
        (contains_from_in (in_map (set_of R.members) (in_from_contains found ((same i.source).0 (contains_from_in i.member)))))),
    λ f. let i = from_map (set_of R.members) found (in_from_contains (map (set_of R.members) found) ((h.faces set).1 f)) in
        subst (Contains (map (set_of R.members) sorted)) (sym i.is)
        (contains_from_in (in_map (set_of R.members) (in_from_contains sorted ((same i.source).1 (contains_from_in i.member))))),
  );
}

place_at : {x : FaceState} {xs : List FaceState} → In x xs → (i : ℕ) × (i < length xs) × (face_at xs i ≡ x)
place_at here = (0, omega arith, refl)
place_at (there i) = let p = place_at i in (suc p.0, let l = p.1 in omega arith, p.2)

at_place : (xs : List FaceState) (i : ℕ) → i < length xs → In (face_at xs i) xs
at_place [] i l = absurd (omega arith)
at_place (x ∷ xs) zero l = here
at_place (x ∷ xs) (suc i) l = there (at_place xs i (le_of_suc-le-suc l))

place_of : {x : List ℕ} {xs : List (List ℕ)} → In x xs → (i : ℕ) × (i < length xs) × (row_at xs i ≡ x)
place_of here = (0, omega arith, refl)
place_of (there i) = let p = place_of i in (suc p.0, let l = p.1 in omega arith, p.2)

pub table_of : (members functions : ℕ) (R : TightRelation) (rows sorted : List (List ℕ)) (ranks : List ℕ) (faces : List FaceState)
    → AreFunctionRows (words_for members) R rows → AreFaceRows (words_for members) R sorted → length ranks ≡ length sorted
    → ((k : ℕ) → k < length ranks → HasRank R sorted ranks k) → ListsAll sorted rows ranks (words_for functions) faces
    → IsTableOf R (record { members = members; functions = functions; faces = faces })
table_of members functions R rows sorted ranks faces told h many ranked l = record {
  are_faces = all_from_each {P = IsFaceOf (record { members = members; functions = functions; faces = faces }) R}
      (each_from_in faces (λ x i. let p = place_at i in
      subst (IsFaceOf (record { members = members; functions = functions; faces = faces }) R) p.2 (one p.0 p.1)));
  all = λ set f. let i = from_map (set_of R.members) sorted (in_from_contains (map (set_of R.members) sorted) ((h.faces set).1 f)) in
      let p = place_of i.member in
      let q = l.all p.0 p.1 in
      subst (Contains (map (λ face. set_of R.members face.members) faces))
      (ap (set_of R.members) (q.2 ∙ p.2) ∙ sym i.is)
      (contains_from_in (in_map (λ (face : FaceState). set_of R.members face.members) (at_place faces q.0 q.1)));
  ascending = l.ascending;
}
  where
    one : (k : ℕ) → k < length faces → IsFaceOf (record { members = members; functions = functions; faces = faces }) R (face_at faces k)
    one k m =
        let q = l.listed k m in
        let s = subst (IsSetOf (words_for members) R.members) (sym q.1.members_are) (row_is_set (words_for members) R sorted q.0 h q.1.within) in
        record {
          members_tell = s;
          functions_tell = dual_is_set (words_for members) R rows told (face_at faces k).members s (face_at faces k).functions q.1.dual
              (words_for functions) q.1.long q.1.small;
          is_face = subst (λ (x : List ℕ). IsFace R (set_of R.members x)) (sym q.1.members_are)
              (row_is_face (words_for members) R sorted q.0 h q.1.within);
          dual = dual_is_dual (words_for members) R rows told (face_at faces k).members s (face_at faces k).functions q.1.dual;
          rank_is = subst (λ (x : List ℕ). IsRank R (set_of R.members x) (face_at faces k).rank) (sym q.1.members_are)
              (subst (IsRank R (set_of R.members (row_at sorted q.0))) (sym q.1.rank_is)
              (ranked q.0 (let w = q.1.within in omega arith)));
        }

-- the last face has the largest rank
pub top_last : (faces : List FaceState) (k : ℕ) → k + 1 ≡ length faces → AllPairs ComesBefore faces → IsTopRank faces (face_at faces k).rank
top_last faces k e up = record {
  most = all_from_each {P = λ face. face.rank ≤ (face_at faces k).rank} (each_from_in faces (λ x i. let p = place_at i in
      subst (λ (f : FaceState). f.rank ≤ (face_at faces k).rank) p.2 (lower p.0 p.1)));
  place = k;
  within = omega arith;
  reached = refl;
}
  where
    le_from : (a b : FaceState) → ComesBefore a b → a.rank ≤ b.rank
    le_from a b (inl l) = omega arith
    le_from a b (inr l) = let r = l.0 in omega arith

    lower : (j : ℕ) → j < length faces → (face_at faces j).rank ≤ (face_at faces k).rank
    lower j l = ⊎_elim
        (λ (m : j < k). le_from (face_at faces j) (face_at faces k) (up j k no_face m (omega arith)))
        (λ (m : k ≤ j). let s : j ≡ k = omega arith in subst (λ (i : ℕ). (face_at faces i).rank ≤ (face_at faces k).rank) (sym s) (omega arith))
        (cases_lt j k)
