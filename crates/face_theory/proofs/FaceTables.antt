-- Tests that compute of lists of faces, tables of ranks and dual faces; the worked examples are proved by them.
use Rattle.std.proofs.Common.{◌≡◌, ℕ, zero, suc, nat_lt, Bool, true, false, not, cond, ◌&&◌, ◌==◌, List, [], ◌∷◌, length, map, Contains, ◌⊎◌, inl, inr, refl, sym, ap, ◌∙◌, subst, arith}
use Rattle.std.proofs.lemmas.Bool.{and_parts, eqb-true, cases_Bool}
use borrow.Author.Tests.{ltb-true}
use Rattle.lattice_theory.proofs.Members.{Each, empty, more, In, here, there, all_from_each, in_from_contains, contains_from_in}
use Rattle.face_theory.specs.Sets.{in_set, is_same, is_proper_part, is_proper_whole, set_size}
use Rattle.face_theory.specs.Faces.{TightRelation, AreFaces, IsRank, IsCorank, IsDualFace}
use Rattle.face_theory.specs.Closures.{all_below, are_tight, closure}
use Rattle.face_theory.specs.Ranks.{RankedFace, rank_over, AreRanked, AreSorted, IsNoLarger, IsNoSmaller}
use Rattle.face_theory.proofs.Sets.{true_false, is_same-true, is_same_refl}
use Rattle.face_theory.proofs.FaceTests.{face_is_closure_lem, all_true, are_tight-true, tight-true}
use Rattle.face_theory.proofs.Heights.{table_has_ranks_lem, table_has_coranks_lem}

-- whether two tests agree
abbrev pub agree : Bool → Bool → Bool
agree x y = cond x y (not y)

agree-true : (x y : Bool) → agree x y ≡ true → x ≡ y
agree-true true true e = refl
agree-true true false e = absurd (true_false e refl)
agree-true false true e = absurd (true_false e refl)
agree-true false false e = refl

-- whether all sets of numbers below n pass a test
abbrev pub all_sets : ℕ → (List Bool → Bool) → Bool
all_sets zero test = test []
all_sets (suc n) test = all_sets n (λ s. test (true ∷ s)) && all_sets n (λ s. test (false ∷ s))

all_sets-true : (n : ℕ) (test : List Bool → Bool) → all_sets n test ≡ true → (x : List Bool) → length x ≡ n → test x ≡ true
all_sets-true zero test e [] w = e
all_sets-true zero test e (b ∷ x) w = absurd (omega arith)
all_sets-true (suc n) test e [] w = absurd (omega arith)
all_sets-true (suc n) test e (true ∷ x) w =
    all_sets-true n (λ s. test (true ∷ s)) (and_parts (all_sets n (λ s. test (true ∷ s))) (all_sets n (λ s. test (false ∷ s))) e).0 x
    (omega arith)
all_sets-true (suc n) test e (false ∷ x) w =
    all_sets-true n (λ s. test (false ∷ s)) (and_parts (all_sets n (λ s. test (true ∷ s))) (all_sets n (λ s. test (false ∷ s))) e).1 x
    (omega arith)

-- whether a set stands in a list
abbrev pub is_listed : List Bool → List (List Bool) → Bool
is_listed x [] = false
is_listed x (y ∷ ys) = cond (is_same y x) true (is_listed x ys)

listed_by : (y x : List Bool) (ys : List (List Bool)) → (is_listed x ys ≡ true → In x ys) → (is_same y x ≡ true) ⊎ (is_same y x ≡ false)
    → cond (is_same y x) true (is_listed x ys) ≡ true → In x (y ∷ ys)
listed_by y x ys f (inl s) e = subst (λ (z : List Bool). In z (y ∷ ys)) (is_same-true y x s) here
listed_by y x ys f (inr n) e = there (f (subst (λ (b : Bool). cond b true (is_listed x ys) ≡ true) n e))

is_listed-true : (x : List Bool) (ys : List (List Bool)) → is_listed x ys ≡ true → In x ys
is_listed-true x [] e = absurd (true_false e refl)
is_listed-true x (y ∷ ys) e = listed_by y x ys (is_listed-true x ys) (cases_Bool (is_same y x)) e

listed-true : {x : List Bool} {ys : List (List Bool)} → In x ys → is_listed x ys ≡ true
listed-true {x = x} (here {xs = ys}) = ap (λ (b : Bool). cond b true (is_listed x ys)) (is_same_refl x)
listed-true {x = x} (there {y = y} {xs = ys} i) = by (is_same y x) (listed-true i)
  where
    by : (b : Bool) → is_listed x ys ≡ true → cond b true (is_listed x ys) ≡ true
    by true e = refl
    by false e = e

-- whether all sets of a list are sets of numbers below n
abbrev pub have_width : ℕ → List (List Bool) → Bool
have_width n [] = true
have_width n (y ∷ ys) = (length y == n) && have_width n ys

have_width-true : {n : ℕ} {x : List Bool} {ys : List (List Bool)} → have_width n ys ≡ true → In x ys → length x ≡ n
have_width-true {n = n} {x = x} e (here {xs = ys}) = eqb-true (length x) n (and_parts (length x == n) (have_width n ys) e).0
have_width-true {n = n} e (there {y = y} {xs = ys} i) = have_width-true (and_parts (length y == n) (have_width n ys) e).1 i

-- whether the faces are exactly the sets of a list
abbrev pub tells_faces : TightRelation → List (List Bool) → Bool
tells_faces R faces = have_width R.members faces && all_sets R.members (λ x. agree (is_same (closure R x) x) (is_listed x faces))

pub faces_by_test : (R : TightRelation) (faces : List (List Bool)) → tells_faces R faces ≡ true → AreFaces R faces
faces_by_test R faces e x = (
  λ c. let i = in_from_contains faces c in
      let w = have_width-true widths i in
      (face_is_closure_lem R x w).1 (same x w ∙ listed-true i),
  λ f. contains_from_in (is_listed-true x faces (sym (same x f.width) ∙ (face_is_closure_lem R x f.width).0 f)),
)
  where
    widths : have_width R.members faces ≡ true
    widths = (and_parts (have_width R.members faces) (all_sets R.members (λ x. agree (is_same (closure R x) x) (is_listed x faces))) e).0

    same : (x : List Bool) → length x ≡ R.members → is_same (closure R x) x ≡ is_listed x faces
    same x w = agree-true (is_same (closure R x) x) (is_listed x faces)
        (all_sets-true R.members (λ x. agree (is_same (closure R x) x) (is_listed x faces))
        (and_parts (have_width R.members faces) (all_sets R.members (λ x. agree (is_same (closure R x) x) (is_listed x faces))) e).1 x w)

-- whether a table is sorted
abbrev pub come_all : (List Bool → List Bool → Bool) → List Bool → List RankedFace → Bool
come_all test x [] = true
come_all test x (s ∷ before) = test s.set x && come_all test x before

abbrev pub are_sorted : (List Bool → List Bool → Bool) → List RankedFace → Bool
are_sorted test [] = true
are_sorted test (r ∷ before) = come_all test r.set before && are_sorted test before

module _ (comes : List Bool → List Bool → Type 0) (test : List Bool → List Bool → Bool)
    (sound : (a b : List Bool) → test a b ≡ true → comes a b) where
  come_all-true : (x : List Bool) (before : List RankedFace) → come_all test x before ≡ true → Each (λ s. comes s.set x) before
  come_all-true x [] e = empty
  come_all-true x (s ∷ before) e =
      let p = and_parts (test s.set x) (come_all test x before) e in
      more (sound s.set x p.0) (come_all-true x before p.1)

  sorted_by_test : (table : List RankedFace) → are_sorted test table ≡ true → AreSorted comes table
  sorted_by_test [] e = tt
  sorted_by_test (r ∷ before) e =
      let p = and_parts (come_all test r.set before) (are_sorted test before) e in
      (all_from_each {P = λ s. comes s.set r.set} (come_all-true r.set before p.0), sorted_by_test before p.1)

-- whether each face has the rank that it has over those behind it
abbrev pub are_ranked : (List Bool → List Bool → Bool) → List RankedFace → Bool
are_ranked less [] = true
are_ranked less (r ∷ before) = (r.rank == rank_over less before r.set) && are_ranked less before

ranked_by_test : (less : List Bool → List Bool → Bool) (table : List RankedFace) → are_ranked less table ≡ true → AreRanked less table
ranked_by_test less [] e = tt
ranked_by_test less (r ∷ before) e =
    let p = and_parts (r.rank == rank_over less before r.set) (are_ranked less before) e in
    (eqb-true r.rank (rank_over less before r.set) p.0, ranked_by_test less before p.1)

-- the sets of a table
abbrev pub sets_of : List RankedFace → List (List Bool)
sets_of table = map (λ r. r.set) table

-- whether a table of all faces has their ranks, or their coranks
abbrev pub tells_ranks : TightRelation → List RankedFace → Bool
tells_ranks R table = tells_faces R (sets_of table)
    && (are_sorted (λ a b. nat_lt (set_size a) (suc (set_size b))) table && are_ranked is_proper_part table)

abbrev pub tells_coranks : TightRelation → List RankedFace → Bool
tells_coranks R table = tells_faces R (sets_of table)
    && (are_sorted (λ a b. nat_lt (set_size b) (suc (set_size a))) table && are_ranked is_proper_whole table)

pub ranks_by_test : (R : TightRelation) (table : List RankedFace) → tells_ranks R table ≡ true → (r : RankedFace) → Contains table r
    → IsRank R r.set r.rank
ranks_by_test R table e =
    let p = and_parts (tells_faces R (map (λ r. r.set) table))
    (are_sorted (λ a b. nat_lt (set_size a) (suc (set_size b))) table && are_ranked is_proper_part table) e in
    let q = and_parts (are_sorted (λ a b. nat_lt (set_size a) (suc (set_size b))) table) (are_ranked is_proper_part table) p.1 in
    table_has_ranks_lem R table (faces_by_test R (map (λ r. r.set) table) p.0)
    (sorted_by_test IsNoLarger (λ a b. nat_lt (set_size a) (suc (set_size b)))
    (λ a b h. let l = ltb-true (set_size a) (suc (set_size b)) h in omega arith) table q.0)
    (ranked_by_test is_proper_part table q.1)

pub coranks_by_test : (R : TightRelation) (table : List RankedFace) → tells_coranks R table ≡ true → (r : RankedFace) → Contains table r
    → IsCorank R r.set r.rank
coranks_by_test R table e =
    let p = and_parts (tells_faces R (map (λ r. r.set) table))
    (are_sorted (λ a b. nat_lt (set_size b) (suc (set_size a))) table && are_ranked is_proper_whole table) e in
    let q = and_parts (are_sorted (λ a b. nat_lt (set_size b) (suc (set_size a))) table) (are_ranked is_proper_whole table) p.1 in
    table_has_coranks_lem R table (faces_by_test R (map (λ r. r.set) table) p.0)
    (sorted_by_test IsNoSmaller (λ a b. nat_lt (set_size b) (suc (set_size a)))
    (λ a b h. let l = ltb-true (set_size b) (suc (set_size a)) h in omega arith) table q.0)
    (ranked_by_test is_proper_whole table q.1)

-- whether a set of functions is the dual face
abbrev pub tells_dual : TightRelation → List Bool → List Bool → Bool
tells_dual R face dual = all_below R.functions (λ f. agree (in_set dual f) (are_tight R face f))

pub dual_by_test : (R : TightRelation) (face dual : List Bool) → length face ≡ R.members → length dual ≡ R.functions
    → tells_dual R face dual ≡ true → IsDualFace R face dual
dual_by_test R face dual w v e = record {
  width = v;
  tight = λ f l. let s = agree-true (in_set dual f) (are_tight R face f)
      (all_true R.functions (λ f. agree (in_set dual f) (are_tight R face f)) e f l) in
      (λ h. are_tight-true R face w f (sym s ∙ h), λ t. s ∙ tight-true R face f t);
}
