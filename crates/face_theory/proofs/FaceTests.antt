-- How many faces there are, and the test of a face.
use Rattle.std.specs.List.{AllPairs}
use Rattle.std.proofs.Common.{◌≡◌, ◌≢◌, ℕ, zero, suc, ◌<◌, ◌≤◌, Bool, true, not, ◌||◌, List, [], ◌∷◌, length, get_or, refl, sym, ap, ◌∙◌, subst, arith, le_of_suc-le-suc, not-suc-le-zero}
use Rattle.std.proofs.lemmas.Bool.{and_parts, and_from}
use Rattle.lattice_theory.proofs.Members.{In, here, there, in_from_contains, contains_from_in, each_from_all, each_weaker}
use Rattle.face_theory.specs.Sets.{in_set, is_same}
use Rattle.face_theory.specs.Closures.{all_below, are_tight, closure}
use Rattle.face_theory.specs.Faces.{TightRelation, IsTightOn, IsFace}
use Rattle.face_theory.specs.Laws.{MeetsAreFaces, FacesAreCounted, FaceIsClosure}
use Rattle.face_theory.proofs.Sets.{in_set_width, length-numbers_with, in_set-numbers_with, is_same-true, is_same_refl, same_from_parts, implied, implies}
use Rattle.face_theory.proofs.Meets.{meet_face}

pub meets_are_faces_lem : MeetsAreFaces
meets_are_faces_lem R j set l h = subst (IsFace R) (sym h.is)
    (meet_face R h.chosen (each_weaker (λ f k. omega arith) (each_from_all (λ f. f < j) h.chosen h.first)))

-- a list without one member
record Without (x : List Bool) (xs : List (List Bool)) : Type 0 where
  rest : List (List Bool)
  fewer : length xs ≡ suc (length rest)
  others : (y : List Bool) → In y xs → (y ≡ x → ⊥) → In y rest

kept_deeper : {xs rest : List (List Bool)} (z y : List Bool) → (In y xs → In y rest) → In y (z ∷ xs) → In y (z ∷ rest)
kept_deeper z y f here = here
kept_deeper z y f (there i) = there (f i)

without : {x : List Bool} {xs : List (List Bool)} → In x xs → Without x xs
without (here {xs = xs}) = record { rest = xs; fewer = refl; others = other }
  where
    other : {x : List Bool} {zs : List (List Bool)} (y : List Bool) → In y (x ∷ zs) → (y ≡ x → ⊥) → In y zs
    other y here n = absurd (n refl)
    other y (there i) n = i
without (there {y = z} i) = let w = without i in record
    { rest = z ∷ w.rest; fewer = ap suc w.fewer; others = λ y j n. kept_deeper z y (λ k. w.others y k n) j }

-- the place of a member
place_of : {y : List Bool} {xs : List (List Bool)} → In y xs → (p : ℕ) × (p < length xs) × (get_or xs p [] ≡ y)
place_of here = (0, omega arith, refl)
place_of (there i) = let r = place_of i in (suc r.0, let l = r.1 in omega arith, r.2)

later_other : (x : List Bool) (some : List (List Bool)) → AllPairs (λ a b. a ≢ b) (x ∷ some) → (y : List Bool) → In y some → y ≡ x → ⊥
later_other x some a y i e = let r = place_of i in let l = r.1 in a 0 (suc r.0) [] (omega arith) (omega arith) (sym (r.2 ∙ e))

later_apart : (x : List Bool) (some : List (List Bool)) → AllPairs (λ a b. a ≢ b) (x ∷ some) → AllPairs (λ a b. a ≢ b) some
later_apart x some a i j d l m = a (suc i) (suc j) d (omega arith) (omega arith)

-- members that all differ are no more than the members of a list that has them
pub fewer : (some all : List (List Bool)) → AllPairs (λ a b. a ≢ b) some → ((y : List Bool) → In y some → In y all) → length some ≤ length all
fewer [] all a f = omega arith
fewer (x ∷ some) all a f =
    let w = without (f x here) in
    let r = fewer some w.rest (later_apart x some a) (λ y i. w.others y (f y (there i)) (later_other x some a y i)) in
    let e = w.fewer in omega arith

pub faces_are_counted_lem : FacesAreCounted
faces_are_counted_lem R some all a f h = fewer some all a (λ y i. in_from_contains all ((h y).1 (f y (contains_from_in i))))

-- the test of all numbers
pub all_true : (n : ℕ) (test : ℕ → Bool) → all_below n test ≡ true → (i : ℕ) → i < n → test i ≡ true
all_true zero test e i l = absurd (not-suc-le-zero l)
all_true (suc n) test e zero l = (and_parts (test 0) (all_below n (λ j. test (suc j))) e).0
all_true (suc n) test e (suc i) l = all_true n (λ j. test (suc j)) (and_parts (test 0) (all_below n (λ j. test (suc j))) e).1 i
    (le_of_suc-le-suc l)

pub true_all : (n : ℕ) (test : ℕ → Bool) → ((i : ℕ) → i < n → test i ≡ true) → all_below n test ≡ true
true_all zero test f = refl
true_all (suc n) test f = and_from (test 0) (all_below n (λ j. test (suc j))) (f 0 (omega arith))
    (true_all n (λ j. test (suc j)) (λ i l. f (suc i) (omega arith)))

-- the tests are what they say
pub are_tight-true : (R : TightRelation) (set : List Bool) → length set ≡ R.members → (f : ℕ) → are_tight R set f ≡ true
    → IsTightOn R set f
are_tight-true R set w f e m h = implied (in_set set m) (R.tight m f)
    (all_true R.members (λ k. not (in_set set k) || R.tight k f) e m (subst (λ (k : ℕ). m < k) w (in_set_width set m h))) h

pub tight-true : (R : TightRelation) (set : List Bool) (f : ℕ) → IsTightOn R set f → are_tight R set f ≡ true
tight-true R set f t = true_all R.members (λ k. not (in_set set k) || R.tight k f) (λ m l. implies (in_set set m) (R.tight m f) (t m))

-- a member of the closure
closure_member : (R : TightRelation) (set : List Bool) (m : ℕ) → m < R.members → in_set (closure R set) m ≡ true → (f : ℕ)
    → f < R.functions → IsTightOn R set f → R.tight m f ≡ true
closure_member R set m l h f k t =
    implied (are_tight R set f) (R.tight m f)
    (all_true R.functions (λ g. not (are_tight R set g) || R.tight m g)
    (sym (in_set-numbers_with R.members (λ n. all_below R.functions (λ g. not (are_tight R set g) || R.tight n g)) m l) ∙ h) f k)
    (tight-true R set f t)

member_closure : (R : TightRelation) (set : List Bool) → length set ≡ R.members → (m : ℕ) → m < R.members
    → ((f : ℕ) → f < R.functions → IsTightOn R set f → R.tight m f ≡ true) → in_set (closure R set) m ≡ true
member_closure R set w m l all =
    in_set-numbers_with R.members (λ n. all_below R.functions (λ g. not (are_tight R set g) || R.tight n g)) m l
    ∙ true_all R.functions (λ g. not (are_tight R set g) || R.tight m g)
    (λ f k. implies (are_tight R set f) (R.tight m f) (λ e. all f k (are_tight-true R set w f e)))

closure_width : (R : TightRelation) (set : List Bool) → length (closure R set) ≡ R.members
closure_width R set = length-numbers_with R.members (λ n. all_below R.functions (λ g. not (are_tight R set g) || R.tight n g))

in_range : (row : List Bool) {n : ℕ} → length row ≡ n → (i : ℕ) → in_set row i ≡ true → i < n
in_range row w i h = subst (λ (k : ℕ). i < k) w (in_set_width row i h)

face_closure : (R : TightRelation) (set : List Bool) → IsFace R set → closure R set ≡ set
face_closure R set face = same_from_parts (closure R set) set (closure_width R set ∙ sym face.width)
    (λ m h. let l = in_range (closure R set) (closure_width R set) m h in (face.closed m l).1 (closure_member R set m l h))
    (λ m h. let l = in_range set face.width m h in member_closure R set face.width m l ((face.closed m l).0 h))

closure_face : (R : TightRelation) (set : List Bool) → length set ≡ R.members → closure R set ≡ set → IsFace R set
closure_face R set w e = record {
  width = w;
  closed = λ m l. (
    λ h f k t. t m h,
    λ all. ap (λ (r : List Bool). in_set r m) (sym e) ∙ member_closure R set w m l all,
  );
}

pub face_is_closure_lem : FaceIsClosure
face_is_closure_lem R set w = (
  λ face. subst (λ (r : List Bool). is_same (closure R set) r ≡ true) (face_closure R set face) (is_same_refl (closure R set)),
  λ e. closure_face R set w (is_same-true (closure R set) set e),
)
