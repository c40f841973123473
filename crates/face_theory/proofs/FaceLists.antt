-- The faces of a relation are finitely many, and each of them has a rank and a corank.
use Rattle.std.proofs.Common.{◌≡◌, ℕ, zero, suc, ◌+◌, ◌<◌, ◌≤◌, Bool, true, false, ◌&&◌, ◌==◌, List, [], ◌∷◌, ◌++◌, length, map, filter, ◌⊎◌, inl, inr, ⊎_elim, refl, sym, ◌∙◌, subst, arith}
use Rattle.std.proofs.lemmas.Bool.{and_parts, and_from, eqb-true, cases_Bool}
use Rattle.std.proofs.lemmas.Bool.Decides.{eqb_tells}
use Rattle.lattice_theory.proofs.Members.{Each, empty, more, In, here, there, in_append_left, in_append_right, each_from_in, each_head, each_tail, in_from_contains, contains_from_in}
use Rattle.lattice_theory.proofs.Sublists.{in_map, in_filter, from_filter}
use Rattle.face_theory.specs.Sets.{IsProperPart, IsProperWhole, is_same, set_size, is_proper_part, is_proper_whole}
use Rattle.face_theory.specs.Chains.{IsHeight}
use Rattle.face_theory.specs.Faces.{TightRelation, IsFace}
use Rattle.face_theory.specs.Closures.{closure}
use Rattle.face_theory.specs.Ranks.{RankedFace, rank_over}
use Rattle.face_theory.specs.Laws.{FacesAreListed, RankExists, CorankExists}
use Rattle.face_theory.proofs.Sets.{true_false, size_below}
use Rattle.face_theory.proofs.FaceTests.{face_is_closure_lem}
use Rattle.face_theory.proofs.Heights.{Stands, height_of, below_sound, below_complete}

-- all sets of numbers below n
sets_below : ℕ → List (List Bool)
sets_below zero = [] ∷ []
sets_below (suc n) = map (λ s. true ∷ s) (sets_below n) ++ map (λ s. false ∷ s) (sets_below n)

in_sets_below : (n : ℕ) (x : List Bool) → length x ≡ n → In x (sets_below n)
unfolding sets_below
in_sets_below zero [] e = here
in_sets_below zero (b ∷ x) e = absurd (omega arith)
in_sets_below (suc n) [] e = absurd (omega arith)
in_sets_below (suc n) (true ∷ x) e =
    in_append_left (map (λ s. false ∷ s) (sets_below n)) (in_map (λ (s : List Bool). true ∷ s) (in_sets_below n x (omega arith)))
in_sets_below (suc n) (false ∷ x) e =
    in_append_right (map (λ s. true ∷ s) (sets_below n)) (in_map (λ (s : List Bool). false ∷ s) (in_sets_below n x (omega arith)))

-- those that are faces
abbrev is_face : TightRelation → List Bool → Bool
is_face R x = (length x == R.members) && is_same (closure R x) x

face_list : TightRelation → List (List Bool)
face_list R = filter (is_face R) (sets_below R.members)

listed_face : (R : TightRelation) (x : List Bool) → In x (face_list R) → IsFace R x
unfolding face_list
listed_face R x i =
    let p = and_parts (length x == R.members) (is_same (closure R x) x) (from_filter (is_face R) (sets_below R.members) i).passes in
    (face_is_closure_lem R x (eqb-true (length x) R.members p.0)).1 p.1

same_number : (n : ℕ) → (n == n) ≡ true
same_number n = ⊎_elim (λ h. h.0) (λ h. absurd (h.1 refl)) (eqb_tells n n)

face_listed : (R : TightRelation) (x : List Bool) → IsFace R x → In x (face_list R)
unfolding face_list
face_listed R x f = in_filter (is_face R) (sets_below R.members) (in_sets_below R.members x f.width)
    (and_from (length x == R.members) (is_same (closure R x) x)
    (subst (λ (n : ℕ). (length x == n) ≡ true) f.width (same_number (length x)))
    ((face_is_closure_lem R x f.width).0 f))

pub faces_are_listed_lem : FacesAreListed
faces_are_listed_lem R =
    (face_list R, λ x. (λ c. listed_face R x (in_from_contains (face_list R) c), λ f. contains_from_in (face_listed R x f)))

-- a height for each face: the measure falls where a face is less
module _ (R : TightRelation) (less : List Bool → List Bool → Type 0) (test : List Bool → List Bool → Bool)
    (sound : (a b : List Bool) → IsFace R a → IsFace R b → test a b ≡ true → less a b)
    (complete : (a b : List Bool) → IsFace R a → IsFace R b → less a b → test a b ≡ true)
    (Within : ℕ → List Bool → Type 0) (nowhere : (x : List Bool) → IsFace R x → Within 0 x → ⊥)
    (falls : (n : ℕ) (a b : List Bool) → IsFace R a → IsFace R b → less a b → Within (suc n) b → Within n a) where
  -- those of a list that are less than a face, with their heights
  record Lesser (face : List Bool) (faces : List (List Bool)) : Type 0 where
    table : List RankedFace
    are_faces : Each (λ q. IsFace R q.set) table
    heights : Each (λ q. IsHeight (IsFace R) less q.set q.rank) table
    has_all : (y : List Bool) → In y faces → less y face → Stands table y

  stands_deeper : {y : List Bool} {table : List RankedFace} (q : RankedFace) → Stands table y → Stands (q ∷ table) y
  stands_deeper q s = record { ranked = s.ranked; member = there s.member; is = s.is }

  with_one : (face x : List Bool) (faces : List (List Bool)) → IsFace R x → (k : ℕ) → IsHeight (IsFace R) less x k → Lesser face faces
      → Lesser face (x ∷ faces)
  with_one face x faces fx k h l = record {
    table = record { set = x; rank = k } ∷ l.table;
    are_faces = more fx l.are_faces;
    heights = more h l.heights;
    has_all = all;
  }
    where
      all : (y : List Bool) → In y (x ∷ faces) → less y face → Stands (record { set = x; rank = k } ∷ l.table) y
      all y here p = record { ranked = record { set = x; rank = k }; member = here; is = refl }
      all y (there i) p = stands_deeper (record { set = x; rank = k }) (l.has_all y i p)

  without_one : (face x : List Bool) (faces : List (List Bool)) → (less x face → ⊥) → Lesser face faces → Lesser face (x ∷ faces)
  without_one face x faces n l = record { table = l.table; are_faces = l.are_faces; heights = l.heights; has_all = all }
    where
      all : (y : List Bool) → In y (x ∷ faces) → less y face → Stands l.table y
      all y here p = absurd (n p)
      all y (there i) p = l.has_all y i p

  lesser : (face : List Bool) → IsFace R face → ((y : List Bool) → IsFace R y → less y face → (k : ℕ) × IsHeight (IsFace R) less y k)
      → (faces : List (List Bool)) → Each (IsFace R) faces → Lesser face faces
  lesser face f heights [] fs = record { table = []; are_faces = empty; heights = empty; has_all = λ y i p. elim i [ ] }
  lesser face f heights (x ∷ faces) fs = by (lesser face f heights faces (each_tail fs)) (cases_Bool (test x face))
    where
      by : Lesser face faces → (test x face ≡ true) ⊎ (test x face ≡ false) → Lesser face (x ∷ faces)
      by l (inl t) = let h = heights x (each_head fs) (sound x face (each_head fs) f t) in with_one face x faces (each_head fs) h.0 h.1 l
      by l (inr n) = without_one face x faces (λ p. true_false (complete x face (each_head fs) f p) n) l

  pub height_exists : (n : ℕ) (face : List Bool) → IsFace R face → Within n face → (k : ℕ) × IsHeight (IsFace R) less face k
  height_exists zero face f w = absurd (nowhere face f w)
  height_exists (suc n) face f w =
      let l = lesser face f (λ y fy p. height_exists n y fy (falls n y face fy f p w)) (face_list R)
      (each_from_in (face_list R) (listed_face R)) in (
        rank_over test l.table face,
        height_of (IsFace R) less test sound complete l.table face f l.are_faces l.heights (λ y fy p. l.has_all y (face_listed R y fy) p),
      )

-- a set has no more numbers than its width
size_within_width : (x : List Bool) → set_size x ≤ length x
size_within_width [] = omega arith
size_within_width (true ∷ x) = let h = size_within_width x in omega arith
size_within_width (false ∷ x) = let h = size_within_width x in omega arith

pub rank_exists_lem : RankExists
rank_exists_lem R face f = height_exists R IsProperPart is_proper_part (λ a b fa fb. below_sound R a b) (below_complete R)
    (λ n x. set_size x < n) (λ x fx h. absurd (omega arith))
    (λ n a b fa fb p h. let l = size_below a b (fa.width ∙ sym fb.width) p in omega arith)
    (suc (set_size face)) face f (omega arith)

pub corank_exists_lem : CorankExists
corank_exists_lem R face f = height_exists R IsProperWhole is_proper_whole (λ a b fa fb. below_sound R b a)
    (λ a b fa fb. below_complete R b a fb fa)
    (λ n x. R.members < n + set_size x) (λ x fx h. let w = size_within_width x in let e = fx.width in absurd (omega arith))
    (λ n a b fa fb p h. let l = size_below b a (fb.width ∙ sym fa.width) p in omega arith)
    (suc R.members) face f (omega arith)
