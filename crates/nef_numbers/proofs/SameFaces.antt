-- Tables of one relation have the same faces under the same numbers, however wide their words are.
use Rattle.std.specs.List.{All, AllPairs, range_with_len}
use Rattle.std.proofs.Common.{◌≡◌, ◌⊎◌, inl, inr, ⊎_elim, ℕ, zero, suc, ◌+◌, ◌-◌, ◌<◌, ◌≤◌, Bool, true, List, [], ◌∷◌, length, map, get_or, Contains, sym, ap, ap₂, ◌∙◌, subst, arith}
use Rattle.std.proofs.lemmas.Bool.{cases_lt}
use Rattle.std.proofs.lemmas.List.{length-map, get_or-map}
use Rattle.std.proofs.lemmas.List.Elements.{All-get_or}
use Rattle.lattice_theory.specs.Order.{Ascends}
use Rattle.lattice_theory.proofs.Members.{In, here, there, each_from_all, each_in, in_from_contains, contains_from_in}
use Rattle.lattice_theory.proofs.Sublists.{in_map, from_map}
use Rattle.lattice_theory.proofs.Unique.{ascending_unique}
use Rattle.bit_pool.specs.Bits.{HasBit}
use Rattle.face_theory.specs.Sets.{in_set}
use Rattle.face_theory.specs.Faces.{TightRelation, IsRank}
use Rattle.face_theory.specs.Ranks.{RankedFace}
use Rattle.face_theory.proofs.Sets.{same_test}
use Rattle.face_theory.proofs.Heights.{rank_is_unique_lem}
use Rattle.face_closing.specs.Words.{set_of}
use Rattle.face_poset.specs.Faces.{FaceState, TableState, no_face, face_at, ComesBefore, IsFaceOf, IsTableOf}
use Rattle.face_poset.proofs.ListedFaces.{in_set_of, set_of_in}
use Rattle.stringy_theory.proofs.RankedTables.{number_within}
use Rattle.poset_g.specs.Numbered.{numbered}
use Rattle.poset_g.proofs.NumberedFaces.{subset_at, below_at}
use Rattle.nef_numbers.proofs.AlikeFaces.{AreAlike}

-- the numbers of faces
in_from : (a n x : ℕ) → a ≤ x → x < a + n → In x (range_with_len a n)
in_from a zero x h l = absurd (omega arith)
in_from a (suc n) x h l = ⊎_elim (λ (m : a < x). there (in_from (a + 1) n x (omega arith) (omega arith)))
    (λ (m : x ≤ a). let e : a ≡ x = omega arith in subst (λ (y : ℕ). In y (a ∷ range_with_len (a + 1) n)) e here) (cases_lt a x)

pub in_numbers : (n x : ℕ) → x < n → In x (range_with_len 0 n)
in_numbers n x l = in_from 0 n x (omega arith) (omega arith)

-- the first number in which two sets differ is in this one
record IsSooner (s t : List Bool) : Type 0 where
  first : ℕ
  holds : in_set s first ≡ true
  missing : in_set t first ≡ true → ⊥
  same : (n : ℕ) → n < first → in_set s n ≡ in_set t n

-- the order of faces by their ranks and sets
abbrev KeyBefore : RankedFace → RankedFace → Type 0
KeyBefore p q = (p.rank < q.rank) ⊎ ((p.rank ≡ q.rank) × IsSooner p.set q.set)

below_itself : (m n : ℕ) → m < n → n < m → ⊥
below_itself m n h k = omega arith

below_same_number : (m n : ℕ) → m < n → n ≡ m → ⊥
below_same_number m n h e = omega arith

not_both : (s t : List Bool) → IsSooner s t → IsSooner t s → ⊥
not_both s t h k = ⊎_elim (λ (l : h.first < k.first). h.missing (k.same h.first l ∙ h.holds))
    (λ (l : k.first ≤ h.first). ⊎_elim (λ (m : k.first < h.first). k.missing (h.same k.first m ∙ k.holds))
    (λ (m : h.first ≤ k.first). let e : k.first ≡ h.first = omega arith in
    h.missing (subst (λ (n : ℕ). in_set t n ≡ true) e k.holds)) (cases_lt k.first h.first)) (cases_lt h.first k.first)

key_asymmetric : (p q : RankedFace) → KeyBefore p q → KeyBefore q p → ⊥
key_asymmetric p q (inl h) (inl k) = below_itself p.rank q.rank h k
key_asymmetric p q (inl h) (inr k) = below_same_number p.rank q.rank h k.0
key_asymmetric p q (inr h) (inl k) = below_same_number q.rank p.rank k h.0
key_asymmetric p q (inr h) (inr k) = not_both p.set q.set h.1 k.1

abbrev made : List Bool → ℕ → RankedFace
made set rank = record { set = set; rank = rank }

module _ (R : TightRelation) where
  abbrev key : FaceState → RankedFace
  key face = made (set_of R.members face.members) face.rank

  -- a member of a face is one of the relation's
  within : (table : TableState) (face : FaceState) → IsFaceOf table R face → (n : ℕ) → HasBit face.members n → n < R.members
  within table face f n h = ⊎_elim (λ (l : n < R.members). l) (λ (l : R.members ≤ n). absurd (f.members_tell.below n l h)) (cases_lt n R.members)

  key_before : (table : TableState) (a b : FaceState) → IsFaceOf table R a → ComesBefore a b → KeyBefore (key a) (key b)
  key_before table a b f (inl h) = inl h
  key_before table a b f (inr h) =
      let e = h.1 in
      let l = within table a f e.first e.here in
      inr (
        h.0,
        record {
          first = e.first;
          holds = in_set_of R.members a.members e.first l e.here;
          missing = λ m. e.missing (set_of_in R.members b.members e.first m).1;
          same = λ n m. let k : n < R.members = omega arith in same_test (in_set (set_of R.members a.members) n) (in_set (set_of R.members b.members) n)
              (λ i. in_set_of R.members b.members n k ((e.same n m).0 (set_of_in R.members a.members n i).1))
              (λ i. in_set_of R.members a.members n k ((e.same n m).1 (set_of_in R.members b.members n i).1));
        },
      )

  keys_behind : (table : TableState) (x : FaceState) (xs : List FaceState) → IsFaceOf table R x → AllPairs ComesBefore (x ∷ xs)
      → All (KeyBefore (key x)) (map (λ face. key face) xs)
  keys_behind table x xs f a k d l =
      let e = length-map xs (λ (face : FaceState). key face) in
      let m : k < length xs = omega arith in
      subst (KeyBefore (key x)) (sym (get_or-map (λ (face : FaceState). key face) xs k no_face d m))
      (key_before table x (face_at xs k) f (a 0 (suc k) no_face (omega arith) (omega arith)))

  keys_ascend : (table : TableState) (xs : List FaceState) → ((x : FaceState) → In x xs → IsFaceOf table R x) → AllPairs ComesBefore xs
      → Ascends KeyBefore (map (λ face. key face) xs)
  keys_ascend table [] f a = tt
  keys_ascend table (x ∷ xs) f a = (
    keys_behind table x xs (f x here) a,
    keys_ascend table xs (λ y i. f y (there i)) (λ i j d l m. a (suc i) (suc j) d (omega arith) (omega arith)),
  )

  keys : TableState → List RankedFace
  keys table = map (λ face. key face) table.faces

  face_in : (table : TableState) → IsTableOf R table → (face : FaceState) → In face table.faces → IsFaceOf table R face
  face_in table t face i = each_in (each_from_all (IsFaceOf table R) table.faces t.are_faces) i

  key_of : (set other : List Bool) (rank k : ℕ) → other ≡ set → IsRank R set rank → IsRank R other k
      → made other k ≡ made set rank
  key_of set other rank k e r s = ap₂ made e
      (rank_is_unique_lem R set k rank (subst (λ (x : List Bool). IsRank R x k) e s) r)

  other_key : (a b : TableState) → IsTableOf R a → IsTableOf R b → (p : RankedFace) → Contains (keys a) p → Contains (keys b) p
  unfolding keys
  other_key a b s t p c =
      let i = from_map (λ (face : FaceState). key face) a.faces (in_from_contains (map (λ (face : FaceState). key face) a.faces) c) in
      let f = face_in a s i.source i.member in
      let j = from_map (λ (face : FaceState). set_of R.members face.members) b.faces
      (in_from_contains (map (λ (face : FaceState). set_of R.members face.members) b.faces) (t.all (key i.source).set f.is_face)) in
      let g = face_in b t j.source j.member in
      subst (Contains (map (λ (face : FaceState). key face) b.faces))
      (key_of (key i.source).set (key j.source).set (key i.source).rank (key j.source).rank (sym j.is) f.rank_is g.rank_is ∙ sym i.is)
      (contains_from_in (in_map (λ (face : FaceState). key face) j.member))

  module _ (a b : TableState) (s : IsTableOf R a) (t : IsTableOf R b) where
    same_keys : map (λ (face : FaceState). key face) a.faces ≡ map (λ (face : FaceState). key face) b.faces
    unfolding keys
    same_keys = ascending_unique KeyBefore key_asymmetric (keys a) (keys b) (keys_ascend a a.faces (face_in a s) s.ascending)
        (keys_ascend b b.faces (face_in b t) t.ascending) (λ p. (other_key a b s t p, other_key b a t s p))

    pub same_length : length a.faces ≡ length b.faces
    same_length = sym (length-map a.faces (λ (face : FaceState). key face)) ∙ ap length same_keys ∙ length-map b.faces (λ (face : FaceState). key face)

    same_key : (k : ℕ) → k < length a.faces → key (face_at a.faces k) ≡ key (face_at b.faces k)
    same_key k l =
        let e = same_length in
        sym (get_or-map (λ (face : FaceState). key face) a.faces k no_face (key no_face) l)
        ∙ ap (λ (ks : List RankedFace). get_or ks k (key no_face)) same_keys
        ∙ get_or-map (λ (face : FaceState). key face) b.faces k no_face (key no_face) (omega arith)

    pub same_set : (k : ℕ) → k < length a.faces → set_of R.members (face_at a.faces k).members ≡ set_of R.members (face_at b.faces k).members
    same_set k l = ap (λ (f : RankedFace). f.set) (same_key k l)

    pub same_rank : (k : ℕ) → k < length a.faces → (face_at a.faces k).rank ≡ (face_at b.faces k).rank
    same_rank k l = ap (λ (f : RankedFace). f.rank) (same_key k l)

    member_moves : (k : ℕ) → k < length a.faces → (n : ℕ) → HasBit (face_at a.faces k).members n → HasBit (face_at b.faces k).members n
    member_moves k l n h =
        let f = All-get_or (IsFaceOf a R) a.faces k no_face l s.are_faces in
        (set_of_in R.members (face_at b.faces k).members n (subst (λ (set : List Bool). in_set set n ≡ true) (same_set k l)
        (in_set_of R.members (face_at a.faces k).members n (within a (face_at a.faces k) f n h) h))).1

  module _ (a b : TableState) (s : IsTableOf R a) (t : IsTableOf R b) where
    below_moves : (x y : ℕ) → x < length a.faces → y < length a.faces → (numbered a).below x y ≡ true → (numbered b).below x y ≡ true
    below_moves x y l m e =
        let k = same_length a b s t in
        below_at R b t x y (λ n h. member_moves a b s t y m n (subset_at R a s x y l e n (member_moves b a t s x (omega arith) n h)))

  pub same_below : (a b : TableState) → IsTableOf R a → IsTableOf R b → (x y : ℕ) → x < length a.faces → y < length a.faces
      → (numbered a).below x y ≡ (numbered b).below x y
  same_below a b s t x y l m =
      let k = same_length a b s t in
      same_test ((numbered a).below x y) ((numbered b).below x y) (below_moves a b s t x y l m)
      (below_moves b a t s x y (omega arith) (omega arith))

  -- so their orders are alike
  pub orders_alike : (a b : TableState) → IsTableOf R a → IsTableOf R b → AreAlike (numbered a) (numbered b)
  orders_alike a b s t = record {
    members = ap (range_with_len 0) (same_length a b s t);
    below = λ x y i j. same_below a b s t x y (number_within (length a.faces) x (contains_from_in i)) (number_within (length a.faces) y (contains_from_in j));
    gap = λ x y i j. ap₂ (λ (m n : ℕ). n - m) (same_rank a b s t x (number_within (length a.faces) x (contains_from_in i)))
        (same_rank a b s t y (number_within (length a.faces) y (contains_from_in j)));
  }
