-- A table tells how many faces of each rank its relation has, and no other numbers are told.
use Rattle.std.specs.List.{AllPairs}
use Rattle.std.proofs.Common.{◌≡◌, ◌≢◌, inl, inr, ℕ, ◌+◌, ◌<◌, ◌≤◌, Bool, ◌==◌, List, length, map, filter, get_or, Contains, sym, ap, ◌∙◌, subst, arith}
use Rattle.std.proofs.lemmas.Bool.{eqb-true, eq-eqb}
use Rattle.std.proofs.lemmas.List.{length-map, get_or-map}
use Rattle.std.proofs.lemmas.List.Elements.{Contains-get_or}
use Rattle.std.proofs.lemmas.List.Kept.{AllPairs-filter}
use Rattle.std.proofs.lemmas.List.Sums.{length-filter}
use Rattle.lattice_theory.proofs.Members.{In, each_from_all, each_in, in_from_contains, contains_from_in}
use Rattle.lattice_theory.proofs.Sublists.{in_filter, from_filter, in_map, from_map}
use Rattle.bit_pool.specs.Bits.{words_for}
use Rattle.face_theory.specs.Faces.{TightRelation, IsFace, IsRank}
use Rattle.face_theory.proofs.FaceTests.{fewer}
use Rattle.face_theory.proofs.Heights.{rank_is_unique_lem}
use Rattle.face_closing.specs.Words.{set_of, IsEarlier}
use Rattle.face_closing.proofs.MeetRows.{same_from_sets}
use Rattle.face_closing.proofs.SetWords.{same_words}
use Rattle.face_poset.specs.Faces.{FaceState, TableState, no_face, face_at, ComesBefore, IsFaceOf, IsTableOf}
use Rattle.face_poset.specs.Counts.{IsFaceCount, AreFaceCounts}
use Rattle.face_poset.specs.Laws.{TableCountsFaces, TableHasFewFaces, FaceCountsAreSingle}

module _ (R : TightRelation) (table : TableState) (rank : ℕ) (h : IsTableOf R table) where
  abbrev has_rank : FaceState → Bool
  has_rank face = face.rank == rank

  abbrev ranked : List FaceState
  ranked = filter (λ face. face.rank == rank) table.faces

  abbrev members_set : FaceState → List Bool
  members_set face = set_of R.members face.members

  is_face_of : (face : FaceState) → In face table.faces → IsFaceOf table R face
  is_face_of face i = each_in (each_from_all (IsFaceOf table R) table.faces h.are_faces) i

  ranked_face : (set : List Bool) → Contains (map (λ face. set_of R.members face.members) ranked) set → IsFace R set × IsRank R set rank
  ranked_face set c =
      let i = from_map members_set ranked (in_from_contains (map members_set ranked) c) in
      let k = from_filter has_rank table.faces i.member in
      let f = is_face_of i.source k.member in (
        subst (IsFace R) (sym i.is) f.is_face,
        subst (λ (x : List Bool). IsRank R x rank) (sym i.is)
            (subst (IsRank R (members_set i.source)) (eqb-true i.source.rank rank k.passes) f.rank_is),
      )

  all_ranked : (set : List Bool) → IsFace R set → IsRank R set rank → Contains (map (λ face. set_of R.members face.members) ranked) set
  all_ranked set f r =
      let i = from_map members_set table.faces (in_from_contains (map members_set table.faces) (h.all set f)) in
      let g = is_face_of i.source i.member in
      let same : i.source.rank ≡ rank = rank_is_unique_lem R (members_set i.source) i.source.rank rank g.rank_is
      (subst (λ (x : List Bool). IsRank R x rank) i.is r) in
      subst (Contains (map members_set ranked)) (sym i.is)
      (contains_from_in (in_map members_set (in_filter has_rank table.faces i.member (eq-eqb i.source.rank rank same))))

  -- of two faces of one rank neither is the other
  differ : (a b : FaceState) → In a ranked → In b ranked → ComesBefore a b → members_set a ≡ members_set b → ⊥
  differ a b i j (inl less) e =
      let p = eqb-true a.rank rank (from_filter has_rank table.faces i).passes in
      let q = eqb-true b.rank rank (from_filter has_rank table.faces j).passes in
      omega arith
  differ a b i j (inr earlier) e =
      let f = is_face_of a (from_filter has_rank table.faces i).member in
      let g = is_face_of b (from_filter has_rank table.faces j).member in
      let same = same_from_sets (words_for table.members) R.members a.members b.members f.members_tell g.members_tell e in
      (earlier.1).missing (subst (λ (words : List ℕ). IsEarlier words b.members) same earlier.1).here

  apart : (i j : ℕ) (d : List Bool) → i < j → j < length (map (λ face. set_of R.members face.members) ranked)
      → get_or (map (λ face. set_of R.members face.members) ranked) i d ≢ get_or (map (λ face. set_of R.members face.members) ranked) j d
  apart i j d l m e =
      let n = length-map ranked members_set in
      let first : i < length ranked = omega arith in
      let second : j < length ranked = omega arith in
      differ (face_at ranked i) (face_at ranked j) (in_from_contains ranked (Contains-get_or ranked i no_face first))
      (in_from_contains ranked (Contains-get_or ranked j no_face second))
      (AllPairs-filter ComesBefore has_rank table.faces h.ascending i j no_face l second)
      (sym (get_or-map members_set ranked i no_face d first) ∙ e ∙ get_or-map members_set ranked j no_face d second)

  pub ranked_count : IsFaceCount R rank (length (filter (λ face. face.rank == rank) table.faces))
  ranked_count = record {
    faces = map members_set ranked;
    are_faces = λ set. (ranked_face set, λ p. all_ranked set p.0 p.1);
    apart = apart;
    count_is = sym (length-map ranked members_set);
  }

pub table_counts_faces_lem : TableCountsFaces
table_counts_faces_lem R table rank h =
    subst (IsFaceCount R rank) (length-filter (λ (face : FaceState). face.rank == rank) table.faces) (ranked_count R table rank h)

-- a relation has one number of faces of a rank
no_more : (R : TightRelation) (rank a b : ℕ) (x : IsFaceCount R rank a) (y : IsFaceCount R rank b) → length x.faces ≤ length y.faces
no_more R rank a b x y = fewer x.faces y.faces x.apart
    (λ set i. in_from_contains y.faces ((y.are_faces set).1 ((x.are_faces set).0 (contains_from_in i))))

one_count : (R : TightRelation) (rank a b : ℕ) → IsFaceCount R rank a → IsFaceCount R rank b → a ≡ b
one_count R rank a b x y =
    let p = no_more R rank a b x y in
    let q = no_more R rank b a y x in
    let e = x.count_is in
    let f = y.count_is in
    omega arith

pub face_counts_are_single_lem : FaceCountsAreSingle
face_counts_are_single_lem R n counts others a b = same_words counts others (a.many ∙ sym b.many)
    (λ k l. let w = a.many in one_count R (k + 1) (get_or counts k 0) (get_or others k 0) (a.each k (omega arith)) (b.each k (omega arith)))

-- a table that has room for all faces has few
pub few_faces_lem : TableHasFewFaces
few_faces_lem R table h l m =
    let tell : FaceState → List Bool = λ face. set_of R.members face.members in
    let n = fewer m.some (map tell table.faces) m.apart
    (λ set i. in_from_contains (map tell table.faces) (h.all set (m.are_faces set (contains_from_in i)))) in
    let e = length-map table.faces tell in
    let k = m.many in
    omega arith
