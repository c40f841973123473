-- The laws of faces, as statements about any relation.
use Rattle.std.specs.Prelude.{◌≡◌, ◌≢◌, ◌↔◌, Bool, ℕ, suc, ◌+◌, ◌<◌, ◌≤◌, List, [], length, map, ℤ, IsTrue}
use Rattle.std.specs.List.{All, AllPairs, Contains}
use Rattle.lattice_theory.specs.Vector.{HaveDimension}
use Rattle.lattice_theory.specs.Affine.{Affine}
use Rattle.face_theory.specs.Sets.{IsPart, IsProperPart, IsProperWhole, set_size, is_same, is_proper_part, is_proper_whole}
use Rattle.face_theory.specs.Chains.{IsChainFrom}
use Rattle.face_theory.specs.Faces.{TightRelation, transposed, IsFace, IsDualFace, IsRank, IsCorank, AreFaces}
use Rattle.face_theory.specs.Meets.{function_row, row_meet, IsRowMeet, AreRowMeets, IsMadeBy, IsOverMeets}
use Rattle.face_theory.specs.Closures.{closure}
use Rattle.face_theory.specs.Ranks.{RankedFace, AreRanked, AreSorted, IsNoLarger, IsNoSmaller, rank_over}
use Rattle.face_theory.specs.Pairings.{IsPairedBy, paired, valued}

-- the faces are exactly what rows of functions have in common
abbrev pub FacesAreMeets : Type 0
FacesAreMeets = (R : TightRelation) (set : List Bool) → IsFace R set ↔ IsRowMeet R R.functions set

-- what rows of the first functions have in common is a face on the way, too
abbrev pub MeetsAreFaces : Type 0
MeetsAreFaces = (R : TightRelation) (j : ℕ) (set : List Bool) → j ≤ R.functions → IsRowMeet R j set → IsFace R set

-- before the first function there is the set of all members alone
abbrev pub MeetsStart : Type 0
MeetsStart = (R : TightRelation) (set : List Bool) → IsRowMeet R 0 set ↔ (set ≡ row_meet R [])

-- one row more closes the table of the rows before: its sets stay, and so does what each has in common with the row
abbrev pub MeetsGrow : Type 0
MeetsGrow = (R : TightRelation) (j : ℕ) (table next : List (List Bool)) → AreRowMeets R j table
    → ((set : List Bool) → Contains next set ↔ IsMadeBy table (function_row R j) set) → AreRowMeets R (suc j) next

-- a set of members is a face exactly where it is its closure
abbrev pub FaceIsClosure : Type 0
FaceIsClosure = (R : TightRelation) (set : List Bool) → length set ≡ R.members → IsFace R set ↔ IsTrue (is_same (closure R set) set)

-- faces that all differ are no more than all faces
abbrev pub FacesAreCounted : Type 0
FacesAreCounted = (R : TightRelation) (some all : List (List Bool)) → AllPairs (λ a b. a ≢ b) some
    → ((x : List Bool) → Contains some x → IsFace R x) → AreFaces R all → length some ≤ length all

-- the faces are finitely many: there is the list of them
abbrev pub FacesAreListed : Type 0
FacesAreListed = (R : TightRelation) → (faces : List (List Bool)) × AreFaces R faces

-- each face has a rank and a corank
abbrev pub RankExists : Type 0
RankExists = (R : TightRelation) (face : List Bool) → IsFace R face → (k : ℕ) × IsRank R face k

abbrev pub CorankExists : Type 0
CorankExists = (R : TightRelation) (face : List Bool) → IsFace R face → (k : ℕ) × IsCorank R face k

-- it has one rank and one corank
abbrev pub RankIsUnique : Type 0
RankIsUnique = (R : TightRelation) (face : List Bool) (j k : ℕ) → IsRank R face j → IsRank R face k → j ≡ k

abbrev pub CorankIsUnique : Type 0
CorankIsUnique = (R : TightRelation) (face : List Bool) (j k : ℕ) → IsCorank R face j → IsCorank R face k → j ≡ k

-- where a table, in any order, has each face strictly within a face, and the rank of each of its faces, counting over it gives the
-- face's rank
abbrev pub RankStep : Type 0
RankStep = (R : TightRelation) (before : List RankedFace) (face : List Bool) → IsFace R face
    → All (λ r. IsFace R r.set) before → All (λ r. IsRank R r.set r.rank) before
    → ((x : List Bool) → IsFace R x → IsProperPart x face → Contains (map (λ r. r.set) before) x)
    → IsRank R face (rank_over is_proper_part before face)

-- the same from above
abbrev pub CorankStep : Type 0
CorankStep = (R : TightRelation) (before : List RankedFace) (face : List Bool) → IsFace R face
    → All (λ r. IsFace R r.set) before → All (λ r. IsCorank R r.set r.rank) before
    → ((x : List Bool) → IsFace R x → IsProperWhole x face → Contains (map (λ r. r.set) before) x)
    → IsCorank R face (rank_over is_proper_whole before face)

-- the ranks of what a face has in common with single rows of functions tell its rank
abbrev pub RankByMeets : Type 0
RankByMeets = (R : TightRelation) (face : List Bool) (k : ℕ) → IsFace R face → IsOverMeets R face k → IsRank R face k

-- so a table of all faces, by rising numbers of members, that is ranked face by face has the ranks
abbrev pub TableHasRanks : Type 0
TableHasRanks = (R : TightRelation) (table : List RankedFace) → AreFaces R (map (λ r. r.set) table) → AreSorted IsNoLarger table
    → AreRanked is_proper_part table → (r : RankedFace) → Contains table r → IsRank R r.set r.rank

-- and one by falling numbers has the coranks
abbrev pub TableHasCoranks : Type 0
TableHasCoranks = (R : TightRelation) (table : List RankedFace) → AreFaces R (map (λ r. r.set) table) → AreSorted IsNoSmaller table
    → AreRanked is_proper_whole table → (r : RankedFace) → Contains table r → IsCorank R r.set r.rank

-- of two faces the one strictly within the other has the smaller rank, and fewer members
abbrev pub RankRises : Type 0
RankRises = (R : TightRelation) (a b : List Bool) (j k : ℕ) → IsFace R a → IsFace R b → IsProperPart a b → IsRank R a j → IsRank R b k
    → (j < k) × (set_size a < set_size b)

-- where pairings with vectors of length n tell the relation, a chain of faces strictly within a face has at most n of them
abbrev pub ChainBound : Type 0
ChainBound = (n : ℕ) (R : TightRelation) → IsPairedBy n R → (top : List Bool) (chain : List (List Bool)) → IsFace R top
    → IsChainFrom (IsFace R) IsProperPart top chain → length chain ≤ n

-- so a rank is at most n where the functions are vectors of length n
abbrev pub RankBound : Type 0
RankBound = (n : ℕ) (members functions : List (List ℤ)) → HaveDimension n functions → (face : List Bool) (k : ℕ)
    → IsFace (paired members functions) face → IsRank (paired members functions) face k → k ≤ n

-- and at most n + 1 where they are affine functions on points of dimension n
abbrev pub RankBoundOfPoints : Type 0
RankBoundOfPoints = (n : ℕ) (points : List (List ℤ)) (functions : List Affine) → All (λ f. length f.normal ≡ n) functions
    → (face : List Bool) (k : ℕ) → IsFace (valued points functions) face → IsRank (valued points functions) face k → k ≤ n + 1

-- each set of members has a dual face, and only one
abbrev pub DualExists : Type 0
DualExists = (R : TightRelation) (face : List Bool) → length face ≡ R.members → (dual : List Bool) × IsDualFace R face dual

abbrev pub DualIsUnique : Type 0
DualIsUnique = (R : TightRelation) (face d e : List Bool) → IsDualFace R face d → IsDualFace R face e → d ≡ e

-- a face is within another exactly where the other's dual face is within its own
abbrev pub DualReverses : Type 0
DualReverses = (R : TightRelation) (a b d e : List Bool) → IsFace R a → IsFace R b → IsDualFace R a d → IsDualFace R b e
    → IsPart a b ↔ IsPart e d

-- faces with one dual face are equal
abbrev pub DualTells : Type 0
DualTells = (R : TightRelation) (a b d : List Bool) → IsFace R a → IsFace R b → IsDualFace R a d → IsDualFace R b d → a ≡ b

-- the dual face is a face of the relation read the other way, and the face is its dual face there
abbrev pub DualIsFace : Type 0
DualIsFace = (R : TightRelation) (face dual : List Bool) → IsFace R face → IsDualFace R face dual
    → IsFace (transposed R) dual × IsDualFace (transposed R) dual face
