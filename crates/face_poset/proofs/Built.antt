-- What the parts of a building find is the table of the relation.
use Rattle.std.specs.List.{AllPairs}
use Rattle.std.proofs.Common.{◌≡◌, ◌↔◌, ℕ, ◌<◌, List, length, Contains, subst, sym, ◌∙◌}
use Rattle.bit_pool.specs.Bits.{words_for}
use Rattle.face_theory.specs.Faces.{TightRelation}
use Rattle.face_closing.specs.Words.{IsEarlier}
use Rattle.face_closing.specs.Tables.{AreFunctionRows, AreFaceRows}
use Rattle.face_closing.specs.steps.PartRanks.{HasRank}
use Rattle.face_poset.specs.Faces.{FaceState, IsTableOf}
use Rattle.face_poset.specs.ListSteps.{ListsAll}
use Rattle.face_poset.proofs.ListedFaces.{sorted_faces, table_of}

pub built_table : (members functions : ℕ) (R : TightRelation) (rows found sorted : List (List ℕ)) (ranks : List ℕ) (faces : List FaceState)
    (copied closed ranked dual : ℕ) → copied ≡ words_for members → closed ≡ words_for members → ranked ≡ words_for members → dual ≡ words_for functions
    → AreFunctionRows copied R rows → (AreFunctionRows closed R rows → AreFaceRows closed R found)
    → ((row : List ℕ) → Contains sorted row ↔ Contains found row) → AllPairs IsEarlier sorted → length ranks ≡ length sorted
    → (AreFunctionRows ranked R rows → AreFaceRows ranked R sorted → (k : ℕ) → k < length ranks → HasRank R sorted ranks k)
    → ListsAll sorted rows ranks dual faces → IsTableOf R (record { members = members; functions = functions; faces = faces })
built_table members functions R rows found sorted ranks faces copied closed ranked dual e f g h told close same up many rank lists =
    let t = subst (λ (c : ℕ). AreFunctionRows c R rows) e told in
    let a = subst (λ (c : ℕ). AreFaceRows c R found) f (close (subst (λ (c : ℕ). AreFunctionRows c R rows) (sym f) t)) in
    let s = sorted_faces (words_for members) R found sorted a same up in
    table_of members functions R rows sorted ranks faces t s many
    (rank (subst (λ (c : ℕ). AreFunctionRows c R rows) (sym g) t) (subst (λ (c : ℕ). AreFaceRows c R sorted) (sym g) s))
    (subst (λ (c : ℕ). ListsAll sorted rows ranks c faces) h lists)
