-- How the faces of a polytope are found: the rows tell the relation, none of them is lacking, and the table counts the faces.
use Rattle.std.specs.Prelude.{ℤ, pos, Some, ⊤}
use Rattle.std.proofs.Common.{◌≡◌, ◌⊎◌, inl, inr, ℕ, zero, suc, ◌+◌, ◌-◌, ◌<◌, ◌≤◌, List, [], length, get_or, sym, ◌∙◌, subst, arith}
use Rattle.std.proofs.lemmas.Bool.{cases_lt}
use Rattle.lattice_theory.specs.Affine.{Affine}
use Rattle.bit_pool.specs.Pools.{PoolState, OnRow, row_of}
use Rattle.bit_pool.specs.declared.faults.Stale.{Stale}
use Rattle.face_theory.specs.Faces.{TightRelation}
use Rattle.face_theory.specs.Pairings.{valued}
use Rattle.incidence.specs.Incidences.{IncidenceState, Tells, IsToldIn, HaveValues}
use Rattle.incidence.proofs.Held.{made_is_held_lem}
use Rattle.face_poset.specs.Faces.{FaceState, TableState, IsTableOf}
use Rattle.face_poset.specs.Builds.{id_at, LacksFirst}
use Rattle.face_poset.specs.Counts.{IsFaceCount, AreFaceCounts}
use Rattle.face_poset.proofs.FaceCounts.{table_counts_faces_lem, few_faces_lem}
use Rattle.dual_pair.specs.Faces.{AreFacesOf}
use Rattle.palp_print.specs.Blocks.{ArePaired}
use Rattle.palp_engine.specs.FaceSteps.{HasRowRoom, lists_in, CanHaveFaces, IsHeldOf, HaveFewFaces, with_rank, of_ranks}

-- the values of facets at vertices can be worked out
pub have_values : (facets : List Affine) (vertices : List (List ℤ)) → ArePaired facets vertices → HaveValues vertices facets
have_values facets vertices p = record {
  dimension = λ m v l f g k. (p.reach f g k m v l).one_dimension;
  small = λ m v l. (p.reach 0 (record { normal = []; constant = pos 0 }) p.are_functions.some m v l).sum;
  constants = λ f g k. (p.reach f g k 0 [] p.are_points.some).constant;
}

-- the rows that were added tell the relation
pub held_of : (before now : PoolState) (facets : List Affine) (vertices : List (List ℤ)) (i : IncidenceState)
    → IsToldIn before now (valued vertices facets) i → HasRowRoom before → CanHaveFaces facets vertices → IsHeldOf now i (valued vertices facets)
held_of before now facets vertices i told room faces = record {
  held = (made_is_held_lem before now i (valued vertices facets) (let w = room.width in let v = faces.few_vertices in omega arith)
      (let w = room.width in let f = faces.few_facets in omega arith) told).0;
  tells = told.tells;
}

-- rows that tell a relation are all there
all_rows : (pool : PoolState) (i : IncidenceState) (R : TightRelation) → Tells pool i R → (k : ℕ) → k < i.members + i.functions
    → OnRow pool (id_at i k) (λ words. ⊤)
all_rows pool i R t k l = by (cases_lt k i.members)
  where
    behind : (a b : ℕ) → a ≤ b → a + (b - a) ≡ b
    behind a b l = omega arith

    by : (k < i.members) ⊎ (i.members ≤ k) → OnRow pool (id_at i k) (λ words. ⊤)
    by (inl m) =
        let row = t.member_rows k (let n = t.members in omega arith) in
        record { words = row.words; named = row.named; holds = tt }
    by (inr m) =
        let row = t.function_rows (k - i.members) (let n = t.members in let f = t.functions in omega arith) in
        record {
          words = row.words;
          named = subst (λ (place : ℕ). row_of pool (record { epoch = i.epoch; place = i.first + place }) ≡ Some row.words)
              (behind i.members k m) row.named;
          holds = tt;
        }

pub none_lacks : (pool : PoolState) (i : IncidenceState) (R : TightRelation) (stale : Stale) → Tells pool i R → LacksFirst pool i stale → ⊥
none_lacks pool i R stale t l =
    let row = all_rows pool i R t l.number l.within in
    let both = sym l.lacking.nothing ∙ row.named in
    absurd (cc)

-- the numbers of faces of the ranks 1 to 6
each_rank : (R : TightRelation) (faces : List FaceState) → ((rank : ℕ) → IsFaceCount R rank (with_rank faces rank)) → (k : ℕ) → k < 6
    → IsFaceCount R (k + 1) (get_or (of_ranks faces) k 0)
each_rank R faces h zero l = h 1
each_rank R faces h (suc zero) l = h 2
each_rank R faces h (suc (suc zero)) l = h 3
each_rank R faces h (suc (suc (suc zero))) l = h 4
each_rank R faces h (suc (suc (suc (suc zero)))) l = h 5
each_rank R faces h (suc (suc (suc (suc (suc zero))))) l = h 6
each_rank R faces h (suc (suc (suc (suc (suc (suc k)))))) l = absurd (omega arith)

pub counted_faces : (R : TightRelation) (table : TableState) (counts : List ℕ) → IsTableOf R table → length table.faces ≤ 4096
    → counts ≡ of_ranks table.faces → HaveFewFaces R 6 counts
counted_faces R table counts h few is = record {
  few = few_faces_lem R table h few;
  are_counts = subst (AreFaceCounts R 6) (sym is) (record {
    many = omega arith;
    each = each_rank R table.faces (λ rank. table_counts_faces_lem R table rank h);
  });
}

-- a table that was large enough
pub found_faces : (vertices : List (List ℤ)) (facets : List Affine) (before now : TableState) → length vertices ≤ before.members
    → length facets ≤ before.functions → now.members ≡ before.members → now.functions ≡ before.functions → IsTableOf (valued vertices facets) now
    → AreFacesOf (lists_in vertices facets) now
found_faces vertices facets before now m f e g t =
    record { members_fit = omega (arith, m, e); functions_fit = omega (arith, f, g); faces = t }
