-- The table that is filled with the faces of a pair.
use Rattle.std.specs.Prelude.{Option, None, Some, MatchOption, ⊤, ℤ}
use Rattle.std.proofs.Common.{◌≡◌, ⊎_elim, ℕ, ◌+◌, ◌-◌, ◌<◌, ◌≤◌, List, length, refl, sym, ◌∙◌, subst, arith}
use Rattle.std.proofs.lemmas.Bool.{cases_lt}
use Rattle.bit_pool.specs.Pools.{PoolState, OnRow}
use Rattle.bit_pool.specs.declared.faults.Stale.{Stale}
use Rattle.face_theory.specs.Faces.{TightRelation}
use Rattle.face_theory.specs.Pairings.{valued}
use Rattle.incidence.specs.Incidences.{IncidenceState, IsToldIn, HaveValues}
use Rattle.face_poset.specs.Faces.{TableState, IsTableOf}
use Rattle.face_poset.specs.Builds.{id_at, LacksFirst}
use Rattle.lattice_theory.specs.Affine.{Affine}
use Rattle.dual_pair.specs.Polytopes.{PolytopeState}
use Rattle.dual_pair.specs.Pairs.{PairState, IsPair}
use Rattle.dual_pair.specs.Faces.{on_facets, AreFacesOf, HasRowsOf}
use Rattle.dual_pair.proofs.SmallPoints.{vertices_light, facet_values}

-- the pool has all rows of an incidence that was made in it
row_there : (before now : PoolState) (R : TightRelation) (i : IncidenceState) → IsToldIn before now R i → (k : ℕ) → k < i.members + i.functions
    → OnRow now (id_at i k) (λ words. ⊤)
row_there before now R i told k l = ⊎_elim
    (λ (m : k < i.members).
    let row = told.tells.member_rows k (let e = told.tells.members in omega arith) in
    record { words = row.words; named = row.named; holds = tt })
    (λ (m : i.members ≤ k). behind (k - i.members) (omega arith))
    (cases_lt k i.members)
  where
    behind : (f : ℕ) → k ≡ i.members + f → OnRow now (id_at i k) (λ words. ⊤)
    behind f e =
        let row = told.tells.function_rows f (let t = told.tells.functions in omega arith) in
        subst (λ (j : ℕ). OnRow now (id_at i j) (λ words. ⊤)) (sym e) (record { words = row.words; named = row.named; holds = tt })

-- no row is none
clash : {words : List ℕ} → Some words ≡ None → ⊥
clash e = subst (λ (row : Option (List ℕ)). MatchOption row ⊥ (λ w. ⊤)) e tt

-- so none is lacking
pub none_lacking : (before now : PoolState) (R : TightRelation) (i : IncidenceState) (stale : Stale) → IsToldIn before now R i
    → LacksFirst now i stale → ⊥
none_lacking before now R i stale told lacks = clash (sym (row_there before now R i told lacks.number lacks.within).named ∙ lacks.lacking.nothing)

-- the lists that a pair hands out
module _ (p : PolytopeState) (vertices : List (List ℤ)) (facets : List Affine) (e : vertices ≡ p.vertices) (f : facets ≡ p.facets) where
  pub same_relation : valued vertices facets ≡ on_facets p
  same_relation = rw (e, f) refl

  pub made_rows : (before now : PoolState) (i : IncidenceState) → IsToldIn before now (valued vertices facets) i → HasRowsOf p before now
  made_rows before now i told = record {
    incidence = i;
    told = subst (λ (R : TightRelation). IsToldIn before now R i) same_relation told;
  }

  pub made_faces : (before now : TableState) → length p.vertices ≤ before.members → length p.facets ≤ before.functions
      → now.members ≡ before.members → now.functions ≡ before.functions → IsTableOf (valued vertices facets) now → AreFacesOf p now
  made_faces before now l m g h table = record {
    members_fit = omega arith;
    functions_fit = omega arith;
    faces = subst (λ (R : TightRelation). IsTableOf R now) same_relation table;
  }

pub handed_values : (pair : PairState) → IsPair pair → (vertices : List (List ℤ)) (facets : List Affine) → vertices ≡ pair.m.vertices
    → facets ≡ pair.m.facets → HaveValues vertices facets
handed_values pair is vertices facets e f = rw (e, f) (facet_values pair.m is.polytope is.reflexive pair.m.vertices
    (vertices_light pair.m is.polytope))
