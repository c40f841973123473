-- What the steps on the way to the numbers of a cone need and give.
use Rattle.std.specs.List.{All}
use Rattle.std.specs.Prelude.{Result, Ok, Err, MatchResult}
use Rattle.std.proofs.Common.{◌≡◌, ℕ, ◌+◌, ◌≤◌, List, length, sym, ◌∙◌, subst, arith}
use Rattle.std.proofs.lemmas.List.Elements.{All-weaker}
use Rattle.bit_pool.specs.Pools.{PoolState}
use Rattle.lattice_core.specs.Dimensions.{dimension_of}
use Rattle.lattice_core.specs.Stops.{Stops}
use Rattle.lattice_core.specs.declared.faults.Fault.{Fault}
use Rattle.lattice_core.specs.declared.faults.Fault.TheVariants as faults
use Rattle.lattice_core.specs.declared.faults.Refusal.{Refusal}
use Rattle.lattice_core.specs.declared.faults.Refusal.TheVariants.{Flat, Limit}
use Rattle.lattice_core.specs.declared.faults.LimitName.{LimitName}
use Rattle.lattice_core.specs.declared.faults.LimitName.TheVariants.{ConeM, ConeN}
use Rattle.face_theory.specs.Faces.{TightRelation}
use Rattle.face_theory.specs.Pairings.{paired}
use Rattle.face_closing.specs.Tables.{HasMoreFaces}
use Rattle.face_closing.specs.declared.limits.TheConstants.{MOST_FACES}
use Rattle.incidence.specs.Incidences.{IncidenceState, IsHeld, Tells, IsToldIn}
use Rattle.incidence.proofs.Held.{made_is_held_lem}
use Rattle.face_poset.specs.Faces.{FaceState, TableState, IsTableOf}
use Rattle.face_poset.proofs.FaceCounts.{few_faces_lem}
use Rattle.poset_g.specs.Numbered.{HasSmallRanks}
use Rattle.stringy.specs.ConeNumbers.{AreCountsOf}
use Rattle.stringy.specs.Numbers.{EState}
use Rattle.dual_pair.specs.Pairs.{PairState, IsPair}
use Rattle.nef_parts.proofs.Listings.{used_is}
use Rattle.cayley.specs.Limits.{IsWithinRank}
use Rattle.cayley.specs.PairCones.{ConeState, IsConeOf}
use Rattle.cayley.proofs.PairFacts.{some_part}
use Rattle.cayley.proofs.TopRanks.{cone_top_rank_bound_lem}
use Rattle.cone_counts.specs.FaceCounts.{IsNefCone, CountsState, HasCounts, numbers_of}
use Rattle.cone_counts.specs.Limits.{IsCountRefusal}
use Rattle.nef_numbers.specs.Numbers.{IsPartitionInto, IsConeInto, HasFaces, HasConeNumbers, HasNumbers, IsConeLimit, IsConeRefusal, IsNumbersRefusal}
use Rattle.nef_numbers.specs.RoomSteps.{HasRayRoom, IsOpenedFor, HasRoomFor, IsLargeRefusal}
use Rattle.nef_numbers.specs.declared.limits.TheConstants.{MOST_RAYS, MOST_FUNCTIONS}

-- the rows of the cone are as a building asks
pub held_in : (before now : PoolState) (cone : ConeState) (i : IncidenceState) → HasRayRoom before → HasRoomFor cone
    → IsToldIn before now (paired cone.members cone.functions) i → IsHeld now i
held_in before now cone i room few told = (made_is_held_lem before now i (paired cone.members cone.functions)
    (let w = room.width in let v = few.few_rays in omega arith) (let w = room.width in let v = few.few_functions in omega arith) told).0

module _ (pair : PairState) (is : IsPair pair) (cone : ConeState) (nef : IsNefCone pair cone) (r : ℕ) (e : cone.parts ≡ r)
    (w : IsWithinRank (dimension_of pair.m.vertices) r) where
  few_together : cone.dim + cone.parts ≤ 7
  few_together = let d = nef.is_cone.dim_is in let l = w.1 in omega arith

  ranks_within : (table : TableState) → HasFaces cone table → All (λ face. face.rank ≤ cone.dim + cone.parts) table.faces
  ranks_within table h = cone_top_rank_bound_lem pair nef.part_of cone table is nef.is_cone h.are_faces

  pub small_ranks : (table : TableState) → HasFaces cone table → HasSmallRanks table
  small_ranks table h = All-weaker (λ (face : FaceState). face.rank ≤ cone.dim + cone.parts) (λ (face : FaceState). face.rank ≤ 8)
      (λ face l. let m = few_together in omega arith) table.faces (ranks_within table h)

  pub counts_of_table : (table : TableState) (counts : CountsState) → HasFaces cone table → HasCounts cone table counts → AreCountsOf table (numbers_of counts)
  counts_of_table table counts h c = record {
    faces = c.faces_are;
    ranks = All-weaker (λ (face : FaceState). face.rank ≤ cone.dim + cone.parts) (λ (face : FaceState). face.rank ≤ counts.sum_dim)
        (λ face l. let m = c.sum_dim_is in omega arith) table.faces (ranks_within table h);
  }

  pub some_parts : 1 ≤ r
  some_parts =
      let l = some_part cone.parts nef.part_of nef.is_cone.nef.growth
      (let c = nef.is_cone.nef.count in let s = is.dual.polytope.solid.sized.are_points.some in omega arith) in
      omega arith

-- a table with few faces
pub few_or_more : (cone : ConeState) (table : TableState) → HasFaces cone table → HasMoreFaces (paired cone.members cone.functions) → ⊥
few_or_more cone table h more = few_faces_lem (paired cone.members cone.functions) table h.are_faces h.few more

-- the refusals of the steps are those of the cone
counts_refused : (cone : ConeState) (table : TableState) (cause : Refusal) → HasFaces cone table → IsCountRefusal cone cause → IsConeRefusal cone cause
counts_refused cone table (Flat f) t h = absurd h
counts_refused cone table (Limit ConeM told) t h = (few_or_more cone table t, h)
counts_refused cone table (Limit ConeN told) t h = (few_or_more cone table t, h)
counts_refused cone table (Limit other told) t h = absurd h

not_refused : (cone : ConeState) (table : TableState) (counts : CountsState) → HasCounts cone table counts → (cause : Refusal) → IsCountRefusal cone cause → ⊥
not_refused cone table counts c (Flat f) h = absurd h
not_refused cone table counts c (Limit ConeM told) h = c.few_on_m h.0
not_refused cone table counts c (Limit ConeN told) h = c.few_on_n h.1
not_refused cone table counts c (Limit other told) h = absurd h

coefficient_refused : (cone : ConeState) (table : TableState) (counts : CountsState) (cause : Refusal) → HasFaces cone table
    → HasCounts cone table counts → IsLargeRefusal table cause → IsConeRefusal cone cause
coefficient_refused cone table counts (Flat f) t c h = absurd h
coefficient_refused cone table counts (Limit name told) t c h = let l = h.1 in subst (λ (n : LimitName). IsConeLimit cone n told) (sym h.0) (record {
  table = table;
  has_faces = t;
  counted = not_refused cone table counts c;
  from = l.from;
  to = l.to;
  degree = l.degree;
  value = l.value;
  is_first = l.is_first;
  told_is = l.told_is;
})

-- a cone has as many parts as the partition
pub parts_of_cone : (pair : PairState) (r : ℕ) (part_of places : List ℕ) (cone : ConeState) → IsPartitionInto pair r part_of places
    → IsConeOf pair part_of cone → cone.parts ≡ r
parts_of_cone pair r part_of places cone p h = sym (used_is cone.parts part_of h.nef.growth) ∙ used_is p.is_partition.parts part_of p.is_partition.nef.growth ∙ p.parts_are

-- what a table tells of the cone, and how many faces it has
pub faces_found : (cone : ConeState) (pool : PoolState) (i : IncidenceState) (table : TableState) → Tells pool i (paired cone.members cone.functions)
    → ((R : TightRelation) → Tells pool i R → IsTableOf R table) → (n : ℕ) → n ≡ length table.faces → n ≤ MOST_FACES → HasFaces cone table
faces_found cone pool i table t h n e l = record { are_faces = h (paired cone.members cone.functions) t; few = omega arith }

-- the large table is large enough
pub large_enough : (cone : ConeState) (large : TableState) → IsOpenedFor MOST_RAYS MOST_FUNCTIONS large → HasRoomFor cone
    → (length cone.members ≤ large.members) × (length cone.functions ≤ large.functions)
large_enough cone large o h = let a = h.few_rays in let b = h.few_functions in let c = o.members_are in let d = o.functions_are in (omega arith, omega arith)

-- the answer of a partition's cone is that of the partition
pub numbers_answer : (pair : PairState) (r : ℕ) (part_of : List ℕ) (cone : ConeState) → IsConeInto pair r part_of cone
    → (answer : Result EState Fault) → MatchResult answer (HasConeNumbers cone) (Stops (IsConeRefusal cone))
    → MatchResult answer (HasNumbers pair r part_of) (Stops (IsNumbersRefusal pair r part_of))
numbers_answer pair r part_of cone is (Ok e) h = record { cone = cone; is_cone = is; numbers = h }
numbers_answer pair r part_of cone is (Err (faults.Refused cause)) h = record { cone = cone; is_cone = is; refused = h }
numbers_answer pair r part_of cone is (Err faults.NoMemory) h = tt

-- what stops a step stops the work on the cone
pub counts_stop : (cone : ConeState) (table : TableState) → HasFaces cone table → (fault : Fault) → Stops (IsCountRefusal cone) fault
    → Stops (IsConeRefusal cone) fault
counts_stop cone table t (faults.Refused cause) h = counts_refused cone table cause t h
counts_stop cone table t faults.NoMemory h = tt

pub coefficient_stop : (cone : ConeState) (table : TableState) (counts : CountsState) → HasFaces cone table → HasCounts cone table counts → (fault : Fault)
    → Stops (IsLargeRefusal table) fault → Stops (IsConeRefusal cone) fault
coefficient_stop cone table counts t c (faults.Refused cause) h = coefficient_refused cone table counts cause t c h
coefficient_stop cone table counts t c faults.NoMemory h = tt
