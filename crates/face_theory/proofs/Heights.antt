-- Heights are told once, and counting over a table in order finds them.
use Rattle.std.proofs.Common.{Contains, ◌≡◌, ℕ, suc, ◌<◌, ◌≤◌, max, Bool, true, not, List, [], ◌∷◌, length, map, ◌⊎◌, inl, inr, ⊎_elim, refl, sym, ◌∙◌, subst, arith}
use Rattle.std.proofs.lemmas.Bool.{cases_lt, cond_both, and_parts, and_from, not-true, not_from_false, false_from_ne_true}
use Rattle.lattice_theory.proofs.Members.{Each, empty, more, In, here, there, each_head, each_tail, each_in, each_from_all, each_from_in, in_from_contains, contains_from_in}
use Rattle.lattice_theory.proofs.Sublists.{from_map, in_map}
use Rattle.face_theory.specs.Sets.{IsProperPart, IsProperWhole, is_same, is_part, set_size, is_proper_part, is_proper_whole}
use Rattle.face_theory.specs.Ranks.{RankedFace, rank_over, AreRanked, AreSorted, IsNoLarger, IsNoSmaller}
use Rattle.face_theory.specs.Chains.{IsChainFrom, IsHeight}
use Rattle.face_theory.specs.Faces.{TightRelation, IsFace, AreFaces, IsRank, IsCorank}
use Rattle.face_theory.specs.Laws.{RankIsUnique, CorankIsUnique, TableHasRanks, TableHasCoranks, RankStep, CorankStep, RankRises}
use Rattle.face_theory.proofs.Sets.{true_false, is_same-true, is_same_refl, is_part-true, part-true, size_below}

-- one height only
pub height_unique : {X : Type 0} {P : X → Type 0} {less : X → X → Type 0} {top : X} {j k : ℕ} → IsHeight P less top j
    → IsHeight P less top k → j ≡ k
height_unique a b = let p = b.most a.longest a.is_chain in let q = a.most b.longest b.is_chain in let e = a.length_is in
    let f = b.length_is in omega arith

pub rank_is_unique_lem : RankIsUnique
rank_is_unique_lem R face j k a b = height_unique a b

pub corank_is_unique_lem : CorankIsUnique
corank_is_unique_lem R face j k a b = height_unique a b

-- rank_over is 0, or 1 + the rank of something less
abbrev Attained : (List Bool → List Bool → Bool) → List RankedFace → List Bool → ℕ → Type 0
Attained test table x k = (k ≡ 0) ⊎ ((q : RankedFace) × In q table × (test q.set x ≡ true) × (k ≡ suc q.rank))

attained_deeper : (test : List Bool → List Bool → Bool) {table : List RankedFace} (x : List Bool) {k : ℕ} (r : RankedFace)
    → Attained test table x k → Attained test (r ∷ table) x k
attained_deeper test x r (inl e) = inl e
attained_deeper test x r (inr (q, i, t, e)) = inr (q, there i, t, e)

attained_max : (test : List Bool → List Bool → Bool) {table : List RankedFace} (x : List Bool) (k : ℕ) (r : RankedFace)
    → test r.set x ≡ true → Attained test table x k → Attained test (r ∷ table) x (max (suc r.rank) k)
attained_max test {table = table} x k r t a = ⊎_elim
    (λ (h : k < suc r.rank). inr (r, here, t, omega arith))
    (λ (h : suc r.rank ≤ k). let e : k ≡ max (suc r.rank) k = omega arith in subst (λ (z : ℕ). Attained test (r ∷ table) x z) e
    (attained_deeper test x r a))
    (cases_lt k (suc r.rank))

attained : (test : List Bool → List Bool → Bool) (table : List RankedFace) (x : List Bool) → Attained test table x
    (rank_over test table x)
attained test [] x = inl refl
attained test (r ∷ table) x = let a = attained test table x in
    cond_both (test r.set x) (max (suc r.rank) (rank_over test table x)) (rank_over test table x) (λ z. Attained test (r ∷ table) x z)
    (λ t. attained_max test x (rank_over test table x) r t a) (λ f. attained_deeper test x r a)

-- and no less
over_least : (test : List Bool → List Bool → Bool) (table : List RankedFace) (x : List Bool) {q : RankedFace} → In q table
    → test q.set x ≡ true → suc q.rank ≤ rank_over test table x
over_least test [] x i e = elim i [ ]
over_least test (r ∷ table) x here e = cond_both (test r.set x) (max (suc r.rank) (rank_over test table x)) (rank_over test table x)
    (λ z. suc r.rank ≤ z) (λ t. omega arith) (λ f. absurd (true_false e f))
over_least test (r ∷ table) x {q = q} (there i) e = let h = over_least test table x i e in
    cond_both (test r.set x) (max (suc r.rank) (rank_over test table x)) (rank_over test table x) (λ z. suc q.rank ≤ z)
    (λ t. omega arith) (λ f. h)

-- y stands in the table
pub record Stands (table : List RankedFace) (y : List Bool) : Type 0 where
  pub ranked : RankedFace
  pub member : In ranked table
  pub is : ranked.set ≡ y

module _ (P : List Bool → Type 0) (less : List Bool → List Bool → Type 0) (test : List Bool → List Bool → Bool)
    (sound : (a b : List Bool) → P a → P b → test a b ≡ true → less a b)
    (complete : (a b : List Bool) → P a → P b → less a b → test a b ≡ true) where
  -- a chain is no longer
  chain_most : (before : List RankedFace) (x : List Bool) → P x → Each (λ q. P q.set) before → Each
      (λ q. IsHeight P less q.set q.rank) before
      → ((y : List Bool) → P y → less y x → Stands before y) → (other : List (List Bool)) → IsChainFrom P less x other
      → length other ≤ rank_over test before x
  chain_most before x px ps hs covers [] c = omega arith
  chain_most before x px ps hs covers (y ∷ ys) c =
      let s = covers y c.0 c.1 in
      let m = (each_in hs s.member).most ys (subst (λ (z : List Bool). IsChainFrom P less z ys) (sym s.is) c.2) in
      let o = over_least test before x s.member
      (complete s.ranked.set x (each_in ps s.member) px (subst (λ (z : List Bool). less z x) (sym s.is) c.1)) in
      omega arith

  -- and some chain is as long
  height_by : (before : List RankedFace) (x : List Bool) → P x → Each (λ q. P q.set) before → Each
      (λ q. IsHeight P less q.set q.rank) before
      → (k : ℕ) → ((other : List (List Bool)) → IsChainFrom P less x other → length other ≤ k) → Attained test before x k
      → IsHeight P less x k
  height_by before x px ps hs k most (inl e) = record { longest = []; length_is = sym e; is_chain = tt; most = most }
  height_by before x px ps hs k most (inr (q, i, t, e)) = let h = each_in hs i in record {
    longest = q.set ∷ h.longest;
    length_is = let l = h.length_is in omega arith;
    is_chain = (each_in ps i, sound q.set x (each_in ps i) px t, h.is_chain);
    most = most;
  }

  pub height_of : (before : List RankedFace) (x : List Bool) → P x → Each (λ q. P q.set) before → Each
      (λ q. IsHeight P less q.set q.rank) before
      → ((y : List Bool) → P y → less y x → Stands before y) → IsHeight P less x (rank_over test before x)
  height_of before x px ps hs covers = height_by before x px ps hs (rank_over test before x) (chain_most before x px ps hs covers)
      (attained test before x)

  module _ (comes : List Bool → List Bool → Type 0) (never : (a b : List Bool) → P a → P b → less a b → comes b a → ⊥)
      (strict : (a : List Bool) → less a a → ⊥) where
    -- what is less than a face of the table stands in the table
    abbrev pub Closed : List RankedFace → Type 0
    Closed table = (s : RankedFace) → In s table → (y : List Bool) → P y → less y s.set → Stands table y

    -- without its last
    drop_last : {r : RankedFace} {before : List RankedFace} {y : List Bool} → Stands (r ∷ before) y → (r.set ≡ y → ⊥) → Stands before y
    drop_last {r = r} {before = before} {y = y} s n = by s.ranked s.member s.is
      where
        by : (q : RankedFace) → In q (r ∷ before) → q.set ≡ y → Stands before y
        by q here e = absurd (n e)
        by q (there i) e = record { ranked = q; member = i; is = e }

    closed_before : (r : RankedFace) (before : List RankedFace) → Each (λ q. P q.set) (r ∷ before) → Each (λ s. comes s.set r.set) before
        → Closed (r ∷ before) → Closed before
    closed_before r before ps cs h s i y py l = drop_last (h s (there i) y py l)
        (λ e. never r.set s.set (each_head ps) (each_in (each_tail ps) i) (subst (λ (z : List Bool). less z s.set) (sym e) l)
        (each_in cs i))

    covers : (r : RankedFace) (before : List RankedFace) → Closed (r ∷ before) → (y : List Bool) → P y → less y r.set → Stands before y
    covers r before h y py l = drop_last (h r here y py l) (λ e. strict y (subst (λ (z : List Bool). less y z) e l))

    -- one after another
    pub heights : (table : List RankedFace) → Each (λ q. P q.set) table → Closed table → AreSorted comes table → AreRanked test table
        → Each (λ q. IsHeight P less q.set q.rank) table
    heights [] ps h s a = empty
    heights (r ∷ before) ps h s a =
        let cs = each_from_all (λ q. comes q.set r.set) before s.0 in
        let hs = heights before (each_tail ps) (closed_before r before ps cs h) s.1 a.1 in
        more (subst (IsHeight P less r.set) (sym a.0) (height_of before r.set (each_head ps) (each_tail ps) hs (covers r before h))) hs

-- a table of all faces
table_faces : (R : TightRelation) (table : List RankedFace) → AreFaces R (map (λ r. r.set) table) → Each (λ q. IsFace R q.set) table
table_faces R table h = each_from_in table (λ q i. (h q.set).0 (contains_from_in (in_map (λ (r : RankedFace). r.set) i)))

table_stands : (R : TightRelation) (table : List RankedFace) → AreFaces R (map (λ r. r.set) table) → (y : List Bool) → IsFace R y
    → Stands table y
table_stands R table h y py = let i = from_map (λ (r : RankedFace). r.set) table
    (in_from_contains (map (λ (r : RankedFace). r.set) table) ((h y).1 py)) in
    record { ranked = i.source; member = i.member; is = sym i.is }

-- the test of order
pub below_sound : (R : TightRelation) (a b : List Bool) → is_proper_part a b ≡ true → IsProperPart a b
below_sound R a b e = let p = and_parts (is_part a b) (not (is_same a b)) e in (
  is_part-true a b p.0,
  λ s. true_false (subst (λ (c : List Bool). is_same a c ≡ true) s (is_same_refl a))
      (not-true (is_same a b) p.1),
)

pub below_complete : (R : TightRelation) (a b : List Bool) → IsFace R a → IsFace R b → IsProperPart a b → is_proper_part a b ≡ true
below_complete R a b fa fb h = and_from (is_part a b) (not (is_same a b)) (part-true a b (fa.width ∙ sym fb.width) h.0)
    (not_from_false (is_same a b) (false_from_ne_true (is_same a b) (λ e. h.1 (is_same-true a b e))))

below_never : (R : TightRelation) (a b : List Bool) → IsFace R a → IsFace R b → IsProperPart a b → set_size b ≤ set_size a → ⊥
below_never R a b fa fb h c = let l = size_below a b (fa.width ∙ sym fb.width) h in omega arith

-- the laws
pub table_has_ranks_lem : TableHasRanks
table_has_ranks_lem R table h s a r c =
    each_in (heights (IsFace R) IsProperPart is_proper_part (λ x y px py. below_sound R x y) (below_complete R) IsNoLarger
    (below_never R) (λ x l. l.1 refl)
    table (table_faces R table h) (λ q i y py l. table_stands R table h y py) s a) (in_from_contains table c)

pub table_has_coranks_lem : TableHasCoranks
table_has_coranks_lem R table h s a r c =
    each_in (heights (IsFace R) IsProperWhole is_proper_whole (λ x y px py. below_sound R y x)
    (λ x y px py. below_complete R y x py px) IsNoSmaller (λ x y px py. below_never R y x py px) (λ x l. l.1 refl)
    table (table_faces R table h) (λ q i y py l. table_stands R table h y py) s a) (in_from_contains table c)

-- the step
listed_stands : (before : List RankedFace) (x : List Bool) → Contains (map (λ r. r.set) before) x → Stands before x
listed_stands before x c = let i = from_map (λ (r : RankedFace). r.set) before
    (in_from_contains (map (λ (r : RankedFace). r.set) before) c) in
    record { ranked = i.source; member = i.member; is = sym i.is }

pub rank_step_lem : RankStep
rank_step_lem R before face f fs rs have =
    height_of (IsFace R) IsProperPart is_proper_part (λ x y px py. below_sound R x y) (below_complete R) before face f
    (each_from_all (λ r. IsFace R r.set) before fs) (each_from_all (λ r. IsRank R r.set r.rank) before rs)
    (λ x px l. listed_stands before x (have x px l))

pub corank_step_lem : CorankStep
corank_step_lem R before face f fs rs have =
    height_of (IsFace R) IsProperWhole is_proper_whole (λ x y px py. below_sound R y x)
    (λ x y px py. below_complete R y x py px) before face f
    (each_from_all (λ r. IsFace R r.set) before fs) (each_from_all (λ r. IsCorank R r.set r.rank) before rs)
    (λ x px l. listed_stands before x (have x px l))

pub rank_rises_lem : RankRises
rank_rises_lem R a b j k fa fb l ra rb = (
  let m = rb.most (a ∷ ra.longest) (fa, l, ra.is_chain) in let e = ra.length_is in omega arith,
  size_below a b (fa.width ∙ sym fb.width) l,
)
