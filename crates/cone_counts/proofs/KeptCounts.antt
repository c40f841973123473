-- The counts of both sides, together, and the limits on them.
use Rattle.std.proofs.Common.{◌≡◌, ◌⊎◌, inl, inr, ℕ, suc, ◌+◌, ◌*◌, ◌<◌, ◌≤◌, List, [], length, get_or, refl, sym, ◌∙◌, subst, arith}
use Rattle.std.proofs.lemmas.Bool.{cases_lt}
use Rattle.std.proofs.lemmas.List.{get_or_default}
use Rattle.face_theory.specs.Pairings.{paired}
use Rattle.face_poset.specs.Faces.{TableState, IsTableOf}
use Rattle.cayley_theory.specs.Counts.{CountsOnFace}
use Rattle.cayley_theory.proofs.ConeCounts.{dual_counts_are_single_lem}
use Rattle.base_counts.specs.Counting.{count_at}
use Rattle.dual_pair.specs.declared.side.Side.{Side}
use Rattle.dual_pair.specs.declared.side.Side.TheVariants as sides
use Rattle.cayley.specs.PairCones.{ConeState}
use Rattle.cone_counts.specs.FaceCounts.{CountsState, counts_on, count_of, face_set, HasManyPairs, HasCounts}
use Rattle.cone_counts.specs.CountSteps.{vectors_on, AreSideCounts, HasLarge, AreKeptCounts}
use Rattle.cone_counts.proofs.ConeSides.{face_of}
use Rattle.cone_counts.proofs.FewerPairs.{no_more}

-- the same where all is told otherwise
pub large_same : (set degrees : ℕ) (counts : List ℕ) (k n : ℕ) (others : List ℕ) → set ≡ k → degrees ≡ n → counts ≡ others → HasLarge set degrees counts
    → HasLarge k n others
large_same set degrees counts k n others e f g h = subst (HasLarge k n) g (subst (λ (i : ℕ). HasLarge k i counts) f
    (subst (λ (i : ℕ). HasLarge i degrees counts) e h))

module _ (cone : ConeState) (table : TableState) (side : Side) (counts : List ℕ) (are : AreSideCounts cone table.faces side counts) where
  -- a large number of all vectors is one of many pairs, and without one there are none
  pub many_from : HasLarge (length table.faces) (cone.dim + cone.parts) counts → HasManyPairs cone.dim cone.parts (vectors_on side cone)
  many_from h =
      let c = are.all h.degree h.within in
      record {
        degree = h.degree;
        within = h.within;
        pairs = c.pairs;
        are_pairs = c.are_pairs;
        many = let l = h.large in let e = c.count_is in omega (arith, l, e);
      }

  pub large_from : HasManyPairs cone.dim cone.parts (vectors_on side cone) → HasLarge (length table.faces) (cone.dim + cone.parts) counts
  large_from h = record {
    degree = h.degree;
    within = h.within;
    large =
        let e = dual_counts_are_single_lem cone.dim cone.parts (vectors_on side cone) [] h.degree (count_at counts (length table.faces) h.degree) (length h.pairs)
        (are.all h.degree h.within) (record { pairs = h.pairs; are_pairs = h.are_pairs; count_is = refl }) in
        let m = h.many in omega (arith, m, e);
  }

  -- where there is none, no number is large
  pub few_at : (HasLarge (length table.faces) (cone.dim + cone.parts) counts → ⊥) → (s f : ℕ) → s < cone.dim + cone.parts → f < length table.faces
      → count_at counts f s ≤ 2097152
  few_at none s f l m = by (cases_lt 2097152 (count_at counts (length table.faces) s))
    where
      by : (2097152 < count_at counts (length table.faces) s) ⊎ (count_at counts (length table.faces) s ≤ 2097152) → count_at counts f s ≤ 2097152
      by (inl h) = absurd (none (record { degree = s; within = l; large = h }))
      by (inr h) =
          let c = are.face f s m l in
          let k = no_more cone.dim cone.parts (vectors_on side cone) _ s (count_at counts f s) (count_at counts (length table.faces) s) c (are.all s l) in
          omega (arith, h, k)

module _ (cone : ConeState) (table : TableState) (t : IsTableOf (paired cone.members cone.functions) table) (m n : List ℕ)
    (am : AreSideCounts cone table.faces sides.M m) (an : AreSideCounts cone table.faces sides.N n) (sum_dim faces : ℕ)
    (sum_is : sum_dim ≡ cone.dim + cone.parts) (faces_are : faces ≡ length table.faces)
    (few_m : HasLarge (length table.faces) (cone.dim + cone.parts) m → ⊥) (few_n : HasLarge (length table.faces) (cone.dim + cone.parts) n → ⊥) where
  abbrev state : CountsState
  state = record { sum_dim = sum_dim; faces = faces; m = m; n = n }

  pub has_counts : HasCounts cone table state
  has_counts = record {
    sum_dim_is = sum_is;
    faces_are = faces_are;
    on_face = λ f s l k. on_face f s l k;
    on_dual_face = λ f s l k. an.face f s l k;
    few_on_m = λ h. few_m (large_from cone table sides.M m am h);
    few_on_n = λ h. few_n (large_from cone table sides.N n an h);
  }
    where
      on_face : (f s : ℕ) → f < length table.faces → s < cone.dim + cone.parts
          → CountsOnFace cone.dim cone.parts cone.members cone.functions (face_set cone table f) s (count_at m f s)
      on_face f s l k =
          let c = am.face f s l k in
          record { dual = _; is_dual = (face_of cone table t f l).dual; pairs = c.pairs; are_pairs = c.are_pairs; count_is = c.count_is }

  pub kept_counts : 1 ≤ sum_dim → sum_dim ≤ 7 → AreKeptCounts state
  kept_counts some most = record {
    some = some;
    most = most;
    room_on_m = room m am.whole;
    room_on_n = room n an.whole;
    few = few;
  }
    where
      room : (counts : List ℕ) → length counts ≡ suc (length table.faces) * 7 → faces * 7 ≤ length counts
      room counts e = let f = faces_are in omega (arith, e, f)

      few : (side : Side) (degree face : ℕ) → degree < sum_dim → face < faces → count_of state side degree face ≤ 2097152
      few sides.M degree face l k = few_at cone table sides.M m am few_m degree face (omega (arith, l, sum_is)) (omega (arith, k, faces_are))
      few sides.N degree face l k = few_at cone table sides.N n an few_n degree face (omega (arith, l, sum_is)) (omega (arith, k, faces_are))

-- a number that is told is one of those that are kept
pub told_few : (state : CountsState) (a : AreKeptCounts state) (side : Side) (degree face x v : ℕ) → degree < state.sum_dim → face < state.faces
    → x ≡ get_or (counts_on state side) (face * 7 + degree) x → v ≡ x → v ≤ 2097152
told_few state a side degree face x v l m e f = subst (λ (k : ℕ). k ≤ 2097152)
    (sym (f ∙ e ∙ get_or_default (counts_on state side) (face * 7 + degree) x 0 (by side))) (a.few side degree face l m)
  where
    rows : suc face * 7 ≤ state.faces * 7
    rows = omega (arith, m)

    by : (side : Side) → face * 7 + degree < length (counts_on state side)
    by sides.M = let r = a.room_on_m in let s = rows in let d = a.most in omega (arith, r, s, d, l)
    by sides.N = let r = a.room_on_n in let s = rows in let d = a.most in omega (arith, r, s, d, l)
