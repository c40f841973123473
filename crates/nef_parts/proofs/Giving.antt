-- What a call of a search gives.
use Rattle.std.specs.Prelude.{ℤ, pos, negsuc, ◌≤ℤ◌, true, false, ◌/◌, ◌%◌, ◌*◌}
use Rattle.std.specs.List.{AllZip, Contains}
use Rattle.std.proofs.Common.{◌≡◌, ◌≢◌, ◌⊎◌, inl, inr, ℕ, ◌+◌, ◌<◌, ◌≤◌, Bool, List, [], length, get_or, refl, sym, ap, ◌∙◌, subst, arith}
use Rattle.std.proofs.Math.Nat.{mul-le-mul_left}
use Rattle.std.proofs.lemmas.Nat.{div-mul-add, mod-mul-add}
use Rattle.std.proofs.Math.ListN.{set}
use Rattle.std.proofs.lemmas.Bool.{cases_lt}
use Rattle.std.proofs.lemmas.Slice.Zip.{AllZip-map}
use Rattle.std.proofs.lemmas.List.{map-id, get_or_default, get_or-set_same, get_or-set_other}
use Rattle.std.proofs.lemmas.List.Elements.{All-contains, Contains-get_or}
use Rattle.lattice_theory.proofs.Integers.{linear}
use Rattle.nef_theory.specs.Nef.{pairing_at, IsPartPoint}
use Rattle.nef_theory.specs.Reflexive.{AreAtLeastMinusOne}
use Rattle.nef_theory.specs.Agreement.{Agrees}
use Rattle.nef_parts.specs.declared.masks.VertexMask.{VertexMask}
use Rattle.nef_parts.specs.declared.masks.Table.{Table}
use Rattle.nef_parts.specs.declared.beginnings.Beginning.{Beginning}
use Rattle.nef_parts.specs.Partitions.{IsPointAt, ArePointsOf, AreNefPartitions, IsNefAt, HasNefPartitions}
use Rattle.nef_parts.specs.Listing.{partitions, given_of}
use Rattle.nef_parts.specs.steps.Rows.{vector_at}
use Rattle.nef_parts.specs.steps.Tables.{IsCandidate, IsTable}
use Rattle.nef_parts.specs.steps.Beginnings.{IsBeginning}
use Rattle.nef_parts.specs.steps.Agreeing.{AllAgree, HasAgreeingPlace, AgreesIn}
use Rattle.nef_parts.specs.steps.Completions.{Steps}
use Rattle.nef_parts.specs.steps.Nef.{IsNefIn, lists_in}
use Rattle.nef_parts.proofs.RowAgreements.{candidate_agrees, filled, nef_agrees}
use Rattle.nef_parts.proofs.Listings.{are_partitions}
use Rattle.nef_parts.proofs.Counting.{more_given, next_given, all_given, one_given, first_given, none_given, nothing_given}

at_least_zero : (a : ℤ) → negsuc 0 ≤ℤ a → a ≢ negsuc 0 → pos 0 ≤ℤ a
at_least_zero a h d = omega (arith, linear)

-- a lattice point that agrees with all part numbers is the point of the part
point_is : (n : ℕ) (normals points : List (List ℤ)) → AreAtLeastMinusOne n normals points → (b : List ℕ) (m : List ℤ) (i : ℕ) (x : List ℤ)
    → Contains points x → Agrees normals (length normals) b m i x → IsPartPoint n normals b m i x
point_is n normals points least b m i x member agrees =
    let low = (least x).0 member in
    record {
      dimension = low.0;
      own = agrees.own;
      others = agrees.others;
      least = λ e h s. low.1 e h;
      apart = λ e h d. at_least_zero (pairing_at normals x e) (low.1 e h) (λ t. d (agrees.inside e h t));
    }

-- the place that is told for a vertex and part
place_is : (t : Table) → IsTable t → (b : List ℕ) (g : Beginning) → IsBeginning b g → length b ≡ length t.normals.items → (v i place : ℕ)
    → v < length t.vertices.items → i < 3
    → ((d : VertexMask) → HasAgreeingPlace (get_or t.masks.items v d) g i place) → IsPointAt (lists_in t) b v i place
place_is t is b g begins whole v i place h part has =
    let l : v < length t.masks.items = omega (arith, h, is.masks.count) in
    let d = filled t.masks.items v l in
    let mask = is.masks.are v d l in
    let a = has d in
    let cand = All-contains (IsCandidate t.normals.items t.points.items (vector_at t.vertices.items v)) (get_or t.masks.items v d).candidates.items
    a.0 mask.sound a.1.0.0 in
    let x = vector_at t.points.items a.0.place in
    let agrees = candidate_agrees _ t.normals.items t.points.items is.lists.least (vector_at t.vertices.items v) (get_or t.masks.items v d) mask b g
    begins i part whole a.0 a.1.0.0 a.1.1 in
    subst (IsPointAt (lists_in t) b v i) a.1.0.1 (record {
      within = cand.within;
      is = point_is _ t.normals.items t.points.items is.lists.least b (vector_at t.vertices.items v) i x
          (Contains-get_or t.points.items a.0.place [] cand.within) agrees;
    })

below_all : (v i r n : ℕ) → v < n → i < r → (v * r + i) < n * r
below_all v i r n h l = let m = mul-le-mul_left r (let k : v + 1 ≤ n = omega arith in k) in omega (arith, m, l)

pub points_are : (t : Table) → IsTable t → (r : ℕ) → r ≤ 3 → (b : List ℕ) (g : Beginning) → IsBeginning b g
    → length b ≡ length t.normals.items → (places : List ℕ) → length places ≡ length t.vertices.items * r
    → ((k : ℕ) → k < length places → AgreesIn t.masks.items g r k (get_or places k 0)) → ArePointsOf (lists_in t) r b places
points_are t is r few b g begins whole places count agree = record {
  count = count;
  are = λ v i h l.
      let k = v * r + i in
      let a = agree k (let m = below_all v i r (length t.vertices.items) h l in omega (arith, m, count)) in
      place_is t is b g begins whole v i (get_or places k 0) h (omega (arith, l, few))
      (λ d. subst (λ (j : ℕ). HasAgreeingPlace (get_or t.masks.items v d) g j (get_or places k 0)) (mod-mul-add v r i l)
      (subst (λ (u : ℕ). HasAgreeingPlace (get_or t.masks.items u d) g (k % r) (get_or places k 0)) (div-mul-add v r i l) (a d)));
}

-- one place more
pub next_point : (masks : List VertexMask) (g : Beginning) (r : ℕ) (points : List ℕ) (k place : ℕ) (m : VertexMask) → k < length points
    → k / r < length masks → m ≡ get_or masks (k / r) m → ((j : ℕ) → j < k → AgreesIn masks g r j (get_or points j 0))
    → HasAgreeingPlace m g (k % r) place → (j : ℕ) → j < k + 1 → AgreesIn masks g r j (get_or (set points k place) j 0)
next_point masks g r points k place m within inside is before at_k j h = by (cases_lt j k)
  where
    by : (j < k) ⊎ (k ≤ j) → AgreesIn masks g r j (get_or (set points k place) j 0)
    by (inl l) = subst (AgreesIn masks g r j) (sym (get_or-set_other points k j place 0 (omega (arith, l)))) (before j l)
    by (inr n) =
        let same : k ≡ j = omega arith in
        subst (λ (i : ℕ). AgreesIn masks g r i (get_or (set points k place) i 0)) same
        (subst (AgreesIn masks g r k) (sym (get_or-set_same points k place 0 within))
        (λ d. subst (λ (mask : VertexMask). HasAgreeingPlace mask g (k % r) place) (is ∙ get_or_default masks (k / r) m d inside) at_k))

-- the candidates agree with a nef partition
pub nef_agree : (t : Table) → IsTable t → (r : ℕ) → r ≤ 3 → (b : List ℕ) (g : Beginning) → IsBeginning b g → IsNefIn t r b
    → AllAgree t.masks.items g r
nef_agree t is r few b g begins nef =
    nef_agrees _ t.vertices.items t.normals.items t.points.items is.lists.least t.masks.items is.masks r few b g begins b
    (let c = nef.count in omega arith) (λ e h. refl) nef

-- what a step to the next one gives, and what it says where there is none
module _ (t : Table) (is : IsTable t) (r : ℕ) (old new : List ℕ) where
  all : AreNefPartitions (lists_in t) r (partitions (lists_in t) r)
  all = are_partitions (lists_in t) r is.lists.least

  pub none_more : (started : Bool) → (started ≡ true → IsNefIn t r old) → Steps (IsNefIn t r) started old new false
      → HasNefPartitions (lists_in t) r (given_of (lists_in t) r started old)
  none_more true at none = all_given (lists_in t) r all old (at refl) none
  none_more false at none =
      subst (HasNefPartitions (lists_in t) r) (sym (nothing_given (lists_in t) r old)) (none_given (lists_in t) r all none)

  pub step_nef : (started : Bool) → Steps (IsNefIn t r) started old new true → IsNefIn t r new
  step_nef true next = next.holds
  step_nef false first = first.0

  pub step_counts : (started : Bool) → (started ≡ true → IsNefIn t r old) → Steps (IsNefIn t r) started old new true
      → given_of (lists_in t) r true new ≡ given_of (lists_in t) r started old + 1
  step_counts true at next = more_given (lists_in t) r all old new (at refl) next
  step_counts false at first =
      one_given (lists_in t) r all new first.0 first.1 ∙ ap (λ (n : ℕ). n + 1) (sym (nothing_given (lists_in t) r old))

  pub step_given : (started : Bool) → (started ≡ true → IsNefIn t r old) → Steps (IsNefIn t r) started old new true
      → IsNefAt (lists_in t) r (given_of (lists_in t) r started old) new
  step_given true at next = next_given (lists_in t) r all old new (at refl) next
  step_given false at first =
      subst (λ (n : ℕ). IsNefAt (lists_in t) r n new) (sym (nothing_given (lists_in t) r old)) (first_given (lists_in t) r all new first.0 first.1)

-- a copy of numbers
pub same_copy : (xs ys : List ℕ) → AllZip (λ x y. y ≡ x) xs ys → ys ≡ xs
same_copy xs ys h = AllZip-map (λ x. x) xs ys h ∙ map-id xs
