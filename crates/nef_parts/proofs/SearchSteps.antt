-- The steps of the search for the first nef partition that completes a beginning.
use Rattle.std.specs.Prelude.{pos, true, false}
use Rattle.std.specs.Bool.{Decides}
use Rattle.std.proofs.Common.{Bool, ◌≡◌, ◌≢◌, ◌⊎◌, inl, inr, ℕ, zero, suc, ◌+◌, ◌<◌, ◌≤◌, max, min}
use Rattle.std.proofs.Common.{List, [], ◌∷◌, ◌++◌, length, map, take, drop, refl, sym, ap, ◌∙◌, subst, arith}
use Rattle.std.proofs.Math.ListN.{set}
use Rattle.std.proofs.lemmas.Bool.{cases_lt}
use Rattle.std.proofs.lemmas.List.{get_or-take, take_all, take_more, take_more_set, length-take-le}
use Rattle.nef_theory.specs.Nef.{part_at, IsGrowthList}
use Rattle.nef_theory.proofs.GrowthLists.{growth_none, growth_push, growth_next}
use Rattle.nef_parts.specs.declared.masks.Table.{Table}
use Rattle.nef_parts.specs.declared.beginnings.Beginning.{Beginning}
use Rattle.nef_parts.specs.steps.Tables.{IsTable}
use Rattle.nef_parts.specs.steps.Nef.{IsNefIn}
use Rattle.nef_parts.specs.steps.Beginnings.{IsGrowth, IsBeginning}
use Rattle.nef_parts.specs.steps.Agreeing.{AllAgree}
use Rattle.nef_parts.specs.steps.Completions.{AgreesOn, IsCompletion, Completes}
use Rattle.nef_parts.proofs.BeginningSteps.{split_at}
use Rattle.nef_parts.proofs.RowAgreements.{agreeing_is_nef, nef_agrees}
use Rattle.nef_parts.proofs.Listings.{used_is}
use Rattle.nef_parts.proofs.Completions.{same_list, passed_next, none_there, kept_front, found_here}

-- lists that agree on their first places have the same beginning
pub same_front : (k : ℕ) (a c : List ℕ) → k ≤ length a → k ≤ length c → AgreesOn k a c → take k c ≡ take k a
same_front zero a c h l agrees = refl
same_front (suc k) [] c h l agrees = absurd (omega arith)
same_front (suc k) (x ∷ a) [] h l agrees = absurd (omega arith)
same_front (suc k) (x ∷ a) (y ∷ c) h l agrees =
    let first : y ≡ x = agrees 0 (omega arith) in
    let rest = same_front k a c (omega arith) (omega arith) (λ e m. agrees (suc e) (omega (arith, m))) in
    λ i. first i ∷ rest i

-- each beginning of a growth list is one
pub growth_front : (r : ℕ) (c : List ℕ) → r ≤ 3 → IsGrowthList r c → (k : ℕ) → k ≤ length c → IsGrowth (take k c)
growth_front r c few g zero h = record { used = 0; few = omega arith; is = growth_none }
growth_front r c few g (suc k) h =
    let f = growth_front r c few g k (omega arith) in
    let within : k < length c = omega arith in
    let next = growth_next r f.used (part_at c k) (take k c) (drop (k + 1) c) f.is (subst (IsGrowthList r) (split_at c k within) g) in
    let used = f.few in
    let more : take (suc k) c ≡ take k c ++ part_at c k ∷ [] =
    ap (λ (j : ℕ). take j c) (let e : suc k ≡ k + 1 = omega arith in e) ∙ take_more c k 0 within in
    subst IsGrowth (sym more) (record {
      used = max f.used (suc (part_at c k));
      few = omega (arith, next.1);
      is = growth_push f.used (part_at c k) (take k c) f.is next.0;
    })

module _ (t : Table) (is : IsTable t) (r : ℕ) (few : r ≤ 3) (old : List ℕ) (begin : Beginning)
    (size : length old ≡ length t.normals.items) (within : begin.count ≤ length old) (begins : IsBeginning (take begin.count old) begin) where
  abbrev place : ℕ
  place = begin.count

  columns : (c : List ℕ) → IsNefIn t r c → length c ≡ length t.normals.items
  columns c nef = nef.count

  -- where candidates don't agree there is no completion
  pub unfit : (AllAgree t.masks.items begin r → ⊥) → (from : ℕ) (c : List ℕ) → IsCompletion (IsNefIn t r) place from old c → ⊥
  unfit none from c h =
      let l = length-take-le place old within in
      none (nef_agrees _ t.vertices.items t.normals.items t.points.items is.lists.least t.masks.items is.masks r few (take place old) begin
      begins c (omega arith)
      (λ i m. let k : i < place = omega (arith, l, m) in h.agrees i k ∙ sym (get_or-take place old i 0 k)) h.holds)

  whole_begins : place ≡ length old → IsBeginning old begin
  whole_begins last = subst (λ (b : List ℕ). IsBeginning b begin) (take_all place old (omega arith)) begins

  -- a whole list is the only one that completes it
  only_one : (c : List ℕ) (from : ℕ) → place ≡ length old → IsCompletion (IsNefIn t r) place from old c → old ≡ c
  only_one c from last h = same_list old c (let m = h.holds.count in omega arith) (λ i l. h.agrees i (omega (arith, l, last)))

  -- where candidates agree with it and all numbers are used, it is a nef partition
  pub whole_found : (from : ℕ) → place ≡ length old → from ≡ 0 → begin.used ≡ r → AllAgree t.masks.items begin r
      → Completes (IsNefIn t r) place from old old true
  whole_found from last zero_from used all = (
    record {
      holds = agreeing_is_nef _ t.vertices.items t.normals.items t.points.items is.lists.least t.masks.items is.masks r few old begin
          (whole_begins last) size used all;
      agrees = λ i h. refl;
      above = omega arith;
    },
    λ c h. inr (ap (λ (xs : List ℕ). map pos xs) (only_one c from last h)),
  )

  -- and otherwise there is none
  pub whole_unused : (from : ℕ) → place ≡ length old → begin.used ≢ r → (c : List ℕ) → IsCompletion (IsNefIn t r) place from old c → ⊥
  whole_unused from last less c h =
      let growth = subst (IsGrowthList r) (sym (only_one c from last h)) h.holds.growth in
      less (sym (used_is begin.used old (whole_begins last).growth) ∙ used_is r old growth)

  -- by the test of the number of parts
  pub whole_tested : (from : ℕ) → place ≡ length old → from ≡ 0 → AllAgree t.masks.items begin r → (b : Bool) → Decides b (begin.used ≡ r)
      → Completes (IsNefIn t r) place from old old b
  whole_tested from last zero_from all true d = whole_found from last zero_from (d.0 refl) all
  whole_tested from last zero_from all false d = (
    (λ e h. refl),
    whole_unused from last (λ e. absurd (let f : false ≡ true = d.1 e in cc)),
  )

  -- the number of a completion at the place is used, or the next one
  below_most : place < length old → (c : List ℕ) (from : ℕ) → IsCompletion (IsNefIn t r) place from old c
      → (part_at c place ≤ begin.used) × (part_at c place < r)
  below_most room c from h =
      let l = h.holds.count in
      let front = same_front place old c (omega arith) (omega arith) h.agrees in
      growth_next r begin.used (part_at c place) (take place old) (drop (place + 1) c) begins.growth
      (subst (λ (xs : List ℕ). IsGrowthList r (xs ++ part_at c place ∷ drop (place + 1) c)) front
      (subst (IsGrowthList r) (split_at c place (omega arith)) h.holds.growth))

  -- so where all numbers are passed there is none
  pub none_left : place < length old → (from v : ℕ) → ((c : List ℕ) → IsCompletion (IsNefIn t r) place from old c → v ≤ part_at c place)
      → min r (begin.used + 1) ≤ v → (c : List ℕ) → IsCompletion (IsNefIn t r) place from old c → ⊥
  none_left room from v passed out c h =
      let p = passed c h in
      let b = below_most room c from h in
      omega (arith, p, b.0, b.1, out)

  -- where there is no number to begin with
  pub none_from : (from : ℕ) → 1 ≤ r → (place ≡ length old → from ≡ 0) → min r (begin.used + 1) ≤ from
      → (c : List ℕ) → IsCompletion (IsNefIn t r) place from old c → ⊥
  none_from from some zero_from out c h = by (cases_lt place (length old))
    where
      by : (place < length old) ⊎ (length old ≤ place) → ⊥
      by (inl room) = none_left room from from (λ d k. k.above) out c h
      by (inr full) = let z = zero_from (omega arith) in omega (arith, some, out, z)

  module _ (room : place < length old) (now : List ℕ) (v : ℕ) (e : length now ≡ length old) (agrees : AgreesOn place old now) where
    -- the longer beginning
    pub next_begins : (next : Beginning) → ((b : List ℕ) → IsBeginning b begin → IsBeginning (b ++ v ∷ []) next)
        → IsBeginning (take (place + 1) (set now place v)) next
    next_begins next longer =
        let front = same_front place old now within (omega arith) agrees in
        subst (λ (b : List ℕ). IsBeginning b next)
        (sym (take_more_set now place v (omega arith) ∙ ap (λ (xs : List ℕ). xs ++ v ∷ []) front)) (longer (take place old) begins)

    -- what completes it
    pub found_deeper : (from : ℕ) (new : List ℕ) → from ≤ v → Completes (IsNefIn t r) (place + 1) 0 (set now place v) new true
        → ((c : List ℕ) → IsCompletion (IsNefIn t r) place from old c → v ≤ part_at c place)
        → Completes (IsNefIn t r) place from old new true
    found_deeper from new least deeper passed =
        found_here (IsNefIn t r) (length t.normals.items) columns old place from size room now new v e agrees least deeper.0.holds
        deeper.0.agrees (λ c nef alike. deeper.1 c (record { holds = nef; agrees = alike; above = omega arith })) passed

    -- where nothing does, the number is passed, and the beginning is kept
    pub passed_deeper : (from : ℕ) (new : List ℕ) → Completes (IsNefIn t r) (place + 1) 0 (set now place v) new false
        → ((c : List ℕ) → IsCompletion (IsNefIn t r) place from old c → v ≤ part_at c place)
        → (c : List ℕ) → IsCompletion (IsNefIn t r) place from old c → v + 1 ≤ part_at c place
    passed_deeper from new deeper passed =
        passed_next (IsNefIn t r) (length t.normals.items) columns old place from size room v
        (none_there (IsNefIn t r) (length t.normals.items) columns old place from size room now v e agrees deeper.1) passed

    pub kept_deeper : (from : ℕ) (new : List ℕ) → Completes (IsNefIn t r) (place + 1) 0 (set now place v) new false → AgreesOn place old new
    kept_deeper from new deeper =
        kept_front (IsNefIn t r) (length t.normals.items) columns old place from size room now new v e agrees deeper.0
