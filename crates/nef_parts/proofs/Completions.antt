-- The steps of a search for the first list in lexicographic order that completes a beginning, and from a list to the next one.
use Rattle.std.specs.Prelude.{true}
use Rattle.std.proofs.Common.{◌≡◌, ◌⊎◌, inl, inr, ℕ, ◌+◌, ◌<◌, ◌≤◌, List, length, sym, ◌∙◌, subst, arith}
use Rattle.std.proofs.Math.ListN.{set}
use Rattle.std.proofs.lemmas.Bool.{cases_lt}
use Rattle.std.proofs.lemmas.List.{get_or-set_same, get_or-set_other, ext_get_or}
use Rattle.walk_theory.specs.Walks.{NumbersLess}
use Rattle.weight_points.proofs.Integral.{DiffersAt, differs, comes_before, same_exponent, agree_from}
use Rattle.nef_theory.specs.Nef.{part_at}
use Rattle.nef_parts.specs.steps.Completions.{AgreesOn, AtMost, IsCompletion, Completes, IsNextList}

-- lists that agree at all places are the same
pub same_list : (x y : List ℕ) → length x ≡ length y → AgreesOn (length x) x y → x ≡ y
same_list x y e h = ext_get_or 0 x y e (λ i l. sym (h i l))

-- what has more at the first place where they differ comes later
pub later_at : (x y : List ℕ) (place : ℕ) → length x ≡ length y → place < length x → AgreesOn place x y → part_at x place < part_at y place
    → NumbersLess x y
later_at x y place e h agrees less =
    comes_before x y place e (record { within = h; agrees = agree_from x y place agrees; less = less })

module _ (P : List ℕ → Type 0) (n : ℕ) (columns : (c : List ℕ) → P c → length c ≡ n) (a : List ℕ) (place from : ℕ) (size : length a ≡ n)
    (within : place < length a) where
  -- a list with a value at the place
  there : (now : List ℕ) (value : ℕ) → length now ≡ length a → part_at (set now place value) place ≡ value
  there now value e = get_or-set_same now place value 0 (omega arith)

  front : (now : List ℕ) (value : ℕ) → AgreesOn place a now → AgreesOn place a (set now place value)
  front now value agrees e h = get_or-set_other now place e value 0 (omega (arith, h)) ∙ agrees e h

  -- a completion that has the value at the place completes the longer beginning
  pub longer_at : (now c : List ℕ) (value : ℕ) → length now ≡ length a → AgreesOn place a now → AgreesOn place a c → part_at c place ≡ value
      → AgreesOn (place + 1) (set now place value) c
  longer_at now c value e agrees alike has i h = by (cases_lt i place)
    where
      by : (i < place) ⊎ (place ≤ i) → part_at c i ≡ part_at (set now place value) i
      by (inl l) = alike i l ∙ sym (front now value agrees i l)
      by (inr m) =
          let here : i ≡ place = omega (arith, h) in
          subst (λ (j : ℕ). part_at c j ≡ part_at (set now place value) j) (sym here) (has ∙ sym (there now value e))

  -- what agrees with the longer beginning
  shorter : (now c : List ℕ) (value : ℕ) → length now ≡ length a → AgreesOn place a now → AgreesOn (place + 1) (set now place value) c
      → AgreesOn place a c
  shorter now c value e agrees h i l = h i (omega (arith, l)) ∙ front now value agrees i l

  has_value : (now c : List ℕ) (value : ℕ) → length now ≡ length a → AgreesOn (place + 1) (set now place value) c → part_at c place ≡ value
  has_value now c value e h = h place (omega arith) ∙ there now value e

  at_or_above : (value k : ℕ) → value ≤ k → (k ≡ value) ⊎ (value < k)
  at_or_above value k h = grind arith

  -- what has more at the place comes after all that have the value there
  above_after : (new c : List ℕ) (value : ℕ) → length new ≡ n → AgreesOn place a new → part_at new place ≡ value → IsCompletion P place from a c
      → value < part_at c place → NumbersLess new c
  above_after new c value e agrees has is more =
      let l = columns c is.holds in
      later_at new c place (e ∙ sym l) (omega arith) (λ i h. is.agrees i h ∙ sym (agrees i h)) (omega arith)

  -- a value that no completion has is passed
  pub passed_next : (value : ℕ) → ((c : List ℕ) → IsCompletion P place from a c → part_at c place ≡ value → ⊥)
      → ((c : List ℕ) → IsCompletion P place from a c → value ≤ part_at c place)
      → (c : List ℕ) → IsCompletion P place from a c → value + 1 ≤ part_at c place
  passed_next value none passed c is = by (at_or_above value (part_at c place) (passed c is))
    where
      by : (part_at c place ≡ value) ⊎ (value < part_at c place) → value + 1 ≤ part_at c place
      by (inl e) = absurd (none c is e)
      by (inr more) = omega arith

  -- the longer beginning has no completion: none has the value
  pub none_there : (now : List ℕ) (value : ℕ) → length now ≡ length a → AgreesOn place a now
      → ((c : List ℕ) → IsCompletion P (place + 1) 0 (set now place value) c → ⊥)
      → (c : List ℕ) → IsCompletion P place from a c → part_at c place ≡ value → ⊥
  none_there now value e agrees none c is has =
      none c (record { holds = is.holds; agrees = longer_at now c value e agrees is.agrees has; above = omega arith })

  -- the beginning is kept behind the longer one
  pub kept_front : (now new : List ℕ) (value : ℕ) → length now ≡ length a → AgreesOn place a now → AgreesOn (place + 1) (set now place value) new
      → AgreesOn place a new
  kept_front now new value e agrees h = shorter now new value e agrees h

  -- the first completion with the value is the first of all
  pub found_here : (now new : List ℕ) (value : ℕ) → length now ≡ length a → AgreesOn place a now → from ≤ value → P new
      → AgreesOn (place + 1) (set now place value) new
      → ((c : List ℕ) → P c → AgreesOn (place + 1) (set now place value) c → AtMost new c)
      → ((c : List ℕ) → IsCompletion P place from a c → value ≤ part_at c place)
      → Completes P place from a new true
  found_here now new value e agrees least holds alike first passed = (
    record {
      holds = holds;
      agrees = shorter now new value e agrees alike;
      above = let h = has_value now new value e alike in omega arith;
    },
    λ c is. by c is (at_or_above value (part_at c place) (passed c is)),
  )
    where
      by : (c : List ℕ) → IsCompletion P place from a c → (part_at c place ≡ value) ⊎ (value < part_at c place) → AtMost new c
      by c is (inl has) = first c is.holds (longer_at now c value e agrees is.agrees has)
      by c is (inr more) =
          inl (above_after new c value (columns new holds) (shorter now new value e agrees alike) (has_value now new value e alike) is more)

module _ (P : List ℕ → Type 0) (n : ℕ) (columns : (c : List ℕ) → P c → length c ≡ n) (old : List ℕ) (size : length old ≡ n) where
  -- at first nothing agrees and comes later
  pub none_at_end : (c : List ℕ) → P c → AgreesOn (length old) old c → NumbersLess old c → ⊥
  none_at_end c holds agrees later =
      let d = differs old c later in
      let same = agrees d.0 d.1.within in
      let less = d.1.less in
      omega arith

  -- what agrees up to the place m and comes later, where none does up to place + 1
  module _ (a : List ℕ) (place from : ℕ) (within : place < length old) (agrees : AgreesOn place old a)
      (from_is : from ≡ part_at old place + 1)
      (none : (c : List ℕ) → P c → AgreesOn (place + 1) old c → NumbersLess old c → ⊥) where
    at_place : (c : List ℕ) → P c → DiffersAt old c place → IsCompletion P place from a c
    at_place c holds d = record {
      holds = holds;
      agrees = λ i h. same_exponent old c place i d.agrees h ∙ sym (agrees i h);
      above = let less = d.less in omega arith;
    }

    beyond : (c : List ℕ) (j : ℕ) → place < j → DiffersAt old c j → AgreesOn (place + 1) old c
    beyond c j h d i l = same_exponent old c j i d.agrees (omega (arith, h, l))

    -- the first completion comes next
    pub found_next : (new : List ℕ) → Completes P place from a new true → IsNextList P old new
    found_next new found = record {
      holds = found.0.holds;
      later = later_at old new place (size ∙ sym (columns new found.0.holds)) within alike (let h = found.0.above in omega arith);
      first = λ c holds later. let d = differs old c later in by c holds later d.0 d.1 (cases_lt d.0 place) (cases_lt place d.0);
    }
      where
        alike : AgreesOn place old new
        alike i h = found.0.agrees i h ∙ agrees i h

        by : (c : List ℕ) → P c → NumbersLess old c → (j : ℕ) → DiffersAt old c j → (j < place) ⊎ (place ≤ j) → (place < j) ⊎ (j ≤ place)
            → AtMost new c
        by c holds later j d (inl l) s = inl (later_at new c j (columns new found.0.holds ∙ sym (columns c holds))
            (let e = columns new found.0.holds in omega arith)
            (λ i h. same_exponent old c j i d.agrees h ∙ sym (alike i (omega (arith, h, l))))
            (let same = alike j l in let less = d.less in omega arith))
        by c holds later j d (inr l) (inl m) = absurd (none c holds (beyond c j m d) later)
        by c holds later j d (inr l) (inr m) =
            let here : j ≡ place = omega arith in
            found.1 c (at_place c holds (subst (DiffersAt old c) here d))

    -- where there is none, nothing that agrees up to the place comes later
    pub none_before : ((c : List ℕ) → IsCompletion P place from a c → ⊥) → (c : List ℕ) → P c → AgreesOn place old c → NumbersLess old c → ⊥
    none_before nothing c holds alike later = let d = differs old c later in by d.0 d.1 (cases_lt d.0 place) (cases_lt place d.0)
      where
        by : (j : ℕ) → DiffersAt old c j → (j < place) ⊎ (place ≤ j) → (place < j) ⊎ (j ≤ place) → ⊥
        by j d (inl l) s = let same = alike j l in let less = d.less in omega arith
        by j d (inr l) (inl m) = none c holds (beyond c j m d) later
        by j d (inr l) (inr m) = let here : j ≡ place = omega arith in nothing c (at_place c holds (subst (DiffersAt old c) here d))
