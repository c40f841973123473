-- Heights that are raised by one vector more.
use Rattle.std.specs.Prelude.{ℤ, pos, neg_ℤ, nat_abs, ◌≤ℤ◌, ◌<ℤ◌}
use Rattle.std.proofs.Common.{◌≡◌, ◌≢◌, ◌⊎◌, inl, inr, ℕ, ◌+◌, ◌<◌, ◌≤◌, ◌^◌, List, length, sym, ap, ◌∙◌, subst, arith}
use Rattle.std.proofs.lemmas.Bool.{cases_eq, cases_lt}
use Rattle.lattice_theory.specs.Vector.{dot, entry}
use Rattle.lattice_theory.specs.Affine.{Affine}
use Rattle.lattice_theory.proofs.Integers.{linear}
use Rattle.face_theory.specs.Pairings.{function_at}
use Rattle.cayley_theory.specs.Bases.{part_in, pairing_with}
use Rattle.base_counts.specs.Tops.{IsRaisedTo, IsTopOf}
use Rattle.base_counts.specs.declared.base.TheConstants.{LOWEST}

below : (i k : ℕ) → i < k + 1 → (i ≡ k → ⊥) → i < k
below i k l d = by (cases_lt i k)
  where
    by : (i < k) ⊎ (k ≤ i) → i < k
    by (inl h) = h
    by (inr h) = absurd (d (omega (arith, l, h)))

not_both : (h old low : ℤ) → h ≤ℤ old → old ≡ low → low <ℤ h → ⊥
not_both h old low l e up = absurd (omega (arith, linear, l, e, up))

-- heights only rise
rises : (part : ℕ) (h : ℤ) (old new : List ℤ) → IsRaisedTo part h old new → (j : ℕ) → entry old j ≤ℤ entry new j
rises part h old new r j = by (cases_eq j part)
  where
    here : ((entry old part <ℤ h) × (entry new part ≡ h)) ⊎ ((h ≤ℤ entry old part) × (entry new part ≡ entry old part)) → entry old part ≤ℤ entry new part
    here (inl a) = let l = a.0 in let e = a.1 in omega (arith, linear, l, e)
    here (inr a) = let e = a.1 in omega (arith, linear, e)

    by : (j ≡ part) ⊎ (j ≡ part → ⊥) → entry old j ≤ℤ entry new j
    by (inl e) = subst (λ (i : ℕ). entry old i ≤ℤ entry new i) (sym e) (here r.at)
    by (inr d) = let e = r.others j d in omega (arith, linear, e)

module _ (vs : List Affine) (x : List ℤ) (k : ℕ) (old new : List ℤ) (top : IsTopOf vs x k old)
    (r : IsRaisedTo (part_in (function_at vs k)) (neg_ℤ (dot (function_at vs k).normal x)) old new) where
  abbrev part : ℕ
  part = part_in (function_at vs k)

  above_last : pos 0 ≤ℤ pairing_with vs x new k
  above_last = by r.at
    where
      by : ((entry old part <ℤ neg_ℤ (dot (function_at vs k).normal x)) × (entry new part ≡ neg_ℤ (dot (function_at vs k).normal x)))
          ⊎ ((neg_ℤ (dot (function_at vs k).normal x) ≤ℤ entry old part) × (entry new part ≡ entry old part)) → pos 0 ≤ℤ pairing_with vs x new k
      by (inl a) = let e = a.1 in omega (arith, linear, e)
      by (inr a) = let l = a.0 in let e = a.1 in omega (arith, linear, l, e)

  above : (i : ℕ) → i < k + 1 → pos 0 ≤ℤ pairing_with vs x new i
  above i l = by (cases_eq i k)
    where
      by : (i ≡ k) ⊎ (i ≡ k → ⊥) → pos 0 ≤ℤ pairing_with vs x new i
      by (inl e) = subst (λ (j : ℕ). pos 0 ≤ℤ pairing_with vs x new j) (sym e) above_last
      by (inr d) =
          let before = top.above i (below i k l d) in
          let up = rises part (neg_ℤ (dot (function_at vs k).normal x)) old new r (part_in (function_at vs i)) in
          omega (arith, linear, before, up)

  -- where a part's height isn't raised, what was reached still is
  kept : (i : ℕ) → entry new (part_in (function_at vs i)) ≡ entry old (part_in (function_at vs i)) → pairing_with vs x old i ≡ pos 0
      → pairing_with vs x new i ≡ pos 0
  kept i e z = omega (arith, linear, e, z)

  last_zero : entry new part ≡ neg_ℤ (dot (function_at vs k).normal x) → pairing_with vs x new k ≡ pos 0
  last_zero e = omega (arith, linear, e)

  -- in each part the height is reached, or there is no vector of it
  abbrev Reached : ℕ → Type 0
  Reached j = ((entry new j ≡ LOWEST) × ((i : ℕ) → i < k + 1 → part_in (function_at vs i) ≢ j))
      ⊎ ((i : ℕ) × (i < k + 1) × (part_in (function_at vs i) ≡ j) × (pairing_with vs x new i ≡ pos 0))

  before : (j : ℕ) → entry new j ≡ entry old j → (part ≡ j → ⊥)
      → ((entry old j ≡ LOWEST) × ((i : ℕ) → i < k → part_in (function_at vs i) ≢ j))
      ⊎ ((i : ℕ) × (i < k) × (part_in (function_at vs i) ≡ j) × (pairing_with vs x old i ≡ pos 0)) → Reached j
  before j e d (inl a) = inl (e ∙ a.0, none)
    where
      none : (i : ℕ) → i < k + 1 → part_in (function_at vs i) ≢ j
      none i l = by (cases_eq i k)
        where
          by : (i ≡ k) ⊎ (i ≡ k → ⊥) → part_in (function_at vs i) ≢ j
          by (inl f) = λ g. d (subst (λ (m : ℕ). part_in (function_at vs m) ≡ j) f g)
          by (inr f) = a.1 i (below i k l f)
  before j e d (inr a) = inr (
    a.0,
    (let l = a.1 in omega (arith, l)),
    a.2,
    kept a.0 (subst (λ (m : ℕ). entry new m ≡ entry old m) (sym a.2) e) a.3,
  )

  low_or_not : (j : ℕ) → j ≡ part → (neg_ℤ (dot (function_at vs k).normal x) ≤ℤ entry old part) → entry new part ≡ entry old part
      → ((entry old j ≡ LOWEST) × ((i : ℕ) → i < k → part_in (function_at vs i) ≢ j))
      ⊎ ((i : ℕ) × (i < k) × (part_in (function_at vs i) ≡ j) × (pairing_with vs x old i ≡ pos 0)) → Reached j
  low_or_not j e l f (inl a) =
      let lowest : entry old part ≡ LOWEST = subst (λ (m : ℕ). entry old m ≡ LOWEST) e a.0 in
      let up = r.above in
      absurd (not_both (neg_ℤ (dot (function_at vs k).normal x)) (entry old part) LOWEST l lowest up)
  low_or_not j e l f (inr a) = inr (
    a.0,
    (let m = a.1 in omega (arith, m)),
    a.2,
    kept a.0 (subst (λ (m : ℕ). entry new m ≡ entry old m) (sym (a.2 ∙ e)) f) a.3,
  )

  reached : (j : ℕ) → j < length new → Reached j
  reached j l = by (cases_eq j part)
    where
      old_one : ((entry old j ≡ LOWEST) × ((i : ℕ) → i < k → part_in (function_at vs i) ≢ j))
          ⊎ ((i : ℕ) × (i < k) × (part_in (function_at vs i) ≡ j) × (pairing_with vs x old i ≡ pos 0))
      old_one = top.reached j (subst (λ (n : ℕ). j < n) r.long l)

      at : j ≡ part → ((entry old part <ℤ neg_ℤ (dot (function_at vs k).normal x)) × (entry new part ≡ neg_ℤ (dot (function_at vs k).normal x)))
          ⊎ ((neg_ℤ (dot (function_at vs k).normal x) ≤ℤ entry old part) × (entry new part ≡ entry old part)) → Reached j
      at e (inl a) = inr (k, omega arith, sym e, last_zero a.1)
      at e (inr a) = low_or_not j e a.0 a.1 old_one

      by : (j ≡ part) ⊎ (j ≡ part → ⊥) → Reached j
      by (inl e) = at e r.at
      by (inr d) = before j (r.others j d) (λ e. d (sym e)) old_one

  small : (j : ℕ) → j < length new → nat_abs (entry new j) ≤ 2 ^ 100
  small j l = by (cases_eq j part)
    where
      was : nat_abs (entry old j) ≤ 2 ^ 100
      was = top.small j (subst (λ (n : ℕ). j < n) r.long l)

      at : j ≡ part → ((entry old part <ℤ neg_ℤ (dot (function_at vs k).normal x)) × (entry new part ≡ neg_ℤ (dot (function_at vs k).normal x)))
          ⊎ ((neg_ℤ (dot (function_at vs k).normal x) ≤ℤ entry old part) × (entry new part ≡ entry old part)) → nat_abs (entry new j) ≤ 2 ^ 100
      at e (inl a) = subst (λ (z : ℤ). nat_abs z ≤ 2 ^ 100) (sym (ap (entry new) e ∙ a.1)) r.small
      at e (inr a) = subst (λ (z : ℤ). nat_abs z ≤ 2 ^ 100) (ap (entry old) e ∙ sym (ap (entry new) e ∙ a.1)) was

      by : (j ≡ part) ⊎ (j ≡ part → ⊥) → nat_abs (entry new j) ≤ 2 ^ 100
      by (inl e) = at e r.at
      by (inr d) = subst (λ (z : ℤ). nat_abs z ≤ 2 ^ 100) (sym (r.others j d)) was

  pub one_more : IsTopOf vs x (k + 1) new
  one_more = record { above = above; reached = reached; small = small }

-- raised by a vector, where it stands in a list
pub raised_at : (x : List ℤ) (f g : Affine) (old new : List ℤ) → g ≡ f → IsRaisedTo (part_in g) (neg_ℤ (dot g.normal x)) old new
    → IsRaisedTo (part_in f) (neg_ℤ (dot f.normal x)) old new
raised_at x f g old new e r = subst (λ (h : Affine). IsRaisedTo (part_in h) (neg_ℤ (dot h.normal x)) old new) e r
