-- The choice of the pivot: of the members that a vector doesn't annihilate the one with the least own place; and a kernel with the pivot
-- put at its head.
use Rattle.std.proofs.Common.{◌≡◌, ◌≢◌, ℕ, suc, ◌<◌, ◌≤◌, List, [], ◌∷◌, ◌++◌, length, ℤ, pos, ◌+ℤ◌, ◌*ℤ◌, ◌⊎◌, inl, inr, ⊎_elim, refl, sym, ap, ◌∙◌, subst, arith}
use Rattle.std.proofs.lemmas.Bool.{cases_lt}
use Rattle.lattice_theory.specs.Vector.{dot}
use Rattle.elimination.specs.Elimination.{Member, pairings, IsCombination}
use Rattle.lattice_theory.proofs.Integers.{linear, zero_or_not}
use Rattle.lattice_theory.proofs.Members.{Each, empty, more, each_head, each_tail, each_weaker}
use Rattle.elimination.proofs.KernelForm.{IsApart, Apart, one_more, Kernel, apart_head, apart_tail}

-- what holds of each member, with the member p moved to the head and back
each_front : {P : Member → Type 0} {p : Member} (before after : List Member) → Each P (before ++ (p ∷ after))
    → Each P (p ∷ (before ++ after))
each_front [] after h = h
each_front (k ∷ before) after h = let r = each_front before after (each_tail h) in more (each_head r) (more (each_head h) (each_tail r))

-- the other way
each_back : {P : Member → Type 0} (p : Member) (before after : List Member) → P p → Each P (before ++ after)
    → Each P (before ++ (p ∷ after))
each_back p [] after h hs = more h hs
each_back p (k ∷ before) after h hs = more (each_head hs) (each_back p before after h (each_tail hs))

-- it holds both ways round
apart_swap : {k l : Member} → IsApart k l → IsApart l k
apart_swap h = record { first = h.second; second = h.first }

-- the members stay apart
apart_front : {p : Member} (before after : List Member) → Apart (before ++ (p ∷ after)) → Apart (p ∷ (before ++ after))
apart_front [] after h = h
apart_front (k ∷ before) after h =
    let e = each_front before after (apart_head h) in
    let r = apart_front before after (apart_tail h) in
    one_more (more (apart_swap (each_head e)) (apart_head r)) (one_more (each_tail e) (apart_tail r))

-- the coefficients, moved alike
record AreMoved (p : Member) (before after : List Member) (cs : List ℤ) : Type 0 where
  first : ℤ
  others : List ℤ
  as_many : length others ≡ length (before ++ after)
  same : (x : List ℤ) → first *ℤ dot p.vector x +ℤ pairings others (before ++ after) x ≡ pairings cs (before ++ (p ∷ after)) x

-- they exist
coefficients_front : (p : Member) (before after : List Member) (cs : List ℤ) → length cs ≡ length (before ++ (p ∷ after))
    → AreMoved p before after cs
coefficients_front p [] after [] e = absurd (omega arith)
coefficients_front p [] after (c ∷ cs) e = record { first = c; others = cs; as_many = omega arith; same = λ x. refl }
coefficients_front p (k ∷ before) after [] e = absurd (omega arith)
coefficients_front p (k ∷ before) after (c ∷ cs) e = let r = coefficients_front p before after cs (omega arith) in
    record {
      first = r.first;
      others = c ∷ r.others;
      as_many = ap suc r.as_many;
      same = λ x. swapped (r.first *ℤ dot p.vector x) (c *ℤ dot k.vector x) (pairings r.others (before ++ after) x)
          (pairings cs (before ++ (p ∷ after)) x) (r.same x);
    }
  where
    swapped : (a b s t : ℤ) → a +ℤ s ≡ t → a +ℤ (b +ℤ s) ≡ b +ℤ t
    swapped a b s t h = omega (arith, linear)

-- combinations stay combinations
combination_front : {p : Member} (before after : List Member) {g : List ℤ} → IsCombination (before ++ (p ∷ after)) g
    → IsCombination (p ∷ (before ++ after)) g
combination_front {p = p} before after h = let r = coefficients_front p before after h.coefficients h.as_many in
    record {
      multiplier = h.multiplier;
      positive = h.positive;
      coefficients = r.first ∷ r.others;
      as_many = ap suc r.as_many;
      sums = λ x. h.sums x ∙ sym (r.same x);
    }

-- a kernel with one of its members put at the head
pub kernel_front : {m : ℕ} {vectors : List (List ℤ)} {p : Member} (before after : List Member) → Kernel m vectors (before ++ (p ∷ after))
    → Kernel m vectors (p ∷ (before ++ after))
kernel_front before after h = record {
  members = each_front before after h.members;
  apart = apart_front before after h.apart;
  spans = λ g e z. combination_front before after (h.spans g e z);
}

-- a pivot for v: every other member is annihilated by v, or has an own place that isn't earlier
pub record Pivot (v : List ℤ) (ks : List Member) : Type 0 where
  pub before : List Member
  pub pivot : Member
  pub after : List Member
  pub split : ks ≡ before ++ (pivot ∷ after)
  pub usable : dot pivot.vector v ≢ pos 0
  pub earliest : Each (λ k. (dot k.vector v ≡ pos 0) ⊎ (pivot.own ≤ k.own)) (before ++ after)

-- a pivot further on serves where this member does not come before it
pivot_later : {v : List ℤ} {k : Member} {ks : List Member} (c : Pivot v ks) → (dot k.vector v ≡ pos 0) ⊎ (c.pivot.own ≤ k.own)
    → Pivot v (k ∷ ks)
pivot_later {k = k} c h = record {
  before = k ∷ c.before;
  pivot = c.pivot;
  after = c.after;
  split = ap (λ (l : List Member). k ∷ l) c.split;
  usable = c.usable;
  earliest = more h c.earliest;
}

-- this member serves
pivot_here : {v : List ℤ} (k : Member) (ks : List Member) → dot k.vector v ≢ pos 0
    → Each (λ l. (dot l.vector v ≡ pos 0) ⊎ (k.own ≤ l.own)) ks → Pivot v (k ∷ ks)
pivot_here k ks n h = record { before = []; pivot = k; after = ks; split = refl; usable = n; earliest = h }

-- a pivot with a later own place gives way
no_later : {v : List ℤ} (k : Member) {ks : List Member} (c : Pivot v ks) → k.own < c.pivot.own
    → Each (λ l. (dot l.vector v ≡ pos 0) ⊎ (k.own ≤ l.own)) ks
no_later {v = v} k {ks = ks} c h = subst (Each (λ l. (dot l.vector v ≡ pos 0) ⊎ (k.own ≤ l.own))) (sym c.split)
    (each_back c.pivot c.before c.after (inr (omega arith)) (each_weaker (λ l e. still l e) c.earliest))
  where
    still : (l : Member) → (dot l.vector v ≡ pos 0) ⊎ (c.pivot.own ≤ l.own) → (dot l.vector v ≡ pos 0) ⊎ (k.own ≤ l.own)
    still l (inl e) = inl e
    still l (inr e) = inr (omega arith)

-- either no member is usable or there is a pivot
pub pivot_or_not : (v : List ℤ) (ks : List Member) → Each (λ k. dot k.vector v ≡ pos 0) ks ⊎ Pivot v ks
pivot_or_not v [] = inl empty
pivot_or_not v (k ∷ ks) = ⊎_elim
    (λ (e : dot k.vector v ≡ pos 0). ⊎_elim (λ (es : Each (λ k. dot k.vector v ≡ pos 0) ks). inl (more e es))
    (λ (c : Pivot v ks). inr (pivot_later c (inl e))) (pivot_or_not v ks))
    (λ (n : dot k.vector v ≢ pos 0). inr (⊎_elim
    (λ (es : Each (λ k. dot k.vector v ≡ pos 0) ks). pivot_here k ks n (each_weaker (λ l e. inl e) es))
    (λ (c : Pivot v ks). ⊎_elim (λ (h : k.own < c.pivot.own). pivot_here k ks n (no_later k c h))
    (λ (h : c.pivot.own ≤ k.own). pivot_later c (inr h)) (cases_lt k.own c.pivot.own))
    (pivot_or_not v ks)))
    (zero_or_not (dot k.vector v))
