-- Beginnings of part numbers, with one place more.
use Rattle.std.proofs.Common.{◌≡◌, ◌≢◌, ◌↔◌, ◌⊎◌, inl, inr, ℕ, suc, ◌+◌, ◌<◌, ◌≤◌, max, List}
use Rattle.std.proofs.Common.{[], ◌∷◌, ◌++◌, length, take, drop, sym, ap, ◌∙◌, subst, arith, length-append}
use Rattle.std.proofs.Math.ListN.{set, length-set}
use Rattle.std.proofs.lemmas.Bool.{cases_lt, cases_eq}
use Rattle.std.proofs.lemmas.List.{take-append-drop, drop_more, length-take-le, get_or-take, take-take, get_or_append_left, get_or_push, get_or-set_same, get_or-set_other}
use Rattle.bit_rows.specs.Rows.{HasIndex}
use Rattle.nef_theory.specs.Nef.{part_at, IsGrowthList}
use Rattle.nef_theory.proofs.GrowthLists.{growth_none, growth_push, growth_next}
use Rattle.nef_parts.specs.declared.beginnings.Beginning.{Beginning}
use Rattle.nef_parts.specs.steps.Beginnings.{row_of, IsPartRow, IsGrowth, IsBeginning}

pub none_begins : (g : Beginning) → g.count ≡ 0 → g.used ≡ 0 → length g.parts ≡ 3
    → ((i : ℕ) → i < 3 → (e : ℕ) → HasIndex (row_of g.parts i) e → ⊥) → ((e : ℕ) → HasIndex g.told e → ⊥) → IsBeginning [] g
none_begins g count used rows parts told = record {
  count = count;
  few = omega arith;
  growth = subst (λ (n : ℕ). IsGrowthList n []) (sym used) growth_none;
  used = omega arith;
  rows = rows;
  parts = λ i h e. ((λ r. absurd (parts i h e r)), (λ p. absurd (omega (arith, p.0))));
  told = λ e. ((λ r. absurd (told e r)), (λ l. absurd (omega (arith, l))));
}

module _ (b : List ℕ) (g : Beginning) (part : ℕ) (is : IsBeginning b g) where
  -- the part numbers with one more
  at_front : (e : ℕ) → e < length b → part_at (b ++ part ∷ []) e ≡ part_at b e
  at_front e h = get_or_append_left b (part ∷ []) 0 e h

  at_end : (e : ℕ) → length b ≡ e → part_at (b ++ part ∷ []) e ≡ part
  at_end e h = get_or_push b part 0 e h

  longer : (e : ℕ) → e < length b → e < length (b ++ part ∷ [])
  longer e h = let l = length-append b (part ∷ []) in omega arith

  last : (e : ℕ) → length b ≡ e → e < length (b ++ part ∷ [])
  last e h = let l = length-append b (part ∷ []) in omega arith

  cases : (e : ℕ) → e < length (b ++ part ∷ []) → (e < length b) ⊎ (length b ≡ e)
  cases e h = by (cases_lt e (length b))
    where
      by : (e < length b) ⊎ (length b ≤ e) → (e < length b) ⊎ (length b ≡ e)
      by (inl l) = inl l
      by (inr m) = let n = length-append b (part ∷ []) in inr (omega arith)

  -- the row of the part
  same_part : (row : ℕ) → part < 3 → ((e : ℕ) → HasIndex row e ↔ (HasIndex (row_of g.parts part) e ⊎ (e ≡ g.count)))
      → IsPartRow (b ++ part ∷ []) part row
  same_part row h grows e = (λ r. from ((grows e).0 r), λ p. to p.1 (cases e p.0))
    where
      from : HasIndex (row_of g.parts part) e ⊎ (e ≡ g.count) → (e < length (b ++ part ∷ [])) × (part_at (b ++ part ∷ []) e ≡ part)
      from (inl r) = let p = (is.parts part h e).0 r in (longer e p.0, at_front e p.0 ∙ p.1)
      from (inr s) = let here : length b ≡ e = sym is.count ∙ sym s in (last e here, at_end e here)

      to : part_at (b ++ part ∷ []) e ≡ part → (e < length b) ⊎ (length b ≡ e) → HasIndex row e
      to p (inl l) = (grows e).1 (inl ((is.parts part h e).1 (l, sym (at_front e l) ∙ p)))
      to p (inr s) = (grows e).1 (inr (sym s ∙ sym is.count))

  -- the row of another part
  other_part : (i : ℕ) → i < 3 → i ≢ part → IsPartRow (b ++ part ∷ []) i (row_of g.parts i)
  other_part i h d e = (λ r. from ((is.parts i h e).0 r), λ p. to p.1 (cases e p.0))
    where
      from : (e < length b) × (part_at b e ≡ i) → (e < length (b ++ part ∷ [])) × (part_at (b ++ part ∷ []) e ≡ i)
      from p = (longer e p.0, at_front e p.0 ∙ p.1)

      to : part_at (b ++ part ∷ []) e ≡ i → (e < length b) ⊎ (length b ≡ e) → HasIndex (row_of g.parts i) e
      to p (inl l) = (is.parts i h e).1 (l, sym (at_front e l) ∙ p)
      to p (inr s) = absurd (d (sym p ∙ at_end e s))

  pub more_begins : (next : Beginning) (row : ℕ) → part < 3 → part ≤ g.used → g.count < 128 → next.count ≡ g.count + 1
      → next.used ≡ max g.used (part + 1) → next.parts ≡ set g.parts part row
      → ((e : ℕ) → HasIndex row e ↔ (HasIndex (row_of g.parts part) e ⊎ (e ≡ g.count)))
      → ((e : ℕ) → HasIndex next.told e ↔ (HasIndex g.told e ⊎ (e ≡ g.count))) → IsBeginning (b ++ part ∷ []) next
  more_begins next row h growth few count used parts grows told = record {
    count = let l = length-append b (part ∷ []) in let c = is.count in omega arith;
    few = let l = length-append b (part ∷ []) in let c = is.count in omega arith;
    growth = subst (λ (n : ℕ). IsGrowthList n (b ++ part ∷ [])) (sym used_is) (growth_push g.used part b is.growth growth);
    used = let u = is.used in omega arith;
    rows = ap (λ (rs : List ℕ). length rs) parts ∙ (length-set g.parts part row ∙ is.rows);
    parts = λ i l. by i l (cases_eq i part);
    told = λ e. (
      λ r. in_told e ((told e).0 r),
      λ l. from_told e (cases e l),
    );
  }
    where
      used_is : next.used ≡ max g.used (suc part)
      used_is = omega arith

      by : (i : ℕ) → i < 3 → (i ≡ part) ⊎ (i ≢ part) → IsPartRow (b ++ part ∷ []) i (row_of next.parts i)
      by i l (inl e) =
          let is_row : row_of next.parts i ≡ row =
          ap (λ (rs : List ℕ). row_of rs i) parts ∙ (ap (λ (j : ℕ). row_of (set g.parts part row) j) e
          ∙ get_or-set_same g.parts part row 0 (let n = is.rows in omega arith)) in
          subst (λ (j : ℕ). IsPartRow (b ++ part ∷ []) j (row_of next.parts i)) (sym e)
          (subst (IsPartRow (b ++ part ∷ []) part) (sym is_row) (same_part row h grows))
      by i l (inr d) =
          subst (IsPartRow (b ++ part ∷ []) i)
          (sym (ap (λ (rs : List ℕ). row_of rs i) parts ∙ get_or-set_other g.parts part i row 0 d)) (other_part i l d)

      in_told : (e : ℕ) → HasIndex g.told e ⊎ (e ≡ g.count) → e < length (b ++ part ∷ [])
      in_told e (inl r) = longer e ((is.told e).0 r)
      in_told e (inr s) = last e (sym is.count ∙ sym s)

      from_told : (e : ℕ) → (e < length b) ⊎ (length b ≡ e) → HasIndex next.told e
      from_told e (inl l) = (told e).1 (inl ((is.told e).1 l))
      from_told e (inr s) = (told e).1 (inr (sym s ∙ sym is.count))

-- a list from one of its places on
pub split_at : (c : List ℕ) (k : ℕ) → k < length c → c ≡ take k c ++ part_at c k ∷ drop (k + 1) c
split_at c k h = sym (take-append-drop k c) ∙ ap (λ (xs : List ℕ). take k c ++ xs) (drop_more c k 0 h)

-- the number at the next place of a growth list is used, or the next one
pub used_or_next : (parts : List ℕ) (count e : ℕ) (g : Beginning) → e < count → count ≤ length parts → IsGrowth (take count parts)
    → IsBeginning (take e parts) g → (part_at parts e ≤ g.used) × (part_at parts e < 3)
used_or_next parts count e g h l f begins =
    let c = take count parts in
    let n = length-take-le count parts l in
    let same : part_at c e ≡ part_at parts e = get_or-take count parts e 0 h in
    let growth = subst (IsGrowthList g.used) (sym (take-take e count parts (omega arith))) begins.growth in
    let next = growth_next f.used g.used (part_at c e) (take e c) (drop (e + 1) c) growth
    (subst (IsGrowthList f.used) (split_at c e (omega arith)) f.is) in
    let few = f.few in
    (omega (arith, next.0, same), omega (arith, next.1, same, few))
