-- Numbers of points in classes.
use Rattle.std.proofs.Common.{◌≡◌, ◌⊎◌, inl, inr, ℕ, zero, suc, ◌+◌, ◌-◌, ◌<◌, ◌≤◌, List, [], ◌∷◌, ◌++◌, length, refl, sym, subst, arith}
use Rattle.std.proofs.lemmas.Bool.{cases_eq, cases_lt}
use Rattle.std.proofs.lemmas.List.{get_or_append_left}
use Rattle.bit_pool.specs.Bits.{bit_of, HasBit, IsSubset}
use Rattle.base_counts.specs.Counting.{set_at, count_at}
use Rattle.dilate_counts.specs.Classes.{Gathered, none, inside, outside}

-- whether a set is within words is decided by its finitely many numbers
module _ (set words : List ℕ) where
  abbrev Lacks : Type 0
  Lacks = (number : ℕ) × HasBit set number × (HasBit words number → ⊥)

  so_far : (width : ℕ) → ((number : ℕ) → number < width → HasBit set number → HasBit words number) ⊎ Lacks
  so_far zero = inl (λ number h b. absurd (omega (arith, h)))
  so_far (suc width) = by (so_far width) (cases_eq (bit_of set width) 1) (cases_eq (bit_of words width) 1)
    where
      all : ((number : ℕ) → number < width → HasBit set number → HasBit words number) → (HasBit set width → HasBit words width)
          → (number : ℕ) → number < suc width → HasBit set number → HasBit words number
      all before last number h b = at (cases_eq number width)
        where
          at : (number ≡ width) ⊎ (number ≡ width → ⊥) → HasBit words number
          at (inl e) = subst (HasBit words) (sym e) (last (subst (HasBit set) e b))
          at (inr d) = before number (below (cases_lt number width)) b
            where
              below : (number < width) ⊎ (width ≤ number) → number < width
              below (inl l) = l
              below (inr l) = absurd (d (omega (arith, h, l)))

      by : ((number : ℕ) → number < width → HasBit set number → HasBit words number) ⊎ Lacks
          → (bit_of set width ≡ 1) ⊎ (bit_of set width ≡ 1 → ⊥) → (bit_of words width ≡ 1) ⊎ (bit_of words width ≡ 1 → ⊥)
          → ((number : ℕ) → number < suc width → HasBit set number → HasBit words number) ⊎ Lacks
      by (inr lacks) a b = inr lacks
      by (inl before) a (inl has) = inl (all before (λ b. has))
      by (inl before) (inr hasnt) (inr other) = inl (all before (λ b. absurd (hasnt b)))
      by (inl before) (inl has) (inr other) = inr (width, has, other)

  pub subset_or_not : (width : ℕ) → ((number : ℕ) → width ≤ number → HasBit set number → ⊥) → IsSubset set words ⊎ (IsSubset set words → ⊥)
  subset_or_not width few = by (so_far width)
    where
      by : ((number : ℕ) → number < width → HasBit set number → HasBit words number) ⊎ Lacks → IsSubset set words ⊎ (IsSubset set words → ⊥)
      by (inr lacks) = inr (λ s. lacks.2 (s lacks.0 lacks.1))
      by (inl all) = inl (λ number b. at number b (cases_lt number width))
        where
          at : (number : ℕ) → HasBit set number → (number < width) ⊎ (width ≤ number) → HasBit words number
          at number b (inl l) = all number l b
          at number b (inr l) = absurd (few number l b)

-- a number that was gathered is the only one
pub gathered_is : (set : List ℕ) (classes : List (List ℕ)) (seen : List ℕ) (l j s t : ℕ) → Gathered set classes seen l j s
    → Gathered set classes seen l j t → s ≡ t
gathered_is set classes seen l _ _ _ none none = refl
gathered_is set classes seen l (suc j) s t (inside {s = a} g i e) (inside {s = b} h k f) =
    let same = gathered_is set classes seen l j a b g h in omega (arith, e, f, same)
gathered_is set classes seen l (suc j) s t (inside g i e) (outside h o) = absurd (o i)
gathered_is set classes seen l (suc j) s t (outside g o) (inside h i e) = absurd (o i)
gathered_is set classes seen l (suc j) s t (outside g o) (outside h p) = gathered_is set classes seen l j s t g h

-- more classes gather no fewer points
grows : (set : List ℕ) (classes : List (List ℕ)) (seen : List ℕ) (l d j n s t : ℕ) → d + j ≡ n → Gathered set classes seen l j s
    → Gathered set classes seen l n t → s ≤ t
grows set classes seen l zero j n s t e g h =
    let at : j ≡ n = omega (arith, e) in
    let same = gathered_is set classes seen l n s t (subst (λ (i : ℕ). Gathered set classes seen l i s) at g) h in
    omega (arith, same)
grows set classes seen l (suc d) j _ s _ e g none = absurd (omega (arith, e))
grows set classes seen l (suc d) j _ s t e g (inside {j = m} {s = b} h i f) =
    let less = grows set classes seen l d j m s b (omega (arith, e)) g h in
    omega (arith, less, f)
grows set classes seen l (suc d) j _ s t e g (outside {j = m} h o) = grows set classes seen l d j m s t (omega (arith, e)) g h

pub gathered_grows : (set : List ℕ) (classes : List (List ℕ)) (seen : List ℕ) (l j n s t : ℕ) → j ≤ n → Gathered set classes seen l j s
    → Gathered set classes seen l n t → s ≤ t
gathered_grows set classes seen l j n s t le g h = grows set classes seen l (n - j) j n s t (omega (arith, le)) g h

-- one class more leaves what the others gather
pub gathered_with : (set : List ℕ) (classes : List (List ℕ)) (words : List ℕ) (seen : List ℕ) (l j s : ℕ) → j ≤ length classes
    → Gathered set classes seen l j s → Gathered set (classes ++ words ∷ []) seen l j s
gathered_with set classes words seen l _ _ le none = none
gathered_with set classes words seen l _ _ le (inside {j = j} {s = s} g i e) =
    inside (gathered_with set classes words seen l j s (omega (arith, le)) g)
    (subst (IsSubset set) (sym (get_or_append_left classes (words ∷ []) [] j (omega (arith, le)))) i) e
gathered_with set classes words seen l _ _ le (outside {j = j} {s = s} g o) =
    outside (gathered_with set classes words seen l j s (omega (arith, le)) g)
    (λ i. o (subst (IsSubset set) (get_or_append_left classes (words ∷ []) [] j (omega (arith, le))) i))

-- other counts of a degree gather as much where they are the same
pub gathered_as : (set : List ℕ) (classes : List (List ℕ)) (old new : List ℕ) (l j s : ℕ) → ((i : ℕ) → i < j → count_at new i l ≡ count_at old i l)
    → Gathered set classes old l j s → Gathered set classes new l j s
gathered_as set classes old new l _ _ same none = none
gathered_as set classes old new l _ _ same (inside {j = j} {s = s} g i e) =
    inside (gathered_as set classes old new l j s (λ i h. same i (omega (arith, h))) g) i
    (let f = same j (omega arith) in omega (arith, e, f))
gathered_as set classes old new l _ _ same (outside {j = j} {s = s} g o) =
    outside (gathered_as set classes old new l j s (λ i h. same i (omega (arith, h))) g) o

-- where the count of one class is one more, so is what is gathered if the class has the set
module _ (set : List ℕ) (classes : List (List ℕ)) (old new : List ℕ) (l place : ℕ) (more : count_at new place l ≡ suc (count_at old place l))
    (others : (i : ℕ) → (i ≡ place → ⊥) → count_at new i l ≡ count_at old i l) where
  pub gathered_more : (d j s : ℕ) → suc (d + place) ≡ j → IsSubset set (set_at classes place) → Gathered set classes old l j s
      → Gathered set classes new l j (suc s)
  gathered_more d _ _ e i none = absurd (omega (arith, e))
  gathered_more zero _ _ e i (inside {j = j} {s = s} g k f) =
      let at : place ≡ j = omega (arith, e) in
      let here : count_at new j l ≡ suc (count_at old j l) = subst (λ (q : ℕ). count_at new q l ≡ suc (count_at old q l)) at more in
      inside (gathered_as set classes old new l j s (λ q h. others q (λ z. absurd (omega (arith, z, h, at)))) g) k (omega (arith, f, here))
  gathered_more zero _ _ e i (outside {j = j} g o) =
      let at : place ≡ j = omega (arith, e) in
      absurd (o (subst (λ (q : ℕ). IsSubset set (set_at classes q)) at i))
  gathered_more (suc d) _ _ e i (inside {j = j} {s = s} g k f) =
      let here = others j (λ z. absurd (omega (arith, z, e))) in
      inside (gathered_more d j s (omega (arith, e)) i g) k (omega (arith, f, here))
  gathered_more (suc d) _ _ e i (outside {j = j} {s = s} g o) = outside (gathered_more d j s (omega (arith, e)) i g) o

  -- and otherwise it is the same
  pub gathered_same : (j s : ℕ) → (IsSubset set (set_at classes place) → ⊥) → Gathered set classes old l j s → Gathered set classes new l j s
  gathered_same _ _ none_of none = none
  gathered_same _ _ none_of (inside {j = j} {s = s} g k f) =
      let here = others j (λ z. none_of (subst (λ (q : ℕ). IsSubset set (set_at classes q)) z k)) in
      inside (gathered_same j s none_of g) k (omega (arith, f, here))
  gathered_same _ _ none_of (outside {j = j} {s = s} g o) = outside (gathered_same j s none_of g) o
