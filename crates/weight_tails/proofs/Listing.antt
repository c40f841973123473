-- Steps of the listing.
use Rattle.std.proofs.Common.{◌≡◌, ◌≢◌, ◌⊎◌, inl, inr, ⊎_elim, ℕ, zero, suc, ◌+◌, ◌-◌, ◌*◌, ◌/◌, ◌<◌, ◌≤◌, List, [], ◌∷◌, ◌++◌, length, map}
use Rattle.std.proofs.Common.{take, drop, get_or, ℤ, All, refl, sym, ap, ◌∙◌, subst, arith}
use Rattle.std.specs.List.{Contains}
use Rattle.std.specs.Prelude.{slice_set}
use Rattle.std.proofs.Math.ListN.{get_or-map}
use Rattle.std.proofs.lemmas.Int.{ints}
use Rattle.lattice_theory.proofs.Members.{Each, empty, more, each_from_all, all_from_each, In, here, there, contains_from_in}
use Rattle.lattice_theory.proofs.Sublists.{ascends_append}
use Rattle.std.proofs.lemmas.Bool.{cases_lt}
use Rattle.std.proofs.lemmas.List.{drop_more}
use Rattle.std.proofs.lemmas.List.Elements.{Contains-append_left, Contains-append_right, Contains-append_cases}
use Rattle.std.proofs.Math.Nat.{le-div_iff_mul-le}
use Rattle.weight_points.specs.steps.Waits.{spent, CanTake}
use Rattle.weight_tails.specs.steps.Listing.{IsListed, AddsEach, AreOnce, StayOnce, lowered, tail_of}
use Rattle.weight_tails.proofs.LastWeights.{spent_more}

-- listed with an exponent at the place of which this holds
pub record IsListedWith (P : ℕ → Type 0) (weights entries : List ℕ) (place left : ℕ) (y : List ℤ) : Type 0 where
  pub listed : IsListed weights entries (place + 1) left y
  pub holds : P (get_or listed.exponents place 0)

abbrev pub IsListedBelow : List ℕ → List ℕ → ℕ → ℕ → ℕ → List ℤ → Type 0
IsListedBelow weights entries place left bound y = IsListedWith (λ e. e < bound) weights entries place left y

abbrev pub IsListedAt : List ℕ → List ℕ → ℕ → ℕ → ℕ → List ℤ → Type 0
IsListedAt weights entries place left v y = IsListedWith (λ e. e ≡ v) weights entries place left y

head_of : {a b : ℕ} {x y : List ℕ} → a ∷ x ≡ b ∷ y → a ≡ b
head_of {a = a} e = ap (λ (xs : List ℕ). get_or xs 0 a) e

rest_of : {a b : ℕ} {x y : List ℕ} → a ∷ x ≡ b ∷ y → x ≡ y
rest_of e = ap (λ (xs : List ℕ). drop 1 xs) e

spent_with : (s w e v r left : ℕ) → e ≡ v → s ≡ r → v * w + r ≡ left → s + w * e ≡ left
spent_with s w e v r left h i j = rw h (omega (arith, i, j))

spent_without : (s w e v r left : ℕ) → e ≡ v → s + w * e ≡ left → v * w + r ≡ left → s ≡ r
spent_without s w e v r left h i j = let i' = rw h at i in omega (arith, i', j)

-- what is listed from the entry v on is what is listed with v
module _ (weights entries changed : List ℕ) (place left rest v : ℕ) (y : List ℤ) (within : place < length weights)
    (prefix : drop place changed ≡ v ∷ drop (place + 1) entries) (spends : v * get_or weights place 0 + rest ≡ left) where
  next : suc place ≡ place + 1
  next = omega arith

  pub with_from_next : IsListed weights changed place rest y → IsListedAt weights entries place left v y
  with_from_next l =
      let c = l.columns in
      let split : get_or l.exponents place 0 ∷ drop (place + 1) l.exponents ≡ v ∷ drop (place + 1) entries =
      sym (drop_more l.exponents place 0 (omega (arith, c, within))) ∙ (l.agrees ∙ prefix) in
      record {
        listed = record {
          exponents = l.exponents;
          columns = l.columns;
          takes = subst (λ (k : ℕ). spent (take k weights) l.exponents ≡ left) next
              (spent_more weights l.exponents place within ∙ spent_with _ _ _ v rest left (head_of split) l.takes spends);
          agrees = rest_of split;
          same = l.same;
        };
        holds = head_of split;
      }

  pub next_from_with : IsListedAt weights entries place left v y → IsListed weights changed place rest y
  next_from_with l =
      let c = l.listed.columns in
      record {
        exponents = l.listed.exponents;
        columns = l.listed.columns;
        takes = spent_without _ _ _ v rest left l.holds
            (sym (spent_more weights l.listed.exponents place within)
            ∙ subst (λ (k : ℕ). spent (take k weights) l.listed.exponents ≡ left) (sym next) l.listed.takes) spends;
        agrees = drop_more l.listed.exponents place 0 (omega (arith, c, within))
            ∙ ((λ i. l.holds i ∷ l.listed.agrees i) ∙ sym prefix);
        same = l.listed.same;
      }

-- below the next bound stands one more exponent
pub below_more : (weights entries : List ℕ) (place left v : ℕ) (y : List ℤ) → IsListedBelow weights entries place left (v + 1) y
    → IsListedBelow weights entries place left v y ⊎ IsListedAt weights entries place left v y
below_more weights entries place left v y l = by (cases_lt (get_or l.listed.exponents place 0) v)
  where
    by : (get_or l.listed.exponents place 0 < v) ⊎ (v ≤ get_or l.listed.exponents place 0)
        → IsListedBelow weights entries place left v y ⊎ IsListedAt weights entries place left v y
    by (inl h) = inl (record { listed = l.listed; holds = h })
    by (inr h) = let below = l.holds in inr (record { listed = l.listed; holds = omega (arith, h, below) })

pub more_below : (weights entries : List ℕ) (place left v : ℕ) (y : List ℤ) → IsListedBelow weights entries place left v y
    → IsListedBelow weights entries place left (v + 1) y
more_below weights entries place left v y l = let below = l.holds in record { listed = l.listed; holds = omega (arith, below) }

pub at_below : (weights entries : List ℕ) (place left v : ℕ) (y : List ℤ) → IsListedAt weights entries place left v y
    → IsListedBelow weights entries place left (v + 1) y
at_below weights entries place left v y l = let is = l.holds in record { listed = l.listed; holds = omega (arith, is) }

-- all that is listed is below the greatest exponent that is affordable, and one more
below_from_listed : (weights entries : List ℕ) (place left : ℕ) (y : List ℤ) → place < length weights → 0 < get_or weights place 0
    → IsListed weights entries (place + 1) left y → IsListedBelow weights entries place left (left / get_or weights place 0 + 1) y
below_from_listed weights entries place left y within positive l =
    let next : suc place ≡ place + 1 = omega arith in
    let t = sym (spent_more weights l.exponents place within) ∙ subst (λ (k : ℕ). spent (take k weights) l.exponents ≡ left) (sym next) l.takes in
    let small : get_or l.exponents place 0 * get_or weights place 0 ≤ left = omega (arith, t) in
    let most = (le-div_iff_mul-le positive).1 small in
    record { listed = l; holds = omega (arith, most) }

-- the members with those of one exponent more, and without any
module _ (weights entries changed : List ℕ) (place left rest v : ℕ) (old middle new : List (List ℤ)) (within : place < length weights)
    (before : AddsEach (IsListedBelow weights entries place left v) old middle)
    (spends : v * get_or weights place 0 + rest ≡ left) where
  pub added_more : drop place changed ≡ v ∷ drop (place + 1) entries → AddsEach (IsListed weights changed place rest) middle new
      → AddsEach (IsListedBelow weights entries place left (v + 1)) old new
  added_more prefix added y = (λ c. to ((added y).0 c), ⊎_elim (λ o. (added y).1 (inl ((before y).1 (inl o)))) (λ b. from (below_more weights entries place left v y b)))
    where
      to : Contains middle y ⊎ IsListed weights changed place rest y → Contains old y ⊎ IsListedBelow weights entries place left (v + 1) y
      to (inl c) = ⊎_elim (λ o. inl o) (λ b. inr (more_below weights entries place left v y b)) ((before y).0 c)
      to (inr l) = inr (at_below weights entries place left v y (with_from_next weights entries changed place left rest v y within prefix spends l))

      from : IsListedBelow weights entries place left v y ⊎ IsListedAt weights entries place left v y → Contains new y
      from (inl b) = (added y).1 (inl ((before y).1 (inr b)))
      from (inr l) = (added y).1 (inr (next_from_with weights entries changed place left rest v y within prefix spends l))

  pub added_none : (CanTake (take place weights) rest → ⊥) → AddsEach (IsListedBelow weights entries place left (v + 1)) old middle
  added_none cannot y = (
    λ c. ⊎_elim (λ o. inl o) (λ b. inr (more_below weights entries place left v y b)) ((before y).0 c),
    ⊎_elim (λ o. (before y).1 (inl o)) (λ b. from (below_more weights entries place left v y b)),
  )
    where
      from : IsListedBelow weights entries place left v y ⊎ IsListedAt weights entries place left v y → Contains middle y
      from (inl b) = (before y).1 (inr b)
      from (inr l) = absurd (cannot (l.listed.exponents, takes_rest l.listed.takes))
        where
          takes_rest : spent (take (place + 1) weights) l.listed.exponents ≡ left → spent (take place weights) l.listed.exponents ≡ rest
          takes_rest t =
              let next : suc place ≡ place + 1 = omega arith in
              spent_without _ _ _ v rest left l.holds
              (sym (spent_more weights l.listed.exponents place within)
              ∙ subst (λ (k : ℕ). spent (take k weights) l.listed.exponents ≡ left) (sym next) t) spends

-- at the start nothing is listed, at the end all
pub added_all : (weights entries : List ℕ) (place left : ℕ) (old new : List (List ℤ)) → place < length weights
    → 0 < get_or weights place 0 → AddsEach (IsListedBelow weights entries place left (left / get_or weights place 0 + 1)) old new
    → AddsEach (IsListed weights entries (place + 1) left) old new
added_all weights entries place left old new within positive added y = (
  λ c. ⊎_elim (λ o. inl o) (λ b. inr b.listed) ((added y).0 c),
  ⊎_elim (λ o. (added y).1 (inl o)) (λ l. (added y).1 (inr (below_from_listed weights entries place left y within positive l))),
)

pub added_none_at_start : (weights entries : List ℕ) (place left : ℕ) (old : List (List ℤ))
    → AddsEach (IsListedBelow weights entries place left 0) old old
added_none_at_start weights entries place left old y = (λ c. inl c, ⊎_elim (λ o. o) (λ b. absurd (let h = b.holds in omega (arith, h))))

-- one point more
in_push_cases : (xs : List (List ℤ)) (x y : List ℤ) → Contains (xs ++ x ∷ []) y → Contains xs y ⊎ (y ≡ x)
in_push_cases xs x y c = by (Contains-append_cases xs (x ∷ []) y c)
  where
    only : (k : ℕ) → k < 1 → get_or (x ∷ []) k y ≡ y → y ≡ x
    only zero h e = sym e
    only (suc k) h e = absurd (omega (arith, h))

    by : Contains xs y ⊎ Contains (x ∷ []) y → Contains xs y ⊎ (y ≡ x)
    by (inl h) = inl h
    by (inr (k, h, e)) = inr (only k h e)

in_pushed : (xs : List (List ℤ)) (x : List ℤ) → Contains (xs ++ x ∷ []) x
in_pushed xs x = Contains-append_right xs (x ∷ []) x (0, omega arith, refl)

-- what the first weight takes is one exponent
first_taken : (weights b : List ℕ) (e left : ℕ) (a : List ℕ) → 0 < length weights → spent (take 1 weights) b ≡ left → e ≡ get_or b 0 0
    → spent (take 1 weights) (e ∷ a) ≡ left
first_taken [] b e left a some t h = absurd (omega (arith, some))
first_taken (w ∷ weights) [] e left a some t h = let h' : e ≡ 0 = h in rw h' (omega (arith, t))
first_taken (w ∷ weights) (x ∷ b) e left a some t h =
    let h' : e ≡ x = h in rw h' (nothing (take 0 weights) (take 0 weights) refl (w * x) left t)
  where
    none : (ws c : List ℕ) → spent (take 0 ws) c ≡ 0
    none [] c = refl
    none (v ∷ ws) c = refl

    nothing : (vs ws : List ℕ) → vs ≡ ws → (p l : ℕ) → p + spent (take 0 weights) b ≡ l → p + spent (take 0 weights) a ≡ l
    nothing vs ws same p l s = let m = none weights a in let o = none weights b in omega (arith, s, m, o)

-- behind the first place the tail of the entries is listed
pub tail_listed : (weights entries : List ℕ) (place left : ℕ) → place ≡ 1 → 0 < length weights → length entries ≡ length weights
    → CanTake (take place weights) left → IsListed weights entries place left (tail_of entries)
tail_listed weights entries place left first some columns (b, t) = subst (λ (k : ℕ). IsListed weights entries k left (tail_of entries)) (sym first) (record {
  exponents = get_or b 0 0 ∷ drop 1 entries;
  columns = long entries (omega (arith, columns, some)) ∙ columns;
  takes = first_taken weights b (get_or b 0 0) left (drop 1 entries) some (subst (λ (k : ℕ). spent (take k weights) b ≡ left) first t) refl;
  agrees = refl;
  same = refl;
})
  where
    long : (es : List ℕ) → 0 < length es → length (get_or b 0 0 ∷ drop 1 es) ≡ length es
    long [] h = absurd (omega (arith, h))
    long (e ∷ es) h = refl

-- and no other
pub added_first : (weights entries : List ℕ) (place left : ℕ) (old new : List (List ℤ)) → place ≡ 1 → IsListed weights entries place left (tail_of entries)
    → new ≡ old ++ tail_of entries ∷ [] → AddsEach (IsListed weights entries place left) old new
added_first weights entries place left old new first listed pushed y = (
  λ c. ⊎_elim (λ o. inl o) (λ e. inr (subst (IsListed weights entries place left) (sym e) listed))
      (in_push_cases old (tail_of entries) y (subst (λ (xs : List (List ℤ)). Contains xs y) pushed c)),
  ⊎_elim (λ o. subst (λ (xs : List (List ℤ)). Contains xs y) (sym pushed) (Contains-append_left old (tail_of entries ∷ []) y o))
      (λ l. subst (λ (xs : List (List ℤ)). Contains xs y) (sym pushed) (subst (Contains (old ++ tail_of entries ∷ [])) (sym (is l)) (in_pushed old (tail_of entries)))),
)
  where
    is : IsListed weights entries place left y → y ≡ tail_of entries
    is l = l.same ∙ ap (λ (xs : List ℕ). map lowered xs) (subst (λ (k : ℕ). drop k l.exponents ≡ drop k entries) first l.agrees)

-- one vector that wasn't there stands once
pub once_first : (P : List ℤ → Type 0) (old new : List (List ℤ)) (x : List ℤ) → P x → new ≡ old ++ x ∷ [] → StayOnce P old new
once_first P old new x holds pushed once none = subst AreOnce (sym pushed) (ascends_append (λ a b. a ≢ b) old (x ∷ []) once
    (all_from_each {P = λ y. x ≢ y} empty, tt) apart)
  where
    same : (b : List ℤ) → In b (x ∷ []) → b ≡ x
    same b here = refl
    same b (there i) = elim i [ ]

    apart : (a b : List ℤ) → In a old → In b (x ∷ []) → a ≢ b
    apart a b i j e = none a (contains_from_in i) (subst P (sym (e ∙ same b j)) holds)

-- a tail tells the exponents behind the first
tail_tells : (a : List ℕ) (q : ℕ) → get_or (tail_of a) q (lowered 0) ≡ lowered (get_or a (suc q) 0)
tail_tells [] q = refl
tail_tells (e ∷ a) q = get_or-map lowered a q 0

same_lowered : (m n : ℕ) → lowered m ≡ lowered n → m ≡ n
same_lowered m n e = omega (arith, ints, e)

same_exponent : (a b : List ℕ) (p : ℕ) → 0 < p → tail_of a ≡ tail_of b → get_or a p 0 ≡ get_or b p 0
same_exponent a b zero h e = absurd (omega (arith, h))
same_exponent a b (suc q) h e = same_lowered _ _ (sym (tail_tells a q) ∙ (ap (λ (xs : List ℤ). get_or xs q (lowered 0)) e ∙ tail_tells b q))

-- what is listed with one exponent isn't listed with a smaller one
pub once_more : (weights entries changed : List ℕ) (place left rest v : ℕ) (old middle new : List (List ℤ)) → place < length weights → 0 < place
    → AddsEach (IsListedBelow weights entries place left v) old middle → v * get_or weights place 0 + rest ≡ left
    → drop place changed ≡ v ∷ drop (place + 1) entries → StayOnce (IsListed weights entries (place + 1) left) old middle
    → StayOnce (IsListed weights changed place rest) middle new → StayOnce (IsListed weights entries (place + 1) left) old new
once_more weights entries changed place left rest v old middle new within some before spends prefix first then once none =
    then (first once none) (λ y c l. by y (with_from_next weights entries changed place left rest v y within prefix spends l) ((before y).0 c))
  where
    by : (y : List ℤ) → IsListedAt weights entries place left v y → Contains old y ⊎ IsListedBelow weights entries place left v y → ⊥
    by y l (inl c) = none y c l.listed
    by y l (inr m) =
        let e = same_exponent m.listed.exponents l.listed.exponents place some (sym m.listed.same ∙ l.listed.same) in
        let below = m.holds in
        let at = l.holds in
        omega (arith, e, below, at)

-- what is left, and what is spent
pub affordable : (v w left : ℕ) → v < left / w + 1 → 0 < w → v * w + (left - v * w) ≡ left
affordable v w left h p = let small : v * w ≤ left = (le-div_iff_mul-le p).0 (omega arith) in omega arith

pub small_exponent : (v w left : ℕ) → v < left / w + 1 → 0 < w → v ≤ left
small_exponent v w left h p = at v w ((le-div_iff_mul-le p).0 (omega (arith, h))) p
  where
    at : (v w : ℕ) → v * w ≤ left → 0 < w → v ≤ left
    at v zero m q = absurd (omega (arith, q))
    at v (suc w) m q = omega (arith, m)

-- an entry that isn't above the bound keeps all so
pub small_set : (xs : List ℕ) (i v bound : ℕ) → All (λ e. e ≤ bound) xs → v ≤ bound → All (λ e. e ≤ bound) (slice_set xs i v)
small_set xs i v bound small low = all_from_each (each xs i (each_from_all (λ e. e ≤ bound) xs small))
  where
    each : (ys : List ℕ) (j : ℕ) → Each (λ e. e ≤ bound) ys → Each (λ e. e ≤ bound) (slice_set ys j v)
    each [] zero empty = empty
    each [] (suc j) empty = empty
    each (y ∷ ys) zero (more h rest) = more low rest
    each (y ∷ ys) (suc j) (more h rest) = more h (each ys j rest)

-- where nothing stood, nothing stands twice
pub once_from_none : (P : List ℤ → Type 0) (old new : List (List ℤ)) → old ≡ [] → StayOnce P old new → AreOnce new
once_from_none P old new e stay = at (subst (λ (xs : List (List ℤ)). StayOnce P xs new) e stay)
  where
    at : StayOnce P [] new → AreOnce new
    at s = s tt (λ y c p. let h = c.1 in omega (arith, h))
