-- Rows that are made of a table and another row, one after another.
use Rattle.std.proofs.Common.{◌≡◌, ◌≢◌, ◌⊎◌, inl, inr, ⊎_elim, ◌↔◌, ℕ, zero, suc, ◌+◌, ◌<◌, ◌≤◌, List, [], ◌∷◌, ◌++◌, length, take, get_or, Contains, refl, sym, ap, ◌∙◌, subst, arith, append_assoc, append-nil, length-append, take_all, le_of_suc-le-suc, not-suc-le-zero}
use Rattle.std.proofs.lemmas.List.Quantifiers.{all_pairs_push}
use Rattle.lattice_theory.proofs.Members.{In, here, there, in_append_left, in_append_right, in_append_cases, in_from_contains, contains_from_in}
use Rattle.face_closing.specs.Words.{meet_words}
use Rattle.face_closing.specs.Tables.{AreApart, IsAdded, HasNoRoom, IsMade, IsClosedBy, MakesTooMany}
use Rattle.face_closing.specs.declared.limits.TheConstants.{MOST_FACES}

-- the same with the first k rows of the table alone
abbrev pub IsMadeBelow : ℕ → List (List ℕ) → List ℕ → List ℕ → Type 0
IsMadeBelow k before row made = Contains before made ⊎ ((old : List ℕ) × Contains (take k before) old × (made ≡ meet_words old row))

-- the rows so far: those before, and what the first k of them make
pub record IsClosedBelow (k : ℕ) (before : List (List ℕ)) (row : List ℕ) (now : List (List ℕ)) : Type 0 where
  pub added : List (List ℕ)
  pub is : now ≡ before ++ added
  pub members : (made : List ℕ) → Contains now made ↔ IsMadeBelow k before row made
  pub apart : AreApart now

pub closed_first : (before : List (List ℕ)) (row : List ℕ) → AreApart before → IsClosedBelow 0 before row before
closed_first before row a = record {
  added = [];
  is = sym (append-nil before);
  members = λ s. (
    λ c. inl c,
    λ m. ⊎_elim (λ (c : Contains before s). c)
        (λ (o : (old : List ℕ) × Contains (take 0 before) old × (s ≡ meet_words old row)). absurd (none (in_from_contains (take 0 before) o.1))) m,
  );
  apart = a;
}
  where
    nothing : {x : List ℕ} (xs : List (List ℕ)) → In x xs → xs ≡ [] → ⊥
    nothing [] i e = elim i [ ]
    nothing (y ∷ ys) i e = cc

    none : {x : List ℕ} → In x (take 0 before) → ⊥
    none i = nothing (take 0 before) i (start before)
      where
        start : (xs : List (List ℕ)) → take 0 xs ≡ []
        start [] = refl
        start (x ∷ xs) = refl

-- the first k + 1 rows
first_rows : (xs : List (List ℕ)) (k : ℕ) → k < length xs → take (suc k) xs ≡ take k xs ++ (get_or xs k [] ∷ [])
first_rows [] k l = absurd (not-suc-le-zero l)
first_rows (y ∷ xs) zero l = refl
first_rows (y ∷ xs) (suc k) l = ap (λ (r : List (List ℕ)). y ∷ r) (first_rows xs k (le_of_suc-le-suc l))

front_row : (xs ys : List (List ℕ)) (k : ℕ) → k < length xs → get_or (xs ++ ys) k [] ≡ get_or xs k []
front_row [] ys k l = absurd (not-suc-le-zero l)
front_row (y ∷ xs) ys zero l = refl
front_row (y ∷ xs) ys (suc k) l = front_row xs ys k (le_of_suc-le-suc l)

only : {x y : List ℕ} → In x (y ∷ []) → x ≡ y
only here = refl
only (there i) = elim i [ ]

module _ (k : ℕ) (before : List (List ℕ)) (row : List ℕ) (now : List (List ℕ)) (item : List ℕ) (l : k < length before) (item_is : item ≡ get_or now k [])
    (h : IsClosedBelow k before row now) where
  item_before : get_or before k [] ≡ item
  item_before = sym (front_row before h.added k l) ∙ ap (λ (r : List (List ℕ)). get_or r k []) (sym h.is) ∙ sym item_is

  next_rows : take (suc k) before ≡ take k before ++ (item ∷ [])
  next_rows = first_rows before k l ∙ ap (λ (x : List ℕ). take k before ++ (x ∷ [])) item_before

  -- what the row at k makes too
  made_next : (made : List ℕ) → IsMadeBelow (suc k) before row made → IsMadeBelow k before row made ⊎ (made ≡ meet_words item row)
  made_next made (inl c) = inl (inl c)
  made_next made (inr (old, c, is)) = ⊎_elim
      (λ (i : In old (take k before)). inl (inr (old, contains_from_in i, is)))
      (λ (i : In old (item ∷ [])). inr (is ∙ ap (λ (r : List ℕ). meet_words r row) (only i)))
      (in_append_cases (take k before) (item ∷ []) (in_from_contains (take k before ++ (item ∷ []))
      (subst (λ (r : List (List ℕ)). Contains r old) next_rows c)))

  made_more : (made : List ℕ) → IsMadeBelow k before row made → IsMadeBelow (suc k) before row made
  made_more made (inl c) = inl c
  made_more made (inr (old, c, is)) = inr (
    old,
    subst (λ (r : List (List ℕ)). Contains r old) (sym next_rows)
        (contains_from_in (in_append_left (item ∷ []) (in_from_contains (take k before) c))),
    is,
  )

  made_item : IsMadeBelow (suc k) before row (meet_words item row)
  made_item = inr (item, subst (λ (r : List (List ℕ)). Contains r item) (sym next_rows) (contains_from_in (in_append_right (take k before) here)), refl)

  -- where what they have in common is there
  pub closed_same : Contains now (meet_words item row) → IsClosedBelow (suc k) before row now
  closed_same c = record {
    added = h.added;
    is = h.is;
    members = λ s. (
      λ d. made_more s ((h.members s).0 d),
      λ m. ⊎_elim (λ (n : IsMadeBelow k before row s). (h.members s).1 n)
          (λ (q : s ≡ meet_words item row). subst (Contains now) (sym q) c) (made_next s m),
    );
    apart = h.apart;
  }

  -- where it is added
  now_or_made : (s : List ℕ) → Contains (now ++ (meet_words item row ∷ [])) s → IsMadeBelow (suc k) before row s
  now_or_made s d = ⊎_elim
      (λ (i : In s now). made_more s ((h.members s).0 (contains_from_in i)))
      (λ (i : In s (meet_words item row ∷ [])). subst (IsMadeBelow (suc k) before row) (sym (only i)) made_item)
      (in_append_cases now (meet_words item row ∷ []) (in_from_contains (now ++ (meet_words item row ∷ [])) d))

  one_apart : (Contains now (meet_words item row) → ⊥) → AreApart (now ++ (meet_words item row ∷ []))
  one_apart n = all_pairs_push (λ a b. a ≢ b) now (meet_words item row) h.apart
      (λ j d m e. n (subst (Contains now) e (contains_from_in (at now j d m))))
    where
      at : (xs : List (List ℕ)) (j : ℕ) (d : List ℕ) → j < length xs → In (get_or xs j d) xs
      at [] j d m = absurd (omega arith)
      at (x ∷ xs) zero d m = here
      at (x ∷ xs) (suc j) d m = there (at xs j d (le_of_suc-le-suc m))

  pub closed_push : (Contains now (meet_words item row) → ⊥) → IsClosedBelow (suc k) before row (now ++ (meet_words item row ∷ []))
  closed_push n = record {
    added = h.added ++ (meet_words item row ∷ []);
    is = ap (λ (r : List (List ℕ)). r ++ (meet_words item row ∷ [])) h.is ∙ append_assoc before h.added (meet_words item row ∷ []);
    members = λ s. (
      λ d. now_or_made s d,
      λ m. ⊎_elim
          (λ (n : IsMadeBelow k before row s). contains_from_in (in_append_left (meet_words item row ∷ []) (in_from_contains now ((h.members s).1 n))))
          (λ (q : s ≡ meet_words item row). subst (Contains (now ++ (meet_words item row ∷ []))) (sym q) (contains_from_in (in_append_right now here)))
          (made_next s m),
    );
    apart = one_apart n;
  }

  -- where there is no room for it
  made_whole : (s : List ℕ) → IsMadeBelow (suc k) before row s → IsMade before row s
  made_whole s (inl c) = inl c
  made_whole s (inr (old, c, is)) = inr (old, contains_from_in (in_front (suc k) before (in_from_contains (take (suc k) before) c)), is)
    where
      in_front : {x : List ℕ} (j : ℕ) (xs : List (List ℕ)) → In x (take j xs) → In x xs
      in_front zero [] i = i
      in_front zero (x ∷ xs) i = elim i [ ]
      in_front (suc j) [] i = i
      in_front (suc j) (x ∷ xs) here = here
      in_front (suc j) (x ∷ xs) (there i) = there (in_front j xs i)

  pub too_many : (Contains now (meet_words item row) → ⊥) → length now ≡ MOST_FACES → MakesTooMany row before
  too_many n full = record {
    some = now ++ (meet_words item row ∷ []);
    many = let e = length-append now (meet_words item row ∷ []) in omega arith;
    apart = one_apart n;
    are_made = λ s d. made_whole s (now_or_made s d);
  }

  -- where it is added unless it is there
  pub closed_added : (words : List ℕ) (next : List (List ℕ)) (n : ℕ) → words ≡ meet_words item row → IsAdded now words next → n ≡ k + 1
      → IsClosedBelow n before row next
  closed_added words next n w (inl (c, e)) s = subst (λ (rows : List (List ℕ)). IsClosedBelow n before row rows) (sym e)
      (subst (λ (m : ℕ). IsClosedBelow m before row now) (let q = s in omega arith) (closed_same (subst (Contains now) w c)))
  closed_added words next n w (inr (d, e)) s = subst (λ (rows : List (List ℕ)). IsClosedBelow n before row rows)
      (ap (λ (x : List ℕ). now ++ x ∷ []) (sym w) ∙ sym e)
      (subst (λ (m : ℕ). IsClosedBelow m before row (now ++ meet_words item row ∷ [])) (let q = s in omega arith)
      (closed_push (λ c. d (subst (Contains now) (sym w) c))))

  pub more_than_fit : (words : List ℕ) → words ≡ meet_words item row → HasNoRoom now words → MakesTooMany row before
  more_than_fit words w h = too_many (λ c. h.missing (subst (Contains now) (sym w) c)) h.full

-- at the end all rows were taken
pub closed_all : (k : ℕ) (before : List (List ℕ)) (row : List ℕ) (now : List (List ℕ)) → length before ≤ k → IsClosedBelow k before row now
    → IsClosedBy row before now
closed_all k before row now l h = record {
  members = λ s. subst (λ (r : List (List ℕ)). Contains now s ↔ (Contains before s ⊎ ((old : List ℕ) × Contains r old × (s ≡ meet_words old row))))
      (take_all k before l) (h.members s);
  apart = h.apart;
}
