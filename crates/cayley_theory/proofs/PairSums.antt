-- All vectors of a degree, counted over points by their bases.
use Rattle.std.specs.Prelude.{ℤ, pos}
use Rattle.std.proofs.Common.{◌≡◌, ℕ, suc, ◌+◌, ◌-◌, ◌<◌, ◌≤◌, ◌⊎◌, inl, inr, Bool, List, [], ◌∷◌, ◌++◌, length, map, refl, sym, ap, subst, ◌∙◌, arith}
use Rattle.std.specs.List.{Contains}
use Rattle.std.proofs.lemmas.Bool.{cases_eq, cases_lt}
use Rattle.std.proofs.lemmas.List.{length-append, length-map}
use Rattle.lattice_theory.specs.Affine.{Affine}
use Rattle.lattice_theory.specs.Order.{LexLess, Ascends, Lists}
use Rattle.lattice_theory.proofs.Integers.{same_natural}
use Rattle.lattice_theory.proofs.Members.{In, here, there, Each, more, each_from_all, each_in, in_append_left, in_append_right, in_append_cases, in_from_contains, contains_from_in}
use Rattle.lattice_theory.proofs.Sublists.{ascends_append, in_map, from_map, ascends_map}
use Rattle.face_theory.specs.Sets.{set_size}
use Rattle.cayley_theory.specs.Counts.{sum_of, IsConePair}
use Rattle.cayley_theory.specs.Bases.{lifted_all, HaveParts, IsBase, HasBaseOf, HasDegree, AreFreeParts, Number, none, counted, passed, summed}
use Rattle.cayley_theory.specs.Laws.{CountsByBases}
use Rattle.cayley_theory.proofs.ConeVectors.{lex_append, lex_behind}
use Rattle.cayley_theory.proofs.Summed.{summed_same, summed_plus, summed_nothing, one_at, summed_below, summed_from, one_at_itself, one_at_other}
use Rattle.cayley_theory.proofs.BasePoints.{HasHeights, same_base, from_pair, zero_on_base, none_lower, heights_over}

-- p is a vector of the degree over one of the points
record IsOverOne (n r : ℕ) (vs : List Affine) (set : List Bool) (s : ℕ) (xs : List (List ℤ)) (p : List ℤ) : Type 0 where
  point : List ℤ
  member : In point xs
  heights : List ℤ
  is : p ≡ point ++ heights
  is_pair : IsConePair n r (lifted_all r vs) set s (point ++ heights)

-- the vectors of the degree over the points
record ListsOver (n r : ℕ) (vs : List Affine) (set : List Bool) (s : ℕ) (xs : List (List ℤ)) (k : ℕ) : Type 0 where
  pairs : List (List ℤ)
  ascends : Ascends LexLess pairs
  from : (p : List ℤ) → In p pairs → IsOverOne n r vs set s xs p
  all : (x a : List ℤ) → In x xs → IsConePair n r (lifted_all r vs) set s (x ++ a) → In (x ++ a) pairs
  many : k ≡ length pairs

none_more : (k : ℕ) → 0 + k ≡ k
none_more k = omega arith

module _ (n r : ℕ) (vs : List Affine) (haves : HaveParts n r vs) (set : List Bool) (wide : length set ≡ length vs) (s : ℕ) where
  -- no point
  over_none : ListsOver n r vs set s [] 0
  over_none = record { pairs = []; ascends = tt; from = λ p i. elim i [ ]; all = λ x a i. elim i [ ]; many = refl }

  -- one more point
  over_more : (x : List ℤ) (xs : List (List ℤ)) (j k : ℕ) → Each (LexLess x) xs → HasHeights n r vs set s x j → ListsOver n r vs set s xs k
      → ListsOver n r vs set s (x ∷ xs) (j + k)
  over_more x xs j k first h rest = record {
    pairs = map (λ a. x ++ a) h.heights ++ rest.pairs;
    ascends = ascends_append LexLess (map (λ a. x ++ a) h.heights) rest.pairs
        (ascends_map LexLess LexLess (λ a. x ++ a) (λ a b l. lex_behind x a b l) h.heights h.ascends) rest.ascends cross;
    from = λ p i. by p (in_append_cases (map (λ a. x ++ a) h.heights) rest.pairs i);
    all = every;
    many = let e = length-append (map (λ a. x ++ a) h.heights) rest.pairs in let f = length-map h.heights (λ a. x ++ a) in
        let g = h.many in let m = rest.many in omega (arith, e, f, g, m);
  }
    where
      cross : (p q : List ℤ) → In p (map (λ a. x ++ a) h.heights) → In q rest.pairs → LexLess p q
      cross p q i j =
          let m = from_map (λ a. x ++ a) h.heights i in
          let o = rest.from q j in
          rw (m.is, o.is) (lex_append x o.point m.source o.heights (each_in first o.member))

      deeper : (p : List ℤ) → IsOverOne n r vs set s xs p → IsOverOne n r vs set s (x ∷ xs) p
      deeper p o = record { point = o.point; member = there o.member; heights = o.heights; is = o.is; is_pair = o.is_pair }

      by : (p : List ℤ) → In p (map (λ a. x ++ a) h.heights) ⊎ In p rest.pairs → IsOverOne n r vs set s (x ∷ xs) p
      by p (inl i) =
          let m = from_map (λ a. x ++ a) h.heights i in
          record { point = x; member = here; heights = m.source; is = m.is; is_pair = (h.members m.source).0 (contains_from_in m.member) }
      by p (inr i) = deeper p (rest.from p i)

      every : (y a : List ℤ) → In y (x ∷ xs) → IsConePair n r (lifted_all r vs) set s (y ++ a)
          → In (y ++ a) (map (λ c. x ++ c) h.heights ++ rest.pairs)
      every y a here q = in_append_left rest.pairs (in_map (λ c. y ++ c) (in_from_contains h.heights ((h.members a).1 q)))
      every y a (there i) q = in_append_right (map (λ c. x ++ c) h.heights) (rest.all y a i q)

  module _ (free : List Bool) (are : AreFreeParts r vs set free) where
    -- there are none below the degree of the base
    none_below : (x b : List ℤ) → length x ≡ n → IsBase r vs x b → (l : ℕ) → sum_of b ≡ pos l → s < l → HasHeights n r vs set s x 0
    none_below x b dimension base l degree k = record {
      heights = [];
      ascends = tt;
      members = λ a. (
        λ c. absurd (elim (in_from_contains [] c) [ ]),
        λ q. absurd (none_lower n r vs haves x dimension set wide s b base l degree k a (from_pair n r vs haves x dimension set wide s a q)),
      );
      many = refl;
    }

    -- the heights over a point whose base pairs to 0 with the set
    heights_of : (x : List ℤ) → length x ≡ n → (l : ℕ) → HasBaseOf r vs set l x → HasHeights n r vs set s x (summed (set_size free) (one_at l) s)
    heights_of x dimension l h = by (cases_lt s l)
      where
        by : (s < l) ⊎ (l ≤ s) → HasHeights n r vs set s x (summed (set_size free) (one_at l) s)
        by (inl k) = subst (HasHeights n r vs set s x) (sym (summed_below (set_size free) l s k))
            (none_below x h.base dimension h.is_base l h.degree k)
        by (inr k) =
            let whole : l + (s - l) ≡ s = omega (arith, k) in
            subst (HasHeights n r vs set s x) (sym (summed_from (set_size free) l (s - l) s whole))
            (heights_over n r vs haves x dimension set wide s h.base h.is_base free are h.zero_on l (s - l) h.degree whole)

    -- and over one whose base doesn't
    no_heights : (x : List ℤ) → length x ≡ n → (h : HasDegree r vs x) → (HasBaseOf r vs set h.degree x → ⊥) → HasHeights n r vs set s x 0
    no_heights x dimension h not = record {
      heights = [];
      ascends = tt;
      members = λ a. (
        λ c. absurd (elim (in_from_contains [] c) [ ]),
        λ q. absurd (not (record {
          base = h.base;
          is_base = h.is_base;
          zero_on = zero_on_base n r vs haves x dimension set wide s h.base a h.is_base (from_pair n r vs haves x dimension set wide s a q);
          degree = h.degree_is;
        })),
      );
      many = refl;
    }

    -- a point has one degree
    one_degree : (x : List ℤ) → length x ≡ n → (h : HasDegree r vs x) (l : ℕ) → HasBaseOf r vs set l x → l ≡ h.degree
    one_degree x dimension h l o =
        same_natural l h.degree (sym o.degree ∙ ap sum_of (same_base n r vs haves x dimension o.base h.base o.is_base h.is_base) ∙ h.degree_is)

    -- what is left of a number of points without the first
    record IsLess (x : List ℤ) (xs : List (List ℤ)) (l count : ℕ) : Type 0 where
      others : ℕ
      number : Number (HasBaseOf r vs set l) xs others
      same : ((HasBaseOf r vs set l x) × (count ≡ suc others)) ⊎ ((HasBaseOf r vs set l x → ⊥) × (count ≡ others))

    without_first : (x : List ℤ) (xs : List (List ℤ)) (l count : ℕ) → Number (HasBaseOf r vs set l) (x ∷ xs) count → IsLess x xs l count
    without_first x xs l count (counted {k = k} p rest) = record { others = k; number = rest; same = inl (p, refl) }
    without_first x xs l count (passed {k = k} p rest) = record { others = k; number = rest; same = inr (p, refl) }

    without_any : (l count : ℕ) → Number (HasBaseOf r vs set l) [] count → count ≡ 0
    without_any l count none = refl

    -- a number of points of a degree that is too high isn't asked for
    abbrev IsLessUpTo : List ℤ → List (List ℤ) → ℕ → ℕ → Type 0
    IsLessUpTo x xs l count = (s < l) ⊎ IsLess x xs l count

    abbrev others_in : (x : List ℤ) (xs : List (List ℤ)) (l count : ℕ) → IsLessUpTo x xs l count → ℕ
    others_in x xs l count (inl high) = 0
    others_in x xs l count (inr h) = h.others

    number_in : (x : List ℤ) (xs : List (List ℤ)) (l count : ℕ) (c : IsLessUpTo x xs l count) → l ≤ s
        → Number (HasBaseOf r vs set l) xs (others_in x xs l count c)
    number_in x xs l count (inl high) k = absurd (omega (arith, high, k))
    number_in x xs l count (inr h) k = h.number

    -- where the first point doesn't have a base of the degree, the number is that of the others, and where it does, it's one more
    same_in : (x : List ℤ) (xs : List (List ℤ)) (l count : ℕ) (c : IsLessUpTo x xs l count) → l ≤ s → (HasBaseOf r vs set l x → ⊥)
        → count ≡ others_in x xs l count c
    same_in x xs l count (inl high) k o = absurd (omega (arith, high, k))
    same_in x xs l count (inr h) k o = by h.same
      where
        by : ((HasBaseOf r vs set l x) × (count ≡ suc h.others)) ⊎ ((HasBaseOf r vs set l x → ⊥) × (count ≡ h.others)) → count ≡ h.others
        by (inl p) = absurd (o p.0)
        by (inr p) = p.1

    more_in : (x : List ℤ) (xs : List (List ℤ)) (l count : ℕ) (c : IsLessUpTo x xs l count) → l ≤ s → HasBaseOf r vs set l x
        → count ≡ suc (others_in x xs l count c)
    more_in x xs l count (inl high) k o = absurd (omega (arith, high, k))
    more_in x xs l count (inr h) k o = by h.same
      where
        by : ((HasBaseOf r vs set l x) × (count ≡ suc h.others)) ⊎ ((HasBaseOf r vs set l x → ⊥) × (count ≡ h.others)) → count ≡ suc h.others
        by (inl p) = p.1
        by (inr p) = absurd (p.0 o)

    module _ (x : List ℤ) (xs : List (List ℤ)) (dimension : length x ≡ n) (h : HasDegree r vs x) (counts : ℕ → ℕ)
        (numbers : (l : ℕ) → IsLessUpTo x xs l (counts l)) where
      abbrev others : ℕ → ℕ
      others l = others_in x xs l (counts l) (numbers l)

      -- where the base pairs to 0 with the set, the number of its degree is one more
      counted_more : HasBaseOf r vs set h.degree x → (l : ℕ) → l ≤ s → counts l ≡ one_at h.degree l + others l
      counted_more o l k = by (cases_eq l h.degree)
        where
          by : (l ≡ h.degree) ⊎ (l ≡ h.degree → ⊥) → counts l ≡ one_at h.degree l + others l
          by (inl e) =
              let one = subst (λ (i : ℕ). one_at h.degree i ≡ 1) (sym e) (one_at_itself h.degree) in
              let c = more_in x xs l (counts l) (numbers l) k (subst (λ (i : ℕ). HasBaseOf r vs set i x) (sym e) o) in
              omega (arith, one, c)
          by (inr d) =
              let zero = one_at_other h.degree l d in
              let c = same_in x xs l (counts l) (numbers l) k (λ p. d (one_degree x dimension h l p)) in
              omega (arith, zero, c)

      -- where it doesn't, or the degree is too high, no number is
      passed_same : (HasBaseOf r vs set h.degree x → ⊥) → (l : ℕ) → l ≤ s → counts l ≡ others l
      passed_same o l k = same_in x xs l (counts l) (numbers l) k
          (λ p. o (subst (λ (i : ℕ). HasBaseOf r vs set i x) (one_degree x dimension h l p) p))

      high_same : s < h.degree → (l : ℕ) → l ≤ s → counts l ≡ others l
      high_same high l k = same_in x xs l (counts l) (numbers l) k (λ p. let e = one_degree x dimension h l p in absurd (omega (arith, e, k, high)))

      module _ (first : Each (LexLess x) xs) (rest : ListsOver n r vs set s xs (summed (set_size free) others s)) where
        same_numbers : ((l : ℕ) → l ≤ s → counts l ≡ others l) → HasHeights n r vs set s x 0
            → ListsOver n r vs set s (x ∷ xs) (summed (set_size free) counts s)
        same_numbers same nothing = subst (ListsOver n r vs set s (x ∷ xs))
            (none_more (summed (set_size free) others s) ∙ sym (summed_same (set_size free) counts others s same))
            (over_more x xs 0 (summed (set_size free) others s) first nothing rest)

        one_more : HasBaseOf r vs set h.degree x → ListsOver n r vs set s (x ∷ xs) (summed (set_size free) counts s)
        one_more o = subst (ListsOver n r vs set s (x ∷ xs))
            (sym (summed_same (set_size free) counts (λ l. one_at h.degree l + others l) s (counted_more o)
            ∙ summed_plus (set_size free) (one_at h.degree) others s))
            (over_more x xs (summed (set_size free) (one_at h.degree) s) (summed (set_size free) others s) first
            (heights_of x dimension h.degree o) rest)

        over_first : ListsOver n r vs set s (x ∷ xs) (summed (set_size free) counts s)
        over_first = by (numbers h.degree)
          where
            by : IsLessUpTo x xs h.degree (counts h.degree) → ListsOver n r vs set s (x ∷ xs) (summed (set_size free) counts s)
            by (inl high) = same_numbers (high_same high) (none_below x h.base dimension h.is_base h.degree h.degree_is high)
            by (inr i) = cases i.same
              where
                cases : ((HasBaseOf r vs set h.degree x) × (counts h.degree ≡ suc i.others)) ⊎ ((HasBaseOf r vs set h.degree x → ⊥) × (counts h.degree ≡ i.others))
                    → ListsOver n r vs set s (x ∷ xs) (summed (set_size free) counts s)
                cases (inl p) = one_more p.0
                cases (inr p) = same_numbers (passed_same p.0) (no_heights x dimension h p.0)

    -- the number of a degree without the first point, where it is asked for
    less_up_to : (x : List ℤ) (xs : List (List ℤ)) (counts : ℕ → ℕ) → ((l : ℕ) → l ≤ s → Number (HasBaseOf r vs set l) (x ∷ xs) (counts l)) → (l : ℕ)
        → IsLessUpTo x xs l (counts l)
    less_up_to x xs counts numbers l = by (cases_lt s l)
      where
        by : (s < l) ⊎ (l ≤ s) → IsLessUpTo x xs l (counts l)
        by (inl high) = inl high
        by (inr k) = inr (without_first x xs l (counts l) (numbers l k))

    over_all : (xs : List (List ℤ)) → Ascends LexLess xs → Each (λ x. length x ≡ n) xs → Each (HasDegree r vs) xs → (counts : ℕ → ℕ)
        → ((l : ℕ) → l ≤ s → Number (HasBaseOf r vs set l) xs (counts l)) → ListsOver n r vs set s xs (summed (set_size free) counts s)
    over_all [] up d h counts numbers = subst (ListsOver n r vs set s [])
        (sym (summed_same (set_size free) counts (λ l. 0) s (λ l k. without_any l (counts l) (numbers l k)) ∙ summed_nothing (set_size free) s)) over_none
    over_all (x ∷ xs) up (more d ds) (more h hs) counts numbers =
        let less = less_up_to x xs counts numbers in
        over_first x xs d h counts less (each_from_all (LexLess x) xs up.0)
        (over_all xs up.1 ds hs (others x xs d h counts less) (λ l k. number_in x xs l (counts l) (less l) k))

    -- so they are all vectors of the degree, where the points are all that these have
    pub counted_by_bases : (xs : List (List ℤ)) → Ascends LexLess xs → Each (λ x. length x ≡ n) xs → Each (HasDegree r vs) xs
        → ((x a : List ℤ) → IsConePair n r (lifted_all r vs) set s (x ++ a) → length x ≡ n → Contains xs x) → (counts : ℕ → ℕ)
        → ((l : ℕ) → l ≤ s → Number (HasBaseOf r vs set l) xs (counts l))
        → (pairs : List (List ℤ)) × Lists LexLess (IsConePair n r (lifted_all r vs) set s) pairs × (summed (set_size free) counts s ≡ length pairs)
    counted_by_bases xs up d h all counts numbers =
        let over = over_all xs up d h counts numbers in (
          over.pairs,
          record {
            ascends = over.ascends;
            members = λ p. (
              λ c. let o = over.from p (in_from_contains over.pairs c) in
                  subst (IsConePair n r (lifted_all r vs) set s) (sym o.is) o.is_pair,
              λ q. subst (Contains over.pairs) (sym q.is) (contains_from_in (over.all q.point q.heights
                  (in_from_contains xs (all q.point q.heights (subst (IsConePair n r (lifted_all r vs) set s) q.is q) q.dimension))
                  (subst (IsConePair n r (lifted_all r vs) set s) q.is q))),
            );
          },
          over.many,
        )

pub counts_by_bases_lem : CountsByBases
counts_by_bases_lem n r vs set free s points counts haves wide are up d h all numbers =
    counted_by_bases n r vs haves set wide s free are points up (each_from_all (λ x. length x ≡ n) points d) (each_from_all (HasDegree r vs) points h)
    all counts numbers
