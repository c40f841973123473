-- The place of a search.
use Rattle.std.proofs.Common.{◌≡◌, ◌⊎◌, inl, inr, ℕ, ◌+◌, ◌*◌, ◌^◌, ◌<◌, ◌≤◌, List, [], ◌∷◌, ◌++◌, length, drop, get_or, refl, sym, ap, ◌∙◌, subst, arith, length-append}
use Rattle.std.specs.List.{Contains}
use Rattle.std.specs.Prelude.{slice_index_or}
use Rattle.std.proofs.lemmas.Bool.{cases_lt}
use Rattle.std.proofs.lemmas.List.{append-nil, append_assoc, drop_all, drop_more}
use Rattle.lattice_theory.specs.Order.{Ascends, Lists}
use Rattle.lattice_theory.proofs.Members.{each_left, each_right, each_in, each_from_all, all_from_each, In}
use Rattle.lattice_theory.proofs.Members.{here, there, in_append_left, in_append_right, in_append_cases, in_from_contains, contains_from_in}
use Rattle.lattice_core.specs.Weights.{Weighted, weighted, weighted_all}
use Rattle.lattice_core.specs.declared.weights.WeightSystem.{WeightSystem}
use Rattle.interior_point_theory.specs.Interior.{SystemLess, IsSystemOfRange}
use Rattle.interior_point_theory.proofs.Degrees.{system_asymmetric}
use Rattle.weight_enum.specs.Taken.{AreSearched}
use Rattle.weight_enum.specs.Systems.{IsSystemOfDegree, AreSystemsOfDegree}
use Rattle.weight_enum.specs.Searched.{IsSystemAt, HasSystems}
use Rattle.weight_enum.specs.steps.Places.{IsSystemBelow, IsPlace, IsFilled}
use Rattle.weight_enum.specs.declared.search.Listed.{Listed}
use Rattle.weight_enum.proofs.Listing.{lists_append}

-- the parts of a list that ascends
ascends_left : {X : Type 0} (less : X → X → Type 0) (xs ys : List X) → Ascends less (xs ++ ys) → Ascends less xs
ascends_left less [] ys a = tt
ascends_left less (x ∷ xs) ys a = (all_from_each (each_left xs ys (each_from_all (less x) (xs ++ ys) a.0)), ascends_left less xs ys a.1)

ascends_right : {X : Type 0} (less : X → X → Type 0) (xs ys : List X) → Ascends less (xs ++ ys) → Ascends less ys
ascends_right less [] ys a = a
ascends_right less (x ∷ xs) ys a = ascends_right less xs ys a.1

ascends_across : {X : Type 0} {x y : X} (less : X → X → Type 0) (xs ys : List X) → Ascends less (xs ++ ys) → In x xs → In y ys → less x y
ascends_across less [] ys a i j = elim i [ ]
ascends_across less (z ∷ xs) ys a here j = each_in (each_right xs ys (each_from_all (less z) (xs ++ ys) a.0)) j
ascends_across less (z ∷ xs) ys a (there i) j = ascends_across less xs ys a.1 i j

-- systems below the next degree are in the range
below_in_range : (dim low high next : ℕ) (s : Weighted) → next ≤ high + 1 → IsSystemBelow dim low next s → IsSystemOfRange dim low high s
below_in_range dim low high next s most is =
    let below = is.below in
    record { columns = is.columns; least = is.least; most = omega (arith, most, below); is_system = is.is_system }

range_below : (dim low high next : ℕ) (s : Weighted) → s.degree < next → IsSystemOfRange dim low high s → IsSystemBelow dim low next s
range_below dim low high next s below is = record { columns = is.columns; least = is.least; below = below; is_system = is.is_system }

degree_below : (next : ℕ) (t s : Weighted) → SystemLess t s → s.degree < next → t.degree < next
degree_below next t s (inl l) h = omega (arith, l, h)
degree_below next t s (inr l) h = let e = l.0 in omega (arith, e, h)

-- at the start no degree is below
none_below : (dim low : ℕ) → Lists SystemLess (IsSystemBelow dim low low) []
none_below dim low = record { ascends = tt; members = λ s. (λ c. absurd (nothing c), λ is. let least = is.least in let below = is.below in absurd (omega (arith, least, below))) }
  where
    nothing : {x : Weighted} → Contains {X = Weighted} [] x → ⊥
    nothing (k, h, e) = omega (arith, h)

-- with the systems of the next degree
one_degree_more : (dim low next : ℕ) (before new : List Weighted) → low ≤ next → Lists SystemLess (IsSystemBelow dim low next) before
    → AreSystemsOfDegree next (dim + 1) new → Lists SystemLess (IsSystemBelow dim low (next + 1)) (before ++ new)
one_degree_more dim low next before new least l m =
    lists_append SystemLess (IsSystemBelow dim low next) (IsSystemOfDegree next (dim + 1)) (IsSystemBelow dim low (next + 1)) before new l m
    (λ x y p q. let below = p.below in let is = q.degree_is in inl (omega (arith, below, is)))
    (λ x. (λ r. to x r (cases_lt x.degree next), from x))
  where
    to : (x : Weighted) → IsSystemBelow dim low (next + 1) x → (x.degree < next) ⊎ (next ≤ x.degree) → IsSystemBelow dim low next x ⊎ IsSystemOfDegree next (dim + 1) x
    to x r (inl h) = inl (record { columns = r.columns; least = r.least; below = h; is_system = r.is_system })
    to x r (inr h) = let below = r.below in inr (record { columns = r.columns; degree_is = omega (arith, below, h); is_system = r.is_system })

    from : (x : Weighted) → IsSystemBelow dim low next x ⊎ IsSystemOfDegree next (dim + 1) x → IsSystemBelow dim low (next + 1) x
    from x (inl p) = let below = p.below in record { columns = p.columns; least = p.least; below = omega (arith, below); is_system = p.is_system }
    from x (inr q) = let is = q.degree_is in record { columns = q.columns; least = omega (arith, is, least); below = omega (arith, is); is_system = q.is_system }

-- the system behind those that were given
pub system_at : (dim low high next : ℕ) (before after : List Weighted) (s : Weighted) → next ≤ high + 1
    → Lists SystemLess (IsSystemBelow dim low next) (before ++ s ∷ after) → IsSystemAt dim low high (length before) s
system_at dim low high next before after s most l =
    let is : IsSystemBelow dim low next s = (l.members s).0 (contains_from_in (in_append_right before here)) in
    record {
      is_system = below_in_range dim low high next s most is;
      before = before;
      are_before = record {
        ascends = ascends_left SystemLess before (s ∷ after) l.ascends;
        members = λ t. (
          λ c. let i = in_from_contains before c in (
            below_in_range dim low high next t most ((l.members t).0 (contains_from_in (in_append_left (s ∷ after) i))),
            ascends_across SystemLess before (s ∷ after) l.ascends i here,
          ),
          λ h. contains_from_in (front t h.1 (in_append_cases before (s ∷ after)
              (in_from_contains (before ++ s ∷ after) ((l.members t).1 (range_below dim low high next t (degree_below next t s h.1 is.below) h.0))))),
        );
      };
      count = refl;
    }
  where
    late : (t : Weighted) → In t (s ∷ after) → SystemLess t s → ⊥
    late t here h = system_asymmetric s s h h
    late t (there j) h = system_asymmetric s t (each_in (each_from_all (SystemLess s) after (ascends_right SystemLess before (s ∷ after) l.ascends).0) j) h

    front : (t : Weighted) → SystemLess t s → In t before ⊎ In t (s ∷ after) → In t before
    front t less (inl i) = i
    front t less (inr j) = absurd (late t j less)

-- nothing was listed yet
pub start_place : (dim low high : ℕ) (listed : Listed) → AreSearched high (dim + 1) → low ≤ high → listed.next ≡ low → listed.systems.items ≡ []
    → listed.place ≡ 0 → IsPlace dim low high 0 listed
start_place dim low high listed searched range next none place =
    let rest : drop listed.place listed.systems.items ≡ [] = ap (λ (ss : List WeightSystem). drop listed.place ss) none ∙ drop_all listed.place [] (omega arith) in
    record {
      searched = searched;
      degrees = 0;
      low_is = omega (arith, next);
      next_is = omega (arith, next, range);
      within = omega (arith, place);
      before = [];
      are_below = subst (λ (ss : List WeightSystem). Lists SystemLess (IsSystemBelow dim low listed.next) (weighted_all ss)) (sym rest)
          (subst (λ (n : ℕ). Lists SystemLess (IsSystemBelow dim low n) []) (sym next) (none_below dim low));
      given_is = refl;
      few = subst (λ (ss : List WeightSystem). 0 + length ss ≤ 0 * 2 ^ 64) (sym rest) (omega arith);
    }

-- the systems of the next degree are listed, where all of the listed ones were given
pub next_place : (dim low high given : ℕ) (old new : Listed) → IsPlace dim low high given old → length old.systems.items ≤ old.place → old.next ≤ high
    → AreSystemsOfDegree old.next (dim + 1) (weighted_all new.systems.items) → length new.systems.items ≤ 2 ^ 64 → new.next ≡ old.next + 1 → new.place ≡ 0
    → IsPlace dim low high given new
next_place dim low high given old new p past within systems many next place =
    let low_is = p.low_is in
    let few = p.few in
    let given_is = p.given_is in
    let old_rest : drop old.place old.systems.items ≡ [] = drop_all old.place old.systems.items past in
    let rest : drop new.place new.systems.items ≡ new.systems.items = ap (λ (k : ℕ). drop k new.systems.items) place in
    let below : Lists SystemLess (IsSystemBelow dim low old.next) p.before =
    subst (Lists SystemLess (IsSystemBelow dim low old.next)) (ap (λ (ss : List WeightSystem). p.before ++ weighted_all ss) old_rest ∙ append-nil p.before) p.are_below in
    let more = one_degree_more dim low old.next p.before (weighted_all new.systems.items) (omega (arith, low_is)) below systems in
    let given_few : given ≤ p.degrees * 2 ^ 64 = omega (arith, few) in
    record {
      searched = p.searched;
      degrees = p.degrees + 1;
      low_is = omega (arith, low_is, next);
      next_is = omega (arith, next, within);
      within = omega (arith, place);
      before = p.before;
      are_below = subst (λ (ss : List WeightSystem). Lists SystemLess (IsSystemBelow dim low new.next) (p.before ++ weighted_all ss)) (sym rest)
          (subst (λ (n : ℕ). Lists SystemLess (IsSystemBelow dim low n) (p.before ++ weighted_all new.systems.items)) (sym next) more);
      given_is = given_is;
      few = subst (λ (ss : List WeightSystem). given + length ss ≤ (p.degrees + 1) * 2 ^ 64) (sym rest) (omega (arith, given_few, many));
    }

-- one of the listed systems is given
module _ (dim low high given : ℕ) (old : Listed) (s : WeightSystem) (p : IsPlace dim low high given old)
    (split : drop old.place old.systems.items ≡ s ∷ drop (old.place + 1) old.systems.items) where
  together : Lists SystemLess (IsSystemBelow dim low old.next) (p.before ++ weighted s ∷ weighted_all (drop (old.place + 1) old.systems.items))
  together = subst (λ (ss : List WeightSystem). Lists SystemLess (IsSystemBelow dim low old.next) (p.before ++ weighted_all ss)) split p.are_below

  pub given_system : IsSystemAt dim low high given (weighted s)
  given_system = subst (λ (k : ℕ). IsSystemAt dim low high k (weighted s)) p.given_is
      (system_at dim low high old.next p.before (weighted_all (drop (old.place + 1) old.systems.items)) (weighted s) p.next_is together)

  -- so many were given, that one more is counted in 128 bits
  pub given_small : given + 1 ≤ p.degrees * 2 ^ 64
  given_small =
      let few : given + length (s ∷ drop (old.place + 1) old.systems.items) ≤ p.degrees * 2 ^ 64 =
      subst (λ (ss : List WeightSystem). given + length ss ≤ p.degrees * 2 ^ 64) split p.few in
      omega (arith, few)

  pub given_place : (new : Listed) → old.place < length old.systems.items → new.next ≡ old.next → new.systems.items ≡ old.systems.items
      → new.place ≡ old.place + 1 → IsPlace dim low high (given + 1) new
  given_place new within next same place =
      let low_is = p.low_is in
      let next_is = p.next_is in
      let given_is = p.given_is in
      let long = ap length same in
      let left = weighted_all (drop (old.place + 1) old.systems.items) in
      let few : given + length (s ∷ drop (old.place + 1) old.systems.items) ≤ p.degrees * 2 ^ 64 =
      subst (λ (ss : List WeightSystem). given + length ss ≤ p.degrees * 2 ^ 64) split p.few in
      let rest : drop new.place new.systems.items ≡ drop (old.place + 1) old.systems.items =
      ap (λ (k : ℕ). drop k new.systems.items) place ∙ ap (λ (ss : List WeightSystem). drop (old.place + 1) ss) same in
      let below : Lists SystemLess (IsSystemBelow dim low old.next) ((p.before ++ weighted s ∷ []) ++ left) =
      subst (Lists SystemLess (IsSystemBelow dim low old.next)) (sym (append_assoc p.before (weighted s ∷ []) left)) together in
      record {
        searched = p.searched;
        degrees = p.degrees;
        low_is = omega (arith, low_is, next);
        next_is = omega (arith, next, next_is);
        within = omega (arith, within, place, long);
        before = p.before ++ weighted s ∷ [];
        are_below = subst (λ (ss : List WeightSystem). Lists SystemLess (IsSystemBelow dim low new.next) ((p.before ++ weighted s ∷ []) ++ weighted_all ss)) (sym rest)
            (subst (λ (n : ℕ). Lists SystemLess (IsSystemBelow dim low n) ((p.before ++ weighted s ∷ []) ++ left)) (sym next) below);
        given_is = length-append p.before (weighted s ∷ []) ∙ omega (arith, given_is);
        few = subst (λ (ss : List WeightSystem). given + 1 + length ss ≤ p.degrees * 2 ^ 64) (sym rest) (omega (arith, few));
      }

-- all were given
pub all_given : (dim low high given : ℕ) (listed : Listed) → IsPlace dim low high given listed → length listed.systems.items ≤ listed.place
    → high < listed.next → HasSystems dim low high given
all_given dim low high given listed p past last =
    let next_is = p.next_is in
    let rest : drop listed.place listed.systems.items ≡ [] = drop_all listed.place listed.systems.items past in
    let below : Lists SystemLess (IsSystemBelow dim low listed.next) p.before =
    subst (Lists SystemLess (IsSystemBelow dim low listed.next)) (ap (λ (ss : List WeightSystem). p.before ++ weighted_all ss) rest ∙ append-nil p.before) p.are_below in
    record {
      systems = p.before;
      are_systems = record {
        ascends = below.ascends;
        members = λ s. (
          λ c. below_in_range dim low high listed.next s next_is ((below.members s).0 c),
          λ is. let most = is.most in (below.members s).1 (range_below dim low high listed.next s (omega (arith, most, last)) is),
        );
      };
      count_is = p.given_is;
    }

-- a place where nothing is left is behind the last degree
pub none_left : (high : ℕ) (listed : Listed) → length listed.systems.items ≤ listed.place → IsFilled high listed → high < listed.next
none_left high listed past (inl l) = absurd (omega (arith, past, l))
none_left high listed past (inr h) = h

-- what stands at a place is the first of what is left
pub split_at : (xs ys : List WeightSystem) (i : ℕ) (x : WeightSystem) → ys ≡ xs → i < length xs → x ≡ slice_index_or ys i x
    → drop i xs ≡ x ∷ drop (i + 1) xs
split_at xs ys i x same within is =
    let here : x ≡ get_or xs i x = subst (λ (zs : List WeightSystem). x ≡ get_or zs i x) same is in
    drop_more xs i x within ∙ ap (λ (y : WeightSystem). y ∷ drop (i + 1) xs) (sym here)
