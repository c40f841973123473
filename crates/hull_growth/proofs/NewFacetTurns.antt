-- The turns of the loops that list the new facets, and the facets with one more point.
use Rattle.std.proofs.Common.{◌≡◌, ◌≢◌, ◌⊎◌, ◌↔◌, inl, inr, ⊎_elim, ℕ, suc, ◌+◌, ◌<◌, ◌≤◌, List, [], ◌∷◌, ◌++◌, length, get_or, take, drop, ℤ}
use Rattle.std.proofs.Common.{pos, ◌≤ℤ◌, ◌<ℤ◌, refl, sym, ap, ◌∙◌, subst, Contains, append_assoc, append-nil, arith}
use Rattle.std.specs.Prelude.{not, int_lt, true, false, Bool, cond}
use Rattle.std.specs.List.{All, AllPairs}
use Rattle.std.proofs.lemmas.Int.{ints}
use Rattle.std.proofs.lemmas.List.{take-append-drop, length-take, take-append-le, take_all}
use Rattle.std.proofs.lemmas.List.Elements.{filter-append, filter_more, Contains-append_left, Contains-append_right, Contains-append_cases}
use Rattle.std.proofs.lemmas.List.Kept.{AllPairs-filter}
use Rattle.lattice_theory.specs.Affine.{Affine, value, VanishesWith}
use Rattle.lattice_theory.specs.Combinations.{IsCombinationAt}
use Rattle.lattice_theory.specs.Facet.{IsFacet}
use Rattle.lattice_theory.proofs.Integers.{linear}
use Rattle.lattice_theory.proofs.Members.{in_from_contains, contains_from_in}
use Rattle.lattice_theory.proofs.Sublists.{in_filter, from_filter}
use Rattle.facet_theory.specs.Solid.{AreSolid}
use Rattle.facet_theory.proofs.Different.{facets_differ_lem}
use Rattle.ridge_theory.specs.Ridges.{IsRidge, IsNewFacet}
use Rattle.ridge_theory.proofs.Pairs.{pair_parts, pair_zero}
use Rattle.ridge_theory.proofs.OneMore.{facets_of_one_more_lem}
use Rattle.ridge_theory.proofs.NewFacets.{new_facets_are_new_lem, new_facets_differ_lem}
use Rattle.hull_growth.specs.Grown.{HasFacets}
use Rattle.bit_rows.specs.declared.row.TheConstants.{MOST_INDICES}
use Rattle.hull_growth.specs.steps.Rows.{AddsIndex, IsCornerRow, AreCornerRows}
use Rattle.hull_growth.specs.steps.Growing.{IsGrowthStep, IsAddedCombination, Appends, kept_at, IsNewWith, IsNewOf}
use Rattle.hull_growth.proofs.RowBits.{IsMeet, row_more, row_meet, rows_push}
use Rattle.hull_growth.proofs.Small.{one_more, step_solid}
use Rattle.hull_growth.proofs.Appending.{same_at, contains_more, not_before, appends_none, appends_one, appends_same, appends_more, pairs_append}

-- an integer isn't on both sides of 0
no_both : (a : ℤ) → pos 0 <ℤ a → a ≤ℤ pos 0 → ⊥
no_both a h k = absurd (omega (arith, linear))

no_other : (a : ℤ) → a <ℤ pos 0 → pos 0 ≤ℤ a → ⊥
no_other a h k = absurd (omega (arith, linear))

-- a number that isn't below 0 is no value below 0
pub no_negative : (v a : ℤ) → v ≡ a → pos 0 ≤ℤ v → a <ℤ pos 0 → ⊥
no_negative v a e h k = no_other a k (subst (λ (z : ℤ). pos 0 ≤ℤ z) e h)

-- two combinations of one pair are equal
pub same_combination : (n : ℕ) (corners : List (List ℤ)) (p : List ℤ) (f g h k : Affine) → AreSolid n corners → length p ≡ n
    → AreSolid n (corners ++ (p ∷ [])) → IsNewFacet n corners p f g h → IsNewFacet n corners p f g k → h ≡ k
same_combination n corners p f g h k solid long more a b =
    facets_differ_lem n (corners ++ (p ∷ [])) more h k (facet h a) (facet k b) vanishes
  where
    facet : (u : Affine) → IsNewFacet n corners p f g u → IsFacet n (corners ++ (p ∷ [])) u
    facet u new = (facets_of_one_more_lem n corners p (corners ++ (p ∷ [])) solid long (one_more corners p) u).1 (inr (f, g, new))

    vanishes : VanishesWith (corners ++ (p ∷ [])) h k
    vanishes x c z = by ((one_more corners p x).0 c)
      where
        by : Contains corners x ⊎ (x ≡ p) → value k x ≡ pos 0
        by (inl m) =
            let parts = pair_parts n corners p long f g h a.left a.right a.combination x (in_from_contains corners m) z in
            pair_zero n corners p long f g k b.left b.right b.combination x parts.0 parts.1
        by (inr e) = ap (value k) e ∙ b.combination.vanishes

-- what the inner loop has found with the others up to a place
abbrev pub HasNewWith : List (List ℤ) → List ℤ → Affine → List Affine → ℕ → List Affine → List Affine → Type 0
HasNewWith corners p f fs j old new = Appends (IsNewWith corners p f (take j fs)) old new

-- nothing at the start
pub with_none : (corners : List (List ℤ)) (p : List ℤ) (f : Affine) (fs old : List Affine) → HasNewWith corners p f fs 0 old old
with_none corners p f fs old = appends_none (IsNewWith corners p f []) old (λ h w. elim (in_from_contains [] w.member) [ ])

module _ (corners : List (List ℤ)) (fs : List Affine) (rows : List ℕ) (p : List ℤ) (s : IsGrowthStep corners fs rows p) where
  -- one more facet that meets f in a ridge
  pub with_more : (f g h : Affine) (j : ℕ) (old new : List Affine) → j < length fs → g ≡ get_or fs j g
      → IsNewFacet (length p) corners p f g h → HasNewWith corners p f fs j old new
      → HasNewWith corners p f fs (j + 1) old (new ++ (h ∷ []))
  with_more f g h j old new l e new_facet so_far =
      appends_one (IsNewWith corners p f (take j fs)) (IsNewWith corners p f (take (j + 1) fs)) old new h so_far
      (λ w. not_before fs j g s.held.hull.once l e
      (subst (Contains (take j fs))
      (new_facets_differ_lem (length p) corners p s.held.solid refl f w.other f g h w.new new_facet).1 w.member))
      (λ u. (
        λ w. ⊎_elim (λ (m : Contains (take j fs) w.other). inl (record { other = w.other; member = m; new = w.new }))
            (λ (m : g ≡ w.other). inr (same_combination (length p) corners p f g h u s.held.solid refl (step_solid corners fs rows p s)
            new_facet (subst (λ (q : Affine). IsNewFacet (length p) corners p f q u) (sym m) w.new)))
            ((contains_more fs j g w.other l e).0 w.member),
        λ o. ⊎_elim (λ (w : IsNewWith corners p f (take j fs) u).
            record { other = w.other; member = (contains_more fs j g w.other l e).1 (inl w.member); new = w.new })
            (λ (m : h ≡ u). record {
              other = g;
              member = (contains_more fs j g g l e).1 (inr refl);
              new = subst (IsNewFacet (length p) corners p f g) m new_facet;
            }) o,
      ))

  -- the same, as the loop has it
  pub with_added : (f g : Affine) (j : ℕ) (old so_far new : List Affine) → j < length fs → g ≡ get_or fs j g → Contains fs f
      → pos 0 <ℤ value f p → value g p <ℤ pos 0 → IsRidge (length p) corners f g → IsAddedCombination f g p so_far new
      → HasNewWith corners p f fs j old so_far → HasNewWith corners p f fs (j + 1) old new
  with_added f g j old so_far new l e c before behind ridge added inv =
      subst (HasNewWith corners p f fs (j + 1) old) (sym added.whole)
      (with_more f g added.function j old so_far l e (record {
        left = (s.held.hull.members f).0 c;
        right = (s.held.hull.members g).0 (j, l, sym e);
        before = before;
        behind = behind;
        ridge = ridge;
        combination = added.combination;
      }) inv)

  -- one that doesn't
  pub with_same : (f g : Affine) (j : ℕ) (old new : List Affine) → j < length fs → g ≡ get_or fs j g
      → ((h : Affine) → IsNewFacet (length p) corners p f g h → ⊥) → HasNewWith corners p f fs j old new
      → HasNewWith corners p f fs (j + 1) old new
  with_same f g j old new l e none so_far =
      appends_same (IsNewWith corners p f (take j fs)) (IsNewWith corners p f (take (j + 1) fs)) old new
      (λ u. (
        λ w. record { other = w.other; member = (contains_more fs j g w.other l e).1 (inl w.member); new = w.new },
        λ w. ⊎_elim (λ (m : Contains (take j fs) w.other). record { other = w.other; member = m; new = w.new })
            (λ (m : g ≡ w.other). absurd (none u (subst (λ (q : Affine). IsNewFacet (length p) corners p f q u) (sym m) w.new)))
            ((contains_more fs j g w.other l e).0 w.member),
      )) so_far

  -- what the outer loop has found with the facets up to a place
  abbrev pub HasNewOf : ℕ → List Affine → List Affine → Type 0
  HasNewOf i old new = Appends (IsNewOf corners p (take i fs) fs) old new

  -- nothing at the start
  pub of_none : (old : List Affine) → HasNewOf 0 old old
  of_none old = appends_none (IsNewOf corners p [] fs) old (λ h w. elim (in_from_contains [] w.member) [ ])

  -- one more facet that is positive at the point
  pub of_more : (f : Affine) (i : ℕ) (old middle new : List Affine) → i < length fs → f ≡ get_or fs i f
      → HasNewOf i old middle → Appends (IsNewWith corners p f fs) middle new → HasNewOf (i + 1) old new
  of_more f i old middle new l e so_far step =
      appends_more (IsNewOf corners p (take i fs) fs) (IsNewWith corners p f fs) (IsNewOf corners p (take (i + 1) fs) fs) old middle new
      so_far step
      (λ u v w. not_before fs i f s.held.hull.once l e (subst (Contains (take i fs))
      (new_facets_differ_lem (length p) corners p s.held.solid refl v.function v.new.other f w.other u v.new.new w.new).0 v.member))
      (λ u. (
        λ v. ⊎_elim (λ (m : Contains (take i fs) v.function). inl (record { function = v.function; member = m; new = v.new }))
            (λ (m : f ≡ v.function). inr (subst (λ (q : Affine). IsNewWith corners p q fs u) (sym m) v.new))
            ((contains_more fs i f v.function l e).0 v.member),
        λ o. ⊎_elim (λ (v : IsNewOf corners p (take i fs) fs u).
            record { function = v.function; member = (contains_more fs i f v.function l e).1 (inl v.member); new = v.new })
            (λ (w : IsNewWith corners p f fs u).
            record { function = f; member = (contains_more fs i f f l e).1 (inr refl); new = w }) o,
      ))

  -- one that isn't
  pub of_same : (f : Affine) (i : ℕ) (old new : List Affine) → i < length fs → f ≡ get_or fs i f → value f p ≤ℤ pos 0
      → HasNewOf i old new → HasNewOf (i + 1) old new
  of_same f i old new l e low so_far =
      appends_same (IsNewOf corners p (take i fs) fs) (IsNewOf corners p (take (i + 1) fs) fs) old new
      (λ u. (
        λ v. record { function = v.function; member = (contains_more fs i f v.function l e).1 (inl v.member); new = v.new },
        λ v. ⊎_elim (λ (m : Contains (take i fs) v.function). record { function = v.function; member = m; new = v.new })
            (λ (m : f ≡ v.function). absurd (no_both (value v.function p) v.new.new.before
            (subst (λ (q : Affine). value q p ≤ℤ pos 0) m low)))
            ((contains_more fs i f v.function l e).0 v.member),
      )) so_far

  -- the facets that aren't negative at the point, and the new ones, are the facets with it
  pub grown_facets : (new : List Affine) → Appends (IsNewOf corners p fs fs) (kept_at p fs) new
      → HasFacets (length p) (corners ++ (p ∷ [])) new
  grown_facets new a = record {
    once = subst (λ (us : List Affine). AllPairs (λ f g. f ≢ g) us) (sym a.whole)
        (pairs_append (kept_at p fs) a.more (AllPairs-filter (λ f g. f ≢ g) (λ f. not (int_lt (value f p) (pos 0))) fs s.held.hull.once)
        a.once apart);
    members = λ u. (there u, back u);
  }
    where
      kept_facet : (u : Affine) → Contains (kept_at p fs) u → IsFacet (length p) corners u × (pos 0 ≤ℤ value u p)
      kept_facet u c =
          let k = from_filter (λ f. not (int_lt (value f p) (pos 0))) fs (in_from_contains (kept_at p fs) c) in
          ((s.held.hull.members u).0 (contains_from_in k.member), passes (value u p) k.passes)
        where
          passes : (v : ℤ) → not (int_lt v (pos 0)) ≡ true → pos 0 ≤ℤ v
          passes v e = grind (arith, ints)

      kept_back : (u : Affine) → IsFacet (length p) corners u → pos 0 ≤ℤ value u p → Contains (kept_at p fs) u
      kept_back u facet h = contains_from_in (in_filter (λ f. not (int_lt (value f p) (pos 0))) fs
          (in_from_contains fs ((s.held.hull.members u).1 facet)) (tested (value u p) h))
        where
          tested : (v : ℤ) → pos 0 ≤ℤ v → not (int_lt v (pos 0)) ≡ true
          tested v l = grind (arith, ints)

      apart : (u : Affine) → Contains (kept_at p fs) u → Contains a.more u → ⊥
      apart u c d =
          let v = (a.members u).0 d in
          new_facets_are_new_lem (length p) corners p s.held.solid refl v.function v.new.other u v.new.new (kept_facet u c).0

      law : (u : Affine) → IsFacet (length p) (corners ++ (p ∷ [])) u
          ↔ ((IsFacet (length p) corners u × (pos 0 ≤ℤ value u p))
          ⊎ ((f : Affine) × (g : Affine) × IsNewFacet (length p) corners p f g u))
      law u = facets_of_one_more_lem (length p) corners p (corners ++ (p ∷ [])) s.held.solid refl (one_more corners p) u

      there : (u : Affine) → Contains new u → IsFacet (length p) (corners ++ (p ∷ [])) u
      there u c = by (Contains-append_cases (kept_at p fs) a.more u (subst (λ (us : List Affine). Contains us u) a.whole c))
        where
          by : Contains (kept_at p fs) u ⊎ Contains a.more u → IsFacet (length p) (corners ++ (p ∷ [])) u
          by (inl k) = (law u).1 (inl (kept_facet u k))
          by (inr m) = let v = (a.members u).0 m in (law u).1 (inr (v.function, v.new.other, v.new.new))

      back : (u : Affine) → IsFacet (length p) (corners ++ (p ∷ [])) u → Contains new u
      back u facet = subst (λ (us : List Affine). Contains us u) (sym a.whole) (by ((law u).0 facet))
        where
          member : (f : Affine) → IsFacet (length p) corners f → Contains fs f
          member f h = (s.held.hull.members f).1 h

          by : (IsFacet (length p) corners u × (pos 0 ≤ℤ value u p))
              ⊎ ((f : Affine) × (g : Affine) × IsNewFacet (length p) corners p f g u) → Contains (kept_at p fs ++ a.more) u
          by (inl (h, k)) = Contains-append_left (kept_at p fs) a.more u (kept_back u h k)
          by (inr (f, g, h)) = Contains-append_right (kept_at p fs) a.more u ((a.members u).1 (record {
            function = f;
            member = member f h.left;
            new = record { other = g; member = member g h.right; new = h };
          }))

-- where none is negative, all are kept
kept_all : (p : List ℤ) (fs : List Affine) → All (λ f. pos 0 ≤ℤ value f p) fs → kept_at p fs ≡ fs
kept_all p [] h = refl
kept_all p (f ∷ fs) h = one (int_lt (value f p) (pos 0)) (tested (value f p) (h 0 f (omega arith)))
    ∙ ap (λ (gs : List Affine). f ∷ gs) (kept_all p fs (λ k d l. h (suc k) d (omega arith)))
  where
    one : (b : Bool) → not b ≡ true → cond (not b) (f ∷ kept_at p fs) (kept_at p fs) ≡ f ∷ kept_at p fs
    one b e = ap (λ (t : Bool). cond t (f ∷ kept_at p fs) (kept_at p fs)) e

    tested : (v : ℤ) → pos 0 ≤ℤ v → not (int_lt v (pos 0)) ≡ true
    tested v l = grind (arith, ints)

-- where the first ones aren't negative, they stand at the beginning of those that are kept
pub kept_front : (p : List ℤ) (fs : List Affine) (k : ℕ) (more : List Affine) → k ≤ length fs
    → All (λ f. pos 0 ≤ℤ value f p) (take k fs) → take k (kept_at p fs ++ more) ≡ take k fs
kept_front p fs k more h all =
    let short : length (take k fs) ≡ k = (let l = length-take k fs in omega arith) in
    let front : kept_at p fs ≡ take k fs ++ kept_at p (drop k fs) = ap (kept_at p) (sym (take-append-drop k fs))
    ∙ filter-append (λ f. not (int_lt (value f p) (pos 0))) (take k fs) (drop k fs)
    ∙ ap (λ (gs : List Affine). gs ++ kept_at p (drop k fs)) (kept_all p (take k fs) all) in
    ap (λ (gs : List Affine). take k (gs ++ more)) front
    ∙ ap (take k) (append_assoc (take k fs) (kept_at p (drop k fs)) more)
    ∙ take-append-le k (take k fs) (kept_at p (drop k fs) ++ more) (omega arith)
    ∙ take_all k (take k fs) (omega arith)

-- one more facet is kept
pub kept_more : (p : List ℤ) (fs old new : List Affine) (i : ℕ) (f : Affine) → i < length fs → f ≡ get_or fs i f → pos 0 ≤ℤ value f p
    → new ≡ old ++ kept_at p (take i fs) → new ++ (f ∷ []) ≡ old ++ kept_at p (take (i + 1) fs)
kept_more p fs old new i f l e h so_far =
    ap (λ (gs : List Affine). gs ++ (f ∷ [])) so_far ∙ append_assoc old (kept_at p (take i fs)) (f ∷ [])
    ∙ ap (λ (gs : List Affine). old ++ gs)
    (sym (filter_more (λ g. not (int_lt (value g p) (pos 0))) fs i f l
    ∙ ap (λ (g : Affine). kept_at p (take i fs) ++ cond (not (int_lt (value g p) (pos 0))) (g ∷ []) []) (sym e)
    ∙ ap (λ (t : Bool). kept_at p (take i fs) ++ cond t (f ∷ []) []) (tested (value f p) h)))
  where
    tested : (v : ℤ) → pos 0 ≤ℤ v → not (int_lt v (pos 0)) ≡ true
    tested v q = grind (arith, ints)

-- one isn't
pub kept_same : (p : List ℤ) (fs old new : List Affine) (i : ℕ) (f : Affine) → i < length fs → f ≡ get_or fs i f → value f p <ℤ pos 0
    → new ≡ old ++ kept_at p (take i fs) → new ≡ old ++ kept_at p (take (i + 1) fs)
kept_same p fs old new i f l e h so_far =
    so_far ∙ ap (λ (gs : List Affine). old ++ gs)
    (sym (filter_more (λ g. not (int_lt (value g p) (pos 0))) fs i f l
    ∙ ap (λ (g : Affine). kept_at p (take i fs) ++ cond (not (int_lt (value g p) (pos 0))) (g ∷ []) []) (sym e)
    ∙ ap (λ (t : Bool). kept_at p (take i fs) ++ cond t (f ∷ []) []) (tested (value f p) h)
    ∙ append-nil (kept_at p (take i fs))))
  where
    tested : (v : ℤ) → v <ℤ pos 0 → not (int_lt v (pos 0)) ≡ false
    tested v q = grind (arith, ints)

module _ (corners : List (List ℤ)) (fs : List Affine) (rows : List ℕ) (p : List ℤ) (s : IsGrowthStep corners fs rows p) where
  -- the row of a facet that stays
  kept_row : (f : Affine) (i x new : ℕ) (v : ℤ) → i < length fs → f ≡ get_or fs i f → x ≡ get_or rows i x → v ≡ value f p
      → (v ≡ pos 0 → length corners < MOST_INDICES → AddsIndex x (length corners) new) → (v ≢ pos 0 → new ≡ x)
      → (MOST_INDICES ≤ length corners → new ≡ x) → IsCornerRow (corners ++ (p ∷ [])) f new
  kept_row f i x new v l e ex ev set same full = row_more corners p f (length corners) x new refl (s.held.rows.each i f x l e ex)
      (λ z. set (ev ∙ z)) (λ u. same (λ z. u (sym ev ∙ z))) full

  -- the turn at a facet that stays
  pub kept_turn : (old so_far : List Affine) (bits : List ℕ) (i x new : ℕ) (f h : Affine) (v : ℤ) → i < length fs → f ≡ get_or fs i f
      → h ≡ get_or fs i h → x ≡ get_or rows i x → v ≡ value f p → pos 0 ≤ℤ v
      → (v ≡ pos 0 → length corners < MOST_INDICES → AddsIndex x (length corners) new) → (v ≢ pos 0 → new ≡ x)
      → (MOST_INDICES ≤ length corners → new ≡ x)
      → (so_far ≡ old ++ kept_at p (take i fs)) × AreCornerRows (corners ++ (p ∷ [])) so_far bits
      → (so_far ++ (h ∷ []) ≡ old ++ kept_at p (take (i + 1) fs)) × AreCornerRows (corners ++ (p ∷ [])) (so_far ++ (h ∷ [])) (bits ++ (new ∷ []))
  kept_turn old so_far bits i x new f h v l e eh ex ev low set same full inv =
      let fh = same_at fs i f h l e eh in (
        kept_more p fs old so_far i h l eh (subst (λ (z : ℤ). pos 0 ≤ℤ z) (ev ∙ ap (λ (q : Affine). value q p) fh) low) inv.0,
        rows_push (corners ++ (p ∷ [])) so_far bits h new inv.1
            (subst (λ (q : Affine). IsCornerRow (corners ++ (p ∷ [])) q new) fh (kept_row f i x new v l e ex ev set same full)),
      )

  -- the turn at one that doesn't
  pub left_turn : (old so_far : List Affine) (bits : List ℕ) (i : ℕ) (f : Affine) (v : ℤ) → i < length fs → f ≡ get_or fs i f
      → v ≡ value f p → v <ℤ pos 0
      → (so_far ≡ old ++ kept_at p (take i fs)) × AreCornerRows (corners ++ (p ∷ [])) so_far bits
      → (so_far ≡ old ++ kept_at p (take (i + 1) fs)) × AreCornerRows (corners ++ (p ∷ [])) so_far bits
  left_turn old so_far bits i f v l e ev low inv =
      (kept_same p fs old so_far i f l e (subst (λ (z : ℤ). z <ℤ pos 0) ev low) inv.0, inv.1)

  -- the row of a combination
  pub new_row : (f g h : Affine) (i j x y both new : ℕ) → i < length fs → j < length fs → f ≡ get_or fs i f → g ≡ get_or fs j g
      → x ≡ get_or rows i x → y ≡ get_or rows j y → IsCombinationAt f g p h → IsMeet x y both
      → (length corners < MOST_INDICES → AddsIndex both (length corners) new) → (MOST_INDICES ≤ length corners → new ≡ both)
      → IsCornerRow (corners ++ (p ∷ [])) h new
  new_row f g h i j x y both new l k ef eg ex ey c meets set full =
      row_more corners p h (length corners) both new refl
      (row_meet corners f g h x y both (s.held.rows.each i f x l ef ex) (s.held.rows.each j g y k eg ey) meets vanishes)
      (λ z. set) (λ u. absurd (u c.vanishes)) full
    where
      left : IsFacet (length p) corners f
      left = (s.held.hull.members f).0 (i, l, sym ef)

      right : IsFacet (length p) corners g
      right = (s.held.hull.members g).0 (j, k, sym eg)

      vanishes : (q : List ℤ) → Contains corners q → (value h q ≡ pos 0) ↔ ((value f q ≡ pos 0) × (value g q ≡ pos 0))
      vanishes q m = (
        λ z. pair_parts (length p) corners p refl f g h left right c q (in_from_contains corners m) z,
        λ z. pair_zero (length p) corners p refl f g h left right c q z.0 z.1,
      )
