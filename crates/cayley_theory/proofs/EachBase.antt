-- That each point has a base, where each part has a vector.
use Rattle.std.specs.Prelude.{ℤ, pos, negsuc, neg_ℤ, ◌+ℤ◌, ◌≤ℤ◌, ◌<ℤ◌}
use Rattle.std.proofs.Common.{◌≡◌, ◌≢◌, ◌⊎◌, ℕ, zero, suc, ◌<◌, inl, inr, List, [], ◌∷◌, length, refl, sym, ap, subst, ◌∙◌, arith}
use Rattle.std.proofs.Common.{zero-lt-suc, suc-le-suc, le_of_suc-le-suc}
use Rattle.std.specs.List.{Contains}
use Rattle.std.proofs.lemmas.Bool.{cases_eq}
use Rattle.std.proofs.lemmas.List.{length-map, get_or_default}
use Rattle.lattice_theory.specs.Vector.{entry, dot}
use Rattle.lattice_theory.specs.Affine.{Affine}
use Rattle.lattice_theory.proofs.Integers.{linear, negative_or_not}
use Rattle.face_theory.specs.Pairings.{function_at}
use Rattle.cayley_theory.specs.Cones.{unit_vector, lifted}
use Rattle.cayley_theory.specs.Counts.{sum_of}
use Rattle.cayley_theory.specs.Bases.{part_in, lifted_one, lifted_all, HaveParts, HaveAllParts, pairing_with, IsBase, HasDegree}
use Rattle.cayley_theory.proofs.ConeVectors.{unit_itself, unit_other}
use Rattle.cayley_theory.proofs.BasePoints.{split_same, function_in}

-- the least height of a part: with it the vectors of the part pair nonnegatively with x, and one pairs to 0
pub record IsTop (vs : List Affine) (x : List ℤ) (j : ℕ) (h : ℤ) : Type 0 where
  pub above : (i : ℕ) → i < length vs → part_in (function_at vs i) ≡ j → pos 0 ≤ℤ (dot (function_at vs i).normal x +ℤ h)
  pub reached : (i : ℕ) × (i < length vs) × (part_in (function_at vs i) ≡ j) × (dot (function_at vs i).normal x +ℤ h ≡ pos 0)

pub record HasTop (vs : List Affine) (x : List ℤ) (j : ℕ) : Type 0 where
  pub height : ℤ
  pub is_top : IsTop vs x j height

abbrev pub HasNone : List Affine → ℕ → Type 0
HasNone vs j = (i : ℕ) → i < length vs → part_in (function_at vs i) ≢ j

-- steps over plain numbers
opposite : (a : ℤ) → a +ℤ neg_ℤ a ≡ pos 0
opposite a = omega (arith, linear)

zero_above : (a : ℤ) → a ≡ pos 0 → pos 0 ≤ℤ a
zero_above a e = omega (arith, linear, e)

higher : (a b h : ℤ) → (a +ℤ h) <ℤ pos 0 → pos 0 ≤ℤ (b +ℤ h) → pos 0 ≤ℤ (b +ℤ neg_ℤ a)
higher a b h k l = omega (arith, linear, k, l)

module _ (v : Affine) (vs : List Affine) (x : List ℤ) (j : ℕ) where
  -- one more vector, which is of another part, or with which the height is enough
  kept : (h : ℤ) → IsTop vs x j h → (part_in v ≡ j → pos 0 ≤ℤ (dot v.normal x +ℤ h)) → IsTop (v ∷ vs) x j h
  kept h t first = record { above = over; reached = (suc t.reached.0, suc-le-suc t.reached.1, t.reached.2, t.reached.3) }
    where
      over : (i : ℕ) → i < length (v ∷ vs) → part_in (function_at (v ∷ vs) i) ≡ j → pos 0 ≤ℤ (dot (function_at (v ∷ vs) i).normal x +ℤ h)
      over zero l e = first e
      over (suc i) l e = t.above i (le_of_suc-le-suc l) e

  -- one more of the part, which needs a height that is enough for the others
  needed : part_in v ≡ j → (h : ℤ) → dot v.normal x +ℤ h ≡ pos 0
      → ((i : ℕ) → i < length vs → part_in (function_at vs i) ≡ j → pos 0 ≤ℤ (dot (function_at vs i).normal x +ℤ h)) → IsTop (v ∷ vs) x j h
  needed p h zeroed rest = record { above = over; reached = (zero, zero-lt-suc _, p, zeroed) }
    where
      over : (i : ℕ) → i < length (v ∷ vs) → part_in (function_at (v ∷ vs) i) ≡ j → pos 0 ≤ℤ (dot (function_at (v ∷ vs) i).normal x +ℤ h)
      over zero l e = zero_above (dot v.normal x +ℤ h) zeroed
      over (suc i) l e = rest i (le_of_suc-le-suc l) e

  none_still : (part_in v ≡ j → ⊥) → HasNone vs j → HasNone (v ∷ vs) j
  none_still d none zero l = d
  none_still d none (suc i) l = none i (le_of_suc-le-suc l)

  one_more_top : (part_in v ≡ j) ⊎ (part_in v ≡ j → ⊥) → HasNone vs j ⊎ HasTop vs x j → HasNone (v ∷ vs) j ⊎ HasTop (v ∷ vs) x j
  one_more_top (inr d) (inl none) = inl (none_still d none)
  one_more_top (inr d) (inr t) = inr (record { height = t.height; is_top = kept t.height t.is_top (λ e. absurd (d e)) })
  one_more_top (inl p) (inl none) = inr (record {
    height = neg_ℤ (dot v.normal x);
    is_top = needed p (neg_ℤ (dot v.normal x)) (opposite (dot v.normal x)) (λ i l e. absurd (none i l e));
  })
  one_more_top (inl p) (inr t) = by (negative_or_not (dot v.normal x +ℤ t.height))
    where
      by : ((dot v.normal x +ℤ t.height) <ℤ pos 0) ⊎ (pos 0 ≤ℤ (dot v.normal x +ℤ t.height)) → HasNone (v ∷ vs) j ⊎ HasTop (v ∷ vs) x j
      by (inl low) = inr (record {
        height = neg_ℤ (dot v.normal x);
        is_top = needed p (neg_ℤ (dot v.normal x)) (opposite (dot v.normal x))
            (λ i l e. higher (dot v.normal x) (dot (function_at vs i).normal x) t.height low (t.is_top.above i l e));
      })
      by (inr enough) = inr (record { height = t.height; is_top = kept t.height t.is_top (λ e. enough) })

pub top_or_none : (vs : List Affine) (x : List ℤ) (j : ℕ) → HasNone vs j ⊎ HasTop vs x j
top_or_none [] x j = inl (λ i l. absurd (omega arith))
top_or_none (v ∷ vs) x j = one_more_top v vs x j (cases_eq (part_in v) j) (top_or_none vs x j)

abbrev pub height_in : (vs : List Affine) (x : List ℤ) (j : ℕ) → HasNone vs j ⊎ HasTop vs x j → ℤ
height_in vs x j (inl none) = pos 0
height_in vs x j (inr t) = t.height

top_in : (vs : List Affine) (x : List ℤ) (j : ℕ) (c : HasNone vs j ⊎ HasTop vs x j) (i : ℕ) → i < length vs → part_in (function_at vs i) ≡ j
    → IsTop vs x j (height_in vs x j c)
top_in vs x j (inl none) i l e = absurd (none i l e)
top_in vs x j (inr t) i l e = t.is_top

abbrev pub top_height : List Affine → List ℤ → ℕ → ℤ
top_height vs x j = height_in vs x j (top_or_none vs x j)

is_top_height : (vs : List Affine) (x : List ℤ) (j i : ℕ) → i < length vs → part_in (function_at vs i) ≡ j → IsTop vs x j (top_height vs x j)
is_top_height vs x j i l e = top_in vs x j (top_or_none vs x j) i l e

-- the list of the first r heights
abbrev pub heights_to : ℕ → (ℕ → ℤ) → List ℤ
heights_to zero h = []
heights_to (suc r) h = h zero ∷ heights_to r (λ j. h (suc j))

length-heights_to : (r : ℕ) (h : ℕ → ℤ) → length (heights_to r h) ≡ r
length-heights_to zero h = refl
length-heights_to (suc r) h = ap suc (length-heights_to r (λ j. h (suc j)))

entry-heights_to : (r : ℕ) (h : ℕ → ℤ) (j : ℕ) → j < r → entry (heights_to r h) j ≡ h j
entry-heights_to zero h j l = absurd (omega arith)
entry-heights_to (suc r) h zero l = refl
entry-heights_to (suc r) h (suc j) l = entry-heights_to r (λ i. h (suc i)) j (le_of_suc-le-suc l)

-- unit vectors are told by their places
same_unit : (r i j : ℕ) → i < r → unit_vector r i ≡ unit_vector r j → i ≡ j
same_unit r i j l e = cases (cases_eq i j)
  where
    cases : (i ≡ j) ⊎ (i ≡ j → ⊥) → i ≡ j
    cases (inl s) = s
    cases (inr s) = absurd (
        let one = unit_itself r i l in
        let none : dot (unit_vector r i) (unit_vector r i) ≡ pos 0 =
        subst (λ (u : List ℤ). dot (unit_vector r i) u ≡ pos 0) (sym e) (unit_other r i j s) in
        omega (arith, linear, one, none))

module _ (n r : ℕ) (vs : List Affine) (haves : HaveParts n r vs) where
  module _ (all : HaveAllParts r vs) (x : List ℤ) where
    -- the least heights of all parts
    abbrev pub base_of : List ℤ
    base_of = heights_to r (top_height vs x)

    pub is_base_of : IsBase r vs x base_of
    is_base_of = record { parts = length-heights_to r (top_height vs x); above = over; reached = down }
      where
        at : (j : ℕ) → j < r → top_height vs x j ≡ entry base_of j
        at j l = sym (entry-heights_to r (top_height vs x) j l)

        over : (i : ℕ) → i < length vs → pos 0 ≤ℤ pairing_with vs x base_of i
        over i l = subst (λ (h : ℤ). pos 0 ≤ℤ (dot (function_at vs i).normal x +ℤ h)) (at (part_in (function_at vs i)) (haves.part i l))
            ((is_top_height vs x (part_in (function_at vs i)) i l refl).above i l refl)

        down : (j : ℕ) → j < r → (i : ℕ) × (i < length vs) × (part_in (function_at vs i) ≡ j) × (pairing_with vs x base_of i ≡ pos 0)
        down j l =
            let one = all j l in
            let t = (is_top_height vs x j one.0 one.1 one.2).reached in (
              t.0,
              t.1,
              t.2,
              subst (λ (k : ℕ). dot (function_at vs t.0).normal x +ℤ entry base_of k ≡ pos 0) (sym t.2)
                  (subst (λ (h : ℤ). dot (function_at vs t.0).normal x +ℤ h ≡ pos 0) (at j l) t.3),
            )

    -- it has a degree where its sum isn't negative
    pub has_degree : pos 0 ≤ℤ sum_of base_of → HasDegree r vs x
    has_degree h = by (sum_of base_of) refl
      where
        by : (z : ℤ) → sum_of base_of ≡ z → HasDegree r vs x
        by (pos k) e = record { base = base_of; is_base = is_base_of; degree = k; degree_is = e }
        by (negsuc k) e = absurd (let f : pos 0 ≤ℤ negsuc k = subst (λ (z : ℤ). pos 0 ≤ℤ z) e h in omega (arith, linear, f))

  -- a vector and its part are at the place at which the vector stands with the unit vector of the part
  pub place_of : (x : List ℤ) (j : ℕ) → length x ≡ n → j < r → Contains (lifted_all r vs) (lifted r x j)
      → (i : ℕ) × (i < length vs) × ((function_at vs i).normal ≡ x) × (part_in (function_at vs i) ≡ j)
  place_of x j d l c =
      let within : c.0 < length vs = subst (λ (k : ℕ). c.0 < k) (length-map vs (lifted_one r)) c.1 in
      let same : lifted_one r (function_at vs c.0) ≡ lifted r x j = sym (function_in r vs c.0 within)
      ∙ get_or_default (lifted_all r vs) c.0 [] (lifted r x j) c.1 ∙ c.2 in
      let parts = split_same (function_at vs c.0).normal x (unit_vector r (part_in (function_at vs c.0))) (unit_vector r j)
      (haves.dimension c.0 within ∙ sym d) same in
      (c.0, within, parts.0, same_unit r (part_in (function_at vs c.0)) j (haves.part c.0 within) parts.1)

  -- heights of a part whose unit vector alone is one of the vectors aren't negative
  pub height_above : (x a : List ℤ) → ((i : ℕ) → i < length vs → pos 0 ≤ℤ pairing_with vs x a i) → (y : List ℤ) (j : ℕ) → length y ≡ n → j < r
      → Contains (lifted_all r vs) (lifted r y j) → pos 0 ≤ℤ (dot y x +ℤ entry a j)
  height_above x a h y j d l c =
      let p = place_of y j d l c in
      subst (λ (k : ℕ). pos 0 ≤ℤ (dot y x +ℤ entry a k)) p.3
      (subst (λ (z : List ℤ). pos 0 ≤ℤ (dot z x +ℤ entry a (part_in (function_at vs p.0)))) p.2 (h p.0 p.1))

-- sums of entries that aren't negative
pub sum_nonnegative : (a : List ℤ) → ((j : ℕ) → j < length a → pos 0 ≤ℤ entry a j) → pos 0 ≤ℤ sum_of a
sum_nonnegative [] h = omega (arith, linear)
sum_nonnegative (c ∷ a) h =
    let first : pos 0 ≤ℤ c = h zero (zero-lt-suc _) in
    let rest = sum_nonnegative a (λ j l. h (suc j) (suc-le-suc l)) in
    omega (arith, linear, first, rest)

pub entry_below_sum : (a : List ℤ) → ((j : ℕ) → j < length a → pos 0 ≤ℤ entry a j) → (j : ℕ) → j < length a → entry a j ≤ℤ sum_of a
entry_below_sum [] h j l = absurd (omega arith)
entry_below_sum (c ∷ a) h zero l = let rest = sum_nonnegative a (λ j k. h (suc j) (suc-le-suc k)) in below c (sum_of a) rest
  where
    below : (c s : ℤ) → pos 0 ≤ℤ s → c ≤ℤ (c +ℤ s)
    below c s h = omega (arith, linear, h)
entry_below_sum (c ∷ a) h (suc j) l =
    let first : pos 0 ≤ℤ c = h zero (zero-lt-suc _) in
    let rest = entry_below_sum a (λ i k. h (suc i) (suc-le-suc k)) j (le_of_suc-le-suc l) in
    above (entry a j) c (sum_of a) first rest
  where
    above : (e c s : ℤ) → pos 0 ≤ℤ c → e ≤ℤ s → e ≤ℤ (c +ℤ s)
    above e c s h k = omega (arith, linear, h, k)
