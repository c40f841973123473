-- Rows of corners: one corner more, the meet of two rows, and what it tells of a third one.
use Rattle.std.proofs.Common.{◌≡◌, ◌≢◌, ◌⊎◌, ◌↔◌, inl, inr, ⊎_elim, ℕ, ◌+◌, ◌<◌, ◌≤◌, List, [], ◌∷◌, ◌++◌, length, get_or, take, slice_index_or}
use Rattle.std.proofs.Common.{ℤ, pos, refl, sym, ap, ◌∙◌, subst, All, Contains, drop, length-drop, arith}
use Rattle.std.specs.Prelude.{◌-◌}
use Rattle.std.proofs.lemmas.Bool.{cases_lt}
use Rattle.std.proofs.lemmas.List.{get_or_append_left, get_or_push, get_or_default, get_or-drop, length_push, take_more, length-take}
use Rattle.std.proofs.lemmas.List.Elements.{All-contains}
use Rattle.lattice_theory.specs.Affine.{Affine, value}
use Rattle.lattice_theory.proofs.Integers.{zero_or_not}
use Rattle.ridge_theory.specs.Ridges.{VanishesWithBoth}
use Rattle.bit_rows.specs.Rows.{HasIndex, IsPartOf}
use Rattle.bit_rows.specs.declared.row.TheConstants.{MOST_INDICES}
use Rattle.hull_growth.specs.steps.Rows.{AddsIndex, IsCornerRow, AreCornerRows, HasCommon, NoThirdRowBelow}

-- without corners there is no place
pub row_none : (f : Affine) (row : ℕ) → ((i : ℕ) → HasIndex row i → ⊥) → IsCornerRow [] f row
row_none f row none = record { corner = λ i h k. absurd (omega arith); behind = λ i h b. none i b; few = λ i b. absurd (none i b) }

-- what becomes of a row with one more place, or none
abbrev IsChanged : ℕ → ℕ → ℕ → Type 0
IsChanged place row new = (new ≡ row) ⊎ AddsIndex row place new

-- the other places stay
other_places : (place row new i : ℕ) → IsChanged place row new → (i ≡ place → ⊥) → HasIndex new i ↔ HasIndex row i
other_places place row new i (inl e) d = (λ b. subst (λ (r : ℕ). HasIndex r i) e b, λ b. subst (λ (r : ℕ). HasIndex r i) (sym e) b)
other_places place row new i (inr more) d = (
  λ b. ⊎_elim (λ (c : HasIndex row i). c) (λ (s : i ≡ place). absurd (d s)) ((more i).0 b),
  λ b. (more i).1 (inl b),
)

-- one corner more
pub row_more : (corners : List (List ℤ)) (p : List ℤ) (f : Affine) (place row new : ℕ) → place ≡ length corners → IsCornerRow corners f row
    → (value f p ≡ pos 0 → place < MOST_INDICES → AddsIndex row place new) → (value f p ≢ pos 0 → new ≡ row)
    → (MOST_INDICES ≤ place → new ≡ row) → IsCornerRow (corners ++ (p ∷ [])) f new
row_more corners p f place row new stands h set same full = record { corner = corner; behind = behind; few = few }
  where
    changed : IsChanged place row new
    changed = ⊎_elim
        (λ (z : value f p ≡ pos 0). ⊎_elim (λ (l : place < MOST_INDICES). inr (set z l)) (λ (l : MOST_INDICES ≤ place). inl (full l))
        (cases_lt place MOST_INDICES))
        (λ (u : value f p ≢ pos 0). inl (same u))
        (zero_or_not (value f p))

    before : (i : ℕ) → i < length corners → i < MOST_INDICES
        → HasIndex new i ↔ (value f (slice_index_or (corners ++ (p ∷ [])) i []) ≡ pos 0)
    before i l k =
        let e = get_or_append_left corners (p ∷ []) [] i l in
        let b = other_places place row new i changed (λ (s : i ≡ place). omega arith) in (
          λ one. ap (value f) e ∙ (h.corner i l k).0 (b.0 one),
          λ z. b.1 ((h.corner i l k).1 (ap (value f) (sym e) ∙ z)),
        )

    last : (i : ℕ) → i ≡ length corners → i < MOST_INDICES → (value f p ≡ pos 0) ⊎ (value f p ≢ pos 0) → HasIndex new i ↔ (value f p ≡ pos 0)
    last i s k (inl z) =
        (λ b. z, λ zero. (set z (subst (λ (m : ℕ). m < MOST_INDICES) (s ∙ sym stands) k) i).1 (inr (s ∙ sym stands)))
    last i s k (inr u) =
        (λ b. absurd (h.behind i (omega arith) (subst (λ (r : ℕ). HasIndex r i) (same u) b)), λ z. absurd (u z))

    corner : (i : ℕ) → i < length (corners ++ (p ∷ [])) → i < MOST_INDICES
        → HasIndex new i ↔ (value f (slice_index_or (corners ++ (p ∷ [])) i []) ≡ pos 0)
    corner i l k = by (cases_lt i (length corners))
      where
        by : (i < length corners) ⊎ (length corners ≤ i) → HasIndex new i
            ↔ (value f (slice_index_or (corners ++ (p ∷ [])) i []) ≡ pos 0)
        by (inl b) = before i b k
        by (inr b) =
            let long = length_push corners p in
            let s : i ≡ length corners = omega arith in
            subst (λ (q : List ℤ). HasIndex new i ↔ (value f q ≡ pos 0)) (sym (get_or_push corners p [] i (sym s)))
            (last i s k (zero_or_not (value f p)))

    behind : (i : ℕ) → length (corners ++ (p ∷ [])) ≤ i → HasIndex new i → ⊥
    behind i l b =
        let long = length_push corners p in
        h.behind i (omega arith) ((other_places place row new i changed (λ (s : i ≡ place). omega arith)).0 b)

    few : (i : ℕ) → HasIndex new i → i < MOST_INDICES
    few i b = ⊎_elim
        (λ (l : i < MOST_INDICES). l)
        (λ (l : MOST_INDICES ≤ i). h.few i (⊎_elim
        (λ (t : place < MOST_INDICES). (other_places place row new i changed (λ (s : i ≡ place). omega arith)).0 b)
        (λ (t : MOST_INDICES ≤ place). subst (λ (r : ℕ). HasIndex r i) (full t) b)
        (cases_lt place MOST_INDICES)))
        (cases_lt i MOST_INDICES)

-- the next corner of a list
pub row_turn : (corners : List (List ℤ)) (f : Affine) (i : ℕ) (p : List ℤ) (row new : ℕ) → i < length corners → p ≡ get_or corners i p
    → IsCornerRow (take i corners) f row → (value f p ≡ pos 0 → i < MOST_INDICES → AddsIndex row i new)
    → (value f p ≢ pos 0 → new ≡ row) → (MOST_INDICES ≤ i → new ≡ row) → IsCornerRow (take (i + 1) corners) f new
row_turn corners f i p row new l e h set same full =
    subst (λ (cs : List (List ℤ)). IsCornerRow cs f new) (ap (λ (q : List ℤ). take i corners ++ (q ∷ [])) e ∙ sym (take_more corners i p l))
    (row_more (take i corners) p f i row new (let s = length-take i corners in omega arith) h set same full)

-- the row has the numbers that are in both
abbrev pub IsMeet : ℕ → ℕ → ℕ → Type 0
IsMeet x y both = (i : ℕ) → HasIndex both i ↔ (HasIndex x i × HasIndex y i)

-- the meet of two rows is the row of a function that vanishes where both functions do
pub row_meet : (corners : List (List ℤ)) (f g h : Affine) (x y z : ℕ) → IsCornerRow corners f x → IsCornerRow corners g y → IsMeet x y z
    → ((c : List ℤ) → Contains corners c → (value h c ≡ pos 0) ↔ ((value f c ≡ pos 0) × (value g c ≡ pos 0))) → IsCornerRow corners h z
row_meet corners f g h x y z r s meets both = record {
  corner = corner;
  behind = λ i l b. r.behind i l ((meets i).0 b).0;
  few = λ i b. r.few i ((meets i).0 b).0;
}
  where
    corner : (i : ℕ) → i < length corners → i < MOST_INDICES → HasIndex z i ↔ (value h (slice_index_or corners i []) ≡ pos 0)
    corner i l k =
        let at = both (slice_index_or corners i []) (i, l, get_or_default corners i (slice_index_or corners i []) [] l) in (
          λ o. let b = (meets i).0 o in at.1 ((r.corner i l k).0 b.0, (s.corner i l k).0 b.1),
          λ q. let v = at.0 q in (meets i).1 ((r.corner i l k).1 v.0, (s.corner i l k).1 v.1),
        )

-- a row has what two rows both have where its function vanishes with both
pub vanishing_common : (corners : List (List ℤ)) (f g h : Affine) (x y z : ℕ) → IsCornerRow corners f x → IsCornerRow corners g y
    → IsCornerRow corners h z → VanishesWithBoth corners f g h → HasCommon x y z
vanishing_common corners f g h x y z r s t v i a b = by (cases_lt i (length corners))
  where
    by : (i < length corners) ⊎ (length corners ≤ i) → HasIndex z i
    by (inl l) =
        let k = r.few i a in
        (t.corner i l k).1 (v (slice_index_or corners i []) (i, l, get_or_default corners i (slice_index_or corners i []) [] l)
        ((r.corner i l k).0 a) ((s.corner i l k).0 b))
    by (inr l) = absurd (r.behind i l a)

-- with at most 128 corners it has this only there
pub meet_tells : (corners : List (List ℤ)) (f g h : Affine) (x y z : ℕ) → length corners ≤ MOST_INDICES → IsCornerRow corners f x
    → IsCornerRow corners g y → IsCornerRow corners h z → HasCommon x y z ↔ VanishesWithBoth corners f g h
meet_tells corners f g h x y z few r s t = (there, vanishing_common corners f g h x y z r s t)
  where
    there : HasCommon x y z → VanishesWithBoth corners f g h
    there all c (i, l, is) a b =
        let at : slice_index_or corners i [] ≡ c = get_or_default corners i [] c l ∙ is in
        let k : i < MOST_INDICES = omega arith in
        ap (value h) (sym at) ∙ (t.corner i l k).0
        (all i ((r.corner i l k).1 (ap (value f) at ∙ a)) ((s.corner i l k).1 (ap (value g) at ∙ b)))

-- with what the rows tell of the first 128 corners, and values of those behind them, the third function vanishes with both
pub vanishing_whole : (corners : List (List ℤ)) (f g h : Affine) (x y z : ℕ) → IsCornerRow corners f x → IsCornerRow corners g y
    → IsCornerRow corners h z → HasCommon x y z
    → All (λ c. value f c ≡ pos 0 → value g c ≡ pos 0 → value h c ≡ pos 0) (drop MOST_INDICES corners) → VanishesWithBoth corners f g h
vanishing_whole corners f g h x y z r s t all behind c (i, l, is) a b = by (cases_lt i MOST_INDICES)
  where
    at : slice_index_or corners i [] ≡ c
    at = get_or_default corners i [] c l ∙ is

    back : (i : ℕ) → MOST_INDICES ≤ i → MOST_INDICES + (i - MOST_INDICES) ≡ i
    back i k = omega arith

    by : (i < MOST_INDICES) ⊎ (MOST_INDICES ≤ i) → value h c ≡ pos 0
    by (inl k) = ap (value h) (sym at) ∙ (t.corner i l k).0
        (all i ((r.corner i l k).1 (ap (value f) at ∙ a)) ((s.corner i l k).1 (ap (value g) at ∙ b)))
    by (inr k) = All-contains (λ q. value f q ≡ pos 0 → value g q ≡ pos 0 → value h q ≡ pos 0) (drop MOST_INDICES corners) c behind (
      i - MOST_INDICES,
      (let d = length-drop MOST_INDICES corners in omega arith),
      get_or-drop MOST_INDICES corners (i - MOST_INDICES) c ∙ ap (λ (q : ℕ). get_or corners q c) (back i k) ∙ is,
    ) a b

-- the row at a place
row_at : (corners : List (List ℤ)) (functions : List Affine) (rows : List ℕ) (q : ℕ) (u : Affine) → AreCornerRows corners functions rows
    → q < length functions → u ≡ slice_index_or functions q u → IsCornerRow corners u (slice_index_or rows q 0)
row_at corners functions rows q u are w e = are.each q u (slice_index_or rows q 0) w e
    (let s = are.same in get_or_default rows q 0 (slice_index_or rows q 0) (omega arith))

-- the rows at three places
pub whole_rows : (corners : List (List ℤ)) (functions : List Affine) (rows : List ℕ) (i j k : ℕ) (f g h : Affine)
    → AreCornerRows corners functions rows → i < length functions → j < length functions → k < length functions
    → f ≡ slice_index_or functions i f → g ≡ slice_index_or functions j g → h ≡ slice_index_or functions k h
    → HasCommon (slice_index_or rows i 0) (slice_index_or rows j 0) (slice_index_or rows k 0)
    → All (λ c. value f c ≡ pos 0 → value g c ≡ pos 0 → value h c ≡ pos 0) (drop MOST_INDICES corners) → VanishesWithBoth corners f g h
whole_rows corners functions rows i j k f g h are l m o a b c all behind =
    vanishing_whole corners f g h (slice_index_or rows i 0) (slice_index_or rows j 0) (slice_index_or rows k 0)
    (row_at corners functions rows i f are l a) (row_at corners functions rows j g are m b) (row_at corners functions rows k h are o c) all behind

pub vanishing_rows : (corners : List (List ℤ)) (functions : List Affine) (rows : List ℕ) (i j k : ℕ) (f g h : Affine)
    → AreCornerRows corners functions rows → i < length functions → j < length functions → k < length functions
    → f ≡ slice_index_or functions i f → g ≡ slice_index_or functions j g → h ≡ slice_index_or functions k h → VanishesWithBoth corners f g h
    → HasCommon (slice_index_or rows i 0) (slice_index_or rows j 0) (slice_index_or rows k 0)
vanishing_rows corners functions rows i j k f g h are l m o a b c v =
    vanishing_common corners f g h (slice_index_or rows i 0) (slice_index_or rows j 0) (slice_index_or rows k 0)
    (row_at corners functions rows i f are l a) (row_at corners functions rows j g are m b) (row_at corners functions rows k h are o c) v

-- the meet is part of a third row exactly where this has what both have
pub part_is_common : (rows : List ℕ) (i j k x y z both : ℕ) → i < length rows → j < length rows → k < length rows → x ≡ get_or rows i x
    → y ≡ get_or rows j y → z ≡ get_or rows k z → IsMeet x y both
    → IsPartOf both z ↔ HasCommon (slice_index_or rows i 0) (slice_index_or rows j 0) (slice_index_or rows k 0)
part_is_common rows i j k x y z both l m o a b c meets =
    subst (λ (u : ℕ). IsPartOf both z ↔ HasCommon u (slice_index_or rows j 0) (slice_index_or rows k 0)) (at i x l a)
    (subst (λ (u : ℕ). IsPartOf both z ↔ HasCommon x u (slice_index_or rows k 0)) (at j y m b)
    (subst (λ (u : ℕ). IsPartOf both z ↔ HasCommon x y u) (at k z o c) (
      λ part q d e. part q ((meets q).1 (d, e)),
      λ all q d. let h = (meets q).0 d in all q h.0 h.1,
    )))
  where
    at : (i x : ℕ) → i < length rows → x ≡ get_or rows i x → x ≡ get_or rows i 0
    at i x l e = e ∙ get_or_default rows i x 0 l

-- one row more
pub no_row_more : (rows : List ℕ) (i j k : ℕ) → NoThirdRowBelow k rows i j
    → (HasCommon (slice_index_or rows i 0) (slice_index_or rows j 0) (slice_index_or rows k 0) → (k ≡ i) ⊎ (k ≡ j))
    → NoThirdRowBelow (k + 1) rows i j
no_row_more rows i j k so_far step m l common = ⊎_elim
    (λ (s : m < k). so_far m s common)
    (λ (s : k ≤ m). let e : k ≡ m = omega arith in
    subst (λ (q : ℕ). (q ≡ i) ⊎ (q ≡ j)) e (step (subst (λ (q : ℕ). HasCommon (slice_index_or rows i 0) (slice_index_or rows j 0)
    (slice_index_or rows q 0)) (sym e) common))) (cases_lt m k)

-- no function, no row
pub rows_none : (corners : List (List ℤ)) → AreCornerRows corners [] []
rows_none corners = record { same = refl; each = λ i f row l e r. absurd (omega arith) }

-- one function more, with its row
pub rows_push : (corners : List (List ℤ)) (functions : List Affine) (rows : List ℕ) (f : Affine) (row : ℕ) → AreCornerRows corners functions rows
    → IsCornerRow corners f row → AreCornerRows corners (functions ++ (f ∷ [])) (rows ++ (row ∷ []))
rows_push corners functions rows f row h k = record { same = same; each = each }
  where
    same : length (rows ++ (row ∷ [])) ≡ length (functions ++ (f ∷ []))
    same = let a = length_push rows row in let b = length_push functions f in let c = h.same in omega arith

    each : (i : ℕ) (g : Affine) (r : ℕ) → i < length (functions ++ (f ∷ [])) → g ≡ slice_index_or (functions ++ (f ∷ [])) i g
        → r ≡ slice_index_or (rows ++ (row ∷ [])) i r → IsCornerRow corners g r
    each i g r l e s = by (cases_lt i (length functions))
      where
        by : (i < length functions) ⊎ (length functions ≤ i) → IsCornerRow corners g r
        by (inl b) = h.each i g r b (e ∙ get_or_append_left functions (f ∷ []) g i b)
            (s ∙ get_or_append_left rows (row ∷ []) r i (let c = h.same in omega arith))
        by (inr b) =
            let long = length_push functions f in
            let c = h.same in
            let at : i ≡ length functions = omega arith in
            let there : i ≡ length rows = omega arith in
            subst (λ (m : ℕ). IsCornerRow corners g m) (sym (s ∙ get_or_push rows row r i (sym there)))
            (subst (λ (m : Affine). IsCornerRow corners m row) (sym (e ∙ get_or_push functions f g i (sym at))) k)
