-- Ranks of rows that are faces in order, from those of their parts.
use Rattle.std.specs.List.{AllPairs}
use Rattle.std.proofs.Common.{◌≡◌, ◌≢◌, ◌⊎◌, inl, inr, ⊎_elim, ℕ, zero, suc, ◌+◌, ◌<◌, ◌≤◌, max, Bool, List, [], ◌∷◌, length, map, get_or, Contains, refl, sym, ap, ◌∙◌, subst, arith, le_of_suc-le-suc}
use Rattle.std.proofs.lemmas.Bool.{cases_lt}
use Rattle.lattice_theory.proofs.Members.{In, here, there, each_from_all, each_in, in_from_contains, contains_from_in}
use Rattle.lattice_theory.proofs.Sublists.{in_map, from_map}
use Rattle.bit_pool.specs.Bits.{HasBit}
use Rattle.face_theory.specs.Sets.{common}
use Rattle.face_theory.specs.Faces.{TightRelation, IsFace, IsRank}
use Rattle.face_theory.specs.Meets.{function_row}
use Rattle.face_theory.proofs.MeetRanks.{common_face, rank_by_meets_lem}
use Rattle.face_closing.specs.Words.{set_of, IsSetOf, meet_words, IsEarlier}
use Rattle.face_closing.specs.Tables.{AreFunctionRows, AreFaceRows}
use Rattle.face_closing.specs.steps.Chains.{row_at}
use Rattle.face_closing.specs.steps.PartRanks.{AreLow, HasRank, IsPartRank}
use Rattle.face_closing.proofs.SetWords.{set_of-meet, meet_has}
use Rattle.face_closing.proofs.MeetRows.{meet_is_set, same_from_sets}

-- a part of a row that isn't the row stands behind it
pub part_behind : (rows : List (List ℕ)) (place found : ℕ) (part row : List ℕ) → AllPairs IsEarlier rows → place < length rows
    → length (row_at rows place) ≡ length row → part ≡ meet_words (row_at rows place) row → part ≢ row_at rows place → row_at rows found ≡ part
    → place < found
part_behind rows place found part row up l long is apart e = ⊎_elim
    (λ (b : place < found). b)
    (λ (b : found ≤ place). ⊎_elim
    (λ (c : found < place). before (up found place [] c l))
    (λ (c : place ≤ found). let s : place ≡ found = omega arith in absurd (apart (sym e ∙ ap (row_at rows) (sym s))))
    (cases_lt found place))
    (cases_lt place found)
  where
    before : IsEarlier (row_at rows found) (row_at rows place) → place < found
    before h = absurd (h.missing (meet_has (row_at rows place) row long h.first (subst (λ (x : List ℕ). HasBit x h.first) (e ∙ is) h.here)))

-- so a rank over it is low
pub part_low : (rows : List (List ℕ)) (ranks : List ℕ) (place : ℕ) (part row : List ℕ) (number : ℕ) → AllPairs IsEarlier rows → place < length rows
    → length ranks ≡ length rows → AreLow ranks → length (row_at rows place) ≡ length row → part ≡ meet_words (row_at rows place) row
    → IsPartRank rows ranks place part number → number + place < length ranks
part_low rows ranks place part row number up l many low long is (inl (e, z)) = omega arith
part_low rows ranks place part row number up l many low long is (inr (n, inl (c, z))) = omega arith
part_low rows ranks place part row number up l many low long is (inr (n, inr s)) =
    let b = part_behind rows place s.place part row up l long is n s.row_is in
    let w = s.within in
    let r = low s.place (omega arith) in
    let e = s.next in
    omega arith

-- what the rows of the first functions say of a rank
pub record IsOverFirst (R : TightRelation) (face : List Bool) (j k : ℕ) : Type 0 where
  pub above : (f : ℕ) → f < j → common face (function_row R f) ≢ face → (i : ℕ) × IsRank R (common face (function_row R f)) i × (i < k)
  pub reached : (k ≡ 0) ⊎ ((f : ℕ) × (f < j) × (common face (function_row R f) ≢ face) × ((i : ℕ) × IsRank R (common face (function_row R f)) i × (k ≡ suc i)))

-- what one row says
pub data Says (R : TightRelation) (face : List Bool) (f number : ℕ) : Type 0 where
  same : common face (function_row R f) ≡ face → number ≡ 0 → Says R face f number
  less : common face (function_row R f) ≢ face → (i : ℕ) → IsRank R (common face (function_row R f)) i → number ≡ suc i → Says R face f number

pub over_none : (R : TightRelation) (face : List Bool) → IsOverFirst R face 0 0
over_none R face = record { above = λ f l. absurd (omega arith); reached = inl refl }

module _ (R : TightRelation) (face : List Bool) (j k number : ℕ) (h : IsOverFirst R face j k) (s : Says R face j number) where
  over_above : Says R face j number → (f : ℕ) → f < j + 1 → common face (function_row R f) ≢ face
      → (i : ℕ) × IsRank R (common face (function_row R f)) i × (i < max k number)
  over_above t f l n = ⊎_elim
      (λ (a : f < j). let p = h.above f a n in (p.0, p.1, let q = p.2 in omega arith))
      (λ (a : j ≤ f). let e : j ≡ f = omega arith in
      subst (λ (g : ℕ). common face (function_row R g) ≢ face → (i : ℕ) × IsRank R (common face (function_row R g)) i × (i < max k number)) e (last t) n)
      (cases_lt f j)
    where
      last : Says R face j number → common face (function_row R j) ≢ face → (i : ℕ) × IsRank R (common face (function_row R j)) i × (i < max k number)
      last (same e z) d = absurd (d e)
      last (less d i r e) d2 = (i, r, omega arith)

  -- the larger one of both is reached
  over_reached : Says R face j number → (max k number ≡ 0) ⊎ ((f : ℕ) × (f < j + 1) × (common face (function_row R f) ≢ face)
      × ((i : ℕ) × IsRank R (common face (function_row R f)) i × (max k number ≡ suc i)))
  over_reached t = ⊎_elim (λ (a : k < number). new t a) (λ (a : number ≤ k). old h.reached a) (cases_lt k number)
    where
      new : Says R face j number → k < number → (max k number ≡ 0) ⊎ ((f : ℕ) × (f < j + 1) × (common face (function_row R f) ≢ face)
          × ((i : ℕ) × IsRank R (common face (function_row R f)) i × (max k number ≡ suc i)))
      new (same e z) a = absurd (omega arith)
      new (less d i r e) a = inr (j, omega arith, d, (i, r, omega arith))

      old : (k ≡ 0) ⊎ ((f : ℕ) × (f < j) × (common face (function_row R f) ≢ face) × ((i : ℕ) × IsRank R (common face (function_row R f)) i × (k ≡ suc i)))
          → number ≤ k → (max k number ≡ 0) ⊎ ((f : ℕ) × (f < j + 1) × (common face (function_row R f) ≢ face)
          × ((i : ℕ) × IsRank R (common face (function_row R f)) i × (max k number ≡ suc i)))
      old (inl z) a = inl (omega arith)
      old (inr (f, l, d, (i, r, e))) a = inr (f, omega arith, d, (i, r, omega arith))

  pub over_next : IsOverFirst R face (j + 1) (max k number)
  over_next = record { above = over_above s; reached = over_reached s }

pub over_all : (R : TightRelation) (face : List Bool) (j k : ℕ) → IsFace R face → R.functions ≤ j → j ≤ R.functions → IsOverFirst R face j k → IsRank R face k
over_all R face j k fa l m h = rank_by_meets_lem R face k fa (record { above = λ f b. h.above f (omega arith); reached = by h.reached })
  where
    by : (k ≡ 0) ⊎ ((f : ℕ) × (f < j) × (common face (function_row R f) ≢ face) × ((i : ℕ) × IsRank R (common face (function_row R f)) i × (k ≡ suc i)))
        → (k ≡ 0) ⊎ ((f : ℕ) × (f < R.functions) × (common face (function_row R f) ≢ face) × ((i : ℕ) × IsRank R (common face (function_row R f)) i × (k ≡ suc i)))
    by (inl z) = inl z
    by (inr (f, b, d, r)) = inr (f, omega arith, d, r)

-- rows that are all faces
at_place : (xs : List (List ℕ)) (i : ℕ) → i < length xs → In (get_or xs i []) xs
at_place [] i l = absurd (omega arith)
at_place (x ∷ xs) zero l = here
at_place (x ∷ xs) (suc i) l = there (at_place xs i (le_of_suc-le-suc l))

pub row_is_set : (count : ℕ) (R : TightRelation) (rows : List (List ℕ)) (k : ℕ) → AreFaceRows count R rows → k < length rows → IsSetOf count R.members (row_at rows k)
row_is_set count R rows k h l = each_in (each_from_all (IsSetOf count R.members) rows h.words) (at_place rows k l)

pub row_is_face : (count : ℕ) (R : TightRelation) (rows : List (List ℕ)) (k : ℕ) → AreFaceRows count R rows → k < length rows → IsFace R (set_of R.members (row_at rows k))
row_is_face count R rows k h l = (h.faces (set_of R.members (row_at rows k))).0 (contains_from_in (in_map (set_of R.members) (at_place rows k l)))

-- what the row of a function says of the rank of a row
module _ (count : ℕ) (R : TightRelation) (functions rows : List (List ℕ)) (ranks : List ℕ) (place : ℕ) (told : AreFunctionRows count R functions)
    (h : AreFaceRows count R rows) (up : AllPairs IsEarlier rows) (l : place < length rows) (many : length ranks ≡ length rows)
    (known : (k : ℕ) → place < k → k < length ranks → HasRank R rows ranks k)
    (j : ℕ) (within : j < R.functions) (row part : List ℕ) (row_is : row ≡ get_or functions j []) (is : part ≡ meet_words (row_at rows place) row) where
  here_set : IsSetOf count R.members (row_at rows place)
  here_set = row_is_set count R rows place h l

  row_long : length row ≡ count
  row_long = ap length row_is ∙ (told.words j within).many

  same_long : length (row_at rows place) ≡ length row
  same_long = here_set.many ∙ sym row_long

  part_set : IsSetOf count R.members part
  part_set = subst (IsSetOf count R.members) (sym is) (meet_is_set count R.members (row_at rows place) row here_set row_long)

  part_common : set_of R.members part ≡ common (set_of R.members (row_at rows place)) (function_row R j)
  part_common = ap (set_of R.members) is ∙ set_of-meet R.members (row_at rows place) row same_long
      ∙ ap (common (set_of R.members (row_at rows place))) (ap (set_of R.members) row_is ∙ told.sets j within)

  part_less : part ≢ row_at rows place → common (set_of R.members (row_at rows place)) (function_row R j) ≢ set_of R.members (row_at rows place)
  part_less n e = n (same_from_sets count R.members part (row_at rows place) part_set here_set (part_common ∙ e))

  part_listed : Contains rows part
  part_listed =
      let f = common_face R (set_of R.members (row_at rows place)) j (row_is_face count R rows place h l) within in
      let c = (h.faces (set_of R.members part)).1 (subst (IsFace R) (sym part_common) f) in
      let i = from_map (set_of R.members) rows (in_from_contains (map (set_of R.members) rows) c) in
      subst (Contains rows) (sym (same_from_sets count R.members part i.source part_set (each_in (each_from_all (IsSetOf count R.members) rows h.words) i.member) i.is))
      (contains_from_in i.member)

  pub part_says : (number : ℕ) → IsPartRank rows ranks place part number → Says R (set_of R.members (row_at rows place)) j number
  part_says number (inl (e, z)) = same (sym part_common ∙ ap (set_of R.members) e) z
  part_says number (inr (n, inl (c, z))) = absurd (c part_listed)
  part_says number (inr (n, inr s)) =
      let b = part_behind rows place s.place part row up l same_long is n s.row_is in
      less (part_less n) (get_or ranks s.place 0)
      (subst (λ (x : List Bool). IsRank R x (get_or ranks s.place 0)) (ap (set_of R.members) s.row_is ∙ part_common)
      (known s.place b (let w = s.within in omega arith)))
      (let e = s.next in omega arith)
