-- How coordinates are found, one after another: at the leading place of a vector, the later vectors are 0.
use Rattle.std.proofs.Common.{◌≡◌, ◌≢◌, ℕ, zero, suc, ◌+◌, ◌*◌, ◌^◌, ◌<◌, ◌≤◌, List, [], ◌∷◌, ◌++◌, length, take, drop, set, get_or, ℤ, pos, negsuc, ◌+ℤ◌, ◌-ℤ◌, ◌*ℤ◌, ◌<ℤ◌, nat_abs, of_z, w64, SFits, refl, sym, ap, ap₂, subst, ◌∙◌, All, arith, ⊎_elim}
use Rattle.std.specs.Int.RustNames.{int_div}
use Rattle.std.proofs.lemmas.Bool.{cases_eq, cases_lt, cases_order}
use Rattle.std.proofs.lemmas.Int.{ints, unsigned_abs-mul, fits_signed_from_abs}
use Rattle.std.proofs.lemmas.List.{drop_more, drop_all, take_more, take_all, length_push, get_or-set_same, get_or-set_other}
use Rattle.std.specs.Int.{w128, ◌∣◌}
use native.Mathlib.Nat.{dvd-mul_left}
use Rattle.lattice_theory.specs.Vector.{entry, dot}
use Rattle.lattice_theory.proofs.Integers.{products_out, linear, cancel_left, positive_nonzero, positive_pos, *ℤ_comm, first_terms}
use Rattle.lattice_core.proofs.CommonDivisors.{exact_quotient}
use Rattle.lattice_theory.proofs.Members.{more, each_from_all}
use Rattle.lattice_theory.proofs.Vectors.{entry_past, zero_from_entries, entries_from_zero}
use Rattle.lattice_core.specs.declared.limits.TheConstants.{MOST_FRAME_ENTRY}
use Rattle.lattice_core.specs.declared.limits.TheConstants.{MOST_COORDINATE}
use Rattle.weight_frame.specs.Frame.{IsIntegerCombination, AreCoordinates, largest, AreWithinEntryLimit}
use Rattle.weight_frame.specs.steps.Echelon.{IsZeroBelow, LeadsAt, Leads, no_more, leads}
use Rattle.weight_frame.specs.steps.Places.{IsFirstPlace, IsNextCoordinate, AreFound, IsLargeSomewhere}
use Rattle.weight_frame.proofs.Largest.{entry_at_most}
use Rattle.weight_frame.proofs.Steps.{AreSized}
use Rattle.weight_frame.proofs.Leads.{column, zero_column, leads_zero}

-- zeros so far
pub zeros_more : (x : List ℤ) (i : ℕ) → entry x i ≡ pos 0 → ((j : ℕ) → j < i → entry x j ≡ pos 0) → (j : ℕ) → j < i + 1 → entry x j ≡ pos 0
zeros_more x i e h j l = ⊎_elim (λ (below : j < i). h j below) (λ (above : i ≤ j). let same : j ≡ i = omega arith in
    rw same e) (cases_lt j i)

pub zeros_all : (x : List ℤ) (i : ℕ) → length x ≤ i → ((j : ℕ) → j < i → entry x j ≡ pos 0) → All (λ a. a ≡ pos 0) x
zeros_all x i h f = zero_from_entries x (λ j. ⊎_elim (λ (below : j < i). f j below) (λ (above : i ≤ j). entry_past x j (omega arith))
    (cases_lt j i))

pub nonzero_from : (a : ℤ) → (of_z w64 a ≡ 0 → ⊥) → a ≢ pos 0
nonzero_from a n e = n (ap (of_z w64) e)

-- the vector at a place of the list, and those behind it
pub record HasLead (us : List (List ℤ)) (j : ℕ) (b : List ℤ) : Type 0 where
  pub place : ℕ
  pub lead : LeadsAt b place
  pub behind : Leads (suc place) (drop (j + 1) us)

lead_deeper : (u : List ℤ) (us : List (List ℤ)) (j : ℕ) (b : List ℤ) → HasLead us j b → HasLead (u ∷ us) (suc j) b
lead_deeper u us j b h = record {
  place = h.place;
  lead = h.lead;
  behind = subst (λ (k : ℕ). Leads (suc h.place) (drop k (u ∷ us))) (deeper j) h.behind;
}
  where
    deeper : (j : ℕ) → suc (j + 1) ≡ suc j + 1
    deeper j = omega arith

pub lead_at : (a : ℕ) (us : List (List ℤ)) (j : ℕ) (d : List ℤ) → Leads a us → j < length us → HasLead us j (get_or us j d)
lead_at a _ j d no_more h = absurd (omega arith)
lead_at a _ zero d (leads place i x l) h = record { place = place; lead = x; behind = l }
lead_at a _ (suc j) d (leads {u = u} {us = us} place i x l) h =
    lead_deeper u us j (get_or us j d) (lead_at (suc place) us j d l (omega arith))

-- its entries before the number j are 0
pub zero_before : (a : ℕ) (us : List (List ℤ)) (j : ℕ) (d : List ℤ) → Leads a us → j < length us → IsZeroBelow (a + j) (get_or us j d)
zero_before a _ j d no_more h = absurd (omega arith)
zero_before a _ zero d (leads place i x l) h = λ k m. x.before k (omega arith)
zero_before a _ (suc j) d (leads {u = u} {us = us} place i x l) h =
    λ k m. zero_before (suc place) us j d l (omega arith) k (omega arith)

pub zero_before_lead : (us : List (List ℤ)) (j : ℕ) (b : List ℤ) → Leads 0 us → j < length us → b ≡ get_or us j b → IsZeroBelow j b
zero_before_lead us j b l h e k m = ap (λ (v : List ℤ). entry v k) e ∙ zero_before 0 us j b l h k (omega arith)

-- its leading place is that of its first entry that isn't 0
nonzero_positive : (a : ℤ) → pos 0 <ℤ a → a ≡ pos 0 → ⊥
nonzero_positive a h e = absurd (omega (arith, linear))

pub same_place : (b : List ℤ) (p q : ℕ) → LeadsAt b p → IsFirstPlace b q → q ≡ p
same_place b p q l f = ⊎_elim (λ (e : q ≡ p). e) (λ o. ⊎_elim
    (λ (h : q < p). absurd (f.nonzero (l.before q h)))
    (λ (h : p < q). absurd (nonzero_positive (entry b p) l.positive (f.before p h))) o) (cases_order q p)

pub some_place : (b : List ℤ) (p : ℕ) → LeadsAt b p → All (λ a. a ≡ pos 0) b → ⊥
some_place b p l z = nonzero_positive (entry b p) l.positive (entries_from_zero b z p)

-- a combination, parted at a place of the list
parted : (a u r s t e : ℤ) → r ≡ s +ℤ (e +ℤ t) → a *ℤ u +ℤ r ≡ (a *ℤ u +ℤ s) +ℤ (e +ℤ t)
parted a u r s t e h = omega (arith, linear)

dot_parts : (p : ℕ) (j : ℕ) (c : List ℤ) (us : List (List ℤ)) (d : List ℤ) → length c ≡ length us → j < length us
    → dot c (column p us) ≡ dot (take j c) (column p us)
    +ℤ (entry c j *ℤ entry (get_or us j d) p +ℤ dot (drop (suc j) c) (column p (drop (suc j) us)))
dot_parts p j c [] d e h = absurd (omega arith)
dot_parts p j [] (u ∷ us) d e h = absurd (omega arith)
dot_parts p zero (a ∷ c) (u ∷ us) d e h = omega (arith, linear)
dot_parts p (suc j) (a ∷ c) (u ∷ us) d e h = parted a (entry u p) (dot c (column p us)) (dot (take j c) (column p us))
    (dot (drop (suc j) c) (column p (drop (suc j) us))) (entry c j *ℤ entry (get_or us j d) p)
    (dot_parts p j c us d (omega arith) (omega arith))

-- division by a factor
exact_division : (k : ℤ) (n : ℕ) → 0 < n → int_div (k *ℤ pos n) (pos n) ≡ k
exact_division k n h =
    let divides : n ∣ nat_abs (k *ℤ pos n) = rw (unsigned_abs-mul k (pos n)) (dvd-mul_left n (nat_abs k)) in
    cancel_left (pos n) (int_div (k *ℤ pos n) (pos n)) k (positive_nonzero (pos n) (positive_pos n h))
    (exact_quotient (k *ℤ pos n) n divides ∙ *ℤ_comm k (pos n))

divided : (k d : ℤ) → pos 0 <ℤ d → int_div (k *ℤ d) d ≡ k
divided k (pos n) h = exact_division k n (positive_natural n h)
  where
    positive_natural : (n : ℕ) → pos 0 <ℤ pos n → 0 < n
    positive_natural n h = omega (arith, linear)
divided k (negsuc n) h = absurd (omega (arith, linear))

what_is_left : (x s e t : ℤ) → x ≡ s +ℤ (e +ℤ t) → t ≡ pos 0 → x -ℤ s ≡ e
what_is_left x s e t h z = omega (arith, linear)

-- the next coordinate
pub next_is : (x : List ℤ) (us : List (List ℤ)) (found b : List ℤ) (place : ℕ) (s a : ℤ) → length found < length us → Leads 0 us
    → b ≡ get_or us (length found) b → IsFirstPlace b place → s ≡ dot found (column place us)
    → a ≡ int_div (entry x place -ℤ s) (entry b place) → IsNextCoordinate us x found a
next_is x us found b place s a h l e f es ea c coordinates taken =
    let j = length found in
    let lead = lead_at 0 us j b l h in
    let first : IsFirstPlace (get_or us j b) place = subst (λ (v : List ℤ). IsFirstPlace v place) e f in
    let same = same_place (get_or us j b) lead.place place lead.lead first in
    let positive : pos 0 <ℤ entry b place = rw e (rw same lead.lead.positive) in
    let parts = coordinates.combination.entries place ∙ dot_parts place j c us b coordinates.count h in
    let behind : Leads (suc place) (drop (suc j) us) =
    rw same (subst (λ (k : ℕ). Leads (suc lead.place) (drop k us)) (next_number j) lead.behind) in
    let none = zero_column (suc place) place (drop (suc j) us) (drop (suc j) c) (omega arith)
    (leads_zero (suc place) (drop (suc j) us) behind) in
    let left = what_is_left (entry x place) (dot (take j c) (column place us)) (entry c j *ℤ entry (get_or us j b) place)
    (dot (drop (suc j) c) (column place (drop (suc j) us))) parts none in
    let left' : entry x place -ℤ s ≡ entry c j *ℤ entry b place =
    ap (λ (z : ℤ). entry x place -ℤ z) (es ∙ ap (λ (y : List ℤ). dot y (column place us)) (sym taken)) ∙ left
    ∙ ap (λ (v : List ℤ). entry c j *ℤ entry v place) (sym e) in
    ea ∙ ap (λ (z : ℤ). int_div z (entry b place)) left' ∙ divided (entry c j) (entry b place) positive
  where
    next_number : (j : ℕ) → j + 1 ≡ suc j
    next_number j = omega arith

-- the sum for one entry of a combination
pub combined_drop : (c : List ℤ) (us : List (List ℤ)) (j p : ℕ) (b : List ℤ) → j < length c → j < length us → b ≡ get_or us j b
    → dot (drop j c) (column p (drop j us)) ≡ entry c j *ℤ entry b p +ℤ dot (drop (j + 1) c) (column p (drop (j + 1) us))
combined_drop c us j p b h k e =
    rw (drop_more c j (pos 0) h, drop_more us j b k)
    (ap (λ (v : List ℤ). entry c j *ℤ entry v p +ℤ dot (drop (j + 1) c) (column p (drop (j + 1) us))) (sym e))

pub combined_more : (c : List ℤ) (us : List (List ℤ)) (j p : ℕ) (b : List ℤ) (s q t : ℤ) → j < length c → j < length us → b ≡ get_or us j b
    → q ≡ entry c j *ℤ entry b p → t ≡ s +ℤ q
    → s +ℤ dot (drop j c) (column p (drop j us)) ≡ dot c (column p us)
    → t +ℤ dot (drop (j + 1) c) (column p (drop (j + 1) us)) ≡ dot c (column p us)
combined_more c us j p b s q t h k e f g d = first_terms s q (dot (drop (j + 1) c) (column p (drop (j + 1) us))) _ t g
    (rw f (rw (combined_drop c us j p b h k e) at d))

pub combined_all : (c : List ℤ) (us : List (List ℤ)) (j p : ℕ) (s : ℤ) → length c ≤ j
    → s +ℤ dot (drop j c) (column p (drop j us)) ≡ dot c (column p us) → s ≡ dot c (column p us)
combined_all c us j p s h d = let d' : s +ℤ pos 0 ≡ dot c (column p us) = rw (drop_all j c h) at d in omega (arith, linear)

pub combined_bound : (s p t : ℤ) (j : ℕ) → t ≡ s +ℤ p → nat_abs s ≤ 2 ^ 95 * j → nat_abs p ≤ 2 ^ 95 → nat_abs t ≤ 2 ^ 95 * (j + 1)
combined_bound s p t j e h k = omega (arith, ints)

pub combined_fits : (s p : ℤ) (j : ℕ) → j < 6 → nat_abs s ≤ 2 ^ 95 * j → nat_abs p ≤ 2 ^ 95 → SFits w128 (s +ℤ p)
combined_fits s p j l h k = fits_signed_from_abs w128 (s +ℤ p) (omega (arith, ints))

-- an entry of a vector of the list
pub vector_small : (us : List (List ℤ)) (j p : ℕ) (b : List ℤ) → AreWithinEntryLimit us → j < length us → b ≡ get_or us j b
    → nat_abs (entry b p) ≤ MOST_FRAME_ENTRY
vector_small us j p b h k e =
    let l : largest b ≤ MOST_FRAME_ENTRY = subst (λ (v : List ℤ). largest v ≤ MOST_FRAME_ENTRY) (sym e) (h j b k) in
    let m = entry_at_most b p in
    omega arith

pub vector_long : (us : List (List ℤ)) (j p : ℕ) (b : List ℤ) → All (λ x. p < length x) us → j < length us → b ≡ get_or us j b
    → p < length b
vector_long us j p b h k e = subst (λ (v : List ℤ). p < length v) (sym e) (h j b k)

-- vectors of n entries are longer than a place below n
pub all_long : (n p : ℕ) (us : List (List ℤ)) → p < n → All (λ x. length x ≡ n) us → All (λ x. p < length x) us
all_long n p us h k = λ j d l. let e = k j d l in omega arith

-- the coordinates so far
pub record AreFoundBelow (us : List (List ℤ)) (x : List ℤ) (i : ℕ) (found : List ℤ) : Type 0 where
  pub count : length found ≡ i
  pub within : largest found ≤ MOST_COORDINATE
  pub same : (c : List ℤ) → AreCoordinates (length x) us x c → take i c ≡ found

pub found_none : (us : List (List ℤ)) (x found : List ℤ) → found ≡ [] → AreFoundBelow us x 0 found
found_none us x found e = record { count = ap length e; within = rw e (omega arith); same = λ c h. sym e }

largest_push : (x : List ℤ) (a : ℤ) (m : ℕ) → largest x ≤ m → nat_abs a ≤ m → largest (x ++ (a ∷ [])) ≤ m
largest_push [] a m h k = omega arith
largest_push (b ∷ x) a m h k = let l = largest_push x a m (omega arith) k in omega arith

pub found_more : (us : List (List ℤ)) (x found new : List ℤ) (i : ℕ) (a : ℤ) → i < length us → AreFoundBelow us x i found
    → IsNextCoordinate us x found a → nat_abs a ≤ MOST_COORDINATE → new ≡ found ++ (a ∷ []) → AreFoundBelow us x (i + 1) new
found_more us x found new i a h f n small e = record {
  count = ap length e ∙ length_push found a ∙ ap (λ (k : ℕ). k + 1) f.count;
  within = rw e (largest_push found a MOST_COORDINATE f.within small);
  same = λ c k.
      let taken = f.same c k in
      let value : a ≡ entry c i = rw f.count at (n c k (ap (λ (j : ℕ). take j c) f.count ∙ taken)) in
      take_more c i (pos 0) (let l = k.count in omega arith) ∙ ap₂ (λ (y : List ℤ) (z : ℤ). y ++ (z ∷ [])) taken (sym value) ∙ sym e;
}

pub found_all : (us : List (List ℤ)) (x found : List ℤ) (i : ℕ) → i ≡ length us → AreFoundBelow us x i found → AreFound us x found
found_all us x found i e f = record {
  same = λ c k. sym (take_all i c (let l = k.count in omega arith)) ∙ f.same c k;
  within = f.within;
  count = f.count ∙ e;
}

-- one that is too large
pub found_large : (us : List (List ℤ)) (x found : List ℤ) (i : ℕ) (a : ℤ) → AreFoundBelow us x i found → IsNextCoordinate us x found a
    → MOST_COORDINATE < nat_abs a → IsLargeSomewhere us x
found_large us x found i a f n large c k =
    let value = n c k (ap (λ (j : ℕ). take j c) f.count ∙ f.same c k) in
    let l : MOST_COORDINATE < nat_abs (entry c (length found)) = rw value at large in
    let m = entry_at_most c (length found) in
    omega arith

-- the entry at the place of the first entry that isn't 0
pub first_positive : (us : List (List ℤ)) (j : ℕ) (b : List ℤ) (place : ℕ) → j < length us → Leads 0 us → b ≡ get_or us j b
    → IsFirstPlace b place → pos 0 <ℤ entry b place
first_positive us j b place h l e f =
    let lead = lead_at 0 us j b l h in
    let first : IsFirstPlace (get_or us j b) place = subst (λ (v : List ℤ). IsFirstPlace v place) e f in
    let same = same_place (get_or us j b) lead.place place lead.lead first in
    rw e (rw same lead.lead.positive)

-- there is one
pub no_zeros : (us : List (List ℤ)) (j : ℕ) (b : List ℤ) → j < length us → Leads 0 us → b ≡ get_or us j b → All (λ a. a ≡ pos 0) b → ⊥
no_zeros us j b h l e z = let lead = lead_at 0 us j b l h in
    some_place (get_or us j b) lead.place lead.lead (subst (All (λ a. a ≡ pos 0)) e z)

-- one entry of a combination written
pub written_more : (out : List ℤ) (i : ℕ) (r : ℤ) (c : List ℤ) (us : List (List ℤ)) → i < length out → r ≡ dot c (column i us)
    → ((k : ℕ) → k < i → entry out k ≡ dot c (column k us)) → (k : ℕ) → k < i + 1 → entry (set out i r) k ≡ dot c (column k us)
written_more out i r c us h e f k l = ⊎_elim
    (λ (same : k ≡ i). rw same (get_or-set_same out i r (pos 0) h ∙ e))
    (λ (other : k ≢ i). get_or-set_other out i k r (pos 0) other ∙ f k (omega arith))
    (cases_eq k i)

-- past the end all vectors are 0
past_column : (n j : ℕ) (us : List (List ℤ)) (c : List ℤ) → n ≤ j → AreSized n us → dot c (column j us) ≡ pos 0
past_column n j us [] h s = refl
past_column n j [] (a ∷ c) h s = refl
past_column n j (u ∷ us) (a ∷ c) h (more e s) = rw (entry_past u j (omega arith), past_column n j us c h s) (simp products_out)

pub written_all : (n : ℕ) (out : List ℤ) (i : ℕ) (c : List ℤ) (us : List (List ℤ)) → length out ≡ n → n ≤ i → All (λ x. length x ≡ n) us
    → ((k : ℕ) → k < i → entry out k ≡ dot c (column k us)) → IsIntegerCombination n c us out
written_all n out i c us e h s f = record {
  dimension = e;
  entries = λ j. ⊎_elim
      (λ (below : j < i). f j below)
      (λ (above : i ≤ j). entry_past out j (omega arith)
      ∙ sym (past_column n j us c (omega arith) (each_from_all (λ x. length x ≡ n) us s)))
      (cases_lt j i);
}

-- the same combination under other names
pub combination_in : (m n : ℕ) (c d : List ℤ) (us vs : List (List ℤ)) (x : List ℤ) → m ≡ n → c ≡ d → us ≡ vs → IsIntegerCombination m c us x
    → IsIntegerCombination n d vs x
combination_in m n c d us vs x e f g h = rw (e, f, g) at h
