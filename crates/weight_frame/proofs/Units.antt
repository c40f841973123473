-- The list of the unit vectors: there is one, in echelon form, and every vector is a combination of it with its own entries.
use Rattle.std.proofs.Common.{◌≡◌, ◌≢◌, ℕ, zero, suc, ◌+◌, ◌<◌, ◌≤◌, List, [], ◌∷◌, length, ℤ, pos, ◌+ℤ◌, ◌*ℤ◌, ◌<ℤ◌, refl, sym, ap, ap₂, subst, ◌∙◌, slice_index_or, arith, ⊎_elim}
use Rattle.std.proofs.lemmas.Bool.{cases_eq}
use Rattle.lattice_theory.specs.Vector.{entry, dot, IsUnitVector}
use Rattle.lattice_theory.proofs.Integers.{products_out, linear}
use Rattle.lattice_theory.proofs.Members.{Each, empty, more}
use Rattle.lattice_theory.proofs.Vectors.{unit, length-unit, entry-unit_same, entry-unit_other, same_from_entries}
use Rattle.lattice_core.specs.declared.limits.TheConstants.{MOST_FRAME_ENTRY}
use Rattle.weight_frame.specs.Frame.{AreUnitVectors, AreCoordinates, largest}
use Rattle.weight_frame.proofs.Largest.{unit_small}
use Rattle.weight_frame.proofs.Steps.{AreSized}
use Rattle.weight_frame.specs.steps.Echelon.{Leads, no_more, leads}
use Rattle.weight_frame.proofs.Leads.{column}

-- the vectors of the list are the unit vectors from the i-th on
abbrev pub AreUnitsFrom : ℕ → ℕ → List (List ℤ) → Type 0
AreUnitsFrom n i us = (j k : ℕ) → k ≡ i + j → j < length us → IsUnitVector n k (slice_index_or us j [])

units_behind : (n i : ℕ) (u : List ℤ) (us : List (List ℤ)) → AreUnitsFrom n i (u ∷ us) → AreUnitsFrom n (suc i) us
units_behind n i u us f = λ j k e h. f (suc j) k (omega arith) (omega arith)

first_unit : (n i : ℕ) (u : List ℤ) (us : List (List ℤ)) → AreUnitsFrom n i (u ∷ us) → IsUnitVector n i u
first_unit n i u us f = f 0 i (omega arith) (omega arith)

units_each : (P : List ℤ → Type 0) (n i : ℕ) (us : List (List ℤ)) → ((k : ℕ) (u : List ℤ) → IsUnitVector n k u → P u) → AreUnitsFrom n i us
    → Each P us
units_each P n i [] f h = empty
units_each P n i (u ∷ us) f h = more (f i u (first_unit n i u us h)) (units_each P n (suc i) us f (units_behind n i u us h))

unit_positive : (x : ℤ) → x ≡ pos 1 → pos 0 <ℤ x
unit_positive x e = omega (arith, linear)

units_lead : (n i : ℕ) (us : List (List ℤ)) → AreUnitsFrom n i us → Leads i us
units_lead n i [] f = no_more
units_lead n i (u ∷ us) f =
    let first = first_unit n i u us f in
    leads i (omega arith) (record {
      before = λ j h. first.zeros j (λ (e : j ≡ i). absurd (omega arith));
      positive = unit_positive (entry u i) first.one;
    })
    (units_lead n (suc i) us (units_behind n i u us f))

-- the combination with the entries of a vector
part_zero : (a b r : ℤ) → b ≡ pos 0 → r ≡ pos 0 → a *ℤ b +ℤ r ≡ pos 0
part_zero a b r e f = rw (e, f) (simp products_out)

part_one : (a b r : ℤ) → b ≡ pos 1 → r ≡ pos 0 → a *ℤ b +ℤ r ≡ a
part_one a b r e f = rw (e, f) (simp products_out (omega (arith, linear)))

part_other : (a b r x : ℤ) → b ≡ pos 0 → r ≡ x → a *ℤ b +ℤ r ≡ x
part_other a b r x e f = rw (e, f) (simp products_out (omega (arith, linear)))

entry_before : (n i j : ℕ) (us : List (List ℤ)) (x : List ℤ) → j < i → AreUnitsFrom n i us → dot x (column j us) ≡ pos 0
entry_before n i j us [] h f = refl
entry_before n i j [] (a ∷ x) h f = refl
entry_before n i j (u ∷ us) (a ∷ x) h f =
    part_zero a (entry u j) (dot x (column j us)) ((first_unit n i u us f).zeros j (λ (e : j ≡ i). absurd (omega arith)))
    (entry_before n (suc i) j us x (omega arith) (units_behind n i u us f))

entry_from : (n i j d : ℕ) (us : List (List ℤ)) (x : List ℤ) → length x ≡ length us → j ≡ i + d → AreUnitsFrom n i us
    → dot x (column j us) ≡ entry x d
entry_from n i j d us [] e h f = refl
entry_from n i j d [] (a ∷ x) e h f = absurd (omega arith)
entry_from n i j zero (u ∷ us) (a ∷ x) e h f =
    let same : j ≡ i = omega arith in
    part_one a (entry u j) (dot x (column j us)) (rw same (first_unit n i u us f).one)
    (entry_before n (suc i) j us x (omega arith) (units_behind n i u us f))
entry_from n i j (suc d) (u ∷ us) (a ∷ x) e h f =
    part_other a (entry u j) (dot x (column j us)) (entry x d) ((first_unit n i u us f).zeros j (λ (k : j ≡ i). absurd (omega arith)))
    (entry_from n (suc i) j d us x (omega arith) (omega arith) (units_behind n i u us f))

-- the list of all of them
all_units : (n : ℕ) (us : List (List ℤ)) → AreUnitVectors n us → AreUnitsFrom n 0 us
all_units n us h = λ j k e l. subst (λ (i : ℕ). IsUnitVector n i (slice_index_or us j [])) (same_place j k e) (h.units j (rw h.count at l))
  where
    same_place : (j k : ℕ) → k ≡ 0 + j → j ≡ k
    same_place j k e = omega arith

pub unit_vectors_sized : (n : ℕ) (us : List (List ℤ)) → AreUnitVectors n us → AreSized n us
unit_vectors_sized n us h = units_each (λ x. length x ≡ n) n 0 us (λ k u x. x.dimension) (all_units n us h)

pub unit_vectors_small : (n : ℕ) (us : List (List ℤ)) → AreUnitVectors n us → Each (λ x. largest x ≤ MOST_FRAME_ENTRY) us
unit_vectors_small n us h = units_each (λ x. largest x ≤ MOST_FRAME_ENTRY) n 0 us (λ k u x. unit_small n k u x) (all_units n us h)

pub unit_vectors_lead : (n : ℕ) (us : List (List ℤ)) → AreUnitVectors n us → Leads 0 us
unit_vectors_lead n us h = units_lead n 0 us (all_units n us h)

pub unit_vectors_span : (n : ℕ) (us : List (List ℤ)) (x : List ℤ) → AreUnitVectors n us → length x ≡ n → AreCoordinates n us x x
unit_vectors_span n us x h e = record {
  count = e ∙ sym h.count;
  combination = record { dimension = e; entries = λ j. sym (entry_from n 0 j j us x (e ∙ sym h.count) (omega arith) (all_units n us h)) };
}

-- there is one such list
same_entry : (n i j : ℕ) (x y : List ℤ) → IsUnitVector n i x → IsUnitVector n i y → entry x j ≡ entry y j
same_entry n i j x y h k = ⊎_elim (λ (e : j ≡ i). rw e (h.one ∙ sym k.one)) (λ (d : j ≢ i). h.zeros j d ∙ sym (k.zeros j d)) (cases_eq j i)

units_same : (n i : ℕ) (us vs : List (List ℤ)) → length us ≡ length vs → AreUnitsFrom n i us → AreUnitsFrom n i vs → us ≡ vs
units_same n i [] [] e f g = refl
units_same n i [] (v ∷ vs) e f g = absurd (omega arith)
units_same n i (u ∷ us) [] e f g = absurd (omega arith)
units_same n i (u ∷ us) (v ∷ vs) e f g =
    let x = first_unit n i u us f in
    let y = first_unit n i v vs g in
    ap₂ (λ (w : List ℤ) (ws : List (List ℤ)). w ∷ ws)
    (same_from_entries u v (x.dimension ∙ sym y.dimension) (λ j. same_entry n i j u v x y))
    (units_same n (suc i) us vs (omega arith) (units_behind n i u us f) (units_behind n i v vs g))

pub unit_vectors_unique : (n : ℕ) (us vs : List (List ℤ)) → AreUnitVectors n us → AreUnitVectors n vs → us ≡ vs
unit_vectors_unique n us vs h k = units_same n 0 us vs (h.count ∙ sym k.count) (all_units n us h) (all_units n vs k)

-- and it exists
units_list : ℕ → ℕ → ℕ → List (List ℤ)
units_list n i zero = []
units_list n i (suc m) = unit n i ∷ units_list n (suc i) m

length-units_list : (n i m : ℕ) → length (units_list n i m) ≡ m
unfolding units_list
length-units_list n i zero = refl
length-units_list n i (suc m) = ap suc (length-units_list n (suc i) m)

is_unit : (n i : ℕ) → i < n → IsUnitVector n i (unit n i)
is_unit n i h = record {
  dimension = length-unit n i;
  one = entry-unit_same n i h;
  zeros = λ j d. entry-unit_other n i j (λ (e : i ≡ j). d (sym e));
}

units_at : (n i m j k : ℕ) → i + m ≤ n → k ≡ i + j → j < m → IsUnitVector n k (slice_index_or (units_list n i m) j [])
unfolding units_list
units_at n i zero j k h e l = absurd (omega arith)
units_at n i (suc m) zero k h e l = let same : k ≡ i = omega arith in rw same (is_unit n i (omega arith))
units_at n i (suc m) (suc j) k h e l = units_at n (suc i) m j k (omega arith) (omega arith) (omega arith)

pub unit_vectors_exist : (n : ℕ) → (us : List (List ℤ)) × AreUnitVectors n us
unit_vectors_exist n = (
  units_list n 0 n,
  record {
    count = length-units_list n 0 n;
    units = λ i h. units_at n 0 n i i (omega arith) (omega arith) h;
  },
)
