-- What exponents take of degrees, and what that says of the rows.
use Rattle.std.specs.List.{All}
use Rattle.std.proofs.Common.{◌≡◌, ℕ, zero, suc, ◌+◌, ◌-◌, ◌*◌, ◌<◌, ◌≤◌, List, [], ◌∷◌, length, map, drop, get_or, refl, sym, ap, ◌∙◌, arith, suc-le-suc, zero-lt-suc}
use Rattle.std.proofs.Math.ListN.{set, length-set}
use Rattle.std.proofs.Math.Nat.{le-mul_of_pos_right}
use Rattle.std.proofs.lemmas.List.Elements.{All-nil, All-cons, All-head, All-tail, All-map, All-contains}
use Rattle.lattice_core.specs.declared.limits.TheConstants.{MOST_DEGREE}
use Rattle.lattice_core.specs.Weights.{Weighted, columns_of, AreWellFormed, IsSummed}
use Rattle.weight_points.specs.declared.rows.Row.{Row}
use Rattle.weight_points.specs.steps.Waits.{spent}
use Rattle.weight_points.specs.steps.Rows.{system_of, systems_of, weight_at, HasPlace, IsAffordable, IsPlausible, spending, returning, IsReturnable, IsRow, AreRows}
use Rattle.weight_points.specs.steps.Search.{Solves, exponent, IsZeroFrom}

-- what holds of each member of a map holds of the images
pub all_unmap : {X Y : Type 0} (P : Y → Type 0) (f : X → Y) (xs : List X) → All P (map f xs) → All (λ x. P (f x)) xs
all_unmap P f [] h = All-nil (λ x. P (f x))
all_unmap P f (x ∷ xs) h = All-cons (λ x. P (f x)) x xs (All-head P (f x) (map f xs) h) (all_unmap P f xs (All-tail P (f x) (map f xs) h))

-- one exponent changes
pub spent_set : (weights a : List ℕ) (i v : ℕ) → length weights ≡ length a → i < length a
    → spent weights (set a i v) + exponent a i * get_or weights i 0 ≡ spent weights a + v * get_or weights i 0
spent_set weights [] i v e h = absurd (omega arith)
spent_set [] (x ∷ a) i v e h = absurd (omega arith)
spent_set (w ∷ weights) (x ∷ a) zero v e h = omega arith
spent_set (w ∷ weights) (x ∷ a) (suc i) v e h = let r = spent_set weights a i v (omega arith) (omega arith) in omega arith

-- one exponent is part of the whole
pub spent_part : (weights a : List ℕ) (i : ℕ) → length weights ≡ length a → i < length a
    → exponent a i * get_or weights i 0 ≤ spent weights a
spent_part weights [] i e h = absurd (omega arith)
spent_part [] (x ∷ a) i e h = absurd (omega arith)
spent_part (w ∷ weights) (x ∷ a) zero e h = omega arith
spent_part (w ∷ weights) (x ∷ a) (suc i) e h = let r = spent_part weights a i (omega arith) (omega arith) in omega arith

-- exponents that are all 0 take nothing
pub spent_zeros : (weights a : List ℕ) → IsZeroFrom 0 a → spent weights a ≡ 0
spent_zeros [] a z = refl
spent_zeros (w ∷ weights) [] z = refl
spent_zeros (w ∷ weights) (x ∷ a) z =
    let r = spent_zeros weights a (λ i h. z (suc i) (omega arith)) in
    let first : x ≡ 0 = z 0 (omega arith) in
    rw (first, r) (omega arith)

-- with exponents that begin alike, where behind the place one has only 0
pub spent_behind : (weights a b : List ℕ) (place : ℕ) → length weights ≡ length a → length b ≡ length a → place < length a
    → ((i : ℕ) → i < place → exponent b i ≡ exponent a i) → IsZeroFrom place a
    → spent weights b ≡ spent weights a + (exponent b place * get_or weights place 0 + spent (drop (suc place) weights)
    (drop (suc place) b))
spent_behind weights [] b place e f h agree z = absurd (omega arith)
spent_behind [] (x ∷ a) b place e f h agree z = absurd (omega arith)
spent_behind (w ∷ weights) (x ∷ a) [] place e f h agree z = absurd (omega arith)
spent_behind (w ∷ weights) (x ∷ a) (y ∷ b) zero e f h agree z =
    let none = spent_zeros weights a (λ i k. z (suc i) (omega arith)) in
    let first : x ≡ 0 = z 0 (omega arith) in
    rw (none, first) (omega arith)
spent_behind (w ∷ weights) (x ∷ a) (y ∷ b) (suc place) e f h agree z =
    let r = spent_behind weights a b place (omega arith) (omega arith) (omega arith) (λ i k. agree (suc i) (suc-le-suc k))
    (λ i k. z (suc i) (suc-le-suc k)) in
    let first : y ≡ x = agree 0 (zero-lt-suc place) in
    rw (first, r) (omega arith)

-- so the exponent at the place is plausible, where the other exponents take the whole degree
pub plausible_row : (row : Row) (a b : List ℕ) (place : ℕ) → IsRow a row → length b ≡ length a → place < length a
    → ((i : ℕ) → i < place → exponent b i ≡ exponent a i) → IsZeroFrom place a
    → spent row.system.weights.items b ≡ row.system.degree → IsPlausible place (exponent b place) row
plausible_row row a b place r f h agree z e =
    let s = spent_behind row.system.weights.items a b place r.columns f h agree z in
    let all = r.spent_is in
    record { further = drop (suc place) b; is = omega arith }

-- no weights take nothing
spent_past : (weights b : List ℕ) (n : ℕ) → length weights ≤ n → spent (drop n weights) b ≡ 0
spent_past [] b zero h = refl
spent_past [] b (suc n) h = refl
spent_past (w ∷ weights) b zero h = absurd (omega arith)
spent_past (w ∷ weights) b (suc n) h = spent_past weights b n (omega arith)

-- at the last place a plausible value takes the whole degree
pub solved_row : (row : Row) (a : List ℕ) (place value : ℕ) → IsRow a row → place + 1 ≡ length a → exponent a place ≡ 0
    → IsPlausible place value row
    → spent row.system.weights.items (set a place value) ≡ row.system.degree
solved_row row a place value r last zero_there p =
    let d = spent_past row.system.weights.items p.further (suc place) (let e = r.columns in omega arith) in
    let s = spent_set row.system.weights.items a place value r.columns (omega arith) in
    let s' = rw zero_there at s in
    let p' = rw d at p.is in
    let all = r.spent_is in
    omega arith

-- a row has each place
pub row_place : (row : Row) (a : List ℕ) (place : ℕ) → IsRow a row → place < length a → HasPlace place row
row_place row a place r h = record {
  weight = let e = r.columns in omega arith;
  tables = r.tables;
  within = let s = r.spent_is in omega arith;
  small = let s = r.spent_is in let m = r.small in omega arith;
}

-- a value is written over 0
pub put_row : (row : Row) (a : List ℕ) (place value : ℕ) → IsRow a row → place < length a → exponent a place ≡ 0
    → IsAffordable place value row
    → IsRow (set a place value) (spending place value row)
put_row row a place value r h zero_there k =
    let s = spent_set row.system.weights.items a place value r.columns h in
    let s' = rw zero_there at s in
    let all = r.spent_is in
    record { columns = r.columns ∙ sym (length-set a place value); spent_is = omega arith; small = r.small; tables = r.tables }

-- 0 is written over a value, and there is room for what is given back
pub clear_row : (row : Row) (a : List ℕ) (place : ℕ) → IsRow a row → place < length a
    → IsRow (set a place 0) (returning place (exponent a place) row)
clear_row row a place r h =
    let s = spent_set row.system.weights.items a place 0 r.columns h in
    let all = r.spent_is in
    record { columns = r.columns ∙ sym (length-set a place 0); spent_is = omega arith; small = r.small; tables = r.tables }

pub returnable_row : (row : Row) (a : List ℕ) (place : ℕ) → IsRow a row → place < length a → IsReturnable place (exponent a place) row
returnable_row row a place r h =
    let part = spent_part row.system.weights.items a place r.columns h in
    let all = r.spent_is in
    let m = r.small in
    omega arith

-- the systems of rows stay
pub systems_spending : (place value : ℕ) (rows : List Row) → systems_of (map (spending place value) rows) ≡ systems_of rows
systems_spending place value [] = refl
systems_spending place value (row ∷ rows) = ap (λ (ss : List Weighted). system_of row ∷ ss) (systems_spending place value rows)

pub systems_returning : (place value : ℕ) (rows : List Row) → systems_of (map (returning place value) rows) ≡ systems_of rows
systems_returning place value [] = refl
systems_returning place value (row ∷ rows) = ap (λ (ss : List Weighted). system_of row ∷ ss) (systems_returning place value rows)

-- what is given back after it was taken away
returned_row : (place value : ℕ) (row : Row) → IsAffordable place value row → returning place value (spending place value row) ≡ row
returned_row place value row h =
    let e : row.left - value * weight_at row place + value * weight_at row place ≡ row.left = omega arith in
    ap (λ (n : ℕ). record row { left = n }) e

pub returned : (place value : ℕ) (rows : List Row) → All (IsAffordable place value) rows
    → map (returning place value) (map (spending place value) rows) ≡ rows
returned place value [] h = refl
returned place value (row ∷ rows) h =
    let first = returned_row place value row (All-head (IsAffordable place value) row rows h) in
    let others = returned place value rows (All-tail (IsAffordable place value) row rows h) in
    λ i. first i ∷ others i

-- no exponent of a solution is above the greatest degree
pub solution_small : (systems : List Weighted) (b : List ℕ) → AreWellFormed systems → All (λ s. s.degree ≤ MOST_DEGREE) systems
    → Solves systems b
    → (i : ℕ) → i < length b → exponent b i ≤ MOST_DEGREE
solution_small systems b formed small solves i h =
    let used = formed.used i (let e = solves.columns in omega arith) in
    let s = used.system in
    let positive = used.positive in
    let degree : s.degree ≤ MOST_DEGREE = All-contains (λ s. s.degree ≤ MOST_DEGREE) systems s small used.member in
    let all : spent s.weights b ≡ s.degree = All-contains (λ s. spent s.weights b ≡ s.degree) systems s solves.degrees used.member in
    let summed : IsSummed (columns_of systems) s = All-contains (IsSummed (columns_of systems)) systems s formed.summed used.member in
    let part = spent_part s.weights b i (summed.columns ∙ sym solves.columns) h in
    let most : exponent b i ≤ exponent b i * get_or s.weights i 0 = le-mul_of_pos_right _ positive in
    omega arith

-- the same beside rows
pub degrees_small : (rows : List Row) (a : List ℕ) → All (IsRow a) rows → All (λ s. s.degree ≤ MOST_DEGREE) (systems_of rows)
degrees_small rows a each = All-map (λ s. s.degree ≤ MOST_DEGREE) system_of rows (λ k d h. (each k d h).small)

-- what is plausible is affordable
pub plausible_affordable : (place value : ℕ) (row : Row) → IsPlausible place value row → IsAffordable place value row
plausible_affordable place value row p = let is = p.is in omega arith

-- exponents take no more than the degree of a system, which isn't large
record FitsBeside (a : List ℕ) (system : Weighted) : Type 0 where
  columns : length system.weights ≡ length a
  most : spent system.weights a ≤ MOST_DEGREE

fits_beside : (a : List ℕ) (row : Row) → IsRow a row → FitsBeside a (system_of row)
fits_beside a row r = record { columns = r.columns; most = let s = r.spent_is in let m = r.small in omega arith }

beside_part : (a : List ℕ) (system : Weighted) (place : ℕ) → FitsBeside a system → place < length a
    → exponent a place * get_or system.weights place 0 ≤ MOST_DEGREE
beside_part a system place f h = let part = spent_part system.weights a place f.columns h in let m = f.most in omega arith

-- a value is written over 0 in each row
pub put_ready : (rows : List Row) (a : List ℕ) (place value : ℕ) → AreRows rows a → place < length a → exponent a place ≡ 0
    → All (IsAffordable place value) rows
    → AreRows (map (spending place value) rows) (set a place value)
put_ready rows a place value r h zero_there k = record {
  formed = rw (systems_spending place value rows) r.formed;
  columns = rw (systems_spending place value rows) (length-set a place value ∙ r.columns);
  each = All-map (IsRow (set a place value)) (spending place value) rows
      (λ i d l. put_row (get_or rows i d) a place value (r.each i d l) h zero_there (k i d l));
}

-- 0 is written over a value in each row
pub clear_ready : (rows : List Row) (a : List ℕ) (place : ℕ) → AreRows rows a → place < length a
    → AreRows (map (returning place (exponent a place)) rows) (set a place 0)
clear_ready rows a place r h = record {
  formed = rw (systems_returning place (exponent a place) rows) r.formed;
  columns = rw (systems_returning place (exponent a place) rows) (length-set a place 0 ∙ r.columns);
  each = All-map (IsRow (set a place 0)) (returning place (exponent a place)) rows
      (λ i d l. clear_row (get_or rows i d) a place (r.each i d l) h);
}

-- no exponent is above the greatest degree
pub exponent_small : (rows : List Row) (a : List ℕ) (place : ℕ) → AreRows rows a → place < length a → exponent a place ≤ MOST_DEGREE
exponent_small rows a place r h =
    let used = r.formed.used place (let e = r.columns in omega arith) in
    let s = used.system in
    let positive = used.positive in
    let most : exponent a place ≤ exponent a place * get_or s.weights place 0 = le-mul_of_pos_right _ positive in
    let bound : (t : Weighted) → FitsBeside a t → exponent a place * get_or t.weights place 0 ≤ MOST_DEGREE =
    λ t f. beside_part a t place f h in
    let here = bound s (All-contains (FitsBeside a) (systems_of rows) s
    (All-map (FitsBeside a) system_of rows (λ i d l. fits_beside a (get_or rows i d) (r.each i d l))) used.member) in
    omega arith
