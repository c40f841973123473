-- The steps of the search for the first completion of a beginning.
use Rattle.std.specs.List.{All}
use Rattle.std.specs.Prelude.{true, pos}
use Rattle.std.proofs.Common.{◌≡◌, ◌≢◌, ◌⊎◌, inl, inr, ℕ, ◌+◌, ◌<◌, ◌≤◌, List, length, map, get_or, refl, sym, ap, ◌∙◌, arith}
use Rattle.std.proofs.Math.ListN.{set, length-set}
use Rattle.std.proofs.lemmas.Bool.{cases_lt}
use Rattle.std.proofs.lemmas.List.{get_or-set_same, get_or-set_other, set-set, set-get_or}
use Rattle.std.proofs.lemmas.List.Elements.{All-map}
use Rattle.lattice_core.specs.declared.limits.TheConstants.{MOST_DEGREE}
use Rattle.weight_points.specs.declared.rows.Row.{Row}
use Rattle.weight_points.specs.steps.Rows.{system_of, systems_of, IsAffordable, IsPlausible, spending, returning, AreRows}
use Rattle.weight_points.specs.steps.Waits.{spent}
use Rattle.weight_points.specs.steps.Search.{exponent, IsZeroFrom, IsCompletion, Completes}
use Rattle.lattice_theory.specs.Order.{LexLess}
use Rattle.lattice_theory.specs.Grid.{AgreesTo, LexAtMost}
use Rattle.weight_points.proofs.Weighing.{all_unmap, plausible_row, solved_row, solution_small, degrees_small, returned}
use Rattle.weight_points.proofs.Integral.{comes_before, same_integral, same_exponent, agree_from}

module _ (rows : List Row) (a : List ℕ) (place from : ℕ) (ready : AreRows rows a) (within : place < length a)
    (zeros : IsZeroFrom place a) where
  -- each completion has a plausible exponent at the place
  pub plausible_completion : (b : List ℕ) → IsCompletion (systems_of rows) place from a b → All (IsPlausible place (exponent b place)) rows
  plausible_completion b c =
      let degrees = all_unmap (λ s. spent s.weights b ≡ s.degree) system_of rows c.solves.degrees in
      λ k d h. plausible_row (get_or rows k d) a b place (ready.each k d h) (c.solves.columns ∙ sym ready.columns) within
      (λ i l. same_exponent a b place i c.agrees l) zeros (degrees k d h)

  -- and no large one
  pub completion_small : (b : List ℕ) → IsCompletion (systems_of rows) place from a b → exponent b place ≤ MOST_DEGREE
  completion_small b c = solution_small (systems_of rows) b ready.formed (degrees_small rows a ready.each) c.solves place
      (let e = c.solves.columns in let f = ready.columns in omega arith)

  -- entries with a value at the place
  value_there : (value : ℕ) → exponent (set a place value) place ≡ value
  value_there value = get_or-set_same a place value 0 within

  value_other : (value i : ℕ) → i ≢ place → exponent (set a place value) i ≡ exponent a i
  value_other value i h = get_or-set_other a place i value 0 h

  pub zeros_behind : (value : ℕ) → IsZeroFrom (place + 1) (set a place value)
  zeros_behind value i h = value_other value i (omega (arith, h)) ∙ zeros i (omega (arith, h))

  -- a completion of the longer beginning is one of the beginning
  agrees_front : (value : ℕ) (b : List ℕ) → AgreesTo (place + 1) (map pos (set a place value)) (map pos b)
      → AgreesTo place (map pos a) (map pos b)
  agrees_front value b h = agree_from a b place
      (λ i k. same_exponent (set a place value) b (place + 1) i h (omega (arith, k)) ∙ value_other value i (omega (arith, k)))

  agrees_there : (value : ℕ) (b : List ℕ) → AgreesTo (place + 1) (map pos (set a place value)) (map pos b) → exponent b place ≡ value
  agrees_there value b h = same_exponent (set a place value) b (place + 1) place h (omega arith) ∙ value_there value

  agrees_longer : (value : ℕ) (b : List ℕ) → AgreesTo place (map pos a) (map pos b) → exponent b place ≡ value
      → AgreesTo (place + 1) (map pos (set a place value)) (map pos b)
  agrees_longer value b h e = agree_from (set a place value) b (place + 1) (λ i k. by i k (cases_lt i place))
    where
      by : (i : ℕ) → i < place + 1 → (i < place) ⊎ (place ≤ i) → exponent b i ≡ exponent (set a place value) i
      by i k (inl l) = same_exponent a b place i h l ∙ sym (value_other value i (omega (arith, l)))
      by i k (inr l) = let same : i ≡ place = omega (arith, k) in rw same (e ∙ sym (value_there value))

  -- what has more at the place comes after all that have the value there
  above_after : (value : ℕ) (new b : List ℕ) → length new ≡ length a → AgreesTo (place + 1) (map pos (set a place value)) (map pos new)
      → IsCompletion (systems_of rows) place from a b → value < exponent b place → LexLess (map pos new) (map pos b)
  above_after value new b e h c more =
      comes_before new b place (e ∙ ready.columns ∙ sym c.solves.columns)
      (record {
        within = omega arith;
        agrees = λ i k. c.agrees i k ∙ sym (agrees_front value new h i k);
        less = let there = agrees_there value new h in omega arith;
      })

  -- the value at the place is the one, or there is more
  at_or_above : (value n : ℕ) → value ≤ n → (n ≡ value) ⊎ (value < n)
  at_or_above value n h = grind arith

  -- a plausible value at the last place ends the search
  pub found_last : (value : ℕ) → place + 1 ≡ length a → from ≤ value → All (IsPlausible place value) rows
      → ((b : List ℕ) → IsCompletion (systems_of rows) place from a b → value ≤ exponent b place)
      → Completes (systems_of rows) place from a (set a place value) true
  found_last value last least plausible passed = (
    record {
      solves = record {
        columns = length-set a place value ∙ ready.columns;
        degrees = All-map (λ s. spent s.weights (set a place value) ≡ s.degree) system_of rows
            (λ k d h. solved_row (get_or rows k d) a place value (ready.each k d h) last (zeros place (omega arith)) (plausible k d h));
      };
      agrees = agrees_front value (set a place value) (λ i k. refl);
      above = rw (value_there value) least;
    },
    λ b c. by b c (at_or_above value (exponent b place) (passed b c)),
  )
    where
      by : (b : List ℕ) → IsCompletion (systems_of rows) place from a b → (exponent b place ≡ value) ⊎ (value < exponent b place)
          → LexAtMost (map pos (set a place value)) (map pos b)
      by b c (inl e) =
          let l = length-set a place value in
          inr (same_integral (set a place value) b (l ∙ ready.columns ∙ sym c.solves.columns)
          (λ i k. agrees_longer value b c.agrees e i (omega arith)))
      by b c (inr more) = inl (above_after value (set a place value) b (length-set a place value) (λ i k. refl) c more)

  -- so does a completion of the longer beginning
  pub found_deeper : (value : ℕ) (new : List ℕ) → from ≤ value → Completes (systems_of rows) (place + 1) 0 (set a place value) new true
      → ((b : List ℕ) → IsCompletion (systems_of rows) place from a b → value ≤ exponent b place)
      → Completes (systems_of rows) place from a new true
  found_deeper value new least deeper passed = (
    record {
      solves = deeper.0.solves;
      agrees = agrees_front value new deeper.0.agrees;
      above = rw (agrees_there value new deeper.0.agrees) least;
    },
    λ b c. by b c (at_or_above value (exponent b place) (passed b c)),
  )
    where
      by : (b : List ℕ) → IsCompletion (systems_of rows) place from a b → (exponent b place ≡ value) ⊎ (value < exponent b place)
          → LexAtMost (map pos new) (map pos b)
      by b c (inl e) = deeper.1 b (record { solves = c.solves; agrees = agrees_longer value b c.agrees e; above = omega arith })
      by b c (inr more) = inl (above_after value new b (deeper.0.solves.columns ∙ sym ready.columns) deeper.0.agrees c more)

  -- where there is none, the value is passed
  pub passed_deeper : (value : ℕ) → ((b : List ℕ) → IsCompletion (systems_of rows) (place + 1) 0 (set a place value) b → ⊥)
      → ((b : List ℕ) → IsCompletion (systems_of rows) place from a b → value ≤ exponent b place)
      → (b : List ℕ) → IsCompletion (systems_of rows) place from a b → value + 1 ≤ exponent b place
  passed_deeper value none passed b c = by (at_or_above value (exponent b place) (passed b c))
    where
      by : (exponent b place ≡ value) ⊎ (value < exponent b place) → value + 1 ≤ exponent b place
      by (inl e) = absurd (none b (record { solves = c.solves; agrees = agrees_longer value b c.agrees e; above = omega arith }))
      by (inr more) = omega arith

-- what a value that led to nothing leaves behind is what there was
module _ (rows : List Row) (a : List ℕ) (place value : ℕ) (within : place < length a) (zero_there : exponent a place ≡ 0)
    (affordable : All (IsAffordable place value) rows) where
  pub rows_restored : (put_rows rows' : List Row) (a' : List ℕ) (taken : ℕ) → put_rows ≡ map (spending place value) rows
      → a' ≡ set a place value → taken ≡ exponent a' place
      → rows' ≡ map (returning place taken) put_rows → rows' ≡ rows
  rows_restored put_rows rows' a' taken e f g h =
      let same : taken ≡ value = g ∙ ap (λ (x : List ℕ). exponent x place) f ∙ get_or-set_same a place value 0 within in
      h ∙ (rw (same, e) (returned place value rows affordable))

  pub entries_restored : (a' b : List ℕ) → a' ≡ set a place value → b ≡ set a' place 0 → b ≡ a
  entries_restored a' b f h =
      let z : set a place 0 ≡ a = let g = set-get_or a place 0 in rw zero_there at g in
      h ∙ rw f (set-set a place value 0 ∙ z)
