-- The systems of a line of numbers, one after another.
use Rattle.std.proofs.Common.{◌≡◌, ℕ, zero, suc, ◌+◌, ◌-◌, ◌<◌, ◌≤◌, Bool, true, false, cond, List, [], ◌∷◌, ◌++◌, map, length, take, drop, get_or, slice_range, Option, Some, None, refl, sym, ap, ◌∙◌, arith, length-drop}
use Rattle.std.specs.Prelude.{◌==◌, nat_le}
use Rattle.std.proofs.lemmas.Bool.Decides.{nat_tests}
use Rattle.std.proofs.lemmas.List.{take_more, drop_more, drop_all, get_or-drop, map_push}
use Rattle.lattice_core.specs.Weights.{Weighted, weighted}
use Rattle.lattice_core.specs.declared.weights.WeightSystem.{WeightSystem}
use Rattle.palp_input.specs.Systems.{Taken, before_taken, take_weights, PlacedSystem, SystemsRead, Summed, WrongSum, before_systems, systems_read, weight_at, weighted_of}
use Rattle.palp_input.specs.SystemSteps.{TakesUpTo, placed_of}
use Rattle.palp_input.specs.declared.lines.LineNumber.{LineNumber}
use Rattle.palp_input.specs.declared.systems.PlacedSystem.{PlacedSystem as KeptSystem}

-- the weight at a place
pub weight_at-within : (place : ℕ) (weights : List LineNumber) (d : LineNumber) → place < length weights
    → (get_or weights place d).value ≡ weight_at place weights
weight_at-within place [] d h = absurd (omega arith)
weight_at-within zero (number ∷ weights) d h = refl
weight_at-within (suc place) (number ∷ weights) d h = weight_at-within place weights d (omega arith)

pub weight_at-past : (place : ℕ) (weights : List LineNumber) → length weights ≤ place → 0 ≡ weight_at place weights
weight_at-past place [] h = refl
weight_at-past zero (number ∷ weights) h = absurd (omega arith)
weight_at-past (suc place) (number ∷ weights) h = weight_at-past place weights (omega arith)

-- one system more without its places
pub placed_more : (items now : List WeightSystem) (systems : List KeptSystem) (i : ℕ) (d : KeptSystem) (item : WeightSystem)
    → map weighted items ≡ map weighted_of (map placed_of (take i systems)) → i < length systems
    → now ≡ items ++ item ∷ [] → weighted item ≡ weighted_of (placed_of (get_or systems i d))
    → map weighted now ≡ map weighted_of (map placed_of (take (i + 1) systems))
placed_more items now systems i d item h lt n e =
    ap (map weighted) n ∙ map_push weighted items item
    ∙ ap (λ (ws : List Weighted). ws ++ weighted item ∷ []) h
    ∙ ap (λ (w : Weighted). map weighted_of (map placed_of (take i systems)) ++ w ∷ []) e
    ∙ sym (map_push weighted_of (map placed_of (take i systems)) (placed_of (get_or systems i d)))
    ∙ ap (map weighted_of) (sym (map_push placed_of (take i systems) (get_or systems i d)))
    ∙ ap (λ (ss : List KeptSystem). map weighted_of (map placed_of ss)) (sym (take_more systems i d lt))

-- weights in front of those that are taken behind them
abbrev pub taken_behind : List LineNumber → Option Taken → Option Taken
taken_behind [] rest = rest
taken_behind (number ∷ numbers) rest = before_taken number (taken_behind numbers rest)

taken_behind-push : (numbers : List LineNumber) (number : LineNumber) (rest : Option Taken)
    → taken_behind (numbers ++ number ∷ []) rest ≡ taken_behind numbers (before_taken number rest)
taken_behind-push [] number rest = refl
taken_behind-push (first ∷ numbers) number rest = ap (before_taken first) (taken_behind-push numbers number rest)

taken_behind-end : (numbers rest : List LineNumber)
    → taken_behind numbers (Some (record { weights = []; rest = rest })) ≡ Some (record { weights = numbers; rest = rest })
taken_behind-end [] rest = refl
taken_behind-end (first ∷ numbers) rest = ap (before_taken first) (taken_behind-end numbers rest)

taken_behind-none : (numbers : List LineNumber) → taken_behind numbers None ≡ None
taken_behind-none [] = refl
taken_behind-none (first ∷ numbers) = ap (before_taken first) (taken_behind-none numbers)

-- the numbers of a range, with one more
range_more : (numbers : List LineNumber) (from place : ℕ) (d : LineNumber) → from ≤ place → place < length numbers
    → slice_range numbers from (place + 1) ≡ slice_range numbers from place ++ get_or numbers place d ∷ []
range_more numbers from place d le lt =
    let one : place + 1 - from ≡ (place - from) + 1 = omega arith in
    let back : from + (place - from) ≡ place = omega arith in
    let within : place - from < length (drop from numbers) = simp length-drop (omega arith) in
    ap (λ (n : ℕ). take n (drop from numbers)) one
    ∙ take_more (drop from numbers) (place - from) d within
    ∙ ap (λ (x : LineNumber). slice_range numbers from place ++ x ∷ [])
    (get_or-drop from numbers (place - from) d ∙ ap (λ (n : ℕ). get_or numbers n d) back)

-- a weight that is taken, and a number that isn't
take_step : (left : ℕ) (number : LineNumber) (numbers : List LineNumber) → number.value ≤ left
    → take_weights left (number ∷ numbers) ≡ before_taken number (take_weights (left - number.value) numbers)
take_step left number numbers h =
    let test : nat_le number.value left ≡ true = grind (arith, nat_tests) in
    ap (λ (b : Bool). cond b (before_taken number (take_weights (left - number.value) numbers))
    (cond (left == 0) (Some (record { weights = []; rest = number ∷ numbers })) None)) test

take_stop : (left : ℕ) (number : LineNumber) (numbers : List LineNumber) → left < number.value
    → take_weights left (number ∷ numbers) ≡ cond (left == 0) (Some (record { weights = []; rest = number ∷ numbers })) None
take_stop left number numbers h =
    let test : nat_le number.value left ≡ false = grind (arith, nat_tests) in
    ap (λ (b : Bool). cond b (before_taken number (take_weights (left - number.value) numbers))
    (cond (left == 0) (Some (record { weights = []; rest = number ∷ numbers })) None)) test

module _ (numbers : List LineNumber) (from degree left place : ℕ) (d : LineNumber)
    (so_far : take_weights degree (drop from numbers) ≡ taken_behind (slice_range numbers from place)
    (take_weights left (drop place numbers))) where
  -- one weight more
  pub weight_more : from ≤ place → place < length numbers → (get_or numbers place d).value ≤ left
      → take_weights degree (drop from numbers)
      ≡ taken_behind (slice_range numbers from (place + 1))
      (take_weights (left - (get_or numbers place d).value) (drop (place + 1) numbers))
  weight_more le lt h =
      so_far ∙ ap (λ (ns : List LineNumber). taken_behind (slice_range numbers from place) (take_weights left ns))
      (drop_more numbers place d lt)
      ∙ ap (taken_behind (slice_range numbers from place)) (take_step left (get_or numbers place d) (drop (place + 1) numbers) h)
      ∙ sym (taken_behind-push (slice_range numbers from place) (get_or numbers place d)
      (take_weights (left - (get_or numbers place d).value) (drop (place + 1) numbers)))
      ∙ ap (λ (ns : List LineNumber). taken_behind ns (take_weights (left - (get_or numbers place d).value) (drop (place + 1) numbers)))
      (sym (range_more numbers from place d le lt))

  -- the sum is reached before a number that isn't taken, or it is exceeded
  pub weights_stop : from ≤ place → place < length numbers → left < (get_or numbers place d).value → left ≡ 0
      → TakesUpTo numbers from degree place
  weights_stop le lt h none = record {
    least = le;
    most = omega arith;
    taken = so_far ∙ ap (λ (ns : List LineNumber). taken_behind (slice_range numbers from place) (take_weights left ns))
        (drop_more numbers place d lt)
        ∙ ap (taken_behind (slice_range numbers from place)) (take_stop left (get_or numbers place d) (drop (place + 1) numbers) h)
        ∙ ap (λ (b : Bool). taken_behind (slice_range numbers from place)
        (cond b (Some (record { weights = []; rest = get_or numbers place d ∷ drop (place + 1) numbers })) None)) zero_left
        ∙ taken_behind-end (slice_range numbers from place) (get_or numbers place d ∷ drop (place + 1) numbers)
        ∙ ap (λ (ns : List LineNumber). Some (record { weights = slice_range numbers from place; rest = ns }))
        (sym (drop_more numbers place d lt));
  }
    where
      zero_left : (left == 0) ≡ true
      zero_left = grind (arith, nat_tests)

  pub weights_exceed : place < length numbers → left < (get_or numbers place d).value → 0 < left
      → take_weights degree (drop from numbers) ≡ None
  weights_exceed lt h some =
      so_far ∙ ap (λ (ns : List LineNumber). taken_behind (slice_range numbers from place) (take_weights left ns))
      (drop_more numbers place d lt)
      ∙ ap (taken_behind (slice_range numbers from place)) (take_stop left (get_or numbers place d) (drop (place + 1) numbers) h)
      ∙ ap (λ (b : Bool). taken_behind (slice_range numbers from place)
      (cond b (Some (record { weights = []; rest = get_or numbers place d ∷ drop (place + 1) numbers })) None)) some_left
      ∙ taken_behind-none (slice_range numbers from place)
    where
      some_left : (left == 0) ≡ false
      some_left = grind (arith, nat_tests)

  -- the numbers end where the sum is reached, or before it
  pub weights_all : from ≤ place → place ≡ length numbers → left ≡ 0 → TakesUpTo numbers from degree place
  weights_all le all none = record {
    least = le;
    most = omega arith;
    taken = so_far ∙ ap (λ (ns : List LineNumber). taken_behind (slice_range numbers from place) (take_weights left ns)) nothing
        ∙ ap (λ (b : Bool). taken_behind (slice_range numbers from place) (cond b (Some (record { weights = []; rest = [] })) None))
        zero_left
        ∙ taken_behind-end (slice_range numbers from place) []
        ∙ ap (λ (ns : List LineNumber). Some (record { weights = slice_range numbers from place; rest = ns })) (sym nothing);
  }
    where
      zero_left : (left == 0) ≡ true
      zero_left = grind (arith, nat_tests)

      nothing : drop place numbers ≡ []
      nothing = drop_all place numbers (omega arith)

  pub weights_short : place ≡ length numbers → 0 < left → take_weights degree (drop from numbers) ≡ None
  weights_short all some =
      so_far ∙ ap (λ (ns : List LineNumber). taken_behind (slice_range numbers from place) (take_weights left ns))
      (drop_all place numbers (omega arith))
      ∙ ap (λ (b : Bool). taken_behind (slice_range numbers from place) (cond b (Some (record { weights = []; rest = [] })) None)) some_left
      ∙ taken_behind-none (slice_range numbers from place)
    where
      some_left : (left == 0) ≡ false
      some_left = grind (arith, nat_tests)

-- systems in front of those behind them
abbrev pub systems_behind : List PlacedSystem → SystemsRead → SystemsRead
systems_behind [] rest = rest
systems_behind (system ∷ systems) rest = before_systems system (systems_behind systems rest)

systems_behind-push : (systems : List PlacedSystem) (system : PlacedSystem) (rest : SystemsRead)
    → systems_behind (systems ++ system ∷ []) rest ≡ systems_behind systems (before_systems system rest)
systems_behind-push [] system rest = refl
systems_behind-push (first ∷ systems) system rest = ap (before_systems first) (systems_behind-push systems system rest)

systems_behind-end : (systems : List PlacedSystem) → systems_behind systems (Summed []) ≡ Summed systems
systems_behind-end [] = refl
systems_behind-end (first ∷ systems) = ap (before_systems first) (systems_behind-end systems)

systems_behind-wrong : (systems : List PlacedSystem) (at : ℕ) → systems_behind systems (WrongSum at) ≡ WrongSum at
systems_behind-wrong [] at = refl
systems_behind-wrong (first ∷ systems) at = ap (before_systems first) (systems_behind-wrong systems at)

-- the systems up to a place, with room for as many as there are numbers behind it
pub record SystemsSoFar (numbers : List LineNumber) (place : ℕ) (systems : List KeptSystem) : Type 0 where
  pub within : place ≤ length numbers
  pub most : ℕ
  pub enough : length (drop place numbers) ≤ most
  pub so_far : systems_read (length numbers) numbers ≡ systems_behind (map placed_of systems) (systems_read most (drop place numbers))

pub systems_begin : (numbers : List LineNumber) → SystemsSoFar numbers 0 []
systems_begin numbers = record { within = omega arith; most = length numbers; enough = omega arith; so_far = refl }

-- a system's degree with what is taken behind it
read_step : (most : ℕ) (degree : LineNumber) (numbers : List LineNumber) (taken : Option Taken) → take_weights degree.value numbers ≡ taken
    → systems_read (suc most) (degree ∷ numbers) ≡ elim taken as (λ _. SystemsRead) [
      | None ↦ WrongSum degree.at
      | Some t ↦ before_systems (record { degree = degree; weights = t.weights }) (systems_read most t.rest)
    ]
read_step most degree numbers taken e =
    ap (λ (o : Option Taken). elim o as (λ _. SystemsRead) [
      | None ↦ WrongSum degree.at
      | Some t ↦ before_systems (record { degree = degree; weights = t.weights }) (systems_read most t.rest)
    ]) e

module _ (numbers : List LineNumber) (place : ℕ) (systems : List KeptSystem) (d : LineNumber) (s : SystemsSoFar numbers place systems)
    (lt : place < length numbers) where
  most_is : s.most ≡ suc (s.most - 1)
  most_is = let e = simp length-drop at s.enough in omega arith

  so_far : systems_read (length numbers) numbers
      ≡ systems_behind (map placed_of systems) (systems_read (suc (s.most - 1)) (get_or numbers place d ∷ drop (place + 1) numbers))
  so_far = s.so_far ∙ ap (λ (n : ℕ). systems_behind (map placed_of systems) (systems_read n (drop place numbers))) most_is
      ∙ ap (λ (ns : List LineNumber). systems_behind (map placed_of systems) (systems_read (suc (s.most - 1)) ns))
      (drop_more numbers place d lt)

  -- a degree whose weights don't sum to it
  pub systems_wrong : take_weights (get_or numbers place d).value (drop (place + 1) numbers) ≡ None
      → WrongSum (get_or numbers place d).at ≡ systems_read (length numbers) numbers
  systems_wrong none = sym (so_far
      ∙ ap (systems_behind (map placed_of systems)) (read_step (s.most - 1) (get_or numbers place d) (drop (place + 1) numbers) None none)
      ∙ systems_behind-wrong (map placed_of systems) (get_or numbers place d).at)

  -- one system more
  pub systems_more : (end : ℕ) (system : KeptSystem) (now : List KeptSystem)
      → TakesUpTo numbers (place + 1) (get_or numbers place d).value end
      → placed_of system ≡ record { degree = get_or numbers place d; weights = slice_range numbers (place + 1) end }
      → now ≡ systems ++ system ∷ [] → SystemsSoFar numbers end now
  systems_more end system now takes is n = record {
    within = takes.most;
    most = s.most - 1;
    enough = let e = simp length-drop at s.enough in let l = takes.least in simp length-drop (omega arith);
    so_far = so_far
        ∙ ap (systems_behind (map placed_of systems))
        (read_step (s.most - 1) (get_or numbers place d) (drop (place + 1) numbers) _ takes.taken
        ∙ ap (λ (p : PlacedSystem). before_systems p (systems_read (s.most - 1) (drop end numbers))) (sym is))
        ∙ sym (systems_behind-push (map placed_of systems) (placed_of system) (systems_read (s.most - 1) (drop end numbers)))
        ∙ ap (λ (ps : List PlacedSystem). systems_behind ps (systems_read (s.most - 1) (drop end numbers)))
        (sym (map_push placed_of systems system) ∙ ap (map placed_of) (sym n));
  }

-- all numbers are read
pub systems_end : (numbers : List LineNumber) (place : ℕ) (systems : List KeptSystem) → SystemsSoFar numbers place systems
    → length numbers ≤ place
    → Summed (map placed_of systems) ≡ systems_read (length numbers) numbers
systems_end numbers place systems s all = sym (s.so_far
    ∙ ap (λ (ns : List LineNumber). systems_behind (map placed_of systems) (systems_read s.most ns)) (drop_all place numbers all)
    ∙ ap (systems_behind (map placed_of systems)) (no_numbers s.most) ∙ systems_behind-end (map placed_of systems))
  where
    no_numbers : (most : ℕ) → systems_read most [] ≡ Summed []
    no_numbers most = refl
