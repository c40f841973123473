-- The systems of a weight line have exactly its numbers.
use Rattle.std.proofs.Common.{◌≡◌, ℕ, zero, suc, ◌-◌, ◌≤◌, Bool, true, false, cond, List, [], ◌∷◌, ◌++◌, map, length, Option, Some, None, refl, sym, ap, subst, ◌∙◌, arith, length-append}
use Rattle.std.specs.Prelude.{◌==◌, nat_le}
use Rattle.std.proofs.lemmas.List.{map-append}
use Rattle.palp_input.specs.Lines.{fault_at}
use Rattle.palp_input.specs.Systems.{Taken, before_taken, take_weights, PlacedSystem, SystemsRead, Summed, WrongSum, before_systems, systems_read, other_length, zero_column, weighted_of}
use Rattle.palp_input.specs.Grammar.{ListedWeights, ListedPoints, Next, Nothing, Given, Faulty, systems_item}
use Rattle.palp_input.specs.Systems.{numbers_of, numbers_in}
use Rattle.palp_input.specs.Laws.{SystemsKeepNumbers, ItemsKeepNumbers}
use Rattle.palp_input.specs.declared.lines.LineNumber.{LineNumber}
use Rattle.palp_input.specs.declared.fault.TextKind.TheVariants.{Lengths, ZeroColumn}

-- the weights that are taken and the numbers behind them are all numbers
abbrev KeepsTaken : List LineNumber → Option Taken → Type 0
KeepsTaken numbers None = Unit {0}
KeepsTaken numbers (Some taken) = taken.weights ++ taken.rest ≡ numbers

keeps_before : (number : LineNumber) (numbers : List LineNumber) (taken : Option Taken) → KeepsTaken numbers taken
    → KeepsTaken (number ∷ numbers) (before_taken number taken)
keeps_before number numbers None h = tt
keeps_before number numbers (Some taken) h = ap (λ (ns : List LineNumber). number ∷ ns) h

keeps_case : (number : LineNumber) (numbers : List LineNumber) (taken : Option Taken) (a b : Bool) → KeepsTaken numbers taken
    → KeepsTaken (number ∷ numbers)
    (cond a (before_taken number taken) (cond b (Some (record { weights = []; rest = number ∷ numbers })) None))
keeps_case number numbers taken true b h = keeps_before number numbers taken h
keeps_case number numbers taken false true h = refl
keeps_case number numbers taken false false h = tt

keeps_taken : (degree : ℕ) (numbers : List LineNumber) → KeepsTaken numbers (take_weights degree numbers)
keeps_taken degree [] =
    elim (degree == 0) as (λ b. KeepsTaken [] (cond b (Some (record { weights = []; rest = [] })) None)) [ true ↦ refl | false ↦ tt ]
keeps_taken degree (number ∷ numbers) =
    keeps_case number numbers (take_weights (degree - number.value) numbers) (nat_le number.value degree) (degree == 0)
    (keeps_taken (degree - number.value) numbers)

-- systems that are written with all numbers
abbrev KeepsRead : List LineNumber → SystemsRead → Type 0
KeepsRead numbers (WrongSum at) = Unit {0}
KeepsRead numbers (Summed systems) = numbers_of systems ≡ numbers

read_before : (degree : LineNumber) (weights rest numbers : List LineNumber) (read : SystemsRead) → weights ++ rest ≡ numbers
    → KeepsRead rest read
    → KeepsRead (degree ∷ numbers) (before_systems (record { degree = degree; weights = weights }) read)
read_before degree weights rest numbers (WrongSum at) e h = tt
read_before degree weights rest numbers (Summed systems) e h =
    ap (λ (ns : List LineNumber). degree ∷ ns) (ap (λ (ns : List LineNumber). weights ++ ns) h ∙ e)

fewer : (weights rest numbers : List LineNumber) → weights ++ rest ≡ numbers → length rest ≤ length numbers
fewer weights rest numbers e = subst (λ (ns : List LineNumber). length rest ≤ length ns) e (omega (arith, length-append weights rest))

read_case : (degree : LineNumber) (numbers : List LineNumber) (taken : Option Taken) (read : List LineNumber → SystemsRead)
    → KeepsTaken numbers taken
    → ((rest : List LineNumber) → length rest ≤ length numbers → KeepsRead rest (read rest))
    → KeepsRead (degree ∷ numbers) (elim taken as (λ _. SystemsRead) [
      | None ↦ WrongSum degree.at
      | Some t ↦ before_systems (record { degree = degree; weights = t.weights }) (read t.rest)
    ])
read_case degree numbers None read h again = tt
read_case degree numbers (Some taken) read h again =
    read_before degree taken.weights taken.rest numbers (read taken.rest) h (again taken.rest (fewer taken.weights taken.rest numbers h))

keeps_read : (most : ℕ) (numbers : List LineNumber) → length numbers ≤ most → KeepsRead numbers (systems_read most numbers)
keeps_read most [] le = refl
keeps_read zero (degree ∷ numbers) le = absurd (omega (arith, le))
keeps_read (suc most) (degree ∷ numbers) le =
    read_case degree numbers (take_weights degree.value numbers) (systems_read most) (keeps_taken degree.value numbers)
    (λ rest short. keeps_read most rest (omega (arith, short, le)))

all_numbers : (numbers : List LineNumber) → KeepsRead numbers (systems_read (length numbers) numbers)
all_numbers numbers = keeps_read (length numbers) numbers (omega arith)

pub systems_keep : SystemsKeepNumbers
systems_keep numbers systems e = subst (λ (read : SystemsRead). KeepsRead numbers read) e (all_numbers numbers)

-- the same without places
abbrev values : List LineNumber → List ℕ
values numbers = map (λ (n : LineNumber). n.value) numbers

numbers_values : (systems : List PlacedSystem) → numbers_in (map weighted_of systems) ≡ values (numbers_of systems)
numbers_values [] = refl
numbers_values (system ∷ systems) =
    ap (λ (ns : List ℕ). system.degree.value ∷ ns)
    (ap (λ (ns : List ℕ). values system.weights ++ ns) (numbers_values systems)
    ∙ sym (map-append (λ (n : LineNumber). n.value) system.weights (numbers_of systems)))

abbrev KeepsNext : List ℕ → Next → Type 0
KeepsNext numbers Nothing = Unit {0}
KeepsNext numbers (Given (ListedWeights systems) end) = numbers_in systems ≡ numbers
KeepsNext numbers (Given (ListedPoints lines columns entries) end) = Unit {0}
KeepsNext numbers (Faulty fault) = Unit {0}

keeps_summed : (numbers : List ℕ) (systems : List PlacedSystem) (end : ℕ) (other column : Option ℕ)
    → numbers_in (map weighted_of systems) ≡ numbers
    → KeepsNext numbers (elim other as (λ _. Next) [
      | Some at ↦ Faulty (fault_at Lengths at end)
      | None ↦ elim column as (λ _. Next) [
        | Some at ↦ Faulty (fault_at ZeroColumn at end)
        | None ↦ Given (ListedWeights (map weighted_of systems)) end
      ]
    ])
keeps_summed numbers systems end (Some at) column h = tt
keeps_summed numbers systems end None (Some at) h = tt
keeps_summed numbers systems end None None h = h

keeps_item : (numbers : List LineNumber) (read : SystemsRead) (end : ℕ) → KeepsRead numbers read
    → KeepsNext (values numbers) (systems_item read end)
keeps_item numbers (WrongSum at) end h = tt
keeps_item numbers (Summed []) end h = tt
keeps_item numbers (Summed (first ∷ systems)) end h =
    keeps_summed (values numbers) (first ∷ systems) end (other_length (length first.weights) systems)
    (zero_column 0 first.weights (first ∷ systems))
    (numbers_values (first ∷ systems) ∙ ap values h)

pub items_keep : ItemsKeepNumbers
items_keep end place numbers systems e =
    subst (λ (next : Next). KeepsNext (values numbers) next) e
    (keeps_item numbers (systems_read (length numbers) numbers) end (all_numbers numbers))
