-- What the loop of `sweep` keeps.
use Rattle.std.proofs.Common.{◌≡◌, inl, inr, ℕ, ◌+◌, ◌*◌, ◌<◌, ◌≤◌, ◌^◌, List, [], ◌∷◌, ◌++◌, length, map, Some, None, Result, Err, refl, sym, ap, subst, arith}
use Rattle.std.proofs.lemmas.List.{map-append}
use Rattle.std.specs.List.{AllZip}
use Rattle.lattice_core.specs.Stops.{Stops}
use Rattle.lattice_core.specs.Weights.{Weighted, total, weighted}
use Rattle.lattice_core.specs.declared.faults.Fault.{Fault}
use Rattle.lattice_core.specs.declared.faults.Fault.TheVariants as stops
use Rattle.lattice_core.specs.declared.weights.WeightSystem.{WeightSystem}
use Rattle.palp_io.specs.Sink.{SinkState}
use Rattle.palp_print.specs.Lists.{sweep_line}
use Rattle.report_theory.specs.Report.{Whole, Ends}
use Rattle.report_theory.proofs.Givings.{item_nothing, item_closed}
use Rattle.interior_point_theory.specs.Interior.{IsInteriorPointSystem}
use Rattle.interior_point_theory.proofs.Following.{total-append}
use Rattle.weight_enum.specs.Searched.{Searched, GivesSystem}
use Rattle.weight_lists.specs.Entries.{System}
use Rattle.weight_lists.specs.Sweeps.{SystemNumbers, AreNumbers, AreSums, IsSweepRefused, SilentSays, silent, refused, IsSweepLine, SweepSays}
use Rattle.weight_lists.specs.Answers.{IsRange, Reports}
use Rattle.weight_lists.specs.Steps.{LineMeans, IsStopped, HasNumbers}
use Rattle.weight_lists.specs.declared.fault.ListFault.{ListFault}
use Rattle.weight_lists.specs.declared.fault.ListFault.TheVariants as faults
use Rattle.weight_lists.specs.declared.sums.Numbers.{Numbers}
use Rattle.weight_lists.proofs.Reporting.{ListedSoFar, few_listed, listed_nothing, unlisted, listed_front, is_system, next_few, listed_more, listed_stop, listed_whole}
use Rattle.weight_lists.proofs.SystemLines.{zip_push}

-- the numbers of a system are small
abbrev numbers_of : Numbers → SystemNumbers
numbers_of x = record { reflexive = x.reflexive; points = x.points; dual_points = x.dual_points }

record AreSmall (x : SystemNumbers) : Type 0 where
  reflexive : x.reflexive ≤ 1
  points : x.points ≤ 16384
  dual_points : x.dual_points ≤ 16384

small_numbers : (system : Weighted) (x : SystemNumbers) → AreNumbers system x → AreSmall x
small_numbers system x (inl r) =
    let one = ap (λ (y : SystemNumbers). y.reflexive) r.numbers_are in
    let points = ap (λ (y : SystemNumbers). y.points) r.numbers_are in
    let duals = ap (λ (y : SystemNumbers). y.dual_points) r.numbers_are in
    let few = r.has_pair.has_polytope.is_polytope.few_points in
    let few_duals = r.has_pair.is_pair.dual.polytope.few_points in
    record { reflexive = omega (arith, one); points = omega (arith, points, few); dual_points = omega (arith, duals, few_duals) }
small_numbers system x (inr o) =
    let none = ap (λ (y : SystemNumbers). y.reflexive) o.numbers_are in
    let points = ap (λ (y : SystemNumbers). y.points) o.numbers_are in
    let duals = ap (λ (y : SystemNumbers). y.dual_points) o.numbers_are in
    let few = o.is_other.has_polytope.is_polytope.few_points in
    record { reflexive = omega (arith, none); points = omega (arith, points, few); dual_points = omega (arith, duals) }

-- so are their sums
record SumsAreSmall (count : ℕ) (xs : List SystemNumbers) : Type 0 where
  reflexive : total (map (λ (x : SystemNumbers). x.reflexive) xs) ≤ count
  points : total (map (λ (x : SystemNumbers). x.points) xs) ≤ 16384 * count
  dual_points : total (map (λ (x : SystemNumbers). x.dual_points) xs) ≤ 16384 * count

small_sums : (systems : List Weighted) (xs : List SystemNumbers) → AllZip AreNumbers systems xs → SumsAreSmall (length systems) xs
small_sums [] [] h = record { reflexive = omega arith; points = omega arith; dual_points = omega arith }
small_sums [] (x ∷ xs) h = absurd h
small_sums (s ∷ systems) [] h = absurd h
small_sums (s ∷ systems) (x ∷ xs) h =
    let one = small_numbers s x h.0 in
    let rest = small_sums systems xs h.1 in
    let a = one.reflexive in
    let b = one.points in
    let c = one.dual_points in
    let d = rest.reflexive in
    let e = rest.points in
    let f = rest.dual_points in
    record { reflexive = omega (arith, a, d); points = omega (arith, b, e); dual_points = omega (arith, c, f) }

-- a sum with one more
one_more : (f : SystemNumbers → ℕ) (xs : List SystemNumbers) (x : SystemNumbers) (sum : ℕ) → sum ≡ total (map f xs)
    → sum + f x ≡ total (map f (xs ++ x ∷ []))
one_more f xs x sum e = omega (arith, e, ap total (map-append f xs (x ∷ [])), total-append (map f xs) (f x ∷ []))

-- so many systems were given, and these are the sums so far
pub record SweepSoFar (dim low high : ℕ) (search : Searched) (count reflexive points dual_points : ℕ) (first now : SinkState) : Type 0 where
  pub systems : List Weighted
  pub so_far : ListedSoFar SweepSays dim low high search count systems first now
  pub sums : AreSums systems reflexive points dual_points

pub record HaveBounds (count reflexive points dual_points : ℕ) : Type 0 where
  pub count_small : count < 2 ^ 61
  pub reflexive_small : reflexive ≤ count
  pub points_small : points ≤ 16384 * count
  pub dual_points_small : dual_points ≤ 16384 * count

module _ (dim low high : ℕ) (first : SinkState) where
  pub sweep_unlisted : (told : ListFault) → told ≡ faults.NoMemory → IsRange dim low high → Reports SweepSays dim low high first first (Err told)
  sweep_unlisted told e range = subst (λ (t : ListFault). Reports SweepSays dim low high first first (Err t)) (sym e)
      (unlisted SweepSays dim low high first range)

  pub sweep_nothing : (search : Searched) → IsRange dim low high → search ≡ record { dim = dim; low = low; high = high; given = 0 }
      → SweepSoFar dim low high search 0 0 0 0 first first
  sweep_nothing search range e = record {
    systems = [];
    so_far = listed_nothing SweepSays dim low high first search range e;
    sums = record { numbers = []; are_numbers = tt; reflexive_is = refl; points_is = refl; dual_points_is = refl };
  }

  module _ (search : Searched) (count reflexive points dual_points : ℕ) (now : SinkState)
      (s : SweepSoFar dim low high search count reflexive points dual_points first now) where
    pub sweep_bounds : HaveBounds count reflexive points dual_points
    sweep_bounds =
        let small = small_sums s.systems s.sums.numbers s.sums.are_numbers in
        let a = small.reflexive in
        let b = small.points in
        let c = small.dual_points in
        let d = s.sums.reflexive_is in
        let e = s.sums.points_is in
        let f = s.sums.dual_points_is in
        let g = s.so_far.are_first.count_is in
        record {
          count_small = few_listed s.so_far;
          reflexive_small = omega (arith, a, d, g);
          points_small = omega (arith, b, e, g);
          dual_points_small = omega (arith, c, f, g);
        }

    pub sweep_front : (told : ListFault) → told ≡ faults.NoMemory → Reports SweepSays dim low high first now (Err told)
    sweep_front told e = subst (λ (t : ListFault). Reports SweepSays dim low high first now (Err t)) (sym e)
        (listed_front SweepSays dim low high first search count s.systems now s.so_far)

    module _ (after : Searched) (system : WeightSystem) (gives : GivesSystem search after (Some system)) where
      pub sweep_system : IsInteriorPointSystem (weighted system)
      sweep_system = is_system SweepSays dim low high first search count s.systems now s.so_far after system gives

      pub sweep_next_few : count + 1 < 2 ^ 61
      sweep_next_few = next_few SweepSays dim low high first search count s.systems now s.so_far after system gives

      pub sweep_stopped : (fault : Fault) (told : ListFault) → Stops (IsSweepRefused (weighted system)) fault → IsStopped (count + 1) fault told
          → Reports SweepSays dim low high first now (Err told)
      sweep_stopped (stops.Refused cause) told h e = subst (λ (t : ListFault). Reports SweepSays dim low high first now (Err t)) (sym e)
          (listed_stop SweepSays dim low high first search count s.systems now s.so_far after system gives now (count + 1) cause refl
          (item_closed SweepSays now now (System (weighted system)) 0 (item_nothing SweepSays now (System (weighted system))) (Ends cause)
          (refused h)))
      sweep_stopped stops.NoMemory told h e = sweep_front told e

      pub sweep_more : (x : Numbers) → HasNumbers (weighted system) x
          → SweepSoFar dim low high after (count + 1) (reflexive + x.reflexive) (points + x.points) (dual_points + x.dual_points) first now
      sweep_more x h = record {
        systems = s.systems ++ weighted system ∷ [];
        so_far = listed_more SweepSays dim low high first search count s.systems now s.so_far after system gives now
            (item_closed SweepSays now now (System (weighted system)) 0 (item_nothing SweepSays now (System (weighted system))) Whole (silent h));
        sums = record {
          numbers = s.sums.numbers ++ numbers_of x ∷ [];
          are_numbers = zip_push AreNumbers s.systems s.sums.numbers (weighted system) (numbers_of x) s.sums.are_numbers h;
          reflexive_is = one_more (λ (y : SystemNumbers). y.reflexive) s.sums.numbers (numbers_of x) reflexive s.sums.reflexive_is;
          points_is = one_more (λ (y : SystemNumbers). y.points) s.sums.numbers (numbers_of x) points s.sums.points_is;
          dual_points_is = one_more (λ (y : SystemNumbers). y.dual_points) s.sums.numbers (numbers_of x) dual_points s.sums.dual_points_is;
        };
      }

    pub sweep_closed : (after : Searched) → GivesSystem search after None → (last : SinkState) (result : Result (Unit {0}) ListFault)
        → LineMeans (sweep_line count reflexive points dual_points) now last result → Reports SweepSays dim low high first last result
    sweep_closed after gives last result m = listed_whole SilentSays IsSweepLine dim low high first search after count s.systems now last s.so_far
        gives (sweep_line count reflexive points dual_points) (record {
          reflexive = reflexive;
          points = points;
          dual_points = dual_points;
          sums = s.sums;
          bytes_are = ap (λ (n : ℕ). sweep_line n reflexive points dual_points) (sym s.so_far.are_first.count_is);
        }) result m
