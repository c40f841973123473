-- Counts of no points, and the most points.
use Rattle.std.proofs.Common.{◌≡◌, ℕ, ◌*◌, ◌+◌, ◌<◌, ◌≤◌, List, [], length, replicate, subst, arith}
use Rattle.std.specs.Prelude.{min, ℤ}
use Rattle.std.proofs.lemmas.List.{get_or-replicate}
use Rattle.lattice_theory.specs.Order.{LexLess}
use Rattle.lattice_theory.specs.Points.{IsDilatePoint}
use Rattle.lattice_theory.proofs.Unique.{lists_unique}
use Rattle.lattice_theory.proofs.Orders.{lex_asymmetric}
use Rattle.lattice_core.specs.Dimensions.{dimension_of}
use Rattle.point_scan.specs.Dilates.{CountsDilatePoints}
use Rattle.cayley_theory.specs.Bases.{Number, none as no_members, counted, passed}
use Rattle.base_counts.specs.Counting.{set_at, count_at}
use Rattle.dilate_counts.specs.Classes.{Gathered, none as no_classes}
use Rattle.dilate_counts.specs.Counters.{CounterState, HasCounted}
use Rattle.dilate_counts.specs.DilateCounts.{HasFewPoints}

-- without classes, counts that are all 0 are those of no points
pub none_at_first : (state : CounterState) (many : ℕ) → state.classes ≡ [] → state.counts ≡ replicate (many * 7) 0 → many ≡ length state.rows
    → HasCounted state []
none_at_first state many empty zeros rows k l h m = (0, record { sum = 0; gathered = gathered; total = total }, no_members)
  where
    within : k * 7 + l < many * 7
    within = omega (arith, h, m, rows)

    zero_there : count_at state.counts k l ≡ 0
    zero_there = rw zeros (get_or-replicate (many * 7) (k * 7 + l) 0 0 within)

    total : 0 ≡ count_at state.counts k l + 0
    total = omega (arith, zero_there)

    gathered : Gathered (set_at state.rows k) state.classes state.seen l (length state.classes) 0
    gathered = rw empty no_classes

-- no more members have a property than there are
pub few_members : {X : Type 0} {P : X → Type 0} {xs : List X} {k : ℕ} → Number P xs k → k ≤ length xs
few_members no_members = omega arith
few_members (counted p n) = let few = few_members n in omega (arith, few)
few_members (passed p n) = let few = few_members n in omega (arith, few)

-- a count of the points up to a limit, which isn't exceeded, tells that they are few
pub few_counted : (vertices : List (List ℤ)) (dilate limit number : ℕ) → CountsDilatePoints (dimension_of vertices) vertices dilate limit number
    → number ≤ limit → limit ≤ 4194304 → HasFewPoints vertices dilate
few_counted vertices dilate limit number c small most points are =
    subst (λ (xs : List (List ℤ)). length xs ≤ 4194304) (lists_unique LexLess lex_asymmetric (IsDilatePoint (dimension_of vertices) vertices dilate)
    c.lattice points c.are_dilate_points are) (at_most (length c.lattice) limit number c.counted_is small most)
  where
    at_most : (k limit number : ℕ) → number ≡ min k (limit + 1) → number ≤ limit → limit ≤ 4194304 → k ≤ 4194304
    at_most k limit number e s m = omega (arith, e, s, m)
