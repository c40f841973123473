use Rattle.std.proofs.Common.{◌≡◌, ℕ, suc, ◌+◌, ◌<◌, ◌≤◌, [], length, map, drop, get_or}
use Rattle.weight_points.specs.steps.Waits.{IsReach, AreWaits}
use Rattle.weight_points.proofs.waits.waits_of.Given as goal

abbrev pub invariant-loop-i : goal.invariant-loop-i
invariant-loop-i l = record {
  columns : length (map (λ waits. waits.items) l.tables.items) + l.i ≡ length l.weights + 1;
  rows : (k : ℕ) → k < length (map (λ waits. waits.items) l.tables.items)
      → length (get_or (map (λ waits. waits.items) l.tables.items) k []) ≡ l.degree + 1;
  each : (k p : ℕ) → k + p ≡ length l.weights → l.i ≤ p → p < length l.weights
      → AreWaits (get_or l.weights p 0) (drop (suc p) l.weights) (get_or (map (λ waits. waits.items) l.tables.items) k []);
  last : (k : ℕ) → k + l.i ≡ length l.weights → IsReach (drop l.i l.weights) (get_or (map (λ waits. waits.items) l.tables.items) k []);
}
