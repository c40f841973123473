use Rattle.std.specs.Prelude.{ℤ, ◌≤ℤ◌, [], ◌∷◌, ◌++◌, take}
use Rattle.region_walk.specs.steps.Spans.{IsBetween, AreNonnegativeAt}
use Rattle.region_walk.proofs.spans.span_behind.Given as goal

abbrev pub invariant-loop-function : goal.invariant-loop-function
invariant-loop-function l = record {
  ordered : l.left.low ≤ℤ l.left.high;
  kept : (v : ℤ) → (IsBetween l.left.low l.left.high v
      → IsBetween l.fn.span.low l.fn.span.high v × AreNonnegativeAt (take l.function-index l.functions) (l.beginning ++ v ∷ []))
      × (IsBetween l.fn.span.low l.fn.span.high v × AreNonnegativeAt (take l.function-index l.functions) (l.beginning ++ v ∷ [])
      → IsBetween l.left.low l.left.high v);
}
