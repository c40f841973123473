use Rattle.std.proofs.Common.{◌≡◌, ℕ, List, length}
use Rattle.walk_theory.specs.Walks.{NumbersLess}
use Rattle.nef_parts.specs.steps.Nef.{IsNefIn}
use Rattle.nef_parts.specs.steps.Completions.{AgreesOn}
use Rattle.nef_parts.proofs.search.advance.Given as goal

abbrev pub invariant-loop-place : goal.invariant-loop-place
invariant-loop-place l = record {
  parts : length l.parts ≡ length l.fn.parts;
  hints : length l.hints ≡ length l.fn.hints;
  front : AgreesOn l.place l.fn.parts l.parts;
  none : (c : List ℕ) → IsNefIn l.table l.r c → AgreesOn l.place l.fn.parts c → NumbersLess l.fn.parts c → ⊥;
}
