use Rattle.std.proofs.Common.{◌≡◌, ◌≤◌, length, drop, All}
use Rattle.lattice_core.specs.declared.limits.TheConstants.{MOST_DEGREE}
use Rattle.weight_tails.specs.steps.Listing.{IsListed, AddsEach, StayOnce}
use Rattle.weight_tails.proofs.Listing.{IsListedBelow}
use Rattle.weight_tails.proofs.tails.+add_tails.Given as goal

abbrev pub decreases-add_tails : goal.decreases-add_tails
decreases-add_tails l = l.place

abbrev pub invariant-loop-value : goal.invariant-loop-value
invariant-loop-value l = record {
  columns : length l.entries ≡ length l.initial.entries;
  small : All (λ e. e ≤ MOST_DEGREE) l.entries;
  kept : drop l.place l.entries ≡ drop l.place l.initial.entries;
  tails : AddsEach (IsListedBelow l.weights l.initial.entries l.last l.left l.value) l.initial.tails.items l.tails.items;
  once : StayOnce (IsListed l.weights l.initial.entries l.place l.left) l.initial.tails.items l.tails.items;
}
