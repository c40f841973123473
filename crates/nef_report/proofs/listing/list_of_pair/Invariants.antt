use Rattle.std.proofs.Common.{◌≡◌, ◌+◌}
use Rattle.palp_input.specs.Grammar.{listed}
use Rattle.report_theory.proofs.Givings.{ItemSoFar}
use Rattle.nef_parts.specs.Lists.{lists_of}
use Rattle.nef_report.specs.Partitions.{PartitionsSay}
use Rattle.nef_report.proofs.listing.list_of_pair.Given as goal

abbrev pub invariant-loop-count : goal.invariant-loop-count
invariant-loop-count g l = record {
  lists : l.search.lists ≡ lists_of l.fn.pair;
  codim : l.search.codim ≡ l.fn.words.codim;
  given : l.search.given ≡ l.count;
  so_far : ItemSoFar (PartitionsSay l.fn.words) (listed l.fn.item) (l.count + 1) (g.O.Sink.state l.fn.out) (g.O.Sink.state l.out);
}
