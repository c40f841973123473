use Rattle.std.proofs.Common.{◌≡◌, ◌+◌, ◌≤◌, drop}
use Rattle.palp_input.specs.Grammar.{column_behind}
use Rattle.palp_input.proofs.reader.column_behind.Given as goal

abbrev pub invariant-loop-byte : goal.invariant-loop-byte
invariant-loop-byte l = record {
  most : l.column ≤ l.byte-index + 1;
  so_far : column_behind 1 l.bytes ≡ column_behind l.column (drop l.byte-index l.bytes);
}
