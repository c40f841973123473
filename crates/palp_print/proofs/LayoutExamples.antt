-- The worked examples, by computation.
use Rattle.std.proofs.Common.{refl}
use Rattle.std.specs.Fmt.{digits}
use Rattle.palp_print.specs.Examples.{AreBlocks, AreLines, ArePartitions, AreNotes}

pub example_blocks : AreBlocks
unfolding digits
example_blocks = record { columns_are = refl; rows_are = refl; equations_are = refl; pairing_is = refl; incidence_is = refl }

pub example_lines : AreLines
unfolding digits
example_lines = record {
  echo_is = refl;
  body_is = refl;
  plane_is = refl;
  quartic_is = refl;
  quintic_is = refl;
  sextic_is = refl;
  nef_is = refl;
  weights_are = refl;
  count_is = refl;
  sweep_is = refl;
}

pub example_partitions : ArePartitions
unfolding digits
example_partitions = record { partition_is = refl; curve_is = refl; threefold_is = refl; curve_diamond_is = refl; quintic_diamond_is = refl }

pub example_notes : AreNotes
unfolding digits
example_notes = record { flat_is = refl; limit_is = refl }
