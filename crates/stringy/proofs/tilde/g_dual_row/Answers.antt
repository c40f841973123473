use Rattle.std.proofs.Common.{◌∙◌, ◌^◌}
use Rattle.lattice_theory.specs.Vector.{entry}
use Rattle.dual_pair.specs.declared.side.Side.TheVariants as sides
use Rattle.stringy.specs.RowSteps.{interval_of}
use Rattle.stringy.proofs.FaceTerms.{interval_small, interval_short}
use Rattle.stringy.proofs.KeptRows.{same_size, held_on_n}
use Rattle.stringy.proofs.tilde.g_dual_row.Goals as goal

pub short_row-requires-clause-small : goal.short_row-requires-clause-small
short_row-requires-clause-small c = λ k. same_size (entry c.g_dual.result k) (interval_of c.args.table.now sides.N c.args.low c.args.high k) (2 ^ 12)
    (held_on_n c.args.table.now c.args.g.now c.requires.holds c.args.low c.args.high (record {
      from = c.requires.low;
      to = c.requires.high;
      below =
          c.requires.below;
    }) c.g_dual.result c.g_dual.ensures.value k)
    (interval_small c.args.table.now c.requires.faces c.requires.ranks c.requires.small sides.N c.args.low c.args.high (record {
      from =
          c.requires.low;
      to = c.requires.high;
      below = c.requires.below;
    }) k)

pub short_row-requires-clause-degree : goal.short_row-requires-clause-degree
short_row-requires-clause-degree c = λ k h.
    held_on_n c.args.table.now c.args.g.now c.requires.holds c.args.low c.args.high (record {
      from = c.requires.low;
      to = c.requires.high;
      below =
          c.requires.below;
    }) c.g_dual.result c.g_dual.ensures.value k
    ∙ interval_short c.args.table.now c.requires.faces c.requires.ranks sides.N c.args.low c.args.high (record {
      from = c.requires.low;
      to =
          c.requires.high;
      below = c.requires.below;
    }) k h

pub returns-clause-value : goal.returns-clause-value
returns-clause-value c = λ k. c.short_row.ensures k
    ∙ held_on_n c.args.table.now c.args.g.now c.requires.holds c.args.low c.args.high (record {
      from = c.requires.low;
      to =
          c.requires.high;
      below = c.requires.below;
    }) c.g_dual.result c.g_dual.ensures.value k

pub returns-clause-small : goal.returns-clause-small
returns-clause-small c = λ k. same_size (entry c.short_row.result k) (interval_of c.args.table.now sides.N c.args.low c.args.high k) (2 ^ 12)
    (c.short_row.ensures k ∙ held_on_n c.args.table.now c.args.g.now c.requires.holds c.args.low c.args.high (record {
      from = c.requires.low;
      to =
          c.requires.high;
      below = c.requires.below;
    }) c.g_dual.result c.g_dual.ensures.value k)
    (interval_small c.args.table.now c.requires.faces c.requires.ranks c.requires.small sides.N c.args.low c.args.high (record {
      from =
          c.requires.low;
      to = c.requires.high;
      below = c.requires.below;
    }) k)
