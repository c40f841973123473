use Rattle.std.proofs.Common.{length, SFits, rules, arith, ◌∙◌}
use Rattle.std.specs.Int.{w128}
use Rattle.std.proofs.lemmas.Int.{to_z-of_z}
use Rattle.std.proofs.lemmas.List.{length-set}
use Rattle.weight_frame.proofs.Finding.{all_long, written_more, written_all}
use Rattle.weight_frame.proofs.coordinates.combine.Goals as goal

pub combined_entry-requires-clause-dimension : goal.combined_entry-requires-clause-dimension
combined_entry-requires-clause-dimension c = all_long (length c.args.out.now) c.loop-i.i c.args.vectors.now
    (omega arith) c.requires.small.dimension

pub loop-i-preserved : goal.loop-i-preserved
loop-i-preserved c =
    let r : SFits w128 c.combined_entry.result = search rules in
    record {
      length = length-set c.loop-i.out c.loop-i.i _ ∙ c.loop-i.invariant.length;
      entries = simp to_z-of_z (written_more c.loop-i.out c.loop-i.i c.combined_entry.result c.args.coefficients.now c.args.vectors.now
          (omega arith) c.combined_entry.ensures.value c.loop-i.invariant.entries);
    }

pub returns : goal.returns
returns c = written_all (length c.args.out.now) c.loop-i.out c.loop-i.i c.args.coefficients.now c.args.vectors.now c.loop-i.invariant.length
    (omega arith) c.requires.small.dimension c.loop-i.invariant.entries
