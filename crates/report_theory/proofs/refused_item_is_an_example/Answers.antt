use Rattle.std.proofs.Common.{refl, codes}
use Rattle.report_theory.specs.Report.{one_more, no_more, next_piece, next_item, last_item, front_part, front_piece, front_item}
use Rattle.report_theory.proofs.refused_item_is_an_example.Goals as goal

pub returns : goal.returns
returns c = record {
  pieces = one_more refl (one_more refl (no_more refl));
  report = next_item refl (next_piece refl (next_piece refl (last_item refl)));
  front = front_item refl tt (front_piece refl (front_part {bytes = codes "cd"} refl (record { rest = codes "d"; whole_is = refl })));
}
