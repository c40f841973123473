use Rattle.std.proofs.Common.{refl}
use Rattle.report_theory.specs.Report.{no_item, next_piece, next_item, refused_item, nothing, front_piece, front_item}
use Rattle.report_theory.proofs.continued_report_is_an_example.Goals as goal

pub returns : goal.returns
returns c = record {
  report = next_piece refl (refused_item refl (next_piece refl (next_item refl (next_piece refl (refused_item refl no_item)))));
  front = front_piece refl (front_item refl tt (front_piece refl nothing));
}
