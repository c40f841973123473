use Rattle.std.proofs.Common.{refl}
use Rattle.report_theory.specs.Report.{no_item, next_item}
use Rattle.report_theory.proofs.empty_report_is_an_example.Goals as goal

pub returns : goal.returns
returns c = record { items = next_item refl (next_item refl no_item); no_items = no_item }
