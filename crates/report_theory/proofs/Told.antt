-- Items that tell their pieces say one thing, so that the laws hold of them.
use Rattle.std.proofs.Common.{refl, sym, ◌∙◌}
use Rattle.report_theory.specs.Report.{SaysOne}
use Rattle.report_theory.specs.Told.{ToldSays}
use Rattle.report_theory.specs.Laws.{OneListOfPieces, OneReportOfItems, WholeOrRefused, FirstItemFirst, FrontsOfItemsAreFronts, EmptyFrontOfItems, FewerItems}
use Rattle.report_theory.proofs.Reports as reports
use Rattle.report_theory.proofs.Passing as passing

says_one : SaysOne ToldSays
says_one item k step other a b = a ∙ sym b

pub one_list : OneListOfPieces
one_list item pieces other closing another a b = reports.one_list ToldSays says_one 0 item pieces other closing another a b

pub one_report : OneReportOfItems
one_report items report other stop another a b = reports.one_report ToldSays says_one 1 0 items report other stop another a b

pub whole_or_refused : WholeOrRefused
whole_or_refused item k cause a =
    (λ b. reports.end_or_whole ToldSays says_one item k cause b a, λ b. reports.continue_or_whole ToldSays says_one item k cause b a)

pub first_item_first : FirstItemFirst
first_item_first item items pieces later stop p r = passing.item_in_front ToldSays 1 0 item items _ pieces later stop p tt r

pub fronts_are_fronts : FrontsOfItemsAreFronts
fronts_are_fronts items front report stop f r = reports.fronts_are_fronts ToldSays says_one 0 1 items front report stop f r

pub empty_front : EmptyFrontOfItems
empty_front items front stop f r = reports.empty_front ToldSays says_one 0 1 items front _ stop refl f r

pub fewer_items : FewerItems
fewer_items items more report stop r = passing.fewer_items ToldSays 1 0 items more report stop r
