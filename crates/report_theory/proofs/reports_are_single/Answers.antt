use Rattle.report_theory.proofs.Told.{one_list, one_report, whole_or_refused, first_item_first, fronts_are_fronts, empty_front, fewer_items}
use Rattle.report_theory.proofs.reports_are_single.Goals as goal

pub returns : goal.returns
returns c = record {
  pieces = one_list;
  report = one_report;
  apart = whole_or_refused;
  first = first_item_first;
  front = fronts_are_fronts;
  empty = empty_front;
  fewer = fewer_items;
}
