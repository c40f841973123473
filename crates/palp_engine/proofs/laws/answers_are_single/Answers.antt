use Rattle.palp_engine.proofs.SingleAnswers.{one_polytope, one_refusal, polytope_or_refusal}
use Rattle.palp_engine.proofs.SingleItems.{one_piece, one_item_refusal, piece_or_refusal, piece_or_none, none_or_refusal}
use Rattle.palp_engine.proofs.SingleReports.{one_list_of_entries, one_list, one_report, fronts_are_fronts, empty_front}
use Rattle.palp_engine.proofs.SingleEnded.{one_ended_report, ended_reports_are_fronts}
use Rattle.palp_engine.proofs.laws.answers_are_single.Goals as goal

pub returns-clause-polytope : goal.returns-clause-polytope
returns-clause-polytope c = one_polytope

pub returns-clause-refusal : goal.returns-clause-refusal
returns-clause-refusal c = one_refusal

pub returns-clause-apart : goal.returns-clause-apart
returns-clause-apart c = polytope_or_refusal

pub returns-clause-piece : goal.returns-clause-piece
returns-clause-piece c = one_piece

pub returns-clause-item_refusal : goal.returns-clause-item_refusal
returns-clause-item_refusal c = one_item_refusal

pub returns-clause-item_apart : goal.returns-clause-item_apart
returns-clause-item_apart c = piece_or_refusal

pub returns-clause-none_apart : goal.returns-clause-none_apart
returns-clause-none_apart c = piece_or_none

pub returns-clause-none_refusal : goal.returns-clause-none_refusal
returns-clause-none_refusal c = none_or_refusal

pub returns-clause-entries : goal.returns-clause-entries
returns-clause-entries c = one_list_of_entries

pub returns-clause-pieces : goal.returns-clause-pieces
returns-clause-pieces c = one_list

pub returns-clause-report : goal.returns-clause-report
returns-clause-report c = one_report

pub returns-clause-front : goal.returns-clause-front
returns-clause-front c = fronts_are_fronts

pub returns-clause-empty : goal.returns-clause-empty
returns-clause-empty c = empty_front

pub returns-clause-ended : goal.returns-clause-ended
returns-clause-ended c = one_ended_report

pub returns-clause-ended_front : goal.returns-clause-ended_front
returns-clause-ended_front c = ended_reports_are_fronts
