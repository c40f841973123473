use Rattle.std.proofs.Common.{◌-◌, ◌∙◌, sym, arith}
use Rattle.palp_input.proofs.TokenRuns.{token_run, with_token}
use Rattle.palp_input.proofs.pieces.next_piece.Goals as goal

pub returns-then-is_token_byte-clause-cases : goal.returns-then-is_token_byte-clause-cases
returns-then-is_token_byte-clause-cases c =
    let at = c.blanks_end-at.result in
    let end = c.token_end-end.result in
    let run = c.token_end-end.ensures in
    c.blanks_end-at.ensures.rest
    ∙ token_run c.args.text.now (end - at - 1) at end (omega (arith, run.least)) run.most
    (with_token c.args.text.now at end (sym c.is_token_byte.ensures ∙ c.if-is_token_byte.true) run.token) run.stops
