use Rattle.std.proofs.Common.{Bool, true, drop, sym, ap, ◌∙◌}
use Rattle.std.specs.Prelude.{vec_len}
use Rattle.palp_input.specs.Pieces.{pieces_of}
use Rattle.palp_input.specs.Lines.{line_read}
use Rattle.palp_input.proofs.ReadSoFar.{line_behind, line_more, line_behind-end, line_behind-fault}
use Rattle.palp_input.proofs.lines.read_line.Goals as goal

pub loop-number-preserved : goal.loop-number-preserved
loop-number-preserved c =
    let text = c.args.text.now in
    let next = c.in-Number.ensures.means in
    let pushed = c.in_ok-push-in-Number.ensures in
    record {
      within = next.most;
      so_far = line_more (line_read text true (pieces_of c.args.from (drop c.args.from text))) c.loop-number.numbers.items
          c.push.new.self.items c.in-Number.number
          (λ (b : Bool). line_read text b (pieces_of c.loop-number.place (drop c.loop-number.place text)))
          (λ (b : Bool). line_read text b (pieces_of c.in-Number.end (drop c.in-Number.end text)))
          (vec_len c.loop-number.numbers) (vec_len c.push.new.self) c.is_empty.result
          c.loop-number.invariant.so_far c.is_empty.ensures next.reads pushed.items pushed.len;
    }

pub returns-in-Rest-clause-means : goal.returns-in-Rest-clause-means
returns-in-Rest-clause-means c =
    let text = c.args.text.now in
    sym (c.loop-number.invariant.so_far
    ∙ ap (λ (b : Bool). line_behind c.loop-number.numbers.items
    (line_read text b (pieces_of c.loop-number.place (drop c.loop-number.place text)))) (sym c.is_empty.ensures)
    ∙ ap (line_behind c.loop-number.numbers.items) c.in-Rest.ensures.means ∙ line_behind-end c.loop-number.numbers.items)

pub returns-in-Fault-clause-means : goal.returns-in-Fault-clause-means
returns-in-Fault-clause-means c =
    let text = c.args.text.now in
    sym (c.loop-number.invariant.so_far
    ∙ ap (λ (b : Bool). line_behind c.loop-number.numbers.items
    (line_read text b (pieces_of c.loop-number.place (drop c.loop-number.place text)))) (sym c.is_empty.ensures)
    ∙ ap (line_behind c.loop-number.numbers.items) c.in-Fault.ensures.means
    ∙ line_behind-fault c.loop-number.numbers.items c.in-Fault.fault)
