use Rattle.std.proofs.Common.{false, Ok, sym, ap, subst, arith}
use Rattle.std.proofs.lemmas.Result.{err_from_is_err_and}
use Rattle.palp_input.specs.Reading.{ReaderState, HasNoItem}
use Rattle.palp_input.specs.ReaderSteps.{HeldMeans}
use Rattle.palp_input.proofs.Takes.{TakenSoFar}
use Rattle.palp_input.specs.declared.reader.Held.{Held}
use Rattle.palp_input.proofs.NextAnswers.{held_most}
use Rattle.palp_input.proofs.TakenAnswers.{none_so_far, all_or_room, item_answer, last_answer, fault_answer, take_fault, nothing_seen}
use Rattle.palp_input.proofs.reader.Reader.next_item.Goals as goal

pub loop-item-init : goal.loop-item-init
loop-item-init g c =
    let most = held_most _ _ _ _ _ _ _ c.args.self.now c.self.invariant c.self.view_is in
    record {
      so_far = none_so_far c.args.self.now _ (g.S.Source.state c.args.src.now) (ap (λ (s : ReaderState). record s { live = false }) c.self.view_is)
          c.requires.handed most.0;
      passed_most = most.1;
      within = omega arith;
      seen = nothing_seen;
    }

pub returns-in_err-item : goal.returns-in_err-item
returns-in_err-item g c =
    let p = err_from_is_err_and c.from_residual.result c.from_residual.ensures.1 in
    rw (p.1, p.2) (fault_answer c.args.self.now c.loop-item.self (g.S.Source.state c.args.src.now) (g.S.Source.state c.loop-item.src)
    c.loop-item.invariant.so_far c.look_on.new.self c.in_err-item.field-0.0 c.loop-item.invariant.passed_most c.in_err-item.ensures)

pub returns-in-Item : goal.returns-in-Item
returns-in-Item g c =
    item_answer c.args.self.now c.loop-item.self (g.S.Source.state c.args.src.now) (g.S.Source.state c.loop-item.src)
    c.loop-item.invariant.so_far c.look_on.new.self c.in-Item.item
    (subst (λ (h : Held). HeldMeans (Ok h) c.loop-item.self c.look_on.new.self) c.in-Item.is c.in_ok-item.ensures)

pub returns-then-has_all : goal.returns-then-has_all
returns-then-has_all g c =
    let same = (subst (λ (h : Held). HeldMeans (Ok h) c.loop-item.self c.look_on.new.self) c.in-Unknown.is c.in_ok-item.ensures).0 in
    last_answer c.args.self.now c.look_on.new.self (g.S.Source.state c.args.src.now) (g.S.Source.state c.loop-item.src)
    (subst (λ (s : ReaderState). TakenSoFar c.args.self.now s (g.S.Source.state c.args.src.now) (g.S.Source.state c.loop-item.src)) (sym same) c.loop-item.invariant.so_far)
    c.last_item.new.self c.last_item.result c.loop-item.invariant.passed_most c.has_all.result c.has_all.ensures c.if-has_all.true c.last_item.ensures

pub returns-in_err-take_more : goal.returns-in_err-take_more
returns-in_err-take_more g c =
    let h = subst (λ (h : Held). HeldMeans (Ok h) c.loop-item.self c.look_on.new.self) c.in-Unknown.is c.in_ok-item.ensures in
    let so_far = subst (λ (s : ReaderState). TakenSoFar c.args.self.now s (g.S.Source.state c.args.src.now) (g.S.Source.state c.loop-item.src))
    (sym h.0) c.loop-item.invariant.so_far in
    let room = all_or_room c.look_on.new.self.ended c.has_all.result _ c.has_all.ensures c.if-has_all.false in
    let none = subst HasNoItem (sym (ap (λ (s : ReaderState). s.held) h.0)) h.1.no_item in
    let p = err_from_is_err_and c.from_residual-in_err-take_more.result c.from_residual-in_err-take_more.ensures.1 in
    rw (p.1, p.2) (take_fault c.args.self.now c.look_on.new.self c.take_more.new.self (g.S.Source.state c.args.src.now)
    (g.S.Source.state c.loop-item.src) (g.S.Source.state c.take_more.new.src) so_far room.0 c.in_err-take_more.field-0.0 none
    c.in_err-take_more.ensures)
