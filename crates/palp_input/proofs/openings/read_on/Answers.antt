use Rattle.std.proofs.Common.{◌≡◌, ℕ, ◌-◌, ◌≤◌, ℤ, List, [], ◌∷◌, ◌++◌, length, rules, SFits, w64, sym, ap, subst, ◌∙◌, arith}
use Rattle.std.proofs.lemmas.Int.{to_z-of_z}
use Rattle.palp_input.specs.declared.matrices.Part.TheVariants.{Missing}
use Rattle.palp_input.proofs.HeldOpenings.{reads_matrix, reads_here, entry_more, entry_faulty, part_no_item, matrix_gap, matrix_given, end_some, feed_no_item}
use Rattle.palp_input.proofs.openings.read_on.Goals as goal
use Rattle.palp_input.proofs.openings.read_on.Goals.{in_default-via-in-Entry+else-end-text, in_default-via-in-Fault+else-fault-text}

pub loop-pending-preserved : goal.loop-pending-preserved
loop-pending-preserved c =
    let text = c.args.text.now in
    let p = c.loop-pending.pending in
    let so_far = c.loop-pending.invariant in
    let fits : SFits w64 c.in-Entry.entry = search rules in
    let pushed = c.in_ok-push-in-Entry.ensures.items ∙ ap (λ (z : ℤ). p.entries.items ++ z ∷ []) (to_z-of_z w64 c.in-Entry.entry fits) in
    record {
      at = so_far.at;
      within = c.in-Entry.ensures.means.most;
      reads = λ more. so_far.reads more
          ∙ entry_more text so_far.at p.lines p.columns p.entries.items p.place p.left c.in-Entry.entry c.in-Entry.end more so_far.within
          c.if-end-text.true c.loop-pending-test.true c.in-Entry.ensures.means
          ∙ ap (λ (es : List ℤ). reads_matrix (text ++ more) so_far.at p.lines p.columns es c.in-Entry.end (p.left - 1)) (sym pushed);
    }

pub returns-in-Fault : goal.returns-in-Fault
returns-in-Fault c =
    let text = c.args.text.now in
    let p = c.loop-pending.pending in
    let so_far = c.loop-pending.invariant in
    record {
      before = c.if-fault-text.true;
      is_next = entry_faulty text so_far.at p.lines p.columns p.entries.items p.place p.left c.in-Fault.fault c.loop-pending-test.true
          c.in-Fault.ensures.means (reads_here text p so_far);
    }

pub returns-in-Missing : goal.returns-in-Missing
returns-in-Missing c =
    let text = c.args.text.now in
    let p = c.loop-pending.pending in
    let so_far = c.loop-pending.invariant in
    record {
      no_item = part_no_item text so_far.at p.lines p.columns p.entries.items p.place p.left Missing so_far.within
          c.loop-pending-test.true (reads_here text p so_far) c.in-Missing.ensures.means (λ entry end e. cc);
      means = matrix_gap text p so_far c.loop-pending-test.true c.in-Missing.ensures.means;
    }

pub returns-in_default : goal.returns-in_default
returns-in_default c =
    let text = c.args.text.now in
    let p = c.loop-pending.pending in
    let so_far = c.loop-pending.invariant in
    record {
      no_item = part_no_item text so_far.at p.lines p.columns p.entries.items p.place p.left c.next_entry.result so_far.within
          c.loop-pending-test.true (reads_here text p so_far) c.next_entry.ensures.means
          (elim c.in_default.branch [
            | in_default-via-in-Entry+else-end-text w ↦ λ entry end e.
                let same : w.in-Entry.end ≡ end = let there = sym w.in-Entry.is ∙ e in cc in
                subst (λ (n : ℕ). length text ≤ n) same w.if-end-text.false
            | in_default-via-in-Fault+else-fault-text w ↦ λ entry end e. let there = sym w.in-Fault.is ∙ e in cc
          ]);
      means = so_far;
    }

pub overflow_sub-end : goal.overflow_sub-end
overflow_sub-end c = end_some c.args.text.now c.loop-pending.pending c.line_end-end.result c.loop-pending.invariant (omega (arith, c.loop-pending-test.false)) c.line_end-end.ensures.value

pub bounds-text-end : goal.bounds-text-end
bounds-text-end c =
    let some = end_some c.args.text.now c.loop-pending.pending c.line_end-end.result c.loop-pending.invariant (omega (arith, c.loop-pending-test.false)) c.line_end-end.ensures.value in
    omega (arith, some, c.line_end-end.ensures.most)

pub returns-then-text-end-ne10 : goal.returns-then-text-end-ne10
returns-then-text-end-ne10 c = record {
  no_item = feed_no_item c.args.text.now c.loop-pending.pending c.line_end-end.result c.loop-pending.invariant (omega (arith, c.loop-pending-test.false)) c.line_end-end.ensures.value c.if-text-end-ne10.true;
  means = c.loop-pending.invariant;
}

pub returns : goal.returns
returns c =
    let none : c.loop-pending.pending.left ≡ 0 = omega (arith, c.loop-pending-test.false) in
    record {
      some = end_some c.args.text.now c.loop-pending.pending c.line_end-end.result c.loop-pending.invariant none c.line_end-end.ensures.value;
      within = c.line_end-end.ensures.most;
      is_next = matrix_given c.args.text.now c.loop-pending.pending c.line_end-end.result c.loop-pending.invariant none c.line_end-end.ensures.value;
      line_ends = c.if-text-end-ne10.false;
    }
