use Rattle.std.proofs.Common.{◌≡◌, ℕ, ◌-◌, ℤ, [], ◌∷◌, ◌++◌, drop, rules, SFits, w64, sym, ap, ◌∙◌, arith}
use Rattle.std.proofs.lemmas.Int.{to_z-of_z}
use Rattle.palp_input.specs.Pieces.{pieces_of}
use Rattle.palp_input.specs.Lines.{matrix_read}
use Rattle.palp_input.specs.LineSteps.{matrix_behind}
use Rattle.palp_input.proofs.ReadSoFar.{entries_more, at_least_one, matrix_behind-end, matrix_behind-fault, matrix_behind-missing}
use Rattle.palp_input.proofs.matrices.read_entries.Goals as goal

pub loop-left-preserved : goal.loop-left-preserved
loop-left-preserved c =
    let text = c.args.text.now in
    let place = c.loop-left.place in
    let left = c.loop-left.left in
    let next = c.in-Entry.ensures.means in
    let fits : SFits w64 c.in-Entry.entry = search rules in
    record {
      least = omega (arith, next.some);
      within = next.most;
      so_far = entries_more _ c.loop-left.entries.items c.push.new.self.items c.in-Entry.entry _
          (matrix_read text (left - 1) c.in-Entry.end (pieces_of c.in-Entry.end (drop c.in-Entry.end text)))
          c.loop-left.invariant.so_far
          (ap (λ (n : ℕ). matrix_read text n place (pieces_of place (drop place text))) (at_least_one left c.loop-left-test.true)
          ∙ next.reads (left - 1) place)
          (c.in_ok-push-in-Entry.ensures.items
          ∙ ap (λ (z : ℤ). c.loop-left.entries.items ++ z ∷ []) (to_z-of_z w64 c.in-Entry.entry fits));
    }

pub returns-in-Fault-clause-means : goal.returns-in-Fault-clause-means
returns-in-Fault-clause-means c =
    let text = c.args.text.now in
    let place = c.loop-left.place in
    let left = c.loop-left.left in
    let entries = c.loop-left.entries.items in
    sym (c.loop-left.invariant.so_far
    ∙ ap (λ (n : ℕ). matrix_behind entries (matrix_read text n place (pieces_of place (drop place text))))
    (at_least_one left c.loop-left-test.true)
    ∙ ap (matrix_behind entries) (c.in-Fault.ensures.means (left - 1) place) ∙ matrix_behind-fault entries c.in-Fault.fault)

pub returns-in-Missing-clause-means : goal.returns-in-Missing-clause-means
returns-in-Missing-clause-means c =
    let text = c.args.text.now in
    let place = c.loop-left.place in
    let left = c.loop-left.left in
    let entries = c.loop-left.entries.items in
    sym (c.loop-left.invariant.so_far
    ∙ ap (λ (n : ℕ). matrix_behind entries (matrix_read text n place (pieces_of place (drop place text))))
    (at_least_one left c.loop-left-test.true)
    ∙ ap (matrix_behind entries) (c.in-Missing.ensures.means (left - 1) place) ∙ matrix_behind-missing entries)

pub returns-clause-means : goal.returns-clause-means
returns-clause-means c =
    let text = c.args.text.now in
    let place = c.loop-left.place in
    let none : c.loop-left.left ≡ 0 = omega (arith, c.loop-left-test.false) in
    let entries = c.loop-left.entries.items in
    sym (c.loop-left.invariant.so_far
    ∙ ap (λ (n : ℕ). matrix_behind entries (matrix_read text n place (pieces_of place (drop place text)))) none
    ∙ matrix_behind-end entries place)
