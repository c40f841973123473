use Rattle.std.proofs.Common.{length, refl, sym, ap, ◌∙◌, subst}
use Rattle.face_theory.proofs.Sets.{true_false}
use Rattle.incidence.proofs.Bits.{none_at_first, exact_with, exact_without}
use Rattle.incidence.proofs.SmallValues.{zero_at}
use Rattle.incidence.specs.Incidences.{HasExactly}
use Rattle.incidence.proofs.values.zeros_into.Goals.{then-lies_on, else-lies_on}
use Rattle.incidence.proofs.values.zeros_into.Goals as goal

pub loop-f-preserved : goal.loop-f-preserved
loop-f-preserved c =
    let zero = zero_at c.args.functions.now c.loop-f.f c.index-functions-f.result c.args.p.now c.index-functions-f.is c.loop-f-test.true in
    elim c.if-lies_on.branch [
      | then-lies_on w ↦ record {
        whole = ap length w.words-is ∙ w.put_bit.ensures.count ∙ c.loop-f.invariant.whole;
        bits = subst (HasExactly _ _) (sym w.words-is) (exact_with c.loop-f.f _ c.loop-f.words w.put_bit.new.words
            c.loop-f.invariant.bits w.put_bit.ensures.bits (zero.1 (c.lies_on.ensures.0 w.if-lies_on.true)));
      }
      | else-lies_on w ↦ record {
        whole = ap length w.words-is ∙ c.loop-f.invariant.whole;
        bits = subst (HasExactly _ _) (sym w.words-is) (exact_without c.loop-f.f _ c.loop-f.words c.loop-f.invariant.bits
            (λ t. true_false (c.lies_on.ensures.1 (zero.0 t)) w.if-lies_on.false));
      }
    ]
