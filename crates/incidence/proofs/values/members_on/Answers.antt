use Rattle.std.proofs.Common.{length, refl, sym, ap, ◌∙◌, subst}
use Rattle.face_theory.proofs.Sets.{true_false}
use Rattle.incidence.proofs.Bits.{none_at_first, exact_with, exact_without}
use Rattle.incidence.proofs.SmallValues.{zero_of}
use Rattle.incidence.specs.Incidences.{HasExactly}
use Rattle.incidence.proofs.values.members_on.Goals.{then-lies_on, else-lies_on}
use Rattle.incidence.proofs.values.members_on.Goals as goal

pub loop-m-init : goal.loop-m-init
loop-m-init c = record { whole = refl; bits = none_at_first 64 0 _ refl }

pub loop-m-preserved : goal.loop-m-preserved
loop-m-preserved c =
    let zero = zero_of c.args.points.now c.loop-m.m c.index-points-m.result c.args.f.now c.index-points-m.is c.loop-m-test.true in
    elim c.if-lies_on.branch [
      | then-lies_on w ↦ record {
        whole = ap length w.words-is ∙ w.put_bit.ensures.count ∙ c.loop-m.invariant.whole;
        bits = subst (HasExactly _ _) (sym w.words-is) (exact_with c.loop-m.m _ c.loop-m.words w.put_bit.new.words
            c.loop-m.invariant.bits w.put_bit.ensures.bits (zero.1 (c.lies_on.ensures.0 w.if-lies_on.true)));
      }
      | else-lies_on w ↦ record {
        whole = ap length w.words-is ∙ c.loop-m.invariant.whole;
        bits = subst (HasExactly _ _) (sym w.words-is) (exact_without c.loop-m.m _ c.loop-m.words c.loop-m.invariant.bits
            (λ t. true_false (c.lies_on.ensures.1 (zero.0 t)) w.if-lies_on.false));
      }
    ]
