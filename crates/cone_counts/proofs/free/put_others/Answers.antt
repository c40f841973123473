use Rattle.std.proofs.Common.{length, sym, ap, ◌∙◌, subst}
use Rattle.face_theory.proofs.Sets.{true_false}
use Rattle.incidence.proofs.Bits.{exact_with, exact_without}
use Rattle.incidence.specs.Incidences.{HasExactly}
use Rattle.cone_counts.proofs.FreeParts.{other_from, other_to}
use Rattle.cone_counts.proofs.free.put_others.Goals.{then-is_other, else-is_other}
use Rattle.cone_counts.proofs.free.put_others.Goals as goal

pub loop-i-preserved : goal.loop-i-preserved
loop-i-preserved c =
    elim c.if-is_other.branch [
      | then-is_other w ↦ record {
        whole = ap length w.words-is ∙ w.put_bit.ensures.count ∙ c.loop-i.invariant.whole;
        bits = subst (HasExactly _ _) (sym w.words-is) (exact_with c.loop-i.i _ c.loop-i.words w.put_bit.new.words
            c.loop-i.invariant.bits w.put_bit.ensures.bits
            (other_from c.args.vectors.now c.args.part c.loop-i.i c.index-vectors-i.result c.index-vectors-i.is c.loop-i-test.true (c.is_other.ensures.0 w.if-is_other.true)));
      }
      | else-is_other w ↦ record {
        whole = ap length w.words-is ∙ c.loop-i.invariant.whole;
        bits = subst (HasExactly _ _) (sym w.words-is) (exact_without c.loop-i.i _ c.loop-i.words c.loop-i.invariant.bits
            (λ t. true_false (c.is_other.ensures.1 (other_to c.args.vectors.now c.args.part c.loop-i.i c.index-vectors-i.result c.index-vectors-i.is c.loop-i-test.true t))
            w.if-is_other.false));
      }
    ]
