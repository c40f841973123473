use Rattle.std.proofs.Common.{◌≡◌, ◌∙◌, ◌+◌, ◌*◌, of_z, ◌/◌, ◌%◌, ◌-ℤ◌, ◌*ℤ◌, pos, to_z, SFits, w64, rules, arith}
use Rattle.std.proofs.lemmas.Int.{to_z-of_z}
use Rattle.std.proofs.lemmas.Nat.Gcd.{IsGcd-from_mod, IsGcd-from_zero}
use Rattle.weight_frame.proofs.Euclid.{congruent_start, congruent_first, congruent_step, split_natural}
use Rattle.weight_frame.proofs.Factors.{factors_start, factors_step, factors_small}
use Rattle.weight_frame.proofs.multipliers.euclid.Goals as goal

pub loop-lesser-init : goal.loop-lesser-init
loop-lesser-init c = record {
  divisor = λ g h. h;
  greater = omega arith;
  lesser = omega arith;
  factors = factors_start c.args.after c.args.r;
  congruent = congruent_start c.args.after (pos c.args.r);
  next = congruent_first c.args.after (pos c.args.r);
}

pub next_factor-factor-requires : goal.next_factor-factor-requires
next_factor-factor-requires c =
    let l = c.loop-lesser in
    let small = factors_small c.args.after l.greater l.lesser (l.greater / l.lesser) (l.greater % l.lesser) (to_z w64 l.greater_factor-bits)
    (to_z w64 l.lesser_factor-bits)
    (omega arith) (omega arith) l.invariant.factors in
    let greater = small.greater in
    let taken = small.taken in
    record { quotient = omega arith; greater = omega arith; taken = omega arith }

pub loop-lesser-preserved : goal.loop-lesser-preserved
loop-lesser-preserved c =
    let l = c.loop-lesser in
    let f = to_z w64 l.greater_factor-bits in
    let x = to_z w64 l.lesser_factor-bits in
    let q = l.greater / l.lesser in
    let r = l.greater % l.lesser in
    let split : l.greater ≡ q * l.lesser + r = omega arith in
    let fits : SFits w64 c.next_factor-factor.result = search rules in
    let next : to_z w64 (of_z w64 c.next_factor-factor.result) ≡ f -ℤ pos q *ℤ x = to_z-of_z w64 c.next_factor-factor.result fits
    ∙ c.next_factor-factor.ensures in
    record {
      divisor = λ g h. l.invariant.divisor g (IsGcd-from_mod _ _ g h);
      greater = l.invariant.lesser;
      lesser = omega arith;
      factors = factors_step c.args.after l.greater l.lesser q r f x _ split next l.invariant.factors;
      congruent = l.invariant.next;
      next = congruent_step c.args.after (pos c.args.r) f x _ (pos l.greater) (pos l.lesser) (pos q) (pos r)
          (split_natural l.greater l.lesser q r split) next l.invariant.congruent l.invariant.next;
    }

pub returns : goal.returns
returns c = record {
  greatest = c.loop-lesser.invariant.divisor _ (IsGcd-from_zero _ _ c.loop-lesser-test.false);
  congruent = c.loop-lesser.invariant.congruent;
}
