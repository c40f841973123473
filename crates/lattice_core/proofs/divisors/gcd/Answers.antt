use Rattle.std.proofs.lemmas.Nat.Gcd.{IsGcd-from_mod, IsGcd-from_zero}
use Rattle.lattice_core.proofs.divisors.gcd.Goals as goal

pub loop-lesser-preserved : goal.loop-lesser-preserved
loop-lesser-preserved c = λ g h. c.loop-lesser.invariant g (IsGcd-from_mod _ _ g h)

pub returns-then-lesser-eq0 : goal.returns-then-lesser-eq0
returns-then-lesser-eq0 c = c.loop-lesser.invariant _ (IsGcd-from_zero _ _ c.if-lesser-eq0.true)

pub returns : goal.returns
returns c = rw c.from.ensures (c.loop-lesser.invariant _ (IsGcd-from_mod _ _ _ c.gcd_of_words.ensures))
