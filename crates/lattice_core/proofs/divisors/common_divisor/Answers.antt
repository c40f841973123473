use native.Mathlib.Nat.{one-dvd}
use Rattle.std.proofs.Common.{◌≡◌, ◌+◌, subst, nat_abs, pos, arith, rules, SFits}
use Rattle.std.specs.Int.{◌∣◌, IsGcd, w128}
use Rattle.std.proofs.lemmas.Int.{to_z-of_z}
use Rattle.lattice_theory.specs.Vector.{entry}
use Rattle.lattice_core.proofs.CommonDivisors.{IsDivisorOfFirst, divisor_none, divisor_more}
use Rattle.lattice_core.proofs.divisors.common_divisor.Goals as goal
use Rattle.lattice_core.proofs.divisors.common_divisor.Goals.{After-gcd-divisor}

pub loop-entry-init : goal.loop-entry-init
loop-entry-init c = divisor_none c.args.v.now

-- this turn's entry is taken in
turn : (c : After-gcd-divisor) → IsDivisorOfFirst c.args.v.now (c.loop-entry.entry-index + 1) c.gcd-divisor.result
turn c =
    let v = c.args.v.now in
    let i = c.loop-entry.entry-index in
    let fits : SFits w128 (entry v i) = search rules in
    let value : c.unsigned_abs.result ≡ nat_abs (entry v i) = simp to_z-of_z at c.unsigned_abs.ensures.value in
    let g : IsGcd (nat_abs (entry v i)) c.loop-entry.divisor c.gcd-divisor.result = rw value at c.gcd-divisor.ensures in
    divisor_more v i _ _ (omega arith) (c.requires i (pos 0) (omega arith)) c.loop-entry.invariant g

pub loop-entry-preserved : goal.loop-entry-preserved
loop-entry-preserved c = turn (goal.at.loop-entry-preserved c).After-gcd-divisor

pub returns-then-divisor-eq1-clause-divides : goal.returns-then-divisor-eq1-clause-divides
returns-then-divisor-eq1-clause-divides c = λ k d within. one-dvd _

pub returns-then-divisor-eq1-clause-greatest : goal.returns-then-divisor-eq1-clause-greatest
returns-then-divisor-eq1-clause-greatest c =
    let found = turn (goal.at.returns-then-divisor-eq1-clause-greatest c).After-gcd-divisor in
    λ d all. subst (λ x. d ∣ x) c.if-divisor-eq1.true (found.greatest d (λ k e low high. all k e (omega arith)))

pub returns : goal.returns
returns c =
    let found = c.loop-entry.invariant in
    record {
      divides = λ k d within. found.divides k d (omega arith) (omega arith);
      greatest = λ d all. found.greatest d (λ k e low high. all k e (omega arith));
      bound = found.bound;
    }
