use Rattle.std.proofs.Common.{◌≡◌, ◌+◌, ◌<◌, ◌≤◌, ℕ, List, [], ◌∷◌, zero, suc, length, get_or, take, arith}
use Rattle.std.proofs.lemmas.List.{take_all}
use Rattle.std.proofs.lemmas.Bool.Decides.{Decides-eqb}
use Rattle.lattice_core.specs.Weights.{total}
use Rattle.weight_points.proofs.monomials.tests.is_summed.Goals as goal

-- one number more
total_more : (ws : List ℕ) (i : ℕ) → i < length ws → total (take (suc i) ws) ≡ total (take i ws) + get_or ws i 0
total_more [] i h = absurd (omega arith)
total_more (w ∷ ws) zero h = omega arith
total_more (w ∷ ws) (suc i) h = let r = total_more ws i (omega arith) in omega arith

pub loop-weight-preserved : goal.loop-weight-preserved
loop-weight-preserved c =
    let ws = c.args.system.now.weights.items in
    let i = c.loop-weight.weight-index in
    let same = c.deref-weight-items.ensures.value in
    let within : i < length ws = rw same at c.loop-weight-test.true in
    let enough : get_or ws i 0 ≤ c.loop-weight.left = rw same at c.if-weight-left.false in
    let next : i + 1 ≡ suc i = omega arith in
    let before : total (take i ws) + c.loop-weight.left ≡ c.args.system.now.degree = c.loop-weight.invariant in
    let more = total_more ws i within in
    rw (next, same, more) (omega arith)

pub returns-clause-summed : goal.returns-clause-summed
returns-clause-summed c = λ h.
    let ws = c.args.system.now.weights.items in
    let none : c.loop-weight.left ≡ 0 = (Decides-eqb c.loop-weight.left 0).0 h in
    let same = c.deref-weight-items.ensures.value in
    let end : length ws ≤ c.loop-weight.weight-index = rw same at c.loop-weight-test.false in
    let all : total (take c.loop-weight.weight-index ws) + c.loop-weight.left ≡ c.args.system.now.degree = c.loop-weight.invariant in
    let whole = rw (take_all c.loop-weight.weight-index ws end) at all in
    let some = c.if-system-eq0.false in
    record { columns = omega arith; sum = omega arith; positive = omega arith }
