use Rattle.std.proofs.Common.{ℕ, ◌+◌, ◌<◌, List, [], ◌∷◌, length, get_or, sym, ap, subst, arith}
use Rattle.std.proofs.lemmas.List.{length-append}
use Rattle.weight_points.specs.steps.Waits.{IsWait}
use Rattle.weight_points.proofs.Waiting.{grown}
use Rattle.weight_points.proofs.waits.waits_before.Goals as goal

pub loop-number-preserved : goal.loop-number-preserved
loop-number-preserved c =
    let waits = c.loop-number.waits.items in
    let n = c.loop-number.number in
    let i = c.loop-number.invariant in
    let x = c.wait-next.result in
    let pushed = c.in_ok-push.ensures.items in
    record {
      columns = let l = length-append waits (x ∷ []) in let e = ap length pushed in let k = i.columns in omega arith;
      known = λ weights h.
          let before = i.known weights h in
          let below : (m : ℕ) → m < length waits → IsWait c.args.weight weights m (get_or waits m 0) =
          λ m l. before m (let k = i.columns in omega arith) in
          let there = c.wait-next.ensures weights h (rw c.deref.ensures.value below) in
          let all = grown (IsWait c.args.weight weights) waits n x i.columns before there in
          subst (λ (xs : List ℕ). (m : ℕ) → m < n + 1 → IsWait c.args.weight weights m (get_or xs m 0)) (sym pushed) all;
    }
