use Rattle.std.proofs.Common.{◌≡◌, inl, inr, ℕ, ◌<◌, ◌≤◌, List, ⊎_elim, arith}
use Rattle.weight_points.specs.declared.waits.TheConstants.{NEVER}
use Rattle.weight_points.specs.steps.Waits.{CanTake}
use Rattle.weight_points.proofs.Waiting.{never, later, never_later}
use Rattle.weight_points.proofs.waits.wait.Goals as goal

-- what isn't reached
not_taken : (k n : ℕ) (weights : List ℕ) → NEVER ≤ k → (CanTake weights n → k < NEVER) → CanTake weights n → ⊥
not_taken k n weights h f c = let l = f c in absurd (omega arith)

positive : (w : ℕ) → (w ≡ 0 → ⊥) → 0 < w
positive w h = omega arith

pub returns-then-weight-eq0 : goal.returns-then-weight-eq0
returns-then-weight-eq0 c = λ weights reach waits.
    never c.args.weight c.args.number weights
    (not_taken _ c.args.number weights c.if-behind-number-lt-NEVER.false (reach c.args.number c.requires.number).1)
    (⊎_elim (λ e. inl e) (λ h. inr h.1) c.then-weight-eq0.either)

pub returns-then-before-lt-NEVER : goal.returns-then-before-lt-NEVER
returns-then-before-lt-NEVER c = λ weights reach waits.
    let weight = positive c.args.weight c.if-weight-eq0.false in
    let before = c.requires.before in
    let small = c.if-weight-number.false in
    later c.args.weight c.args.number weights _
    (not_taken _ c.args.number weights c.if-behind-number-lt-NEVER.false (reach c.args.number c.requires.number).1)
    small (waits _ (omega arith)) c.if-before-lt-NEVER.true

pub returns-else-before-lt-NEVER : goal.returns-else-before-lt-NEVER
returns-else-before-lt-NEVER c = λ weights reach waits.
    let weight = positive c.args.weight c.if-weight-eq0.false in
    let before = c.requires.before in
    let small = c.if-weight-number.false in
    never_later c.args.weight c.args.number weights _
    (not_taken _ c.args.number weights c.if-behind-number-lt-NEVER.false (reach c.args.number c.requires.number).1)
    small (waits _ (omega arith)) c.if-before-lt-NEVER.false
