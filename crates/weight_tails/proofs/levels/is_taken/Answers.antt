use Rattle.std.proofs.Common.{◌≡◌, ◌⊎◌, inl, inr, ◌∙◌, ℕ, ◌+◌, ◌-◌, ◌*◌, ◌<◌, ◌≤◌, length, get_or, refl, sym, subst, arith}
use Rattle.std.proofs.lemmas.Bool.{cases_lt, false≢true}
use Rattle.weight_tails.specs.steps.Levels.{level}
use Rattle.weight_tails.proofs.LevelSteps.{taken_at, not_taken_at, never_taken}
use Rattle.weight_tails.proofs.Listing.{affordable}
use Rattle.weight_tails.proofs.levels.is_taken.Goals as goal

pub returns-then-is_enough : goal.returns-then-is_enough
returns-then-is_enough c =
    let weights = c.args.weights.now in
    let w = get_or weights (length weights - 1) 0 in
    let some = c.requires.some in
    let positive = c.requires.positive (length weights - 1) 0 (omega (arith, some)) in
    let t = c.loop-times.times in
    let rest = c.args.number - t * w in
    let spends = affordable t w c.args.number c.loop-times-test.true positive in
    let spends' : rest + t * w ≡ c.args.number = omega (arith, spends) in (
      λ e. taken_at weights c.args.levels.now some c.requires.levels c.args.number c.requires.number t rest spends' (c.is_enough.ensures.0 c.if-is_enough.true),
      λ taken. refl,
    )

pub loop-times-preserved : goal.loop-times-preserved
loop-times-preserved c t m below e taken = by (cases_lt t c.loop-times.times)
  where
    none : (a b : ℕ) → t ≡ a → m + t * b ≡ c.args.number → m ≡ c.args.number - a * b
    none a b h k = let k' = rw h at k in omega (arith, k')

    by : (t < c.loop-times.times) ⊎ (c.loop-times.times ≤ t) → ⊥
    by (inl h) = c.loop-times.invariant t m h e taken
    by (inr h) =
        let weights = c.args.weights.now in
        let low = not_taken_at weights c.args.levels.now c.requires.some c.requires.levels c.args.number c.requires.number t m e taken in
        let rest : m ≡ c.args.number - c.loop-times.times * get_or weights (length weights - 1) 0 =
        none c.loop-times.times (get_or weights (length weights - 1) 0) (omega (arith, h, below)) e in
        false≢true (sym c.if-is_enough.false ∙ c.is_enough.ensures.1 (subst (λ (n : ℕ). level c.args.levels.now n ≤ length weights - 1) rest low))

pub returns : goal.returns
returns c =
    let weights = c.args.weights.now in
    let some = c.requires.some in
    let past = c.loop-times-test.false in (
      λ e. absurd (false≢true e),
      λ taken. absurd (never_taken weights c.args.levels.now some c.requires.levels c.args.number c.requires.number
          (λ t m h. c.loop-times.invariant t m (omega (arith, h, past))) (c.requires.positive (length weights - 1) 0 (omega (arith, some))) taken),
    )
