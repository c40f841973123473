use Rattle.std.proofs.Common.{◌≡◌, ◌+◌, ℕ, List, ℤ, sym, ap, ◌∙◌, subst, arith}
use Rattle.cayley.specs.ConeSteps.{with_part, kept_unit, AddsFirst}
use Rattle.cayley.proofs.KeptVectors.{one_more}
use Rattle.cayley.proofs.VectorSteps.{zeros_front}
use Rattle.cayley.proofs.vectors.push_units.Goals as goal

pub loop-part-preserved : goal.loop-part-preserved
loop-part-preserved c =
    subst (AddsFirst (kept_unit c.args.dim) c.args.functions.now.items (c.loop-part.part + 1)) (sym c.in_ok-push.ensures.items)
    (one_more (kept_unit c.args.dim) c.args.functions.now.items c.loop-part.functions.items c.loop-part.part c.with_part.result c.loop-part.invariant
    (c.with_part.ensures ∙ ap (λ (x : List ℤ). with_part x c.loop-part.part) (zeros_front c.args.dim c.requires.most)))

pub returns : goal.returns
returns c =
    let last : c.loop-part.part ≡ c.args.parts = omega (arith, c.loop-part.auto.part-end, c.loop-part-test.false) in
    subst (λ (k : ℕ). AddsFirst (kept_unit c.args.dim) c.args.functions.now.items k c.loop-part.functions.items) last c.loop-part.invariant
