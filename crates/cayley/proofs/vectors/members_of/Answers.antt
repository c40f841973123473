use Rattle.std.proofs.Common.{◌≡◌, ◌+◌, ℕ, [], length, sym, subst, arith}
use Rattle.cayley.specs.ConeSteps.{kept_point, AddsFirst}
use Rattle.cayley.proofs.KeptVectors.{one_more}
use Rattle.cayley.proofs.VectorSteps.{point_kept, point_dimensions, sorted_first}
use Rattle.cayley.proofs.vectors.members_of.Goals as goal

pub loop-k-preserved : goal.loop-k-preserved
loop-k-preserved c =
    subst (AddsFirst (kept_point c.args.points.now c.args.places.now c.args.parts) [] (c.loop-k.k + 1)) (sym c.in_ok-push.ensures.items)
    (one_more (kept_point c.args.points.now c.args.places.now c.args.parts) [] c.loop-k.members.items c.loop-k.k c.with_part.result c.loop-k.invariant
    (point_kept c.args.points.now c.args.places.now c.args.parts c.loop-k.k c.entries.result.now c.index-points-places.result c.with_part.result
    c.requires.places c.loop-k-test.true c.index-points-places.is c.entries.ensures.value c.with_part.ensures))

pub ascending_functions-requires : goal.ascending_functions-requires
ascending_functions-requires c = (
  c.requires.dimension.0,
  point_dimensions c.requires.dimension.0 c.args.points.now c.args.places.now c.args.parts c.loop-k.k c.loop-k.members.items c.requires.dimension.1
      c.requires.places (omega (arith, c.loop-k.auto.k-end)) c.loop-k.invariant,
)

pub returns-clause-members : goal.returns-clause-members
returns-clause-members c =
    let last : c.loop-k.k ≡ length c.args.places.now = omega (arith, c.loop-k.auto.k-end, c.loop-k-test.false) in
    subst (λ (k : ℕ). AddsFirst (kept_point c.args.points.now c.args.places.now c.args.parts) [] k c.ascending_functions.new.functions.items) last
    (sorted_first (kept_point c.args.points.now c.args.places.now c.args.parts) c.loop-k.k c.loop-k.members.items
    c.ascending_functions.new.functions.items c.ascending_functions.ensures.members c.loop-k.invariant)
