use Rattle.std.proofs.Common.{◌≡◌, ◌+◌, ℕ, [], length, sym, ◌∙◌, subst, arith}
use Rattle.lattice_core.specs.Dimensions.{dimension_of}
use Rattle.lattice_core.proofs.Dimension.{dimension_first}
use Rattle.cayley.specs.ConeSteps.{kept_normal, kept_unit, AddsFirst}
use Rattle.cayley.proofs.KeptVectors.{one_more, both_kinds}
use Rattle.cayley.proofs.VectorSteps.{normal_kept, function_dimensions, sorted_functions}
use Rattle.cayley.proofs.vectors.functions_of.Goals as goal

pub loop-e-preserved : goal.loop-e-preserved
loop-e-preserved c =
    subst (AddsFirst (kept_normal c.args.normals.now c.args.part_of.now) [] (c.loop-e.e + 1)) (sym c.in_ok-push.ensures.items)
    (one_more (kept_normal c.args.normals.now c.args.part_of.now) [] c.loop-e.functions.items c.loop-e.e c.with_part.result c.loop-e.invariant
    (normal_kept c.args.normals.now c.args.part_of.now c.loop-e.e c.entries.result.now c.index-normals-e.result c.with_part.result c.loop-e-test.true
    c.index-normals-e.is c.entries.ensures.value c.with_part.ensures))

pub ascending_functions-requires : goal.ascending_functions-requires
ascending_functions-requires c =
    let last : c.loop-e.e ≡ length c.args.normals.now = omega (arith, c.loop-e.auto.e-end, c.loop-e-test.false) in
    let dim : c.dim.result ≡ dimension_of c.args.normals.now = c.dim.ensures.value
    ∙ dimension_first c.args.normals.now c.index-normals-0.result c.requires.some c.index-normals-0.is in (
      dimension_of c.args.normals.now,
      function_dimensions (dimension_of c.args.normals.now) c.args.normals.now c.args.part_of.now c.args.parts c.push_units.new.functions.items
          c.requires.dimension
          (both_kinds (dimension_of c.args.normals.now) c.args.normals.now c.args.part_of.now c.args.parts c.loop-e.functions.items
          c.push_units.new.functions.items
          (subst (λ (k : ℕ). AddsFirst (kept_normal c.args.normals.now c.args.part_of.now) [] k c.loop-e.functions.items) last c.loop-e.invariant)
          (subst (λ (n : ℕ). AddsFirst (kept_unit n) c.loop-e.functions.items c.args.parts c.push_units.new.functions.items) dim
          c.in_ok-push_units.ensures)),
    )

pub returns-clause-functions : goal.returns-clause-functions
returns-clause-functions c =
    let last : c.loop-e.e ≡ length c.args.normals.now = omega (arith, c.loop-e.auto.e-end, c.loop-e-test.false) in
    let dim : c.dim.result ≡ dimension_of c.args.normals.now = c.dim.ensures.value
    ∙ dimension_first c.args.normals.now c.index-normals-0.result c.requires.some c.index-normals-0.is in
    sorted_functions (dimension_of c.args.normals.now) c.args.normals.now c.args.part_of.now c.args.parts c.push_units.new.functions.items
    c.ascending_functions.new.functions.items c.ascending_functions.ensures.members
    (both_kinds (dimension_of c.args.normals.now) c.args.normals.now c.args.part_of.now c.args.parts c.loop-e.functions.items
    c.push_units.new.functions.items
    (subst (λ (k : ℕ). AddsFirst (kept_normal c.args.normals.now c.args.part_of.now) [] k c.loop-e.functions.items) last c.loop-e.invariant)
    (subst (λ (n : ℕ). AddsFirst (kept_unit n) c.loop-e.functions.items c.args.parts c.push_units.new.functions.items) dim
    c.in_ok-push_units.ensures))
