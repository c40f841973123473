use Rattle.std.proofs.Common.{◌≡◌, ◌∙◌, ◌-ℤ◌, pos, neg_ℤ, to_z, of_z, SFits, ap, rules, arith}
use Rattle.std.specs.Int.{w128}
use Rattle.std.proofs.lemmas.Int.{ints, to_z-of_z}
use Rattle.hull.specs.steps.Kernels.{AreMultiplesApart}
use Rattle.hull.proofs.Arithmetic.{negative_from, nonnegative_from}
use Rattle.hull.proofs.Reductions.{reduced_plain, reduced_turned}
use Rattle.hull.proofs.reduction.reduced.Goals as goal
use Rattle.hull.proofs.reduction.reduced.Goals.{then-a-lt0, else-a-lt0}

pub returns : goal.returns
returns c =
    let a : SFits w128 c.args.a = search rules in
    let b : SFits w128 c.args.b = search rules in
    let small_a = c.requires.small_a in
    let small_b = c.requires.small_b in
    elim c.if-a-lt0.branch [
      | then-a-lt0 w ↦
          let turned_a : to_z w128 (of_z w128 (pos 0 -ℤ to_z w128 (of_z w128 c.args.a))) ≡ neg_ℤ c.args.a = omega (arith, ints, small_a) in
          let turned_b : to_z w128 (of_z w128 (pos 0 -ℤ to_z w128 (of_z w128 c.args.b))) ≡ neg_ℤ c.args.b = omega (arith, ints, small_b) in
          reduced_turned c.args.pivot.now c.args.a c.args.member.now c.args.b _ _ w.vector.result.now w.vector-then-a-lt0.result.now
          w.multiples_apart-entries.result.items c.as_slice.result.now c.in-Some.vector.items c.new.result
          c.requires (negative_from c.args.a (simp to_z-of_z at w.if-a-lt0.true)) turned_a turned_b w.vector.ensures
          w.vector-then-a-lt0.ensures w.multiples_apart-entries.ensures (c.as_slice.ensures.value ∙ ap (λ v. v.items) w.entries-is)
          c.in-Some.ensures.part (c.new.ensures.own ∙ c.own.ensures) c.new.ensures.vector
      | else-a-lt0 w ↦
          let made : AreMultiplesApart c.args.a w.vector-else-a-lt0.result.now c.args.b w.vector-else-a-lt0-2.result.now
          w.multiples_apart-entries-else-a-lt0.result.items = simp to_z-of_z at w.multiples_apart-entries-else-a-lt0.ensures in
          reduced_plain c.args.pivot.now c.args.a c.args.member.now c.args.b w.vector-else-a-lt0.result.now w.vector-else-a-lt0-2.result.now
          w.multiples_apart-entries-else-a-lt0.result.items c.as_slice.result.now c.in-Some.vector.items c.new.result
          c.requires (nonnegative_from c.args.a (simp to_z-of_z at w.if-a-lt0.false)) w.vector-else-a-lt0.ensures
          w.vector-else-a-lt0-2.ensures made (c.as_slice.ensures.value ∙ ap (λ v. v.items) w.entries-is)
          c.in-Some.ensures.part (c.new.ensures.own ∙ c.own.ensures) c.new.ensures.vector
    ]
