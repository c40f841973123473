use Rattle.std.proofs.Common.{◌≡◌, ◌∙◌, ℕ, ◌+◌, ◌^◌, ◌≤◌, length, refl, sym, subst, arith}
use Rattle.lattice_core.specs.Weights.{weighted_all}
use Rattle.weight_enum.specs.Systems.{AreSystemsOfDegree}
use Rattle.weight_enum.specs.declared.search.Listed.{Listed}
use Rattle.weight_enum.proofs.Places.{next_place}
use Rattle.weight_enum.proofs.search.fill.Goals as goal

pub loop-degree-preserved : goal.loop-degree-preserved
loop-degree-preserved c =
    let old : Listed = c.loop-degree.listed in
    let degree = c.loop-degree.degree in
    let new : Listed = record { next = degree + 1; systems = c.in_ok-listed.field-0; place = 0 } in
    let same : old.next ≡ degree = c.loop-degree.invariant.next in
    let past : length old.systems.items ≤ old.place = omega arith in
    let within : old.next ≤ c.args.high = omega (arith, same) in
    let many : length c.in_ok-listed.field-0.items ≤ 2 ^ 64 = omega arith in
    let from : c.from.result ≡ old.next = c.from.ensures ∙ sym same in
    let systems : AreSystemsOfDegree old.next (c.args.dim + 1) (weighted_all c.in_ok-listed.field-0.items) =
    subst (λ (d : ℕ). AreSystemsOfDegree d (c.args.dim + 1) (weighted_all c.in_ok-listed.field-0.items)) from c.in_ok-listed.ensures in
    record {
      next = refl;
      kept = λ low given p. next_place c.args.dim low c.args.high given old new (c.loop-degree.invariant.kept low given p) past within systems many
          (omega (arith, same)) refl;
    }
