use mir.Val.{to_z, of_z}
use mir.Syntax.{w128}
use Rattle.std.specs.Prelude.{ℤ, ◌*ℤ◌, ◌≤ℤ◌, pos, ◌<ℤ◌}
use Rattle.std.specs.Int.{int_div_euclid}
use Rattle.std.proofs.Common.{◌≡◌, arith, SFits, w64, ap₂, ◌∙◌}
use Rattle.std.proofs.lemmas.Int.{ints}
use Rattle.region_walk.proofs.Quotients.{euclid_floor}
use Rattle.region_walk.proofs.spans.floor_quotient.Goals as goal

-- the same told by an equation
floor_moved : (a b q : ℤ) → pos 0 <ℤ b → q ≡ int_div_euclid a b → (v : ℤ) → ((b *ℤ v) ≤ℤ a → v ≤ℤ q) × (v ≤ℤ q → (b *ℤ v) ≤ℤ a)
floor_moved a b q h e v = rw e (euclid_floor a b v h)

pub returns-in-Ok-Ok : goal.returns-in-Ok-Ok
returns-in-Ok-Ok c =
    let a = c.in-Ok-Ok.a in
    let b = c.in-Ok-Ok.b in
    let first = c.in-Ok-Ok.ensures in
    let second = c.in-Ok-Ok.ensures' in
    let fa : SFits w128 c.args.a = c.ranges.a in
    let fb : SFits w128 c.args.b = c.ranges.b in
    let a_is : to_z w64 (of_z w64 a) ≡ c.args.a = omega (arith, ints) in
    let b_is : to_z w64 (of_z w64 b) ≡ c.args.b = omega (arith, ints) in
    let from_is : to_z w128 (of_z w128 c.from.result) ≡ c.div_euclid.result = omega (arith, ints) in
    floor_moved c.args.a c.args.b _ c.requires.positive (from_is ∙ c.div_euclid.ensures ∙ ap₂ int_div_euclid a_is b_is)

pub returns-in_default : goal.returns-in_default
returns-in_default c =
    let a_is : to_z w128 (of_z w128 c.args.a) ≡ c.args.a = omega (arith, ints) in
    let b_is : to_z w128 (of_z w128 c.args.b) ≡ c.args.b = omega (arith, ints) in
    let from_is : to_z w128 (of_z w128 c.div_euclid-in_default.result) ≡ c.div_euclid-in_default.result = omega (arith, ints) in
    floor_moved c.args.a c.args.b _ c.requires.positive (from_is ∙ c.div_euclid-in_default.ensures ∙ ap₂ int_div_euclid a_is b_is)
