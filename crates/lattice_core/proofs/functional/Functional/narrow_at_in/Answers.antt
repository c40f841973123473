use Rattle.std.proofs.Common.{◌≡◌, ◌+ℤ◌, ap, ap₂, ◌∙◌, rules, SFits, w64}
use Rattle.std.specs.Int.{w128}
use Rattle.std.proofs.lemmas.Int.{to_z-of_z}
use Rattle.lattice_theory.specs.Vector.{dot}
use Rattle.lattice_theory.specs.Affine.{Affine}
use Rattle.lattice_core.proofs.ValueSizes.{narrow_pairing, narrow_value_fits, narrow_constant_fits}
use Rattle.lattice_core.proofs.functional.Functional.narrow_at_in.Goals as goal

pub narrow_pair_of-requires-clause-small : goal.narrow_pair_of-requires-clause-small
narrow_pair_of-requires-clause-small c =
    rw (c.normal.ensures.value, c.entries.ensures.value) (narrow_pairing c.args.self.now c.args.p.now c.requires.fits)

pub overflow_add-result : goal.overflow_add-result
overflow_add-result c =
    let constant_is : c.self.inside.constant ≡ c.args.self.now.constant = ap (λ (f : Affine). f.constant) c.self.view_is in
    let pairing_is = c.narrow_pair_of.ensures ∙ ap₂ dot c.normal.ensures.value c.entries.ensures.value in
    let pairing : SFits w64 c.narrow_pair_of.result = search rules in
    let wide : SFits w128 c.self.inside.constant = search rules in
    let constant : SFits w64 c.self.inside.constant = rw constant_is (narrow_constant_fits c.args.self.now c.args.p.now c.requires.fits) in
    simp to_z-of_z (rw (pairing_is, constant_is) (narrow_value_fits c.args.self.now c.args.p.now c.requires.fits))

pub returns : goal.returns
returns c =
    let constant_is : c.self.inside.constant ≡ c.args.self.now.constant = ap (λ (f : Affine). f.constant) c.self.view_is in
    let pairing_is = c.narrow_pair_of.ensures ∙ ap₂ dot c.normal.ensures.value c.entries.ensures.value in
    let pairing : SFits w64 c.narrow_pair_of.result = search rules in
    let wide : SFits w128 c.self.inside.constant = search rules in
    let constant : SFits w64 c.self.inside.constant = rw constant_is (narrow_constant_fits c.args.self.now c.args.p.now c.requires.fits) in
    let sum : SFits w64 (c.narrow_pair_of.result +ℤ c.self.inside.constant) =
    rw (pairing_is, constant_is) (narrow_value_fits c.args.self.now c.args.p.now c.requires.fits) in
    simp to_z-of_z (ap₂ (λ a b. a +ℤ b) pairing_is constant_is)
