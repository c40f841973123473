use Rattle.std.proofs.Common.{◌≡◌, ◌^◌, ◌<◌, ◌≤◌, ◌+ℤ◌, ℤ, pos, neg_ℤ, length, rules, arith, inr, sym, ap, ◌∙◌, subst, SFits}
use Rattle.std.specs.Prelude.{nat_abs}
use Rattle.std.specs.Int.{w128}
use Rattle.std.proofs.lemmas.Int.{ints, to_z-of_z, fits_signed_from_abs}
use Rattle.lattice_theory.specs.Affine.{value}
use Rattle.lattice_core.proofs.Combinations.{normal_absolute_sum, value_small, value_is}
use Rattle.lattice_core.proofs.combination.absolute_value.Goals as goal
use Rattle.lattice_core.proofs.combination.absolute_value.Goals.{After-constant}
use Rattle.lattice_core.proofs.Widths.{small_fits}

pub pair-pairing-requires-clause-small : goal.pair-pairing-requires-clause-small
pair-pairing-requires-clause-small c =
    let most = subst (λ xs. length xs ≤ 6) c.entries.ensures.value c.entries.ensures.most in
    inr (rw c.normal.ensures.value
    (normal_absolute_sum (length c.args.p.now) c.args.f.now.normal most c.requires.dimension c.requires.entries))

-- the sum of the two parts is the value
total_is : (c : After-constant) → c.pair-pairing.result +ℤ c.constant.result ≡ value c.args.f.now c.args.p.now
total_is c = value_is c.args.f.now c.args.p.now _ _ _ _ c.entries.ensures.value c.normal.ensures.value c.pair-pairing.ensures.value
    c.constant.ensures

-- and small
total_small : (c : After-constant) → nat_abs (c.pair-pairing.result +ℤ c.constant.result) < 2 ^ 76
total_small c = rw (total_is c) (value_small c.args.p.now c.args.f.now c.requires)

opposite_fits : (a : ℤ) → nat_abs a < 2 ^ 76 → SFits w128 (neg_ℤ a)
opposite_fits a h = fits_signed_from_abs w128 (neg_ℤ a) (omega (arith, ints))

absolute_fits : (a : ℤ) → nat_abs a < 2 ^ 76 → SFits w128 (pos (nat_abs a))
absolute_fits a h = fits_signed_from_abs w128 (pos (nat_abs a)) (omega (arith, ints))

pub overflow_add-pairing : goal.overflow_add-pairing
overflow_add-pairing c =
    let first : SFits w128 c.pair-pairing.result = search rules in
    let second : SFits w128 c.constant.result = search rules in
    simp to_z-of_z (small_fits (c.pair-pairing.result +ℤ c.constant.result) (let small = total_small c in omega arith))

pub abs-requires : goal.abs-requires
abs-requires c =
    let first : SFits w128 c.pair-pairing.result = search rules in
    let second : SFits w128 c.constant.result = search rules in
    let sum : SFits w128 (c.pair-pairing.result +ℤ c.constant.result) = small_fits _ (let small = total_small c in omega arith) in
    simp to_z-of_z (opposite_fits (c.pair-pairing.result +ℤ c.constant.result) (total_small c))

pub returns : goal.returns
returns c =
    let first : SFits w128 c.pair-pairing.result = search rules in
    let second : SFits w128 c.constant.result = search rules in
    let total = value_is c.args.f.now c.args.p.now _ _ _ _ c.entries.ensures.value c.normal.ensures.value c.pair-pairing.ensures.value
    c.constant.ensures in
    let small = subst (λ (a : ℤ). nat_abs a < 2 ^ 76) (sym total) (value_small c.args.p.now c.args.f.now c.requires) in
    let sum : SFits w128 (c.pair-pairing.result +ℤ c.constant.result) = small_fits _ (omega arith) in
    let answer : SFits w128 c.abs.result = search rules in
    let absolute = simp to_z-of_z at c.abs.ensures.value in
    simp to_z-of_z (absolute ∙ ap (λ (a : ℤ). pos (nat_abs a)) total)
