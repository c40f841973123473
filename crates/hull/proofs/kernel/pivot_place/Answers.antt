use Rattle.std.proofs.Common.{SFits, sym, ap, ◌∙◌, rules}
use Rattle.std.specs.Int.{w128}
use Rattle.lattice_theory.specs.Vector.{dot}
use Rattle.hull.proofs.Arithmetic.{nonzero_from, zero_from}
use Rattle.hull.proofs.Kernels.{member_entries, entries_at_most}
use Rattle.hull.proofs.Pivots.{pivot_found, annihilated_more, annihilated_all}
use Rattle.hull.proofs.kernel.pivot_place.Goals as goal
use Rattle.hull.proofs.kernel.pivot_place.Goals.{After-pairing}

pub pairing-requires-clause-entries : goal.pairing-requires-clause-entries
pairing-requires-clause-entries c =
    entries_at_most _ _ c.vector.ensures
    (member_entries _ c.args.kernel.now c.requires.some c.requires.most c.requires.kernel c.index-kernel-place.result
    (c.loop-place.place, c.loop-place-test.true, sym c.index-kernel-place.is))

pub returns-then-pairing-ne0 : goal.returns-then-pairing-ne0
returns-then-pairing-ne0 c =
    let value = c.pairing.ensures.value ∙ ap (λ x. dot x c.args.v.now) c.vector.ensures in
    pivot_found c.args.kernel.now c.args.v.now c.loop-place.place c.index-kernel-place.result c.loop-place-test.true c.index-kernel-place.is
    c.loop-place.invariant (λ e. nonzero_from c.pairing.result c.if-pairing-ne0.true (value ∙ e))

pub loop-place-preserved : goal.loop-place-preserved
loop-place-preserved c =
    let fits : SFits w128 c.pairing.result = search rules in
    let value = c.pairing.ensures.value ∙ ap (λ x. dot x c.args.v.now) c.vector.ensures in
    annihilated_more c.args.kernel.now c.args.v.now c.loop-place.place c.index-kernel-place.result c.loop-place-test.true
    c.index-kernel-place.is c.loop-place.invariant (sym value ∙ zero_from c.pairing.result fits c.if-pairing-ne0.false)

pub returns : goal.returns
returns c = annihilated_all c.args.kernel.now c.args.v.now c.loop-place.place c.loop-place-test.false c.loop-place.invariant
