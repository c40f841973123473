use Rattle.std.proofs.Common.{length, SFits, ap, ◌∙◌, rules, arith, take}
use Rattle.std.specs.Int.{w128}
use Rattle.std.proofs.lemmas.Int.{to_z-of_z}
use Rattle.lattice_theory.specs.Vector.{dot}
use Rattle.hull.specs.steps.Kernels.{IsReducedBy}
use Rattle.hull.proofs.Kernels.{member_entries, member_length, entries_at_most}
use Rattle.hull.proofs.Pivots.{rest, in_rest, stepped_none, stepped_more, stepped_room, stepped_all, turn_can_reduce, pivot_member}
use Rattle.hull.proofs.kernel.stepped.Goals as goal

pub pairing-value-requires-clause-entries : goal.pairing-value-requires-clause-entries
pairing-value-requires-clause-entries c =
    entries_at_most _ _ c.vector.ensures
    (member_entries _ c.args.kernel.now c.requires.some c.requires.most c.requires.kernel c.index-kernel-place.result
    (pivot_member c.args.kernel.now c.args.v.now c.args.place c.index-kernel-place.result c.requires.pivot c.index-kernel-place.is))

pub loop-member-init : goal.loop-member-init
loop-member-init c = stepped_none (take c.args.place c.args.kernel.now) c.index-kernel-place.result (rest c.args.kernel.now c.args.place)
    c.args.v.now c.copies-members.result.items c.copies-members.ensures

pub pairing-requires-clause-same_length : goal.pairing-requires-clause-same_length
pairing-requires-clause-same_length c =
    ap length c.vector-in-loop-member.ensures ∙ member_length _ c.requires.kernel.vectors c.args.kernel.now c.requires.kernel.is_kernel
    c.member-item.result (in_rest c.args.kernel.now c.args.place c.loop-member.member-index c.member-item.result c.loop-member-test.true
    c.member-item.is)

pub pairing-requires-clause-entries : goal.pairing-requires-clause-entries
pairing-requires-clause-entries c =
    entries_at_most _ _ c.vector-in-loop-member.ensures
    (member_entries _ c.args.kernel.now c.requires.some c.requires.most c.requires.kernel c.member-item.result
    (in_rest c.args.kernel.now c.args.place c.loop-member.member-index c.member-item.result c.loop-member-test.true c.member-item.is))

pub reduced-requires : goal.reduced-requires
reduced-requires c =
    let fits : SFits w128 c.pairing-value.result = search rules in
    let fits_member : SFits w128 c.pairing.result = search rules in
    simp to_z-of_z (turn_can_reduce c.args.kernel.now c.args.v.now c.args.place c.loop-member.member-index c.index-kernel-place.result
    c.member-item.result c.pairing-value.result c.pairing.result c.requires.some c.requires.most c.requires.kernel c.requires.small
    c.requires.pivot
    c.index-kernel-place.is c.loop-member-test.true c.member-item.is (c.pairing-value.ensures.value
    ∙ ap (λ x. dot x c.args.v.now) c.vector.ensures)
    (c.pairing.ensures.value ∙ ap (λ x. dot x c.args.v.now) c.vector-in-loop-member.ensures))

pub push-requires : goal.push-requires
push-requires c = (
  omega arith,
  stepped_room c.args.kernel.now c.args.v.now c.args.place c.loop-member.member-index c.index-kernel-place.result
      c.loop-member.members.items c.requires.most c.requires.kernel c.loop-member-test.true c.loop-member.invariant,
)

pub loop-member-preserved : goal.loop-member-preserved
loop-member-preserved c =
    let fits : SFits w128 c.pairing-value.result = search rules in
    let fits_member : SFits w128 c.pairing.result = search rules in
    let reduced : IsReducedBy c.index-kernel-place.result c.pairing-value.result c.member-item.result c.pairing.result c.reduced.result =
    simp to_z-of_z at c.reduced.ensures in
    stepped_more _ c.index-kernel-place.result _ c.args.v.now c.loop-member.members.items c.push.new.self.items c.loop-member.member-index
    c.member-item.result c.reduced.result c.pairing-value.result c.pairing.result c.loop-member-test.true c.member-item.is
    (c.pairing-value.ensures.value ∙ ap (λ x. dot x c.args.v.now) c.vector.ensures)
    (c.pairing.ensures.value ∙ ap (λ x. dot x c.args.v.now) c.vector-in-loop-member.ensures) reduced c.push.ensures.items
    c.loop-member.invariant

pub returns : goal.returns
returns c = stepped_all c.args.kernel.now c.args.v.now c.args.place c.loop-member.member-index c.index-kernel-place.result
    c.loop-member.members.items c.index-kernel-place.is c.loop-member-test.false c.loop-member.invariant
