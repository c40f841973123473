use Rattle.std.proofs.Common.{◌≡◌, length, SFits, w64, sym, ap, ◌∙◌, rules}
use Rattle.std.proofs.lemmas.Int.{to_z-of_z}
use Rattle.lattice_core.specs.Weights.{weighted, weighted_degree}
use Rattle.weight_frame.specs.steps.Reached.{listed, IsStep, IsStepAbove}
use Rattle.weight_frame.proofs.Reaching.{vector_at, reached_at, above_at}
use Rattle.weight_frame.proofs.systems.with_vector.Goals as goal

pub weighted_value-value-requires : goal.weighted_value-value-requires
weighted_value-value-requires c =
    let at = vector_at (length c.args.system.now.weights.items) c.args.us.now c.args.i c.index-us-i.result c.requires.small
    c.requires.within c.index-us-i.is in
    record {
      same = ap length c.deref.ensures.value ∙ sym (ap length c.entries.ensures.value ∙ at.dimension);
      most = c.entries.ensures.most;
      weights = rw c.deref.ensures.value c.requires.usable.small;
      entries = rw c.entries.ensures.value at.within;
    }

pub returns-in-Err : goal.returns-in-Err
returns-in-Err c =
    let u = c.index-us-i.result in
    let n = length c.args.system.now.weights.items in
    let fits : SFits w64 c.weighted_value-value.result = search rules in
    let value : c.weighted_value-value.result ≡ weighted_degree (weighted c.args.system.now) u =
    rw (c.deref.ensures.value, c.entries.ensures.value) at c.weighted_value-value.ensures.value in
    let above : IsStepAbove (length u) u c.weighted_value-value.result c.args.before.last c.args.before.divisor c.in-Err.told =
    simp to_z-of_z at c.in-Err.ensures in
    above_at n (weighted c.args.system.now) c.args.us.now c.args.i u c.weighted_value-value.result c.args.before.kept.items
    c.args.before.last c.args.before.divisor c.in-Err.told c.requires.small c.requires.within c.index-us-i.is value c.requires.reached
    above

pub returns : goal.returns
returns c =
    let u = c.index-us-i.result in
    let n = length c.args.system.now.weights.items in
    let fits : SFits w64 c.weighted_value-value.result = search rules in
    let value : c.weighted_value-value.result ≡ weighted_degree (weighted c.args.system.now) u =
    rw (c.deref.ensures.value, c.entries.ensures.value) at c.weighted_value-value.ensures.value in
    let made : IsStep (length u) u c.weighted_value-value.result c.args.before.last c.args.before.divisor
    (listed c.in-Ok.made.kept) c.in-Ok.made.last c.in-Ok.made.divisor = simp to_z-of_z at c.in-Ok.ensures in
    reached_at n (weighted c.args.system.now) c.args.us.now c.args.i u c.weighted_value-value.result c.args.before.kept.items
    c.args.before.last c.args.before.divisor (listed c.in-Ok.made.kept) c.in-Ok.made.last c.in-Ok.made.divisor
    c.put_first.new.vectors.items
    c.requires.small c.requires.within c.index-us-i.is value c.requires.reached made c.put_first.ensures
