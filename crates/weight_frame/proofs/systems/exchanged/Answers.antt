use Rattle.std.proofs.Common.{◌≡◌, length, arith, rules}
use Rattle.std.proofs.lemmas.List.{drop_all}
use Rattle.lattice_core.specs.Weights.{weighted}
use Rattle.weight_frame.specs.Frame.{IsZeroVector}
use Rattle.weight_frame.proofs.Reaching.{reached_none, above_drop, reached_end, sized_from_all}
use Rattle.weight_frame.proofs.systems.exchanged.Goals as goal

pub loop-i-init : goal.loop-i-init
loop-i-init c =
    let n = length c.args.system.now.weights.items in
    let count : c.len.result ≡ n = search rules in
    let zero : IsZeroVector n c.zero_vector.result = rw count at c.zero_vector.ensures.zero in
    rw (drop_all (length c.args.us.now) c.args.us.now (omega arith), c.new.ensures)
    (reached_none n (weighted c.args.system.now) c.zero_vector.result zero c.zero_vector.ensures.within)

pub loop-i-preserved : goal.loop-i-preserved
loop-i-preserved c = c.in-Ok.ensures

pub returns-in-Err : goal.returns-in-Err
returns-in-Err c = above_drop (length c.args.system.now.weights.items) (weighted c.args.system.now) _ c.args.us.now c.in-Err.told
    (sized_from_all (length c.args.system.now.weights.items) c.args.us.now c.requires.small.dimension) c.in-Err.ensures

pub returns : goal.returns
returns c = reached_end (length c.args.system.now.weights.items) (weighted c.args.system.now) c.args.us.now c.loop-i.i _ _ _
    (omega arith) c.loop-i.invariant
