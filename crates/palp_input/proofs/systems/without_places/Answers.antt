use Rattle.std.proofs.Common.{ℕ, List, [], get_or, ap}
use Rattle.palp_input.specs.declared.systems.PlacedSystem.{PlacedSystem}
use Rattle.palp_input.proofs.WeightLines.{placed_more}
use Rattle.palp_input.proofs.systems.without_places.Goals as goal

none : PlacedSystem
none = record { degree = record { at = 0; value = 0 }; weights = record { ref_ptr = (0, 0); now = [] } }

pub loop-system-preserved : goal.loop-system-preserved
unfolding none
loop-system-preserved c =
    placed_more c.loop-system.items.items c.push.new.self.items c.args.systems.now c.loop-system.system-index none _
    c.loop-system.invariant c.loop-system-test.true c.in_ok-push.ensures.items
    (ap (λ (ws : List ℕ). record { degree = (get_or c.args.systems.now c.loop-system.system-index none).degree.value; weights = ws })
    c.in_ok-weights.ensures)
