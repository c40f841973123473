use Rattle.std.proofs.Common.{[], ◌∷◌, refl}
use Rattle.weight_frame.proofs.PlainSystems.{formed_one}
use Rattle.item_polytopes.proofs.tests.plane.Goals as goal

pub returns : goal.returns
returns c =
    rw (c.in_ok-vec-2.ensures.items, c.in_ok-vec.ensures.items) (formed_one (record { degree = 3; weights = 1 ∷ 1 ∷ 1 ∷ [] }) refl)
