use Rattle.std.proofs.Common.{◌≡◌, ℕ, length, subst, arith}
use Rattle.interior_point_theory.specs.Certificates.{IsSurrounded}
use Rattle.weight_certificates.proofs.Surrounding.{surroundings_surround_lem}
use Rattle.weight_enum.proofs.certificates.surround.Goals as goal
use Rattle.weight_enum.proofs.certificates.surround.Goals.{then-corners-n, else-corners-n}

pub returns-then-points-le-MOST_COUNT : goal.returns-then-points-le-MOST_COUNT
returns-then-points-le-MOST_COUNT c e =
    let columns : length c.args.corners.now ≡ c.args.n = omega arith in
    subst (λ (n : ℕ). IsSurrounded n c.args.points.now) columns
    (surroundings_surround_lem c.args.points.now c.args.corners.now _ _ (c.is_surrounding.ensures.0 e))
