use Rattle.std.proofs.Common.{◌≡◌, ◌++◌, ◌∷◌, [], length, ⊎_elim, sym, subst, Contains}
use Rattle.std.proofs.lemmas.List.Elements.{All-contains}
use Rattle.lattice_core.specs.Dimensions.{dimension_of}
use Rattle.lattice_core.specs.Limits.{IsSized}
use Rattle.hull_growth.proofs.Small.{fewer_sized, one_more}
use Rattle.hull.proofs.builder.grow_within.Goals as goal

pub grow-requires-clause-within : goal.grow-requires-clause-within
grow-requires-clause-within c =
    let p = c.args.p.now in
    let points = c.args.points.now in
    let corners = c.args.growth.now.corners in
    fewer_sized (length p) (corners ++ (p ∷ [])) points
    (λ x m. ⊎_elim (λ (i : Contains corners x). c.requires.among x i) (λ (i : x ≡ p). subst (Contains points) (sym i) c.requires.member)
    ((one_more corners p x).0 m))
    (subst (λ n. IsSized n points)
    (sym (All-contains (λ q. length q ≡ dimension_of points) points p c.requires.points.one_dimension c.requires.member))
    c.in_ok-sized.ensures.sized.within)
