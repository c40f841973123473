use Rattle.std.proofs.Common.{◌≡◌, ◌∙◌, ℕ, List, length, get_or, rules, sym, ap, subst, arith}
use Rattle.std.proofs.lemmas.List.{take_all, take_at}
use Rattle.nef_parts.specs.declared.masks.VertexMask.{VertexMask}
use Rattle.nef_parts.specs.steps.Beginnings.{IsBeginning}
use Rattle.nef_parts.specs.steps.Agreeing.{AllAgree, AgreesIn}
use Rattle.nef_parts.proofs.Giving.{nef_agree, points_are}
use Rattle.nef_parts.proofs.partitions.points_of.Goals as goal

pub write_points-requires-clause-agree : goal.write_points-requires-clause-agree
write_points-requires-clause-agree c =
    let parts = c.args.parts.now in
    let g = c.beginning_of-begin.result in
    let begins : IsBeginning parts g = subst (λ (b : List ℕ). IsBeginning b g) (take_all (length parts) parts (omega arith)) c.beginning_of-begin.ensures in
    subst (λ (ms : List VertexMask). AllAgree ms g c.args.r) (sym c.deref.ensures.value)
    (nef_agree c.args.table.now c.requires.table c.args.r c.requires.few parts g begins c.requires.nef)

pub returns : goal.returns
returns c =
    let parts = c.args.parts.now in
    let g = c.beginning_of-begin.result in
    let new = c.write_points.new.points in
    let begins : IsBeginning parts g = subst (λ (b : List ℕ). IsBeginning b g) (take_all (length parts) parts (omega arith)) c.beginning_of-begin.ensures in
    let long : length new ≡ c.args.points.now.len = search rules in
    rw (take_at new _ _ long)
    (points_are c.args.table.now c.requires.table c.args.r c.requires.few parts g begins c.requires.nef.count new
    (c.write_points.ensures.count ∙ (ap (λ (xs : List ℕ). length xs) c.as_mut_slice.ensures.value ∙ c.requires.count))
    (λ k h. subst (λ (ms : List VertexMask). AgreesIn ms g c.args.r k (get_or new k 0)) c.deref.ensures.value (c.write_points.ensures.points k h)))
