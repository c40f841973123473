use Rattle.std.proofs.Common.{◌∷◌, ◌++◌, [], ap, ◌∙◌, subst, ◌≤◌}
use Rattle.hull.proofs.UnitSimplexSteps.{unit_start, unit_more, stepped_small}
use Rattle.hull.proofs.simplex.unit_simplex.Goals as goal

pub top_function-requires-clause-small : goal.top_function-requires-clause-small
top_function-requires-clause-small c = stepped_small c.args.first.now c.stepped.result 0 (subst (λ n. n ≤ 6) c.dim-n.ensures.value c.dim-n.ensures.most)
    c.requires.small c.stepped.ensures

pub loop-axis-init : goal.loop-axis-init
loop-axis-init c = unit_start c.args.first.now c.stepped.result c.copied.result _ _ c.top_function.result c.copied.ensures
    (c.in_ok-push.ensures.items ∙ ap (λ xs. xs ++ (c.copied.result ∷ [])) c.in_ok-corners.ensures.items)
    (c.in_ok-push-2.ensures.items ∙ ap (λ xs. xs ++ (c.top_function.result ∷ [])) c.in_ok-functions.ensures.items)
    c.stepped.ensures c.top_function.ensures

pub loop-axis-preserved : goal.loop-axis-preserved
loop-axis-preserved c = unit_more c.args.first.now c.loop-axis.axis c.loop-axis.corners.items _ c.loop-axis.functions.items _
    c.stepped-in-loop-axis.result c.step_function.result c.stepped-in-loop-axis.ensures c.step_function.ensures c.in_ok-push-3.ensures.items
    c.in_ok-push-4.ensures.items c.loop-axis.invariant
