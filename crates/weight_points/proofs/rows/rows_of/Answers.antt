use Rattle.std.proofs.Common.{◌≡◌, ◌+◌, ◌++◌, ◌∙◌, ◌≤◌, List, [], ◌∷◌, sym, ap, subst, take}
use Rattle.std.specs.List.{All}
use Rattle.std.proofs.lemmas.List.{map-append, map_more}
use Rattle.std.proofs.lemmas.List.Elements.{All-push}
use Rattle.lattice_core.specs.Weights.{Weighted, weighted, weighted_all}
use Rattle.lattice_core.specs.declared.weights.WeightSystem.{WeightSystem}
use Rattle.lattice_core.specs.declared.limits.TheConstants.{MOST_DEGREE}
use Rattle.weight_points.specs.declared.rows.Row.{Row}
use Rattle.weight_points.specs.steps.Rows.{system_of, systems_of, IsFresh}
use Rattle.weight_points.proofs.Weighing.{all_unmap}
use Rattle.weight_points.proofs.rows.rows_of.Goals as goal

pub row_of-requires : goal.row_of-requires
row_of-requires c =
    let small = all_unmap (λ (s : Weighted). s.degree ≤ MOST_DEGREE) weighted c.args.systems.now c.requires in
    rw c.system-item.is (small c.loop-system.system-index c.system-item.result c.loop-system-test.true)

pub loop-system-preserved : goal.loop-system-preserved
loop-system-preserved c =
    let systems = c.args.systems.now in
    let i = c.loop-system.system-index in
    let rows = c.loop-system.rows.items in
    let row = c.in_ok-row_of.field-0 in
    let item = c.system-item.result in
    let pushed = c.in_ok-push.ensures.items in
    let more : weighted_all (take (i + 1) systems) ≡ weighted_all (take i systems) ++ weighted item ∷ [] =
    map_more weighted systems i item c.loop-system-test.true ∙ ap (λ (s : WeightSystem). weighted_all (take i systems) ++ weighted s ∷ [])
    (sym c.system-item.is) in
    let same : systems_of rows ++ system_of row ∷ [] ≡ weighted_all (take i systems) ++ weighted item ∷ [] =
    ap (λ (ss : List Weighted). ss ++ system_of row ∷ []) c.loop-system.invariant.systems
    ∙ ap (λ (s : Weighted). weighted_all (take i systems) ++ s ∷ []) c.in_ok-row_of.ensures.system in
    record {
      systems = ap systems_of pushed ∙ (map-append system_of rows (row ∷ []) ∙ (same ∙ sym more));
      fresh = subst (All IsFresh) (sym {A = List Row} pushed)
          (All-push IsFresh rows row c.loop-system.invariant.fresh c.in_ok-row_of.ensures.fresh);
    }
