use Rattle.std.proofs.Common.{◌≡◌, length, pos, of_z, SFits, w64, refl, sym, ap, ◌∙◌, rules, arith}
use Rattle.std.proofs.lemmas.Bool.{false≢true}
use Rattle.lattice_core.specs.Weights.{weighted, weighted_degree}
use Rattle.weight_frame.proofs.StepAnswers.{zero_from}
use Rattle.weight_frame.proofs.Usable.{usable_at, at_system, vanish_more, vanish_all}
use Rattle.weight_frame.proofs.coordinates.is_inside.Goals as goal

pub weighted_value-requires-clause-same : goal.weighted_value-requires-clause-same
weighted_value-requires-clause-same c = let u =
    usable_at c.args.systems.now c.loop-system.system-index c.system-item.result c.loop-system-test.true c.system-item.is c.requires.formed
    c.requires.limited in ap length c.deref.ensures.value ∙ u.columns ∙ sym c.requires.columns

pub weighted_value-requires-clause-weights : goal.weighted_value-requires-clause-weights
weighted_value-requires-clause-weights c = let u =
    usable_at c.args.systems.now c.loop-system.system-index c.system-item.result c.loop-system-test.true c.system-item.is c.requires.formed
    c.requires.limited in rw c.deref.ensures.value u.small

pub loop-system-init : goal.loop-system-init
loop-system-init c = λ k d h. absurd (omega arith)

pub returns-then-weighted_value-ne0 : goal.returns-then-weighted_value-ne0
returns-then-weighted_value-ne0 c =
    let fits : SFits w64 c.weighted_value.result = search rules in
    let value : c.weighted_value.result ≡ weighted_degree (weighted c.system-item.result) c.args.x.now =
    rw c.deref.ensures.value at c.weighted_value.ensures.value in (
      λ e. absurd (false≢true e),
      λ h.
          absurd (c.if-weighted_value-ne0.true
          (ap (of_z w64) (value ∙ at_system (λ s. weighted_degree s c.args.x.now ≡ pos 0) c.args.systems.now c.loop-system.system-index
          c.system-item.result c.loop-system-test.true c.system-item.is h.vanish))),
    )

pub loop-system-preserved : goal.loop-system-preserved
loop-system-preserved c =
    let fits : SFits w64 c.weighted_value.result = search rules in
    let value : c.weighted_value.result ≡ weighted_degree (weighted c.system-item.result) c.args.x.now =
    rw c.deref.ensures.value at c.weighted_value.ensures.value in
    vanish_more c.args.systems.now c.loop-system.system-index c.system-item.result c.args.x.now c.loop-system-test.true c.system-item.is
    (sym value ∙ zero_from c.weighted_value.result fits c.if-weighted_value-ne0.false) c.loop-system.invariant

pub returns : goal.returns
returns c = (
  λ _. record {
    columns = c.requires.columns;
    vanish = vanish_all c.args.systems.now c.loop-system.system-index c.args.x.now (omega arith) c.loop-system.invariant;
  },
  λ _. refl,
)
