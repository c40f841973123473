use Rattle.std.proofs.Common.{◌∙◌, sym, arith}
use Rattle.std.proofs.lemmas.List.{get_or_default}
use Rattle.lattice_theory.proofs.Members.{in_from_contains, contains_from_in}
use Rattle.lattice_theory.proofs.Sublists.{in_map}
use Rattle.lattice_core.specs.Weights.{weighted}
use Rattle.weight_points.proofs.monomials.tests.has_weight.Goals as goal

pub returns-then-index-gt0 : goal.returns-then-index-gt0
returns-then-index-gt0 c = λ h.
    let item = c.system-item.result in
    let within = c.if-place-len.true in
    let weight = c.index.ensures ∙ get_or_default item.weights.items c.args.place c.index.result.now 0 (omega arith) in
    record {
      system = weighted item;
      member = contains_from_in (in_map weighted (in_from_contains c.args.systems.now (
        c.loop-system.system-index,
        c.loop-system-test.true,
        sym c.system-item.is,
      )));
      positive = omega arith;
    }
