use Rattle.std.proofs.Common.{◌≡◌, ◌∙◌, ◌≤◌, ap, get_or, arith}
use Rattle.lattice_core.specs.declared.weights.WeightSystem.{WeightSystem}
use Rattle.item_points.proofs.LineNumbers.{degree_within_at, product_behind, product_step, product_small}
use Rattle.item_points.proofs.weights.degree_product.Goals as goal

degree_is : (c : goal.After-from-product)
    → c.from-product.result ≡ (get_or c.args.systems.now c.loop-system.system-index c.system-item.result).degree
degree_is c = c.from-product.ensures ∙ ap (λ (s : WeightSystem). s.degree) c.system-item.is

degree_small : (c : goal.After-from-product) → c.from-product.result ≤ 32_767
degree_small c = rw (degree_is c)
    (degree_within_at c.args.systems.now c.loop-system.system-index c.system-item.result c.requires.degrees c.loop-system-test.true)

pub overflow_mul-product : goal.overflow_mul-product
overflow_mul-product c =
    let few = c.requires.few in
    record {
      fits = product_small c.loop-system.system-index c.loop-system.product c.from-product.result
          (omega arith) c.loop-system.invariant.small (degree_small c);
    }

pub loop-system-preserved : goal.loop-system-preserved
loop-system-preserved c =
    let i = c.loop-system.system-index in
    let product = c.loop-system.product in
    record {
      value = c.loop-system.invariant.value
          ∙ rw (degree_is c) (product_behind c.args.systems.now i product c.system-item.result c.loop-system-test.true);
      small = product_step i product c.from-product.result c.loop-system.invariant.small (degree_small c);
    }
