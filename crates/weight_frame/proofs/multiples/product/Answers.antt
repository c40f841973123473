use Rattle.std.proofs.Common.{◌≡◌, SFits, w64, rules, ◌∙◌}
use Rattle.std.specs.Int.{w128}
use Rattle.std.proofs.lemmas.Int.{to_z-of_z}
use Rattle.weight_frame.proofs.Bounds.{product_exact, product_small}
use Rattle.weight_frame.proofs.multiples.product.Goals as goal

pub returns : goal.returns
returns c =
    let left : SFits w128 c.args.p = search rules in
    let right : SFits w64 c.args.a = search rules in
    let same : c.from.result ≡ c.args.a = c.from.ensures ∙ to_z-of_z w64 c.args.a right in
    let middle : SFits w128 c.from.result = search rules in
    record {
      value = simp to_z-of_z (product_exact c.args.p c.args.a c.from.result same c.requires.multiplier c.requires.entry);
      bound = simp to_z-of_z (product_small c.args.p c.args.a c.from.result same c.requires.multiplier c.requires.entry);
    }
