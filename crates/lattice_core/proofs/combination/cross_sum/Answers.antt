use Rattle.std.proofs.Common.{◌≤◌, length, rules, sym, ap, ◌∙◌, subst, SFits}
use Rattle.std.specs.Int.{w128}
use Rattle.std.proofs.lemmas.Int.{to_z-of_z}
use Rattle.lattice_core.proofs.Combinations.{products_small, cross_from}
use Rattle.lattice_core.proofs.combination.cross_sum.Goals as goal

pub sum_of_multiples-requires : goal.sum_of_multiples-requires
sum_of_multiples-requires c =
    let p = c.args.p.now in
    let f = c.args.f.now in
    let g = c.args.g.now in
    let left : SFits w128 c.absolute_value-left.result = search rules in
    let right : SFits w128 c.absolute_value-right.result = search rules in
    let some : 1 ≤ length p = subst (λ n. 1 ≤ n) (ap length c.normal.ensures.value ∙ c.requires.left.dimension) c.normal.ensures.least in
    let first = products_small p f g _ some c.requires.left c.requires.right c.absolute_value-left.ensures in
    let second = products_small p g f _ some c.requires.right c.requires.left c.absolute_value-right.ensures in
    record {
      same_length = ap length c.normal.ensures.value ∙ c.requires.left.dimension ∙ sym c.requires.right.dimension
          ∙ sym (ap length c.normal-2.ensures.value);
      most = c.normal.ensures.most;
      first = simp to_z-of_z (rw c.normal.ensures.value first);
      second = simp to_z-of_z (rw c.normal-2.ensures.value second);
    }

pub returns : goal.returns
returns c =
    let left : SFits w128 c.absolute_value-left.result = search rules in
    let right : SFits w128 c.absolute_value-right.result = search rules in
    let entries = simp to_z-of_z at c.sum_of_multiples.ensures.entries in
    let same = c.sum_of_multiples.ensures.length in
    record {
      length = same ∙ ap length c.normal.ensures.value ∙ c.requires.left.dimension;
      least = subst (λ n. 1 ≤ n) (sym same) c.normal.ensures.least;
      most = subst (λ n. n ≤ 6) (sym same) c.normal.ensures.most;
      entries = cross_from c.args.f.now c.args.g.now c.args.p.now _ _ _ _ _ c.normal.ensures.value c.normal-2.ensures.value
          c.absolute_value-left.ensures c.absolute_value-right.ensures entries;
      small = c.sum_of_multiples.ensures.small;
    }
