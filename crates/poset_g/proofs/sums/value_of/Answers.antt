use Rattle.std.proofs.Common.{rules, SFits, ◌<◌, ◌≤◌, ◌*◌, ℕ, List, sym, ap, ◌∙◌, arith}
use Rattle.std.specs.Int.{w64}
use Rattle.std.proofs.lemmas.Int.{to_z-of_z}
use Rattle.poset_g.specs.Values.{gap_of}
use Rattle.poset_g.specs.FillSteps.{place_of, negative_sum}
use Rattle.poset_g.proofs.Terms.{rank_up}
use Rattle.poset_g.proofs.IntervalSums.{low_at, high_at}
use Rattle.poset_g.proofs.sums.value_of.Goals as goal

pub overflow_sub-upper : goal.overflow_sub-upper
overflow_sub-upper c = let r = rank_up c.args.table.now c.requires.ready.faces c.args.wanted.from c.args.wanted.to c.requires.interval in
    let e = c.rank-upper.ensures in let f = c.rank-lower.ensures in omega arith

pub returns-then-wanted-upper : goal.returns-then-wanted-upper
returns-then-wanted-upper c =
    let fits : SFits w64 c.sum_of.result = search rules in
    let l : 2 * c.args.wanted.degree < gap_of c.args.table.now (place_of c.args.wanted) =
    let t = c.if-wanted-upper.true in let e = c.rank-upper.ensures in let f = c.rank-lower.ensures in omega arith in
    record {
      value = simp to_z-of_z (c.sum_of.ensures.value ∙ ap (λ (zs : List ℕ). negative_sum c.args.table.now (place_of c.args.wanted) zs) c.requires.faces
          ∙ low_at c.args.table.now c.requires.ready.faces c.args.places.now c.requires.ready.places (place_of c.args.wanted) c.requires.interval c.if-wanted.false l);
    }

pub returns-else-wanted-upper : goal.returns-else-wanted-upper
returns-else-wanted-upper c =
    let l : gap_of c.args.table.now (place_of c.args.wanted) ≤ 2 * c.args.wanted.degree =
    let t = c.if-wanted-upper.false in let e = c.rank-upper.ensures in let f = c.rank-lower.ensures in omega arith in
    record { value = sym (high_at c.args.table.now c.requires.ready.faces (place_of c.args.wanted) c.requires.interval c.if-wanted.false l) }
