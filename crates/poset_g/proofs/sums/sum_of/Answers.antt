use Rattle.std.proofs.Common.{rules, SFits, ◌+ℤ◌, slice_index_or, length, to_z, arith}
use Rattle.std.specs.Int.{w64}
use Rattle.std.proofs.lemmas.Int.{to_z-of_z}
use Rattle.polynomial_theory.specs.Sums.{sum_over}
use Rattle.polynomial_theory.proofs.Splits.{so_far}
use Rattle.poset_g.specs.FillSteps.{place_of, kept_term}
use Rattle.poset_g.proofs.Terms.{sum_starts, inside_at, more_terms}
use Rattle.poset_g.proofs.sums.sum_of.Goals as goal

pub loop-i-init : goal.loop-i-init
loop-i-init c = record {
  sum = sum_starts c.args.faces.now (kept_term c.args.table.now (place_of c.args.wanted));
  size = omega arith;
}

pub term_of-sum-requires-clause-first : goal.term_of-sum-requires-clause-first
term_of-sum-requires-clause-first c = (inside_at c.args.table.now c.requires.ready.faces c.args.places.now c.requires.ready.places c.args.wanted.from
    c.args.wanted.to c.loop-i.i
    c.requires.interval.from c.requires.interval.to c.args.faces.now c.requires.faces c.loop-i-test.true).0

pub term_of-sum-requires-clause-second : goal.term_of-sum-requires-clause-second
term_of-sum-requires-clause-second c = (inside_at c.args.table.now c.requires.ready.faces c.args.places.now c.requires.ready.places
    c.args.wanted.from c.args.wanted.to c.loop-i.i
    c.requires.interval.from c.requires.interval.to c.args.faces.now c.requires.faces c.loop-i-test.true).1

pub loop-i-preserved : goal.loop-i-preserved
loop-i-preserved c =
    let fits : SFits w64 c.term_of-sum.result = search rules in
    let total : SFits w64 (to_z w64 c.loop-i.sum-bits +ℤ c.term_of-sum.result) = search rules in
    record {
      sum = simp to_z-of_z (so_far (length c.args.faces.now) c.loop-i.i (λ j. kept_term c.args.table.now (place_of c.args.wanted) (slice_index_or c.args.faces.now j 0))
          (to_z w64 c.loop-i.sum-bits) c.term_of-sum.result (sum_over c.args.faces.now (kept_term c.args.table.now (place_of c.args.wanted)))
          c.loop-i-test.true c.term_of-sum.ensures.value c.loop-i.invariant.sum);
      size = simp to_z-of_z (more_terms (to_z w64 c.loop-i.sum-bits) c.term_of-sum.result c.loop-i.i c.loop-i.invariant.size c.term_of-sum.ensures.size);
    }
