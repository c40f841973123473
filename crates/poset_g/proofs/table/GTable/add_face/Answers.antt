use Rattle.std.proofs.Common.{pos, ◌%◌, ◌==◌, sym, ◌∙◌}
use Rattle.lattice_theory.specs.Vector.{entry}
use Rattle.small_poly.specs.Tables.{laurent_of, unit_of, term}
use Rattle.poset_g.specs.TermSteps.{kept_term_at}
use Rattle.poset_g.proofs.NumberedFaces.{told_below}
use Rattle.poset_g.proofs.IntervalTerms.{none_below, none_above, told_fits, told_term, term_size, sum_fits, small_power, told_added, told_size}
use Rattle.poset_g.proofs.table.GTable.add_face.Goals as goal

pub returns-then-not-below-clause-value : goal.returns-then-not-below-clause-value
returns-then-not-below-clause-value c p q = none_below c.args.table.now c.args.x c.args.y c.args.face p q (laurent_of c.args.sum.now p q)
    (sym (told_below c.args.table.now c.requires.faces c.args.x c.args.face c.below.result c.requires.x c.below.ensures) ∙ c.if-not-below.true)

pub returns-then-not-below-2-clause-value : goal.returns-then-not-below-2-clause-value
returns-then-not-below-2-clause-value c p q = none_above c.args.table.now c.args.x c.args.y c.args.face p q (laurent_of c.args.sum.now p q)
    (sym (told_below c.args.table.now c.requires.faces c.args.face c.args.y c.below-2.result c.requires.face c.below-2.ensures) ∙ c.if-not-below-2.true)

pub add_term-requires-clause-low : goal.add_term-requires-clause-low
add_term-requires-clause-low c = (told_fits c.args.table.now c.requires.faces c.requires.ranks c.args.self.now c.requires.holds c.args.x c.args.face c.args.y
    (record {
      from = c.requires.x;
      to = c.requires.face;
      below = sym
          (told_below c.args.table.now c.requires.faces c.args.x c.args.face c.below.result c.requires.x c.below.ensures) ∙ c.if-not-below.false;
    })
    (record {
      from = c.requires.face;
      to = c.requires.y;
      below = sym
          (told_below c.args.table.now c.requires.faces c.args.face c.args.y c.below-2.result c.requires.face c.below-2.ensures) ∙ c.if-not-below-2.false;
    })
    c.g-left.result c.g_dual-right.result c.g-left.ensures.value c.g_dual-right.ensures.value c.rank-rank.result c.rank-rank.ensures (unit_of (c.rank-rank.result % 2 == 1))).0

pub add_term-requires-clause-high : goal.add_term-requires-clause-high
add_term-requires-clause-high c = (told_fits c.args.table.now c.requires.faces c.requires.ranks c.args.self.now c.requires.holds c.args.x c.args.face c.args.y
    (record {
      from = c.requires.x;
      to = c.requires.face;
      below = sym
          (told_below c.args.table.now c.requires.faces c.args.x c.args.face c.below.result c.requires.x c.below.ensures) ∙ c.if-not-below.false;
    })
    (record {
      from = c.requires.face;
      to = c.requires.y;
      below = sym
          (told_below c.args.table.now c.requires.faces c.args.face c.args.y c.below-2.result c.requires.face c.below-2.ensures) ∙ c.if-not-below-2.false;
    })
    c.g-left.result c.g_dual-right.result c.g-left.ensures.value c.g_dual-right.ensures.value c.rank-rank.result c.rank-rank.ensures (unit_of (c.rank-rank.result % 2 == 1))).1

pub add_term-requires-clause-products : goal.add_term-requires-clause-products
add_term-requires-clause-products c a b = small_power (entry c.g-left.result a) (entry c.g_dual-right.result b) (c.g-left.ensures.small a) (c.g_dual-right.ensures.small b)

pub add_term-requires-clause-small : goal.add_term-requires-clause-small
add_term-requires-clause-small c i j = sum_fits c.args.face (laurent_of c.args.sum.now (pos i) j) (term (unit_of
    (c.rank-rank.result % 2 == 1)) c.rank-rank.result (entry c.g-left.result) (entry c.g_dual-right.result) (pos i) j) c.requires.few (c.requires.small i j)
    (term_size (c.rank-rank.result % 2 == 1) c.rank-rank.result i j c.g-left.result c.g_dual-right.result c.g-left.ensures.small c.g_dual-right.ensures.small)

pub returns-clause-small : goal.returns-clause-small
returns-clause-small c i j = told_size (laurent_of c.add_term.new.self (pos i) j) (laurent_of c.args.sum.now (pos i) j) (term (unit_of
    (c.rank-rank.result % 2 == 1)) c.rank-rank.result (entry c.g-left.result) (entry c.g_dual-right.result) (pos i) j) c.args.face
    (c.add_term.ensures (pos i) j) (c.requires.small i j)
    (term_size (c.rank-rank.result % 2 == 1) c.rank-rank.result i j c.g-left.result c.g_dual-right.result c.g-left.ensures.small c.g_dual-right.ensures.small)

pub returns-clause-value : goal.returns-clause-value
returns-clause-value c p q = told_added (laurent_of c.add_term.new.self p q) (laurent_of c.args.sum.now p q) (term (unit_of
    (c.rank-rank.result % 2 == 1)) c.rank-rank.result (entry c.g-left.result) (entry c.g_dual-right.result) p q)
    (kept_term_at c.args.table.now c.args.x c.args.y c.args.face p q) (c.add_term.ensures p q)
    (told_term c.args.table.now c.requires.faces c.requires.ranks c.args.self.now c.requires.holds c.args.x c.args.face c.args.y
    (record {
      from = c.requires.x;
      to = c.requires.face;
      below = sym
          (told_below c.args.table.now c.requires.faces c.args.x c.args.face c.below.result c.requires.x c.below.ensures) ∙ c.if-not-below.false;
    })
    (record {
      from = c.requires.face;
      to = c.requires.y;
      below = sym
          (told_below c.args.table.now c.requires.faces c.args.face c.args.y c.below-2.result c.requires.face c.below-2.ensures) ∙ c.if-not-below-2.false;
    })
    c.g-left.result c.g_dual-right.result c.g-left.ensures.value c.g_dual-right.ensures.value c.rank-rank.result c.rank-rank.ensures p q)
