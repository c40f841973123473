use Rattle.std.proofs.Common.{◌≡◌, Bool, true, false, sym, ap, ◌∙◌, ℕ, ◌-◌, ℤ, ◌+ℤ◌, arith}
use Rattle.lattice_theory.specs.Vector.{entry}
use Rattle.polynomial_theory.specs.Sums.{sign}
use Rattle.poset_g.specs.Numbered.{numbered}
use Rattle.stringy.specs.RowSteps.{row_at, rank_at}
use Rattle.stringy.proofs.FaceSums.{nothing_more}
use Rattle.stringy.proofs.FaceTerms.{rises, found_interval, told_interval, term_none, term_added}
use Rattle.stringy.proofs.tilde.add_face.Goals as goal
use Rattle.stringy.proofs.tilde.add_face.Goals.{After-has}

-- the table of G and G' tells whether the face is on the side
below_is : (c : After-has) → (b : Bool) → c.has.result ≡ b → (numbered c.args.table.now).below c.lower-low.result c.upper-high.result ≡ b
below_is c b e = told_interval c.args.table.now c.requires.faces c.requires.ranks c.args.g.now c.requires.holds c.args.side c.args.face c.args.other
    c.lower-low.result c.upper-high.result c.lower-low.ensures c.upper-high.ensures c.requires.face c.requires.other b (sym c.has.ensures ∙ e)

pub is_odd-negative-requires : goal.is_odd-negative-requires
is_odd-negative-requires c =
    let i = found_interval c.args.table.now c.requires.faces c.requires.ranks c.args.side c.args.face c.args.other c.lower-low.result c.upper-high.result
    c.lower-low.ensures c.upper-high.ensures c.requires.face c.requires.other (below_is (goal.at.is_odd-negative-requires c).After-has true c.if-has.true) in
    let r = rises c.args.table.now c.requires.faces c.requires.ranks c.lower-low.result c.upper-high.result i in
    let a = c.rank.ensures in let b = c.rank-then-has.ensures in
    omega arith

pub interval-requires-clause-below : goal.interval-requires-clause-below
interval-requires-clause-below c = below_is (goal.at.interval-requires-clause-below c).After-has true c.if-has.true

pub returns-then-has : goal.returns-then-has
returns-then-has c = λ k l. c.add_product.ensures k l ∙ ap (λ (z : ℤ). entry c.args.sums.now k +ℤ z)
    (term_added c.args.table.now c.requires.faces c.requires.ranks c.args.side (row_at c.args.rows.now) c.args.face c.args.other c.lower-low.result c.upper-high.result
    (entry c.row_of.result) (entry c.interval.result) c.is_odd-negative.result c.lower-low.ensures c.upper-high.ensures
    (below_is (goal.at.returns-then-has c).After-has true c.if-has.true)
    (c.is_odd-negative.ensures ∙ ap (λ (a : ℕ). sign (c.rank-then-has.result - a)) c.rank.ensures
    ∙ ap (λ (a : ℕ). sign (a - rank_at c.args.table.now c.lower-low.result)) c.rank-then-has.ensures) c.row_of.ensures c.interval.ensures.value k)

pub returns-else-has : goal.returns-else-has
returns-else-has c = λ k l. nothing_more (entry c.args.sums.now k) _ (term_none c.args.table.now c.requires.faces c.requires.ranks c.args.side (row_at c.args.rows.now)
    c.args.face c.args.other c.lower-low.result c.upper-high.result c.lower-low.ensures c.upper-high.ensures
    (below_is (goal.at.returns-else-has c).After-has false c.if-has.false) k)
