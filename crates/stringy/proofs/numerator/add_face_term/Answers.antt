use Rattle.std.proofs.Common.{◌%◌, ◌==◌, ◌≡◌, ◌≤◌, ◌^◌, ℕ, pos, nat_abs, ◌+ℤ◌, ℤ, ap, ◌∙◌}
use Rattle.lattice_theory.specs.Vector.{entry}
use Rattle.small_poly.specs.Tables.{laurent_of, unit_of, term}
use Rattle.dual_pair.specs.declared.side.Side.TheVariants as sides
use Rattle.stringy.specs.RowSteps.{row_at, tilde_of, face_term}
use Rattle.stringy.proofs.Signs.{parity}
use Rattle.stringy.proofs.KeptRows.{same_size}
use Rattle.stringy.proofs.FaceSums.{products_small, sums_small, is_face_term, face_term_small, face_term_fits, nothing_on_m, nothing_on_n, nothing_small, nothing_more}
use Rattle.stringy.proofs.numerator.add_face_term.Goals as goal
use Rattle.stringy.proofs.numerator.add_face_term.Goals.{Then-is_nothing, Then-is_nothing-2, After-polynomial_of-right}

-- where S~ is 0 on side M, and where on side N
none_on_m : (c : Then-is_nothing) → (p : ℤ) (q : ℕ) → face_term c.args.table.now (row_at c.args.inner.now) (row_at c.args.outer.now) p q c.args.face ≡ pos 0
none_on_m c = nothing_on_m c.args.table.now (row_at c.args.inner.now) (row_at c.args.outer.now) c.args.face (entry c.tilde_row-left.result)
    c.tilde_row-left.ensures.value (c.is_nothing.ensures.0 c.if-is_nothing.true)

none_on_n : (c : Then-is_nothing-2) → (p : ℤ) (q : ℕ) → face_term c.args.table.now (row_at c.args.inner.now) (row_at c.args.outer.now) p q c.args.face ≡ pos 0
none_on_n c = nothing_on_n c.args.table.now (row_at c.args.inner.now) (row_at c.args.outer.now) c.args.face (entry c.tilde_row-right.result)
    c.tilde_row-right.ensures.value (c.is_nothing-2.ensures.0 c.if-is_nothing-2.true)

pub returns-then-is_nothing-clause-value : goal.returns-then-is_nothing-clause-value
returns-then-is_nothing-clause-value c = λ p q. nothing_more (laurent_of c.args.sum.now p q) _ (none_on_m (goal.at.returns-then-is_nothing-clause-value c).Then-is_nothing p q)

pub returns-then-is_nothing-clause-small : goal.returns-then-is_nothing-clause-small
returns-then-is_nothing-clause-small c = λ p q. nothing_small _ (none_on_m (goal.at.returns-then-is_nothing-clause-small c).Then-is_nothing (pos p) q)

pub returns-then-is_nothing-2-clause-value : goal.returns-then-is_nothing-2-clause-value
returns-then-is_nothing-2-clause-value c = λ p q. nothing_more (laurent_of c.args.sum.now p q) _ (none_on_n (goal.at.returns-then-is_nothing-2-clause-value c).Then-is_nothing-2 p q)

pub returns-then-is_nothing-2-clause-small : goal.returns-then-is_nothing-2-clause-small
returns-then-is_nothing-2-clause-small c = λ p q. nothing_small _ (none_on_n (goal.at.returns-then-is_nothing-2-clause-small c).Then-is_nothing-2 (pos p) q)

-- both polynomials are S~, with small coefficients
left_is : (c : After-polynomial_of-right) → (k : ℕ) → entry c.polynomial_of-left.result k ≡ tilde_of c.args.table.now sides.M (row_at c.args.inner.now) c.args.face k
left_is c k = c.polynomial_of-left.ensures k ∙ c.tilde_row-left.ensures.value k

right_is : (c : After-polynomial_of-right) → (k : ℕ) → entry c.polynomial_of-right.result k ≡ tilde_of c.args.table.now sides.N (row_at c.args.outer.now) c.args.face k
right_is c k = c.polynomial_of-right.ensures k ∙ c.tilde_row-right.ensures.value k

left_small : (c : After-polynomial_of-right) → (k : ℕ) → nat_abs (entry c.polynomial_of-left.result k) ≤ 2 ^ 54
left_small c k = same_size (entry c.polynomial_of-left.result k) (entry c.tilde_row-left.result k) (2 ^ 54) (c.polynomial_of-left.ensures k) (c.tilde_row-left.ensures.small k)

right_small : (c : After-polynomial_of-right) → (k : ℕ) → nat_abs (entry c.polynomial_of-right.result k) ≤ 2 ^ 54
right_small c k = same_size (entry c.polynomial_of-right.result k) (entry c.tilde_row-right.result k) (2 ^ 54) (c.polynomial_of-right.ensures k) (c.tilde_row-right.ensures.small k)

pub add_term-requires-clause-low : goal.add_term-requires-clause-low
add_term-requires-clause-low c = (face_term_fits c.args.table.now c.requires.faces c.requires.ranks (row_at c.args.inner.now) (row_at
    c.args.outer.now) c.args.face c.requires.face
    (entry c.polynomial_of-left.result) (entry c.polynomial_of-right.result) (left_is (goal.at.add_term-requires-clause-low c).After-polynomial_of-right) (right_is (goal.at.add_term-requires-clause-low c).After-polynomial_of-right)
    c.requires.inner.degree c.requires.outer.degree (unit_of (c.rank-rank.result % 2 == 1)) c.rank-rank.result c.rank-rank.ensures).0

pub add_term-requires-clause-high : goal.add_term-requires-clause-high
add_term-requires-clause-high c = (face_term_fits c.args.table.now c.requires.faces c.requires.ranks (row_at c.args.inner.now) (row_at
    c.args.outer.now) c.args.face c.requires.face
    (entry c.polynomial_of-left.result) (entry c.polynomial_of-right.result) (left_is (goal.at.add_term-requires-clause-high c).After-polynomial_of-right) (right_is (goal.at.add_term-requires-clause-high c).After-polynomial_of-right)
    c.requires.inner.degree c.requires.outer.degree (unit_of (c.rank-rank.result % 2 == 1)) c.rank-rank.result c.rank-rank.ensures).1

pub add_term-requires-clause-products : goal.add_term-requires-clause-products
add_term-requires-clause-products c = products_small (entry c.polynomial_of-left.result) (entry c.polynomial_of-right.result) (left_small (goal.at.add_term-requires-clause-products c).After-polynomial_of-right) (right_small (goal.at.add_term-requires-clause-products c).After-polynomial_of-right)

pub add_term-requires-clause-small : goal.add_term-requires-clause-small
add_term-requires-clause-small c = λ i j. sums_small (laurent_of c.args.sum.now (pos i) j)
    (term (unit_of (c.rank-rank.result % 2 == 1)) c.rank-rank.result (entry c.polynomial_of-left.result) (entry c.polynomial_of-right.result) (pos i) j)
    (face_term c.args.table.now (row_at c.args.inner.now) (row_at c.args.outer.now) (pos i) j c.args.face)
    (is_face_term c.args.table.now c.requires.faces c.requires.ranks (row_at c.args.inner.now) (row_at c.args.outer.now) c.args.face c.requires.face
    (entry c.polynomial_of-left.result) (entry c.polynomial_of-right.result) (left_is (goal.at.add_term-requires-clause-small c).After-polynomial_of-right) (right_is (goal.at.add_term-requires-clause-small c).After-polynomial_of-right)
    (c.rank-rank.result % 2 == 1) c.rank-rank.result c.rank-rank.ensures (parity c.rank-rank.result) (pos i) j)
    (face_term_small c.args.table.now c.requires.faces c.requires.ranks (row_at c.args.inner.now) (row_at c.args.outer.now) c.args.face c.requires.face
    (entry c.polynomial_of-left.result) (entry c.polynomial_of-right.result) (left_is (goal.at.add_term-requires-clause-small c).After-polynomial_of-right) (right_is (goal.at.add_term-requires-clause-small c).After-polynomial_of-right)
    (left_small (goal.at.add_term-requires-clause-small c).After-polynomial_of-right) (right_small (goal.at.add_term-requires-clause-small c).After-polynomial_of-right) i j) (c.requires.sum i j)

pub returns-clause-value : goal.returns-clause-value
returns-clause-value c = λ p q. c.add_term.ensures p q ∙ ap (λ (z : ℤ). laurent_of c.args.sum.now p q +ℤ z)
    (is_face_term c.args.table.now c.requires.faces c.requires.ranks (row_at c.args.inner.now) (row_at c.args.outer.now) c.args.face c.requires.face
    (entry c.polynomial_of-left.result) (entry c.polynomial_of-right.result) (left_is (goal.at.returns-clause-value c).After-polynomial_of-right) (right_is (goal.at.returns-clause-value c).After-polynomial_of-right)
    (c.rank-rank.result % 2 == 1) c.rank-rank.result c.rank-rank.ensures (parity c.rank-rank.result) p q)

pub returns-clause-small : goal.returns-clause-small
returns-clause-small c = face_term_small c.args.table.now c.requires.faces c.requires.ranks (row_at c.args.inner.now) (row_at c.args.outer.now) c.args.face c.requires.face
    (entry c.polynomial_of-left.result) (entry c.polynomial_of-right.result) (left_is (goal.at.returns-clause-small c).After-polynomial_of-right) (right_is (goal.at.returns-clause-small c).After-polynomial_of-right)
    (left_small (goal.at.returns-clause-small c).After-polynomial_of-right) (right_small (goal.at.returns-clause-small c).After-polynomial_of-right)
